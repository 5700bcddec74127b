-- A part of a list, cut again or grown.
use Rattle.std.proofs.Common.{◌≡◌, ℕ, ◌+◌, ◌≤◌, Bool, true, false, cond, List, [], ◌∷◌, ◌++◌, zero, suc, length, take, drop, slice_range, refl, sym, ap, ◌∙◌, arith, length-take-le}
use Rattle.std.proofs.lemmas.List.{drop-drop, drop-append-le, take-take, take_all, take_at}
use Rattle.std.proofs.lemmas.Slice.{between_is}

-- a part loses its front
pub drop-slice_range : (xs : List ℕ) (s e a : ℕ) → s + a ≤ e → drop a (slice_range xs s e) ≡ slice_range xs (s + a) e
drop-slice_range xs s e a h =
    ap (drop a) (between_is xs s e) ∙ drop-drop a s (take e xs) ∙ sym (between_is xs (s + a) e)

-- a part grows by what was written at its end
pub slice_range_grown : (xs ys more : List ℕ) (s e n : ℕ) → s ≤ e → e ≤ length xs → take n ys ≡ take e xs ++ more → slice_range ys s n ≡ slice_range xs s e ++ more
slice_range_grown xs ys more s e n p q h =
    let front = length-take-le e xs q in
    between_is ys s n ∙ ap (drop s) h ∙ drop-append-le s (take e xs) more (omega arith)
    ∙ ap (λ l. l ++ more) (sym (between_is xs s e))

-- `take` past the first list
pub take-append_past : (xs ys : List ℕ) (n m : ℕ) → m ≡ length xs + n → take m (xs ++ ys) ≡ xs ++ take n ys
take-append_past [] ys n m e = let same : m ≡ n = omega arith in rw same
take-append_past (x ∷ xs) ys n zero e = absurd (omega arith)
take-append_past (x ∷ xs) ys n (suc m) e = ap (λ l. x ∷ l) (take-append_past xs ys n m (omega arith))

-- a list that was filled up
pub lengthened : (xs ys more : List ℕ) (fits : Bool) (n : ℕ) → length xs ≤ n → ys ≡ cond fits (take n xs ++ more) xs → take (length xs) ys ≡ xs
lengthened xs ys more false n long is = ap (take (length xs)) is ∙ take_all (length xs) xs (omega arith)
lengthened xs ys more true n long is =
    ap (take (length xs)) is ∙ ap (λ (l : List ℕ). take (length xs) (l ++ more)) (take_all n xs long) ∙ take_at xs more (length xs) refl

-- a part of the front of a list
pub slice_range_front : (xs ys : List ℕ) (s e n : ℕ) → take n ys ≡ xs → e ≤ n → slice_range xs s e ≡ slice_range ys s e
slice_range_front xs ys s e n front h =
    between_is xs s e ∙ ap (λ (l : List ℕ). drop s (take e l)) (sym front) ∙ ap (drop s) (take-take e n ys h) ∙ sym (between_is ys s e)
