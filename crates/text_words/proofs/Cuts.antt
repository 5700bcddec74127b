-- Words and the byte that ends them.
use Rattle.std.proofs.Common.{◌≡◌, ℕ, zero, suc, ◌<◌, ◌≤◌, ◌^◌, Bool, true, false, cond, eqb, nat_lt, ◌==◌, Some, None, List, [], ◌∷◌, ◌++◌, length, take, drop, get_or, refl, sym, ap, ◌∙◌, arith, decimal, drop-cons, subst}
use Rattle.std.specs.List.{position, position_or_len}
use Rattle.std.specs.Str.Parse.{AllDigits}
use Rattle.std.proofs.lemmas.Bool.{eqb-true, eq-eqb}
use Rattle.std.proofs.lemmas.Fmt.{digits_decimal}
use Rattle.std.proofs.lemmas.List.{take-append-drop}
use Rattle.std.proofs.lemmas.List.Quantifiers.{position-Some}
use Rattle.std.proofs.lemmas.List.Sums.{fails_before_first}
use Rattle.std.proofs.Math.Seq.{take-length}
use Rattle.std.proofs.lemmas.Bool.Decides.{nat_tests}
use Rattle.std.proofs.lemmas.Str.Parse.{numerals_by_value, tells_digits, digit_from_value}
use Rattle.text_words.specs.Words.{Lacks}

-- one text is cut at the first place of a byte in one way
pub split_same : (byte : ℕ) (xs ys us vs : List ℕ) → Lacks byte xs → Lacks byte ys → xs ++ byte ∷ us ≡ ys ++ byte ∷ vs → (xs ≡ ys) × (us ≡ vs)
split_same byte [] [] us vs lx ly e = (refl, cc)
split_same byte [] (y ∷ ys) us vs lx ly e = let here : y ≡ byte = cc in absurd (ly.0 here)
split_same byte (x ∷ xs) [] us vs lx ly e = let here : x ≡ byte = cc in absurd (lx.0 here)
split_same byte (x ∷ xs) (y ∷ ys) us vs lx ly e =
    let tails : xs ++ byte ∷ us ≡ ys ++ byte ∷ vs = cc in
    let rest = split_same byte xs ys us vs lx.1 ly.1 tails in
    let heads : x ≡ y = cc in
    (cc (rest.0), rest.1)

pub no_split : (byte : ℕ) (text xs ys : List ℕ) → Lacks byte text → text ≡ xs ++ byte ∷ ys → ⊥
no_split byte [] [] ys l e = cc
no_split byte [] (x ∷ xs) ys l e = cc
no_split byte (b ∷ text) [] ys l e = let here : b ≡ byte = cc in l.0 here
no_split byte (b ∷ text) (x ∷ xs) ys l e = let tails : text ≡ xs ++ byte ∷ ys = cc in no_split byte text xs ys l.1 tails

Lacks-digits : (byte : ℕ) (ds : List ℕ) → byte < 48 → AllDigits 10 ds → Lacks byte ds
Lacks-digits byte [] below h = tt
Lacks-digits byte (d ∷ ds) below h =
    let range = digit_from_value d h.0 in
    (λ e. absurd (omega (arith, range.0, e)), Lacks-digits byte ds below h.1)

pub Lacks-decimal : (byte n : ℕ) → byte < 48 → n < 2 ^ 64 → Lacks byte (decimal n)
Lacks-decimal byte n below small = Lacks-digits byte (decimal n) below (digits_decimal (numerals_by_value (AllDigits 10) tells_digits) n small)

pub Lacks-append : (byte : ℕ) (xs ys : List ℕ) → Lacks byte xs → Lacks byte ys → Lacks byte (xs ++ ys)
Lacks-append byte [] ys lx ly = ly
Lacks-append byte (x ∷ xs) ys lx ly = (lx.0, Lacks-append byte xs ys lx.1 ly)

-- where a byte is met first
pub Lacks-take : (byte : ℕ) (xs : List ℕ) (i : ℕ) → i ≤ length xs → ((k : ℕ) → k < i → eqb (get_or xs k 0) byte ≡ false) → Lacks byte (take i xs)
Lacks-take byte [] zero h none = tt
Lacks-take byte [] (suc i) h none = tt
Lacks-take byte (x ∷ xs) zero h none = tt
Lacks-take byte (x ∷ xs) (suc i) h none =
    (λ e. cc (sym (none 0 (omega arith)), eq-eqb x byte e), Lacks-take byte xs i (omega arith) (λ k below. none (suc k) (omega arith)))

pub split_at_first : (byte : ℕ) (xs : List ℕ) (i : ℕ) → i < length xs → eqb (get_or xs i 0) byte ≡ true → xs ≡ take i xs ++ byte ∷ drop (suc i) xs
split_at_first byte xs i h here =
    sym (take-append-drop i xs) ∙ ap (λ r. take i xs ++ r) (drop-cons xs i 0 h ∙ ap (λ b. b ∷ drop (suc i) xs) (eqb-true (get_or xs i 0) byte here))

cond_none : {A : Type 0} (b : Bool) (x : A) → cond b (Some x) None ≡ None → b ≡ false
cond_none true x e = cc
cond_none false x e = refl

pub lacks_where_none : (byte : ℕ) (xs : List ℕ) → position (λ b. b == byte) xs ≡ None → Lacks byte xs
lacks_where_none byte xs e =
    let past = cond_none (nat_lt (position_or_len (λ b. b == byte) xs) (length xs)) (position_or_len (λ b. b == byte) xs) e in
    let all : length xs ≤ position_or_len (λ b. b == byte) xs = grind (arith, nat_tests) in
    let lacks = Lacks-take byte xs (length xs) (omega arith) (λ k below. fails_before_first (λ b. b == byte) xs k 0 (omega arith)) in
    subst (λ (r : List ℕ). Lacks byte r) (take-length xs) lacks

pub cut_where_some : (byte : ℕ) (xs : List ℕ) (i : ℕ) → position (λ b. b == byte) xs ≡ Some i → (xs ≡ take i xs ++ byte ∷ drop (suc i) xs) × Lacks byte (take i xs)
cut_where_some byte xs i e =
    let first = position-Some (λ b. b == byte) xs i 0 e in
    (split_at_first byte xs i first.0 first.1, Lacks-take byte xs i (omega (arith, first.0)) first.2)
