-- A loop that puts a list: what is put so far, and what is still to come behind it.
use Rattle.std.proofs.Common.{◌≡◌, ℕ, ◌+◌, ◌<◌, ◌≤◌, List, [], ◌∷◌, ◌++◌, length, drop, get_or, true, false, sym, ap, ◌∙◌, append_assoc}
use Rattle.std.specs.List.{AllByRecursion}
use Rattle.std.proofs.lemmas.List.{drop_more, drop_all}
use Rattle.xdr_records.specs.Texts.{flag_text, list_text}

-- one item more behind its flag
pub put_more : {A : Type 0} (text : A → List ℕ) (xs : List A) (i : ℕ) (d x : A) (before after total : List ℕ) → i < length xs → get_or xs i d ≡ x → after ≡ (before ++ flag_text true) ++ text x
    → before ++ list_text text (drop i xs) ≡ total → after ++ list_text text (drop (i + 1) xs) ≡ total
unfolding list_text
put_more {A = A} text xs i d x before after total below is put so_far =
    let left = ap (list_text text) (drop_more xs i d below ∙ ap (λ (y : A). y ∷ drop (i + 1) xs) is) in
    let rest = list_text text (drop (i + 1) xs) in
    ap (λ (bytes : List ℕ). bytes ++ rest) put ∙ append_assoc (before ++ flag_text true) (text x) rest
    ∙ append_assoc before (flag_text true) (text x ++ rest) ∙ ap (λ (bytes : List ℕ). before ++ bytes) (sym left) ∙ so_far

-- the flag behind the last
pub put_end : {A : Type 0} (text : A → List ℕ) (xs : List A) (i : ℕ) (before after total : List ℕ) → length xs ≤ i → before ++ list_text text (drop i xs) ≡ total → after ≡ before ++ flag_text false → after ≡ total
unfolding list_text
put_end text xs i before after total above so_far put =
    let left = ap (list_text text) (drop_all i xs above) in
    put ∙ ap (λ (bytes : List ℕ). before ++ bytes) (sym left) ∙ so_far

-- where one item more fits, and all behind it do
pub fits_more : {A : Type 0} (Fits : A → Type 0) (xs : List A) (i : ℕ) (d x : A) → i < length xs → get_or xs i d ≡ x → Fits x → AllByRecursion Fits (drop (i + 1) xs) → AllByRecursion Fits (drop i xs)
fits_more Fits xs i d x below is one rest = rw (drop_more xs i d below, is) (one, rest)
