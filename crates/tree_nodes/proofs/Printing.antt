-- texts put one behind another
use Rattle.std.proofs.Common.{◌≡◌, ℕ, ◌+◌, ◌<◌, List, [], ◌∷◌, ◌++◌, take, length, get_or, sym, ap, ◌∙◌, append_assoc}
use Rattle.std.specs.List.{flat_map}
use Rattle.std.proofs.lemmas.List.{take_more, flat_map_more}

-- one more item of a list by its index
pub texts_more : {A : Type 0} (f : A → List ℕ) (was out new head : List ℕ) (xs : List A) (i : ℕ) (x : A) → i < length xs → x ≡ get_or xs i x
    → out ≡ was ++ (head ++ flat_map f (take i xs)) → new ≡ out ++ f x → new ≡ was ++ (head ++ flat_map f (take (i + 1) xs))
texts_more f was out new head xs i x in_range is before put =
    put ∙ ap (λ o. o ++ f x) before ∙ append_assoc was (head ++ flat_map f (take i xs)) (f x)
    ∙ ap (λ t. was ++ t) (flat_map_more f head (take i xs) x)
    ∙ ap (λ t. was ++ (head ++ flat_map f t)) (sym (take_more xs i x in_range ∙ ap (λ y. take i xs ++ y ∷ []) (sym is)))

-- the first of the items that are left
pub texts_left : {A : Type 0} (f : A → List ℕ) (out new all : List ℕ) (left rest : List A) (x : A) → left ≡ x ∷ rest
    → out ++ flat_map f left ≡ all → new ≡ out ++ f x → new ++ flat_map f rest ≡ all
texts_left f out new all left rest x is before put =
    ap (λ o. o ++ flat_map f rest) put ∙ append_assoc out (f x) (flat_map f rest) ∙ ap (λ l. out ++ flat_map f l) (sym is) ∙ before
