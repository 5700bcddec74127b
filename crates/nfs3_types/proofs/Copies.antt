-- A list whose items are copied is copied.
use Rattle.std.proofs.Common.{◌≡◌, List, [], ◌∷◌, refl}
use Rattle.std.specs.List.{AllZip}

pub same_items : {A : Type 0} (xs ys : List A) → AllZip (λ x y. y ≡ x) xs ys → ys ≡ xs
same_items [] [] h = refl
same_items [] (y ∷ ys) h = elim h [ ]
same_items (x ∷ xs) [] h = elim h [ ]
same_items (x ∷ xs) (y ∷ ys) h = rw (h.0, same_items xs ys h.1) refl
