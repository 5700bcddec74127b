-- A list up to a place and from it on.
use Rattle.std.proofs.Common.{◌≡◌, ◌<◌, ℕ, ◌+◌, List, [], ◌∷◌, ◌++◌, take, drop, length, get_or, add-one}
use Rattle.std.proofs.Math.Seq.{take-suc, drop-cons}

pub take_one : {X : Type 0} (xs : List X) (i : ℕ) (d : X) → i < length xs → take (i + 1) xs ≡ take i xs ++ get_or xs i d ∷ []
take_one xs i d h = rw add-one (take-suc xs i d h)

pub drop_one : {X : Type 0} (xs : List X) (i : ℕ) (d : X) → i < length xs → drop i xs ≡ get_or xs i d ∷ drop (i + 1) xs
drop_one xs i d h = rw add-one (drop-cons xs i d h)
