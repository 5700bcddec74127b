-- Lists up to a place, and what stands at their end.
use Rattle.std.proofs.Common.{◌≡◌, ◌<◌, ℕ, ◌+◌, List, [], ◌∷◌, ◌++◌, take, length, get_or, add-one}
use Rattle.std.proofs.Math.Seq.{take-suc}

pub take_one : {X : Type 0} (xs : List X) (i : ℕ) (d : X) → i < length xs → take (i + 1) xs ≡ take i xs ++ get_or xs i d ∷ []
take_one xs i d h = rw add-one (take-suc xs i d h)
