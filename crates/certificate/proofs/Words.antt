-- What a test of two texts has told.
use Rattle.std.proofs.Common.{◌≡◌, ℕ, true, not, nat_eq, List, arith}
use Rattle.std.specs.Cmp.Lexicographic.{pointwise, other_text}

-- what a test `!=` of two texts has told
pub differs : (xs ys : List ℕ) → true ≡ not (pointwise nat_eq xs ys) → xs ≡ ys → ⊥
differs xs ys h e = grind (arith, other_text xs ys)
