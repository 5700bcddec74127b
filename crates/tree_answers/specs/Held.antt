-- For the prover.
-- names that stand in a sorted set
use Rattle.std.specs.Prelude.{◌≡◌, ℕ, List}
use Rattle.std.specs.Ordering.{nat_cmp}
use Rattle.std.specs.Cmp.Lexicographic.{slice_cmp}
use Rattle.std.specs.BTreeSet.{BTreeSet, contains}
use Rattle.tree_answers.specs.Listing.{is_among}

-- the set has just these names
abbrev pub HasNames : BTreeSet (List ℕ) → List (List ℕ) → Type 0
HasNames set names = (name : List ℕ) → contains (slice_cmp nat_cmp) set name ≡ is_among names name
