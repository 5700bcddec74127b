use Rattle.std.proofs.lemmas.List.Sorted.{Contains-permutation, IsPermutation-sym}
use Rattle.decision_core.proofs.deciding.later_first.Goals as goal

pub returns-clause-has : goal.returns-clause-has
returns-clause-has g c = λ state there. Contains-permutation _ _ state c.reverse.ensures.permutation there

pub returns-clause-only : goal.returns-clause-only
returns-clause-only g c = λ state there. Contains-permutation _ _ state (IsPermutation-sym _ _ c.reverse.ensures.permutation) there
