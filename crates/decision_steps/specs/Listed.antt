-- For the prover.
-- handles and their objects, as they lie in memory
use Rattle.std.specs.Prelude.{ℕ, List, map}
use Rattle.decision_steps.specs.declared.given.GivenHandle.{GivenHandle}

abbrev pub given_pair : GivenHandle → List ℕ × ℕ
given_pair given = (given.handle.now, given.object)

abbrev pub given_pairs : List GivenHandle → List (List ℕ × ℕ)
given_pairs list = map given_pair list
