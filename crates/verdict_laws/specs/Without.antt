-- For the prover, and for callers.
-- What is asked of a serial order where the server never went down: linearizability (Herlihy and Wing 1990, section 2.2), with
-- no word on eras, cuts and verifiers.
use Rattle.std.specs.Prelude.{◌≡◌, ℕ, IsTrue, IsSome, List, [], ◌∷◌, Some, None}
use Rattle.std.specs.List.{AllByRecursion}
use Rattle.nfs_history.specs.declared.recorded.RecordedCall.{RecordedCall}
use Rattle.nfs_history.specs.Precedence.{call_at}
use Rattle.nfs_history.specs.declared.knowing.KnownCalls.{KnownCalls}
use Rattle.certificate.specs.declared.plan.Certificate.{Certificate}
use Rattle.certificate.specs.declared.plan.Place.{Place}
use Rattle.order_check.specs.declared.places.OrderedPlace.{OrderedPlace}
use Rattle.order_check.specs.Places.{order_from, is_wanted, is_placeable}
use Rattle.order_check.specs.Shape.{is_named, NameDifferentCalls}
use Rattle.order_check.specs.Order.{RespectsOrder}
use Rattle.replay_law.specs.Run.{state_after}
use Rattle.witness_check.specs.Run.{next_of, base_of, steps_of}

-- the places as a serial order
abbrev pub serial : List Place → List OrderedPlace
serial places = order_from 1 (record { places = places; cut = None } ∷ [])

-- the places are a legal serial order of the history's calls
pub record IsLinearization (history : KnownCalls) (plan : Certificate) (places : List Place) : Type 0 where
  -- every answered judged call stands in it
  pub complete : (n : ℕ) (call : RecordedCall) → call_at history.calls n ≡ Some call → IsTrue (is_wanted call) → IsTrue (is_named (serial places) n)
  -- no call stands in it twice
  pub once : NameDifferentCalls (serial places)
  -- an answered judged call stands there with its reply, and of the others only an unanswered one that changes the tree
  pub right : AllByRecursion (λ p. IsTrue (is_placeable history.calls p)) (serial places)
  -- no place stands ahead of one whose call had ended before the first one's began
  pub order : RespectsOrder history.calls places
  -- each call gives what it gave, in the tree that those ahead of it leave
  pub runs : IsSome (state_after (next_of history plan) (base_of history) (steps_of history.calls places))
