-- Believed.
-- The shape of a plan: each answered call has its place and no other, and each place a call of its era (Herlihy and
-- Wing 1990, section 2.2: of the operations without a response some are completed, and the others left out; eras and
-- cuts are this project's own).
use Rattle.std.specs.Prelude.{◌≡◌, ◌≢◌, ◌==◌, ◌&&◌, ◌≤◌, ℕ, Bool, IsTrue, List, [], ◌∷◌, length, Some, IfSome}
use Rattle.std.specs.List.{AllByRecursion, list_any}
use Rattle.nfs_history.specs.declared.recorded.RecordedCall.{RecordedCall}
use Rattle.nfs_history.specs.Precedence.{call_at}
use Rattle.certificate.specs.declared.plan.EraPlan.{EraPlan}
use Rattle.order_check.specs.declared.places.OrderedPlace.{OrderedPlace}
use Rattle.order_check.specs.Places.{order_from, number_of, is_wanted, is_of_era, is_placeable}

-- some place names the call
abbrev pub is_named : List OrderedPlace → ℕ → Bool
is_named order n = list_any (λ p. number_of p == n) order

-- no two places name one call
abbrev pub NameDifferentCalls : List OrderedPlace → Type 0
NameDifferentCalls [] = Unit {0}
NameDifferentCalls (p ∷ order) = AllByRecursion (λ q. number_of q ≢ number_of p) order × NameDifferentCalls order

pub record HasShape (eras : ℕ) (calls : List RecordedCall) (plan : List EraPlan) : Type 0 where
  -- the plan has as many eras as the history
  pub as_many_eras : length plan ≡ eras
  -- each place names a call of its era
  pub of_their_eras : AllByRecursion (λ p. IsTrue (is_of_era calls p)) (order_from 1 plan)
  -- no call is named twice
  pub once : NameDifferentCalls (order_from 1 plan)
  -- an answered judged call is placed with its reply, and only an unanswered one that changes the tree is taken
  pub right : AllByRecursion (λ p. IsTrue (is_placeable calls p)) (order_from 1 plan)
  -- every answered judged call is placed
  pub complete : (n : ℕ) (call : RecordedCall) → call_at calls n ≡ Some call → IsTrue (is_wanted call) → IsTrue (is_named (order_from 1 plan) n)
  -- no more places are kept than there are
  pub cuts : AllByRecursion (λ era. IfSome era.cut (λ kept. kept ≤ length era.places)) plan
