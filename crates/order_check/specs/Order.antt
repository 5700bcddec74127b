-- Believed.
-- Whether the serial order keeps the order in which calls ended and began (Herlihy and Wing 1990, section 2.2: a
-- linearization respects the precedence of operations).
use Rattle.std.specs.Prelude.{◌≡◌, ℕ, ◌<◌, ◌≤◌, List, [], ◌∷◌, ◌++◌, Option, Some, None}
use Rattle.std.specs.List.{AllByRecursion}
use Rattle.nfs_history.specs.declared.recorded.RecordedCall.{RecordedCall}
use Rattle.nfs_history.specs.Precedence.{begin_of, Precedes}
use Rattle.certificate.specs.declared.plan.Place.{Place}
use Rattle.certificate.specs.declared.plan.EraPlan.{EraPlan}
use Rattle.certificate.specs.Plan.{call_of}
use Rattle.order_check.specs.declared.fault.OrderFault.{OrderFault}
use Rattle.order_check.specs.declared.fault.OrderFault.TheVariants.{Early}

-- for no two places, one ahead of the other, does the later one's call precede the call of the one ahead
abbrev pub RespectsOrder : List RecordedCall → List Place → Type 0
RespectsOrder calls [] = Unit {0}
RespectsOrder calls (place ∷ places) =
    AllByRecursion (λ later. ¬ Precedes calls (call_of later) (call_of place)) places × RespectsOrder calls places

-- each era's places respect the order; those of an earlier era stand ahead anyway
abbrev pub EachEraRespectsOrder : List RecordedCall → List EraPlan → Type 0
EachEraRespectsOrder calls plan = AllByRecursion (λ era. RespectsOrder calls era.places) plan

-- of the calls at these places the one with this number began last; of several such it is placed first
pub record BeganLast (calls : List RecordedCall) (places : List Place) (number : ℕ) : Type 0 where
  pub ahead : List Place
  pub latest : Place
  pub behind : List Place
  pub stands : places ≡ ahead ++ latest ∷ behind
  pub named : call_of latest ≡ number
  pub after_those_ahead : AllByRecursion (λ place. begin_of calls (call_of place) < begin_of calls number) ahead
  pub not_before_those_behind : AllByRecursion (λ place. begin_of calls (call_of place) ≤ begin_of calls number) behind

-- the same where there may be no place as yet
abbrev pub BeganLastIfAny : List RecordedCall → List Place → Option ℕ → Type 0
BeganLastIfAny calls places None = places ≡ []
BeganLastIfAny calls places (Some number) = BeganLast calls places number

-- call j stands at the first of these places whose call precedes one ahead of it, and call i is the one ahead of it
-- that began last
pub record IsEarlyAmong (calls : List RecordedCall) (places : List Place) (i j : ℕ) : Type 0 where
  pub ahead : List Place
  pub early : Place
  pub behind : List Place
  pub stands : places ≡ ahead ++ early ∷ behind
  pub named : call_of early ≡ j
  pub first : RespectsOrder calls ahead
  pub began_last : BeganLast calls ahead i
  pub precedes : Precedes calls j i

-- the same of the first era that has such a place
pub record IsFirstEarly (calls : List RecordedCall) (plan : List EraPlan) (i j : ℕ) : Type 0 where
  pub eras_ahead : List EraPlan
  pub era : EraPlan
  pub eras_behind : List EraPlan
  pub stands : plan ≡ eras_ahead ++ era ∷ eras_behind
  pub first : EachEraRespectsOrder calls eras_ahead
  pub among : IsEarlyAmong calls era.places i j

-- the fault of an order is its first early place, and names the pair
abbrev pub IsEarlyFaultAmong : List RecordedCall → List Place → OrderFault → Type 0
IsEarlyFaultAmong calls places (Early i j) = IsEarlyAmong calls places i j

abbrev pub IsEarlyFault : List RecordedCall → List EraPlan → OrderFault → Type 0
IsEarlyFault calls plan (Early i j) = IsFirstEarly calls plan i j
