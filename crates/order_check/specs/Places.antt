-- Believed.
-- The places of a certificate as one serial order, and how a call may be placed (Herlihy and Wing 1990, section 2.2: an
-- operation without a response may be completed; which calls change the tree: RFC 1813, section 3.3).
use Rattle.std.specs.Prelude.{ℕ, ◌+◌, ◌&&◌, nat_le, Bool, true, false, List, [], ◌∷◌, ◌++◌, length, map, Option, Some, None, is_some, is_none}
use Rattle.nfs3_types.specs.declared.calls.NfsCall.TheVariants as calls
use Rattle.nfs_history.specs.declared.recorded.Meaning.{Meaning}
use Rattle.nfs_history.specs.declared.recorded.Meaning.TheVariants as meanings
use Rattle.nfs_history.specs.declared.recorded.RecordedCall.{RecordedCall}
use Rattle.nfs_history.specs.Precedence.{call_at}
use Rattle.certificate.specs.declared.plan.Place.{Place}
use Rattle.certificate.specs.declared.plan.Place.TheVariants.{Answered, Taken}
use Rattle.certificate.specs.declared.plan.EraPlan.{EraPlan}
use Rattle.certificate.specs.Plan.{call_of}
use Rattle.order_check.specs.declared.places.OrderedPlace.{OrderedPlace}

-- the places of the eras, the first of which has this number, one after the other
abbrev pub order_from : ℕ → List EraPlan → List OrderedPlace
order_from e [] = []
order_from e (era ∷ eras) = map (λ place. record { era = e; place = place }) era.places ++ order_from (e + 1) eras

-- the number of the call at a place
abbrev pub number_of : OrderedPlace → ℕ
number_of p = call_of p.place

-- a call of a judged procedure that was answered
abbrev pub is_answered : RecordedCall → Bool
is_answered call = is_some call.outcome

-- a call that changes the tree when it succeeds, taken with this count of bytes: of a WRITE at most its length,
-- of another none
abbrev pub may_take : Meaning → Option ℕ → Bool
may_take (meanings.Judged (calls.Write a)) (Some count) = nat_le count (length a.bytes)
may_take (meanings.Judged (calls.SetAttr a)) None = true
may_take (meanings.Judged (calls.Create a)) None = true
may_take (meanings.Judged (calls.MkDir a)) None = true
may_take (meanings.Judged (calls.SymLink a)) None = true
may_take (meanings.Judged (calls.Remove a)) None = true
may_take (meanings.Judged (calls.RmDir a)) None = true
may_take (meanings.Judged (calls.Rename a)) None = true
may_take meaning count = false

abbrev pub is_judged : Meaning → Bool
is_judged (meanings.Judged call) = true
is_judged meanings.Unjudged = false

-- a call that has to have a place
abbrev pub is_wanted : RecordedCall → Bool
is_wanted call = is_judged call.meaning && is_answered call

-- an answered judged call is placed with its reply, and only an unanswered one that changes the tree is taken
abbrev pub may_place : Place → RecordedCall → Bool
may_place (Answered n) call = is_wanted call
may_place (Taken n count) call = is_none call.«end» && may_take call.meaning count

-- a test of the call at a place, which fails where there is no such call
abbrev pub passes : (RecordedCall → Bool) → Option RecordedCall → Bool
passes test None = false
passes test (Some call) = test call

abbrev pub is_known : List RecordedCall → OrderedPlace → Bool
is_known calls p = is_some (call_at calls (number_of p))

abbrev pub is_of_era : List RecordedCall → OrderedPlace → Bool
is_of_era calls p = passes (λ call. nat_le call.era p.era && nat_le p.era call.era) (call_at calls (number_of p))

abbrev pub is_placeable : List RecordedCall → OrderedPlace → Bool
is_placeable calls p = passes (may_place p.place) (call_at calls (number_of p))
