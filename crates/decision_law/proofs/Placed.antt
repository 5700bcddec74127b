-- What a place of a plan says of its call.
use Rattle.std.proofs.Common.{◌≡◌, ◌⊎◌, inl, inr, ℕ, zero, suc, ◌≤◌, nat_le, ◌&&◌, ◌||◌, Bool, true, false, List, length, Option, Some, None, refl, ap, ◌∙◌, arith}
use Rattle.std.specs.Prelude.{option_and_then, is_some, is_none}
use Rattle.std.proofs.lemmas.Option.{slice_get_within}
use Rattle.nfs3_types.specs.declared.calls.NfsCall.{NfsCall}
use Rattle.nfs3_types.specs.declared.calls.NfsCall.TheVariants as calls
use Rattle.nfs3_types.specs.declared.replies.Outcome.{Outcome}
use Rattle.nfs3_types.specs.declared.replies.Outcome.TheVariants as outcomes
use Rattle.nfs_history.specs.declared.recorded.Meaning.{Meaning}
use Rattle.nfs_history.specs.declared.recorded.Meaning.TheVariants as meanings
use Rattle.nfs_history.specs.declared.recorded.RecordedCall.{RecordedCall}
use Rattle.nfs_history.specs.declared.knowing.KnownCalls.{KnownCalls}
use Rattle.nfs_history.specs.Precedence.{call_at}
use Rattle.certificate.specs.declared.plan.Place.{Place}
use Rattle.certificate.specs.declared.plan.Place.TheVariants.{Answered, Taken}
use Rattle.certificate.specs.Plan.{call_of}
use Rattle.order_check.specs.Places.{is_judged, is_wanted, may_take, may_place}
use Rattle.witness_check.specs.Run.{step_with, step_of_call, step_at}
use Rattle.decision_law.specs.Times.{may_stand, may_be_taken, is_of_call}
use Rattle.decision_law.specs.NeverLost.{IsAnswered, IsNeverLost}
use Rattle.decision_law.specs.Machine.{MayComeOut}
use Rattle.tree_nodes.proofs.Chains.{both_pass}

or_true : (b : Bool) → (b || true) ≡ true
or_true true = refl
or_true false = refl

pub or_from : (a b : Bool) → (a ≡ true) ⊎ (b ≡ true) → (a || b) ≡ true
or_from a b (inl is) = ap (λ k. k || b) is
or_from a b (inr is) = ap (λ k. a || k) is ∙ or_true a

-- a call that is there has a number of a call
within : (calls : List RecordedCall) (n : ℕ) (recorded : RecordedCall) → call_at calls n ≡ Some recorded → n ≤ length calls
within calls zero recorded stands = omega arith
within calls (suc n) recorded stands = let h = slice_get_within calls n recorded stands in omega (arith, h)

le_true : (a b : ℕ) → a ≤ b → nat_le a b ≡ true
le_true a b h = grind (arith, h)

pub is_call_number : (known : KnownCalls) (n : ℕ) (recorded : RecordedCall) → call_at known.calls n ≡ Some recorded → is_of_call known n ≡ true
is_call_number known n recorded stands = le_true n (length known.calls) (within known.calls n recorded stands)

-- a call that may be taken with some count may be taken with none, or with 0
some_count : (meaning : Meaning) (count : Option ℕ) → may_take meaning count ≡ true → (may_take meaning None || may_take meaning (Some 0)) ≡ true
some_count meanings.Unjudged count is = absurd cc
some_count (meanings.Judged (calls.Write a)) None is = absurd cc
some_count (meanings.Judged (calls.Write a)) (Some c) is = le_true 0 (length a.bytes) (omega arith)
some_count (meanings.Judged (calls.SetAttr a)) count is = refl
some_count (meanings.Judged (calls.Create a)) count is = refl
some_count (meanings.Judged (calls.MkDir a)) count is = refl
some_count (meanings.Judged (calls.SymLink a)) count is = refl
some_count (meanings.Judged (calls.Remove a)) count is = refl
some_count (meanings.Judged (calls.RmDir a)) count is = refl
some_count (meanings.Judged (calls.Rename a)) count is = refl
some_count (meanings.Judged (calls.GetAttr a)) count is = absurd cc
some_count (meanings.Judged (calls.Lookup a)) count is = absurd cc
some_count (meanings.Judged (calls.ReadLink a)) count is = absurd cc
some_count (meanings.Judged (calls.Read a)) count is = absurd cc
some_count (meanings.Judged (calls.ReadDir a)) count is = absurd cc
some_count (meanings.Judged (calls.ReadDirPlus a)) count is = absurd cc
some_count (meanings.Judged (calls.Commit a)) count is = absurd cc

-- a call that may be placed so may stand
pub stands_placed : (place : Place) (recorded : RecordedCall) → may_place place recorded ≡ true → may_stand recorded ≡ true
stands_placed (Answered n) recorded may = or_from (is_wanted recorded) (may_be_taken recorded) (inl may)
stands_placed (Taken n count) recorded may =
    let p = both_pass (is_none recorded.«end») (may_take recorded.meaning count) may in
    or_from (is_wanted recorded) (may_be_taken recorded) (inr (ap (λ b. b && (may_take recorded.meaning None || may_take recorded.meaning (Some 0))) p.0 ∙ some_count recorded.meaning count p.1))

-- ---- the step at a place

answered_parts : (meaning : Meaning) (o : Option Outcome) → (is_judged meaning && is_some o) ≡ true → (call : NfsCall) × (outcome : Outcome) × (meaning ≡ meanings.Judged call) × (o ≡ Some outcome)
answered_parts meanings.Unjudged o is = absurd cc
answered_parts (meanings.Judged call) None is = absurd cc
answered_parts (meanings.Judged call) (Some outcome) is = (call, outcome, refl, refl)

taken_parts : (meaning : Meaning) (count : Option ℕ) → may_take meaning count ≡ true → (call : NfsCall) × (meaning ≡ meanings.Judged call)
taken_parts meanings.Unjudged count is = absurd cc
taken_parts (meanings.Judged call) count is = (call, refl)

none_parts : (o : Option ℕ) → is_none o ≡ true → o ≡ None
none_parts None is = refl
none_parts (Some x) is = absurd cc

-- a placed call is judged, came out as it may, and is a step of the run
pub record IsStep (calls : List RecordedCall) (place : Place) (recorded : RecordedCall) : Type 0 where
  pub call : NfsCall
  pub outcome : Outcome
  pub judged : recorded.meaning ≡ meanings.Judged call
  pub came_out : MayComeOut recorded outcome
  pub is_step : step_at calls place ≡ Some (record { number = call_of place; call = call; outcome = outcome })

pub step_placed : (calls : List RecordedCall) (place : Place) (recorded : RecordedCall) → call_at calls (call_of place) ≡ Some recorded → may_place place recorded ≡ true → IsStep calls place recorded
step_placed calls (Answered n) recorded stands may =
    let p = answered_parts recorded.meaning recorded.outcome may in
    record {
      call = p.0;
      outcome = p.1;
      judged = p.2;
      came_out = inl p.3;
      is_step = ap (option_and_then (step_of_call (Answered n))) stands
          ∙ ap (λ m. option_and_then (step_with n m) recorded.outcome) p.2
          ∙ ap (option_and_then (step_with n (meanings.Judged p.0))) p.3;
    }
step_placed calls (Taken n count) recorded stands may =
    let ends = both_pass (is_none recorded.«end») (may_take recorded.meaning count) may in
    let p = taken_parts recorded.meaning count ends.1 in
    record {
      call = p.0;
      outcome = outcomes.Taken count;
      judged = p.1;
      came_out = inr (count, none_parts recorded.«end» ends.0, ends.1, refl);
      is_step = ap (option_and_then (step_of_call (Taken n count))) stands ∙ ap (λ m. step_with n m (outcomes.Taken count)) p.1;
    }

-- an answered call has to have a place
pub answered_wanted : (known : KnownCalls) (n : ℕ) (recorded : RecordedCall) (call : NfsCall) (outcome : Outcome) (at : ℕ) → IsAnswered known n recorded call outcome at → is_wanted recorded ≡ true
answered_wanted known n recorded call outcome at a = ap (λ m. is_judged m && is_some recorded.outcome) a.judged ∙ ap is_some a.answer

-- so has one that is never lost
pub wanted_call : (known : KnownCalls) (n : ℕ) (recorded : RecordedCall) → IsNeverLost known n recorded → (call_at known.calls n ≡ Some recorded) × (is_wanted recorded ≡ true)
wanted_call known n recorded (inl lasts) = (lasts.answered.stands, answered_wanted known n recorded lasts.call lasts.outcome lasts.at lasts.answered)
wanted_call known n recorded (inr (inl c)) = (c.reaches.answered.stands, answered_wanted known n recorded (calls.Write c.reaches.write) _ c.reaches.at c.reaches.answered)
wanted_call known n recorded (inr (inr s)) = (s.answered.stands, answered_wanted known n recorded (calls.Write s.write) _ s.at s.answered)
