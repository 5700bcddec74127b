-- Believed.
-- When the calls and the crashes of a history begin and end, as a walk over its events knows them (Herlihy and Wing 1990, section
-- 2; that a crash is one more call, sent and answered at once, is this project's own). Call n of a history has number n; the crash that
-- ends era e, or behind the last era the end of the events, has a number behind those of the calls.
use Rattle.std.specs.Prelude.{◌≡◌, ℕ, zero, suc, ◌+◌, ◌<◌, ◌≤◌, ◌-◌, ◌&&◌, ◌||◌, nat_le, Bool, cond, List, [], ◌∷◌, length, Option, Some, None, is_none, option_and_then}
use Rattle.std.specs.Option.{option_map_or}
use Rattle.history_file.specs.Event.{Event}
use Rattle.history_file.specs.Event.Event.{call, reply, close, crash}
use Rattle.nfs_history.specs.declared.recorded.RecordedCall.{RecordedCall}
use Rattle.nfs_history.specs.declared.knowing.KnownCalls.{KnownCalls}
use Rattle.nfs_history.specs.Precedence.{call_at, begin_of}
use Rattle.order_check.specs.Places.{may_take, is_wanted, passes}
use Rattle.decision_law.specs.NeverLost.{Hints}
use Rattle.decision_core.specs.Times.{Times}
use Rattle.decision_core.specs.Eras.{Numbering}

-- the event of a crash with so many ahead of it, among events that are numbered from i on; behind the last event, where there are fewer
abbrev pub crash_at : ℕ → ℕ → List Event → ℕ
crash_at i k [] = i
crash_at i k (call lane message ∷ events) = crash_at (i + 1) k events
crash_at i k (reply lane message ∷ events) = crash_at (i + 1) k events
crash_at i k (close lane ∷ events) = crash_at (i + 1) k events
crash_at i zero (crash ∷ events) = i
crash_at i (suc k) (crash ∷ events) = crash_at (i + 1) k events

-- where an era begins: at the crash that ends the era ahead of it, the first one ahead of all events
abbrev pub era_start : List Event → ℕ → ℕ
era_start events zero = 0
era_start events (suc zero) = 0
era_start events (suc (suc k)) = crash_at 1 k events

-- a call begins in its era, and ends behind its begin, where the eras begin at these events
pub record IsTimed (start : ℕ → ℕ) (recorded : RecordedCall) : Type 0 where
  pub begins_late : start recorded.era ≤ recorded.begin
  pub begins_early : recorded.begin ≤ start (recorded.era + 1)
  pub ends_late : (at : ℕ) → recorded.«end» ≡ Some at → recorded.begin < at

-- so does each call, and no era begins ahead of an earlier one
pub record AreTimed (known : KnownCalls) (start : ℕ → ℕ) : Type 0 where
  pub rises : (e f : ℕ) → e ≤ f → start e ≤ start f
  pub timed : (n : ℕ) (recorded : RecordedCall) → call_at known.calls n ≡ Some recorded → IsTimed start recorded

-- an unanswered call that changes the tree, which a plan may take as done
abbrev pub may_be_taken : RecordedCall → Bool
may_be_taken recorded = is_none recorded.«end» && (may_take recorded.meaning None || may_take recorded.meaning (Some 0))

-- a call that may have a place in a plan
abbrev pub may_stand : RecordedCall → Bool
may_stand recorded = is_wanted recorded || may_be_taken recorded

-- when the reply came that a plan has to give: none, of a call that need have no place
abbrev pub answered_end : RecordedCall → Option ℕ
answered_end recorded = cond (is_wanted recorded) recorded.«end» None

module _ (known : KnownCalls) where
  -- the number is that of a call, and not of a crash
  abbrev pub is_of_call : ℕ → Bool
  is_of_call n = nat_le n (length known.calls)

  -- the era that a crash with this number ends
  abbrev pub era_ended : ℕ → ℕ
  era_ended n = n - length known.calls

  -- the era of a call, or of a crash
  abbrev pub era_of_number : ℕ → ℕ
  era_of_number n = cond (is_of_call n) (option_map_or (λ recorded. recorded.era) (call_at known.calls n) 0) (era_ended n)

  -- a walk is told so much of what a crash takes away
  abbrev pub numbering_of : Hints → Numbering
  numbering_of hints = record { is_real = is_of_call; is_stable = hints.never_lost; era_of = era_of_number; crash = λ e. length known.calls + e; saves = hints.saves }

  module _ (start : ℕ → ℕ) where
    -- the crash that ends era e begins and ends where the next era begins
    abbrev pub times_of : Times
    times_of = record {
      is_call = λ n. cond (is_of_call n) (passes may_stand (call_at known.calls n)) (nat_le (era_ended n) known.eras);
      begin_of = λ n. cond (is_of_call n) (begin_of known.calls n) (start (era_ended n + 1));
      end_of = λ n. cond (is_of_call n) (option_and_then answered_end (call_at known.calls n))
          (cond (nat_le (era_ended n) known.eras) (Some (start (era_ended n + 1))) None);
    }
