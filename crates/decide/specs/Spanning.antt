-- For the prover.
-- The begins and ends of a history's calls and crashes, one behind the other (those of `decision_law`, as code makes them).
use Rattle.std.specs.Prelude.{ℕ, ◌+◌, cond, List, [], ◌∷◌, ◌++◌, length, Some}
use Rattle.history_file.specs.Event.{Event}
use Rattle.history_file.specs.Event.Event.{call, reply, close, crash}
use Rattle.nfs_history.specs.declared.recorded.RecordedCall.{RecordedCall}
use Rattle.nfs_history.specs.declared.knowing.KnownCalls.{KnownCalls}
use Rattle.decision_core.specs.declared.spans.Span.{Span}
use Rattle.decision_walk.specs.decision_law_specs.Times.{may_stand, answered_end}

-- where the crashes stand among events that are numbered from i on, and behind them where the events end
abbrev pub crash_list : ℕ → List Event → List ℕ
crash_list i [] = i ∷ []
crash_list i (call lane message ∷ events) = crash_list (i + 1) events
crash_list i (reply lane message ∷ events) = crash_list (i + 1) events
crash_list i (close lane ∷ events) = crash_list (i + 1) events
crash_list i (crash ∷ events) = i ∷ crash_list (i + 1) events

-- a crash with this number ahead of others
abbrev pub noted : ℕ → Event → List ℕ → List ℕ
noted number (call lane message) rest = rest
noted number (reply lane message) rest = rest
noted number (close lane) rest = rest
noted number crash rest = number ∷ rest

-- the span of a call, and of a crash
abbrev pub call_span : ℕ → RecordedCall → Span
call_span n recorded = record { number = n; begin = recorded.begin; «end» = answered_end recorded }

abbrev pub crash_span : ℕ → ℕ → Span
crash_span n at = record { number = n; begin = at; «end» = Some at }

-- those of the calls that may have a place, the first of which has this number
abbrev pub call_spans : ℕ → List RecordedCall → List Span
call_spans n [] = []
call_spans n (recorded ∷ calls) = cond (may_stand recorded) (call_span n recorded ∷ call_spans (n + 1) calls) (call_spans (n + 1) calls)

-- those of crashes, the first of which has this number
abbrev pub crash_spans : ℕ → List ℕ → List Span
crash_spans n [] = []
crash_spans n (at ∷ marks) = crash_span n at ∷ crash_spans (n + 1) marks

abbrev pub all_spans : KnownCalls → List ℕ → List Span
all_spans known marks = call_spans 1 known.calls ++ crash_spans (length known.calls + 1) marks
