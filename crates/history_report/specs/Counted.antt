-- For the prover, and for callers.
-- What is counted of the calls of a history, by what they were and how they came out (statuses: RFC 1813, section 2.6; which
-- calls and statuses are judged is this project's own).
use Rattle.std.specs.Prelude.{ℕ, ◌&&◌, not, Bool, false, List, length, count_by, Option, Some, None, is_some}
use Rattle.std.specs.Option.{option_map_or}
use Rattle.nfs3_types.specs.declared.status.Failure.{Failure}
use Rattle.nfs3_types.specs.declared.replies.Outcome.{Outcome}
use Rattle.nfs3_types.specs.declared.replies.Outcome.TheVariants as outcomes
use Rattle.nfs3_types.specs.Procedures.{failure_in}
use Rattle.nfs_history.specs.declared.recorded.RecordedCall.{RecordedCall}
use Rattle.order_check.specs.Places as places
use Rattle.tree_answers.specs.Failure as failures
use Rattle.history_report.specs.declared.counting.HistoryNumbers.{HistoryNumbers}

-- a status that isn't judged: it may answer any call
abbrev pub is_excused_status : Failure → Bool
is_excused_status failure = not (failures.is_judged_status failure)

-- the status of a reply that is no success
abbrev pub failure_of : Option Outcome → Option Failure
failure_of (Some (outcomes.Received reply)) = failure_in reply
failure_of (Some (outcomes.Taken count)) = None
failure_of None = None

-- a judged call; one that failed in RPC is none
abbrev pub is_judged_call : RecordedCall → Bool
is_judged_call call = places.is_judged call.meaning

-- a judged call that was answered
abbrev pub is_answered_call : RecordedCall → Bool
is_answered_call call = is_judged_call call && is_some call.outcome

-- a judged call that was answered by an excused status
abbrev pub is_excused : RecordedCall → Bool
is_excused call = is_judged_call call && option_map_or is_excused_status (failure_of call.outcome) false

-- what is counted of the calls of so many eras
abbrev pub report_of : ℕ → List RecordedCall → HistoryNumbers
report_of eras calls = record {
  calls = length calls;
  judged = count_by is_judged_call calls;
  answered = count_by is_answered_call calls;
  unjudged = count_by (λ call. not (is_judged_call call)) calls;
  excused = count_by is_excused calls;
  eras = eras;
}
