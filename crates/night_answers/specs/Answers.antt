-- For the prover, and for callers.
-- The answers of a history by procedure, and whether the server did too little (the procedures are those of RFC 1813, section 3.3; what is
-- counted is this project's own).
use Rattle.std.specs.Prelude.{ℕ, ◌/◌, ◌==◌, ◌&&◌, ◌||◌, not, nat_lt, nat_le, Bool, false, List, map, count_by, find, Option, Some, is_some}
use Rattle.std.specs.List.{range_with_len}
use Rattle.nfs3_types.specs.declared.procedures.Procedure.TheVariants.{Rename}
use Rattle.nfs3_types.specs.declared.status.Failure.TheVariants as status
use Rattle.nfs3_types.specs.declared.replies.Outcome.{Outcome}
use Rattle.nfs3_types.specs.declared.replies.Outcome.TheVariants as outcomes
use Rattle.nfs3_types.specs.Procedures.{number, procedure_called}
use Rattle.nfs_history.specs.declared.recorded.Meaning.{Meaning}
use Rattle.nfs_history.specs.declared.recorded.Meaning.TheVariants as meanings
use Rattle.nfs_history.specs.declared.recorded.RecordedCall.{RecordedCall}
use Rattle.history_report.specs.Counted.{is_answered_call, is_excused}
use Rattle.night_answers.specs.Idle.{has_status, was_idle}
use Rattle.night_answers.specs.declared.answers.ProcedureAnswers.{ProcedureAnswers}
use Rattle.night_answers.specs.declared.answers.Idleness.{Idleness}

-- the procedure of this number was asked for
abbrev pub asks_for : ℕ → Meaning → Bool
asks_for procedure (meanings.Judged call) = procedure_called call == procedure
asks_for procedure meanings.Unjudged = false

abbrev pub is_invalid : Option Outcome → Bool
is_invalid (Some (outcomes.Received reply)) = has_status reply status.Invalid
is_invalid outcome = false

-- INVAL, which answers a RENAME of a directory below itself
abbrev pub was_barred : RecordedCall → Bool
was_barred call = asks_for (number Rename) call.meaning && is_invalid call.outcome

-- the answer did nothing
abbrev pub did_nothing : Meaning → Option Outcome → Bool
did_nothing (meanings.Judged call) (Some (outcomes.Received reply)) = was_idle call reply
did_nothing meaning outcome = false

abbrev pub has_done_nothing : RecordedCall → Bool
has_done_nothing call = did_nothing call.meaning call.outcome

-- how many calls of a procedure were answered, how many of them by a failure that may answer any call, and how many of the answers did nothing
abbrev pub answers_to : List RecordedCall → ℕ → ProcedureAnswers
answers_to calls procedure = record {
  procedure = procedure;
  answered = count_by (λ call. is_answered_call call && asks_for procedure call.meaning) calls;
  failed = count_by (λ call. (is_excused call && not (was_barred call)) && asks_for procedure call.meaning) calls;
  idle = count_by (λ call. has_done_nothing call && asks_for procedure call.meaning) calls;
}

-- of at least eight answers each is such a failure, or over a quarter did nothing
abbrev pub is_idle_procedure : ProcedureAnswers → Bool
is_idle_procedure answers = nat_le 8 answers.answered && (answers.failed == answers.answered || nat_lt (answers.answered / 4) answers.idle)

-- the first procedure of which that is so, by their numbers
abbrev pub idle_procedure : List RecordedCall → Option ProcedureAnswers
idle_procedure calls = find is_idle_procedure (map (answers_to calls) (range_with_len 0 22))

-- how many answers did nothing
abbrev pub idle_answers : List RecordedCall → ℕ
idle_answers calls = count_by has_done_nothing calls

-- there is such a procedure; or of all answers, of which there are so many, at least eight and over an eighth did nothing
abbrev pub is_idle : ℕ → Idleness → Bool
is_idle answered found = is_some found.procedure || (nat_le 8 found.idle && nat_lt (answered / 8) found.idle)
