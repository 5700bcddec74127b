-- For the prover.
-- What came of each call, as it is noted: what the code's private functions say to the prover.
use Rattle.std.specs.Prelude.{ℕ, ◌==◌, ◌&&◌, not, Bool, true, false, List, count_by, Option, Some}
use Rattle.nfs3_types.specs.declared.calls.NfsCall.{NfsCall}
use Rattle.nfs3_types.specs.declared.procedures.Procedure.TheVariants.{Rename}
use Rattle.nfs3_types.specs.declared.status.Failure.TheVariants as status
use Rattle.nfs3_types.specs.declared.replies.Outcome.{Outcome}
use Rattle.nfs3_types.specs.declared.replies.Outcome.TheVariants as outcomes
use Rattle.nfs3_types.specs.Procedures.{number, procedure_called}
use Rattle.nfs_history.specs.declared.recorded.Meaning.{Meaning}
use Rattle.nfs_history.specs.declared.recorded.Meaning.TheVariants as meanings
use Rattle.nfs_history.specs.declared.recorded.RecordedCall.{RecordedCall}
use Rattle.night_answers.specs.Idle.{is_excused_reply, has_status, was_idle}
use Rattle.night_answers.specs.declared.answers.Note.{Note}
use Rattle.night_answers.specs.declared.answers.ProcedureAnswers.{ProcedureAnswers}

abbrev pub has_failed : NfsCall → Outcome → Bool
has_failed asked (outcomes.Received reply) = is_excused_reply reply && not (procedure_called asked == number Rename && has_status reply status.Invalid)
has_failed asked (outcomes.Taken count) = false

abbrev pub has_idled : NfsCall → Outcome → Bool
has_idled asked (outcomes.Received reply) = was_idle asked reply
has_idled asked (outcomes.Taken count) = false

abbrev pub note_answered : NfsCall → Outcome → Note
note_answered asked outcome = record { procedure = procedure_called asked; is_answered = true; is_failed = has_failed asked outcome; is_idle = has_idled asked outcome }

abbrev pub note_as : Meaning → Option Outcome → Note
note_as (meanings.Judged asked) (Some outcome) = note_answered asked outcome
note_as meaning outcome = record { procedure = 0; is_answered = false; is_failed = false; is_idle = false }

abbrev pub note_of : RecordedCall → Note
note_of call = note_as call.meaning call.outcome

abbrev pub idle_noted : List Note → ℕ
idle_noted notes = count_by (λ (note : Note). note.is_idle) notes

abbrev pub answered_of : List Note → ℕ → ℕ
answered_of notes procedure = count_by (λ (note : Note). note.is_answered && note.procedure == procedure) notes

abbrev pub failed_of : List Note → ℕ → ℕ
failed_of notes procedure = count_by (λ (note : Note). note.is_failed && note.procedure == procedure) notes

abbrev pub idle_of : List Note → ℕ → ℕ
idle_of notes procedure = count_by (λ (note : Note). note.is_idle && note.procedure == procedure) notes

abbrev pub answers_noted : List Note → ℕ → ProcedureAnswers
answers_noted notes procedure = record {
  procedure = procedure;
  answered = answered_of notes procedure;
  failed = failed_of notes procedure;
  idle = idle_of notes procedure;
}
