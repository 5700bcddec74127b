-- What is counted of notes is what is counted of the calls.
use Rattle.std.proofs.Common.{◌≡◌, ℕ, ◌+◌, ◌==◌, ◌&&◌, not, cond, Bool, false, List, [], ◌∷◌, map, count_by, sum_by, Option, Some, None, is_some, refl, sym, ap, ◌∙◌}
use Rattle.std.specs.Prelude.{find}
use Rattle.std.specs.List.{range_with_len}
use Rattle.std.specs.Option.{option_map_or}
use Rattle.std.proofs.lemmas.List.Sums.{sum_by-cons}
use Rattle.nfs3_types.specs.declared.procedures.Procedure.TheVariants.{Rename}
use Rattle.nfs3_types.specs.declared.replies.Outcome.{Outcome}
use Rattle.nfs3_types.specs.declared.replies.Outcome.TheVariants as outcomes
use Rattle.nfs3_types.specs.Procedures.{number}
use Rattle.nfs_history.specs.declared.recorded.Meaning.{Meaning}
use Rattle.nfs_history.specs.declared.recorded.Meaning.TheVariants as meanings
use Rattle.nfs_history.specs.declared.recorded.RecordedCall.{RecordedCall}
use Rattle.order_check.specs.Places.{is_judged}
use Rattle.history_report.specs.Counted.{failure_of, is_excused_status}
use Rattle.night_answers.specs.Answers.{asks_for, is_invalid, did_nothing, answers_to, is_idle_procedure, idle_procedure, idle_answers}
use Rattle.night_answers.specs.Noting.{note_as, note_of, answers_noted, idle_noted}
use Rattle.night_answers.specs.declared.answers.Note.{Note}
use Rattle.night_answers.specs.declared.answers.ProcedureAnswers.{ProcedureAnswers}

-- a note tells of its call what is counted
answered_as : (procedure : ℕ) (meaning : Meaning) (outcome : Option Outcome)
    → ((note_as meaning outcome).is_answered && (note_as meaning outcome).procedure == procedure) ≡ ((is_judged meaning && is_some outcome) && asks_for procedure meaning)
answered_as procedure meanings.Unjudged outcome = refl
answered_as procedure (meanings.Judged call) None = refl
answered_as procedure (meanings.Judged call) (Some outcome) = refl

failed_as : (procedure : ℕ) (meaning : Meaning) (outcome : Option Outcome)
    → ((note_as meaning outcome).is_failed && (note_as meaning outcome).procedure == procedure)
    ≡ (((is_judged meaning && option_map_or is_excused_status (failure_of outcome) false) && not (asks_for (number Rename) meaning && is_invalid outcome)) && asks_for procedure meaning)
failed_as procedure meanings.Unjudged outcome = refl
failed_as procedure (meanings.Judged call) None = refl
failed_as procedure (meanings.Judged call) (Some (outcomes.Received reply)) = refl
failed_as procedure (meanings.Judged call) (Some (outcomes.Taken count)) = refl

idle_as : (meaning : Meaning) (outcome : Option Outcome) → (note_as meaning outcome).is_idle ≡ did_nothing meaning outcome
idle_as meanings.Unjudged outcome = refl
idle_as (meanings.Judged call) None = refl
idle_as (meanings.Judged call) (Some (outcomes.Received reply)) = refl
idle_as (meanings.Judged call) (Some (outcomes.Taken count)) = refl

idle_of_as : (procedure : ℕ) (meaning : Meaning) (outcome : Option Outcome)
    → ((note_as meaning outcome).is_idle && (note_as meaning outcome).procedure == procedure) ≡ (did_nothing meaning outcome && asks_for procedure meaning)
idle_of_as procedure meanings.Unjudged outcome = refl
idle_of_as procedure (meanings.Judged call) None = refl
idle_of_as procedure (meanings.Judged call) (Some (outcomes.Received reply)) = refl
idle_of_as procedure (meanings.Judged call) (Some (outcomes.Taken count)) = refl

-- counts over what each is mapped to
sum_mapped : {A B : Type 0} (f : B → ℕ) (g : A → B) (xs : List A) → sum_by f (map g xs) ≡ sum_by (λ x. f (g x)) xs
sum_mapped f g [] = refl
sum_mapped f g (x ∷ xs) = sum_by-cons f (g x) (map g xs) ∙ ap (λ n. f (g x) + n) (sum_mapped f g xs) ∙ sym (sum_by-cons (λ y. f (g y)) x xs)

count_mapped : {A B : Type 0} (p : B → Bool) (g : A → B) (xs : List A) → count_by p (map g xs) ≡ count_by (λ x. p (g x)) xs
count_mapped p g xs = sum_mapped (λ y. cond (p y) 1 0) g xs

idle_of_notes : (calls : List RecordedCall) → idle_noted (map note_of calls) ≡ idle_answers calls
idle_of_notes calls =
    count_mapped (λ (note : Note). note.is_idle) note_of calls
    ∙ (λ i. count_by (λ (call : RecordedCall). idle_as call.meaning call.outcome i) calls)

answers_of_notes : (calls : List RecordedCall) (procedure : ℕ) → answers_noted (map note_of calls) procedure ≡ answers_to calls procedure
answers_of_notes calls procedure =
    (
    λ i.
    record {
      procedure = procedure;
      answered = count_mapped (λ (note : Note). note.is_answered && note.procedure == procedure) note_of calls i;
      failed = count_mapped (λ (note : Note). note.is_failed && note.procedure == procedure) note_of calls i;
      idle = count_mapped (λ (note : Note). note.is_idle && note.procedure == procedure) note_of calls i;
    }
    )
    ∙ (
    λ i.
    record {
      procedure = procedure;
      answered = count_by (λ (call : RecordedCall). answered_as procedure call.meaning call.outcome i) calls;
      failed = count_by (λ (call : RecordedCall). failed_as procedure call.meaning call.outcome i) calls;
      idle = count_by (λ (call : RecordedCall). idle_of_as procedure call.meaning call.outcome i) calls;
    }
    )

first_of_notes : (calls : List RecordedCall) → find is_idle_procedure (map (answers_noted (map note_of calls)) (range_with_len 0 22)) ≡ idle_procedure calls
first_of_notes calls = λ i. find is_idle_procedure (map (λ procedure. answers_of_notes calls procedure i) (range_with_len 0 22))

-- the same of a list of notes that is the calls'
pub all_noted : (calls : List RecordedCall) (notes : List Note) (n : ℕ) → n ≡ idle_noted notes → notes ≡ map note_of calls → n ≡ idle_answers calls
all_noted calls notes n is are = is ∙ ap idle_noted are ∙ idle_of_notes calls

pub first_noted : (calls : List RecordedCall) (notes : List Note) (found : Option ProcedureAnswers) → found ≡ find is_idle_procedure (map (answers_noted notes) (range_with_len 0 22))
    → notes ≡ map note_of calls → found ≡ idle_procedure calls
first_noted calls notes found is are =
    is ∙ ap (λ (xs : List Note). find is_idle_procedure (map (answers_noted xs) (range_with_len 0 22))) are ∙ first_of_notes calls
