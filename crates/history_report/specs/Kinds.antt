-- For the prover.
-- The same counts over what has the kind of a call each: what the code's private functions say to the prover. Counted and Lost
-- say what they are of calls.
use Rattle.std.specs.Prelude.{ℕ, ◌&&◌, not, Bool, true, false, List, length, drop, count_by, sum_by, is_none}
use Rattle.std.specs.Option.{option_map_or}
use Rattle.nfs3_types.specs.Procedures.{number, changes_the_tree}
use Rattle.nfs_history.specs.declared.recorded.CallKind.{CallKind}
use Rattle.nfs_history.specs.declared.recorded.CallKind.TheVariants as kinds
use Rattle.nfs_history.specs.Reread.{item_at}
use Rattle.certificate.specs.declared.plan.Place.{Place}
use Rattle.certificate.specs.declared.plan.Place.TheVariants.{Answered, Taken}
use Rattle.certificate.specs.declared.plan.EraPlan.{EraPlan}
use Rattle.certificate.specs.Plan.{call_of, cut_of}
use Rattle.history_report.specs.declared.counting.HistoryNumbers.{HistoryNumbers}
use Rattle.history_report.specs.Counted.{is_excused_status}

abbrev pub is_judged_kind : CallKind → Bool
is_judged_kind kinds.Unjudged = false
is_judged_kind (kinds.Unanswered procedure) = true
is_judged_kind (kinds.Answered procedure failure) = true

abbrev pub is_answered_kind : CallKind → Bool
is_answered_kind kinds.Unjudged = false
is_answered_kind (kinds.Unanswered procedure) = false
is_answered_kind (kinds.Answered procedure failure) = true

abbrev pub is_excused_kind : CallKind → Bool
is_excused_kind kinds.Unjudged = false
is_excused_kind (kinds.Unanswered procedure) = false
is_excused_kind (kinds.Answered procedure failure) = option_map_or is_excused_status failure false

-- what is counted of calls with these kinds, of so many eras
abbrev pub report_by : {A : Type 0} → (A → CallKind) → ℕ → List A → HistoryNumbers
report_by kind eras calls = record {
  calls = length calls;
  judged = count_by (λ call. is_judged_kind (kind call)) calls;
  answered = count_by (λ call. is_answered_kind (kind call)) calls;
  unjudged = count_by (λ call. not (is_judged_kind (kind call))) calls;
  excused = count_by (λ call. is_excused_kind (kind call)) calls;
  eras = eras;
}

abbrev pub is_modifying_kind : CallKind → Bool
is_modifying_kind kinds.Unjudged = false
is_modifying_kind (kinds.Unanswered procedure) = changes_the_tree (number procedure)
is_modifying_kind (kinds.Answered procedure failure) = changes_the_tree (number procedure)

abbrev pub has_succeeded_kind : CallKind → Bool
has_succeeded_kind kinds.Unjudged = false
has_succeeded_kind (kinds.Unanswered procedure) = false
has_succeeded_kind (kinds.Answered procedure failure) = is_none failure

abbrev pub changes_kind : Place → CallKind → Bool
changes_kind (Answered n) kind = is_modifying_kind kind && has_succeeded_kind kind
changes_kind (Taken n count) kind = is_modifying_kind kind

abbrev pub changes_kind_at : {A : Type 0} → (A → CallKind) → List A → Place → Bool
changes_kind_at kind calls place = option_map_or (λ call. changes_kind place (kind call)) (item_at calls (call_of place)) false

abbrev pub lost_in_by : {A : Type 0} → (A → CallKind) → List A → EraPlan → ℕ
lost_in_by kind calls era = count_by (changes_kind_at kind calls) (drop (cut_of era) era.places)

abbrev pub lost_by : {A : Type 0} → (A → CallKind) → List A → List EraPlan → ℕ
lost_by kind calls eras = sum_by (lost_in_by kind calls) eras
