-- The kind of a call tells all that is counted of the call.
use Rattle.std.proofs.Common.{◌≡◌, ℕ, zero, suc, ◌+◌, ◌&&◌, not, cond, Bool, true, false, List, [], ◌∷◌, length, map, drop, count_by, sum_by, Option, Some, None, option_map, is_some, is_none, refl, sym, ap, ◌∙◌}
use Rattle.std.specs.Option.{option_map_or}
use Rattle.std.specs.List.{slice_get}
use Rattle.std.proofs.lemmas.List.{length-map}
use Rattle.std.proofs.lemmas.List.Sums.{sum_by-cons}
use Rattle.std.proofs.lemmas.Option.{slice_get-map}
use Rattle.nfs3_types.specs.Procedures.{number, asked_for, changes_the_tree, failure_in}
use Rattle.nfs3_types.specs.declared.calls.NfsCall.{NfsCall}
use Rattle.nfs3_types.specs.declared.calls.NfsCall.TheVariants as calls
use Rattle.nfs3_types.specs.declared.replies.Outcome.{Outcome}
use Rattle.nfs3_types.specs.declared.replies.Outcome.TheVariants as outcomes
use Rattle.nfs_history.specs.declared.recorded.CallKind.{CallKind}
use Rattle.nfs_history.specs.declared.recorded.Meaning.{Meaning}
use Rattle.nfs_history.specs.declared.recorded.Meaning.TheVariants as meanings
use Rattle.nfs_history.specs.declared.recorded.RecordedCall.{RecordedCall}
use Rattle.nfs_history.specs.Precedence.{call_at}
use Rattle.nfs_history.specs.Reread.{item_at, kind_as, call_kind}
use Rattle.certificate.specs.declared.plan.Place.{Place}
use Rattle.certificate.specs.declared.plan.Place.TheVariants.{Answered, Taken}
use Rattle.certificate.specs.declared.plan.EraPlan.{EraPlan}
use Rattle.certificate.specs.Plan.{call_of, cut_of}
use Rattle.order_check.specs.Places.{is_judged}
use Rattle.history_report.specs.declared.counting.HistoryNumbers.{HistoryNumbers}
use Rattle.history_report.specs.Counted.{failure_of, is_excused_status, report_of}
use Rattle.history_report.specs.Lost.{is_modifying, has_succeeded, changes, changes_at, lost}
use Rattle.history_report.specs.Kinds.{is_judged_kind, is_answered_kind, is_excused_kind, report_by, is_modifying_kind, has_succeeded_kind, changes_kind, changes_kind_at, lost_by}

judged_as : (meaning : Meaning) (outcome : Option Outcome) → is_judged_kind (kind_as meaning outcome) ≡ is_judged meaning
judged_as meanings.Unjudged outcome = refl
judged_as (meanings.Judged call) None = refl
judged_as (meanings.Judged call) (Some outcome) = refl

answered_as : (meaning : Meaning) (outcome : Option Outcome) → is_answered_kind (kind_as meaning outcome) ≡ (is_judged meaning && is_some outcome)
answered_as meanings.Unjudged outcome = refl
answered_as (meanings.Judged call) None = refl
answered_as (meanings.Judged call) (Some outcome) = refl

excused_as : (meaning : Meaning) (outcome : Option Outcome) → is_excused_kind (kind_as meaning outcome) ≡ (is_judged meaning && option_map_or is_excused_status (failure_of outcome) false)
excused_as meanings.Unjudged outcome = refl
excused_as (meanings.Judged call) None = refl
excused_as (meanings.Judged call) (Some (outcomes.Received reply)) = refl
excused_as (meanings.Judged call) (Some (outcomes.Taken count)) = refl

modifying_as : (call : NfsCall) → changes_the_tree (number (asked_for call)) ≡ is_modifying (meanings.Judged call)
modifying_as (calls.GetAttr a) = refl
modifying_as (calls.SetAttr a) = refl
modifying_as (calls.Lookup a) = refl
modifying_as (calls.ReadLink a) = refl
modifying_as (calls.Read a) = refl
modifying_as (calls.Write a) = refl
modifying_as (calls.Create a) = refl
modifying_as (calls.MkDir a) = refl
modifying_as (calls.SymLink a) = refl
modifying_as (calls.Remove a) = refl
modifying_as (calls.RmDir a) = refl
modifying_as (calls.Rename a) = refl
modifying_as (calls.ReadDir a) = refl
modifying_as (calls.ReadDirPlus a) = refl
modifying_as (calls.Commit a) = refl

taken_as : (meaning : Meaning) (outcome : Option Outcome) → is_modifying_kind (kind_as meaning outcome) ≡ is_modifying meaning
taken_as meanings.Unjudged outcome = refl
taken_as (meanings.Judged call) None = modifying_as call
taken_as (meanings.Judged call) (Some outcome) = modifying_as call

changed_as : (meaning : Meaning) (outcome : Option Outcome)
    → (is_modifying_kind (kind_as meaning outcome) && has_succeeded_kind (kind_as meaning outcome)) ≡ (is_modifying meaning && has_succeeded outcome)
changed_as meanings.Unjudged outcome = refl
changed_as (meanings.Judged call) None = ap (λ b. b && false) (modifying_as call)
changed_as (meanings.Judged call) (Some (outcomes.Received reply)) = ap (λ b. b && is_none (failure_in reply)) (modifying_as call)
changed_as (meanings.Judged call) (Some (outcomes.Taken count)) = ap (λ b. b && true) (modifying_as call)

changes_as : (place : Place) (call : RecordedCall) → changes_kind place (call_kind call) ≡ changes place call
changes_as (Answered n) call = changed_as call.meaning call.outcome
changes_as (Taken n count) call = taken_as call.meaning call.outcome

item_is_call : (calls : List RecordedCall) (n : ℕ) → item_at calls n ≡ call_at calls n
item_is_call calls zero = refl
item_is_call calls (suc n) = refl

changes_there : (calls : List RecordedCall) (place : Place) → changes_kind_at call_kind calls place ≡ changes_at calls place
changes_there calls place = λ i. option_map_or (λ call. changes_as place call i) (item_is_call calls (call_of place) i) false

-- of calls by their kinds it is what is counted of the calls
report_of_kinds : (eras : ℕ) (calls : List RecordedCall) → report_by call_kind eras calls ≡ report_of eras calls
report_of_kinds eras calls =
    λ i.
    record {
      calls = length calls;
      judged = count_by (λ call. judged_as call.meaning call.outcome i) calls;
      answered = count_by (λ call. answered_as call.meaning call.outcome i) calls;
      unjudged = count_by (λ call. not (judged_as call.meaning call.outcome i)) calls;
      excused = count_by (λ call. excused_as call.meaning call.outcome i) calls;
      eras = eras;
    }

lost_of_kinds : (calls : List RecordedCall) (eras : List EraPlan) → lost_by call_kind calls eras ≡ lost calls eras
lost_of_kinds calls eras = λ i. sum_by (λ era. count_by (λ place. changes_there calls place i) (drop (cut_of era) era.places)) eras

-- the same over the kinds themselves
sum_mapped : {A B : Type 0} (f : B → ℕ) (g : A → B) (xs : List A) → sum_by f (map g xs) ≡ sum_by (λ x. f (g x)) xs
sum_mapped f g [] = refl
sum_mapped f g (x ∷ xs) = sum_by-cons f (g x) (map g xs) ∙ ap (λ n. f (g x) + n) (sum_mapped f g xs) ∙ sym (sum_by-cons (λ y. f (g y)) x xs)

count_mapped : {A B : Type 0} (p : B → Bool) (g : A → B) (xs : List A) → count_by p (map g xs) ≡ count_by (λ x. p (g x)) xs
count_mapped p g xs = sum_mapped (λ y. cond (p y) 1 0) g xs

report_mapped : (eras : ℕ) (calls : List RecordedCall) → report_by (λ (kind : CallKind). kind) eras (map call_kind calls) ≡ report_by call_kind eras calls
report_mapped eras calls =
    λ i.
    record {
      calls = length-map calls call_kind i;
      judged = count_mapped is_judged_kind call_kind calls i;
      answered = count_mapped is_answered_kind call_kind calls i;
      unjudged = count_mapped (λ kind. not (is_judged_kind kind)) call_kind calls i;
      excused = count_mapped is_excused_kind call_kind calls i;
      eras = eras;
    }

test_mapped : (test : CallKind → Bool) (found : Option RecordedCall) → option_map_or test (option_map call_kind found) false ≡ option_map_or (λ call. test (call_kind call)) found false
test_mapped test None = refl
test_mapped test (Some call) = refl

item_mapped : (test : CallKind → Bool) (calls : List RecordedCall) (n : ℕ)
    → option_map_or test (item_at (map call_kind calls) n) false ≡ option_map_or (λ call. test (call_kind call)) (item_at calls n) false
item_mapped test calls zero = refl
item_mapped test calls (suc n) =
    ap (λ (found : Option CallKind). option_map_or test found false) (slice_get-map call_kind calls n) ∙ test_mapped test (slice_get calls n)

changes_mapped : (calls : List RecordedCall) (place : Place) → changes_kind_at (λ (kind : CallKind). kind) (map call_kind calls) place ≡ changes_kind_at call_kind calls place
changes_mapped calls place = item_mapped (changes_kind place) calls (call_of place)

lost_mapped : (calls : List RecordedCall) (eras : List EraPlan) → lost_by (λ (kind : CallKind). kind) (map call_kind calls) eras ≡ lost_by call_kind calls eras
lost_mapped calls eras = λ i. sum_by (λ era. count_by (λ place. changes_mapped calls place i) (drop (cut_of era) era.places)) eras

-- what is counted of the calls, or of their kinds, is what is counted of the history
pub owned_report : (counted : HistoryNumbers) (n eras : ℕ) (items calls : List RecordedCall) → counted ≡ report_by call_kind n items → n ≡ eras → items ≡ calls → counted ≡ report_of eras calls
owned_report counted n eras items calls is same are = is ∙ (λ i. report_by call_kind (same i) (are i)) ∙ report_of_kinds eras calls

pub known_report : (counted : HistoryNumbers) (n eras : ℕ) (kinds : List CallKind) (calls : List RecordedCall) → counted ≡ report_by (λ (kind : CallKind). kind) n kinds → n ≡ eras
    → kinds ≡ map call_kind calls → counted ≡ report_of eras calls
known_report counted n eras kinds calls is same are =
    is ∙ (λ i. report_by (λ (kind : CallKind). kind) (same i) (are i)) ∙ report_mapped eras calls ∙ report_of_kinds eras calls

pub owned_lost : (items calls : List RecordedCall) (plan eras : List EraPlan) → items ≡ calls → plan ≡ eras → lost_by call_kind items plan ≡ lost calls eras
owned_lost items calls plan eras are same = (λ i. lost_by call_kind (are i) (same i)) ∙ lost_of_kinds calls eras

pub known_lost : (kinds : List CallKind) (calls : List RecordedCall) (plan eras : List EraPlan) → kinds ≡ map call_kind calls → plan ≡ eras
    → lost_by (λ (kind : CallKind). kind) kinds plan ≡ lost calls eras
known_lost kinds calls plan eras are same = (λ i. lost_by (λ (kind : CallKind). kind) (are i) (same i)) ∙ lost_mapped calls eras ∙ lost_of_kinds calls eras
