-- no two calls that an era sees have one number
use Rattle.std.proofs.Common.{◌≡◌, ◌≢◌, ℕ, zero, suc, ◌+◌, List, [], ◌∷◌, ◌++◌, take, map, Option, Some, None, refl, sym, ap, ◌∙◌, subst, append-nil, append_assoc, arith}
use Rattle.std.specs.List.{AllByRecursion, flat_map, cons_option}
use Rattle.std.proofs.lemmas.List.{map-append}
use Rattle.nfs3_types.specs.declared.calls.NfsCall.{NfsCall}
use Rattle.nfs3_types.specs.declared.replies.Outcome.{Outcome}
use Rattle.nfs_history.specs.declared.recorded.RecordedCall.{RecordedCall}
use Rattle.nfs_history.specs.Precedence.{call_at}
use Rattle.certificate.specs.declared.plan.EraPlan.{EraPlan}
use Rattle.certificate.specs.declared.plan.Place.{Place}
use Rattle.certificate.specs.declared.plan.Place.TheVariants as variants
use Rattle.certificate.specs.Plan.{call_of, cut_of}
use Rattle.order_check.specs.declared.places.OrderedPlace.{OrderedPlace}
use Rattle.order_check.specs.Places.{order_from, number_of}
use Rattle.order_check.specs.Shape.{NameDifferentCalls}
use Rattle.replay_law.specs.Run.{TakenStep}
use Rattle.tree_laws.specs.ReadBack.{FromOne, NumbersDiffer}
use Rattle.witness_check.specs.Run.{step_at, steps_of}
use Rattle.witness_check.proofs.Steps.{numbered}
use Rattle.verdict_laws.specs.Kept.{left_of, order_seen}

abbrev Differ : List ℕ → Type 0
Differ [] = Unit {0}
Differ (n ∷ ns) = AllByRecursion (λ m. m ≢ n) ns × Differ ns

-- some of these numbers, in their order
data AreAmong : List ℕ → List ℕ → Type 0 where
  none : AreAmong [] []
  with_it : {some all : List ℕ} (n : ℕ) → AreAmong some all → AreAmong (n ∷ some) (n ∷ all)
  without_it : {some all : List ℕ} (n : ℕ) → AreAmong some all → AreAmong some (n ∷ all)

all_among : (P : ℕ → Type 0) {some all : List ℕ} → AreAmong some all → AllByRecursion P all → AllByRecursion P some
all_among P none hold = tt
all_among P (with_it n among) hold = (hold.0, all_among P among hold.1)
all_among P (without_it n among) hold = all_among P among hold.1

differ_among : {some all : List ℕ} → AreAmong some all → Differ all → Differ some
differ_among none differ = tt
differ_among (with_it n among) differ = (all_among (λ m. m ≢ n) among differ.0, differ_among among differ.1)
differ_among (without_it n among) differ = differ_among among differ.1

none_of : (ns : List ℕ) → AreAmong [] ns
none_of [] = none
none_of (n ∷ ns) = without_it n (none_of ns)

all_of : (ns : List ℕ) → AreAmong ns ns
all_of [] = none
all_of (n ∷ ns) = with_it n (all_of ns)

joined : {some all more whole : List ℕ} → AreAmong some all → AreAmong more whole → AreAmong (some ++ more) (all ++ whole)
joined none behind = behind
joined (with_it n among) behind = with_it n (joined among behind)
joined (without_it n among) behind = without_it n (joined among behind)

-- ---- places

front : (n : ℕ) (places : List Place) → AreAmong (map call_of (take n places)) (map call_of places)
front zero places = none_of (map call_of places)
front (suc n) [] = none
front (suc n) (place ∷ places) = with_it (call_of place) (front n places)

numbers : List EraPlan → List ℕ
numbers eras = flat_map (λ era. map call_of era.places) eras

seen_among : (ahead behind : List EraPlan) (era : EraPlan) → AreAmong (map call_of (order_seen ahead era)) (numbers (ahead ++ era ∷ behind))
unfolding numbers
seen_among [] behind era =
    subst (λ ns. AreAmong ns (numbers (era ∷ behind))) (append-nil (map call_of era.places)) (joined (all_of (map call_of era.places)) (none_of (numbers behind)))
seen_among (first ∷ ahead) behind era =
    let parts : map call_of (order_seen (first ∷ ahead) era) ≡ map call_of (left_of first) ++ map call_of (order_seen ahead era) =
    ap (map call_of) (append_assoc (left_of first) (flat_map left_of ahead) era.places) ∙ map-append call_of (left_of first) (order_seen ahead era) in
    subst (λ ns. AreAmong ns (numbers ((first ∷ ahead) ++ era ∷ behind))) (sym parts) (joined (front (cut_of first) first.places) (seen_among ahead behind era))

placed : (e : ℕ) (places : List Place) → map number_of (map (λ place. record { era = e; place = place }) places) ≡ map call_of places
placed e [] = refl
placed e (place ∷ places) = ap (λ ns. call_of place ∷ ns) (placed e places)

all_numbers : (e : ℕ) (eras : List EraPlan) → map number_of (order_from e eras) ≡ numbers eras
unfolding numbers
all_numbers e [] = refl
all_numbers e (era ∷ eras) =
    map-append number_of (map (λ place. record { era = e; place = place }) era.places) (order_from (e + 1) eras)
    ∙ (λ i. placed e era.places i ++ all_numbers (e + 1) eras i)

all_apart : (n : ℕ) (order : List OrderedPlace) → AllByRecursion (λ q. number_of q ≢ n) order → AllByRecursion (λ m. m ≢ n) (map number_of order)
all_apart n [] all = tt
all_apart n (p ∷ order) all = (all.0, all_apart n order all.1)

named_once : (order : List OrderedPlace) → NameDifferentCalls order → Differ (map number_of order)
named_once [] once = tt
named_once (p ∷ order) once = (all_apart (number_of p) order once.0, named_once order once.1)

-- ---- steps

numbers_of : List (TakenStep NfsCall Outcome) → List ℕ
numbers_of steps = map (λ one. one.number) steps

steps_among : (calls : List RecordedCall) (places : List Place) → AreAmong (numbers_of (steps_of calls places)) (map call_of places)
unfolding numbers_of
steps_among calls [] = none
steps_among calls (place ∷ places) = go (step_at calls place) (numbered calls place) (steps_among calls places) where
  go : (o : Option (TakenStep NfsCall Outcome)) → ((one : TakenStep NfsCall Outcome) → o ≡ Some one → one.number ≡ call_of place)
      → AreAmong (numbers_of (steps_of calls places)) (map call_of places) → AreAmong (numbers_of (cons_option o (steps_of calls places))) (call_of place ∷ map call_of places)
  go None is later = without_it (call_of place) later
  go (Some one) is later = subst (λ n. AreAmong (n ∷ numbers_of (steps_of calls places)) (call_of place ∷ map call_of places)) (sym (is one refl)) (with_it (call_of place) later)

all_differ : (number : ℕ) (steps : List (TakenStep NfsCall Outcome)) → AllByRecursion (λ m. m ≢ number) (numbers_of steps) → AllByRecursion (λ later. later.number ≢ number) steps
unfolding numbers_of
all_differ number [] all = tt
all_differ number (one ∷ steps) all = (all.0, all_differ number steps all.1)

steps_differ : (steps : List (TakenStep NfsCall Outcome)) → Differ (numbers_of steps) → NumbersDiffer steps
unfolding numbers_of
steps_differ [] differ = tt
steps_differ (one ∷ steps) differ = (all_differ one.number steps differ.0, steps_differ steps differ.1)

pub numbers_differ : (calls : List RecordedCall) (ahead behind : List EraPlan) (era : EraPlan) → NameDifferentCalls (order_from 1 (ahead ++ era ∷ behind))
    → NumbersDiffer (steps_of calls (order_seen ahead era))
numbers_differ calls ahead behind era once =
    let all = subst Differ (all_numbers 1 (ahead ++ era ∷ behind)) (named_once (order_from 1 (ahead ++ era ∷ behind)) once) in
    let seen = differ_among (seen_among ahead behind era) all in
    steps_differ (steps_of calls (order_seen ahead era)) (differ_among (steps_among calls (order_seen ahead era)) seen)

-- ---- no call has the number 0

not_zero : (calls : List RecordedCall) (place : Place) (one : TakenStep NfsCall Outcome) → step_at calls place ≡ Some one → one.number ≢ 0
not_zero calls (variants.Answered zero) one e = absurd (cc)
not_zero calls (variants.Answered (suc n)) one e = λ none. let own : one.number ≡ suc n = numbered calls (variants.Answered (suc n)) one e in omega (arith, own, none)
not_zero calls (variants.Taken zero count) one e = absurd (cc)
not_zero calls (variants.Taken (suc n) count) one e = λ none. let own : one.number ≡ suc n = numbered calls (variants.Taken (suc n) count) one e in omega (arith, own, none)

pub from_one : (calls : List RecordedCall) (places : List Place) → FromOne (steps_of calls places)
from_one calls [] = tt
from_one calls (place ∷ places) = go (step_at calls place) (not_zero calls place) (from_one calls places) where
  go : (o : Option (TakenStep NfsCall Outcome)) → ((one : TakenStep NfsCall Outcome) → o ≡ Some one → one.number ≢ 0) → FromOne (steps_of calls places)
      → FromOne (cons_option o (steps_of calls places))
  go None is later = later
  go (Some one) is later = (is one refl, later)
