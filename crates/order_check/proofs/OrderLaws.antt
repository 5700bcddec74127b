-- A running last begin finds the first early place, and none where the places respect the order.
use Rattle.std.proofs.Common.{◌≡◌, ℕ, ◌+◌, ◌<◌, ◌≤◌, List, [], ◌∷◌, ◌++◌, length, take, drop, get_or, Option, Some, None, refl, sym, ap, subst, ◌∙◌, arith, append_assoc}
use Rattle.std.specs.List.{AllByRecursion}
use Rattle.std.proofs.lemmas.List.{take_more, take-append-drop, take_all, at_drop_more}
use Rattle.nfs_history.specs.declared.recorded.RecordedCall.{RecordedCall}
use Rattle.nfs_history.specs.Precedence.{begin_of, Precedes}
use Rattle.certificate.specs.declared.plan.Place.{Place}
use Rattle.certificate.specs.declared.plan.EraPlan.{EraPlan}
use Rattle.certificate.specs.Plan.{call_of}
use Rattle.order_check.specs.declared.fault.OrderFault.{OrderFault}
use Rattle.order_check.specs.declared.fault.OrderFault.TheVariants.{Early}
use Rattle.order_check.specs.Order.{RespectsOrder, EachEraRespectsOrder, BeganLast, BeganLastIfAny, IsEarlyAmong, IsFirstEarly, IsEarlyFaultAmong, IsEarlyFault}

-- what the loop over an era's places keeps
pub record InOrderSoFar (calls : List RecordedCall) (places : List Place) (latest : Option ℕ) : Type 0 where
  pub respected : RespectsOrder calls places
  pub began_last : BeganLastIfAny calls places latest

module _ {X : Type 0} (P : X → Type 0) where
  pub all_push : (xs : List X) (x : X) → AllByRecursion P xs → P x → AllByRecursion P (xs ++ x ∷ [])
  all_push [] x all here = (here, tt)
  all_push (y ∷ xs) x all here = (all.0, all_push xs x all.1 here)

  all_joined : (xs ys : List X) → AllByRecursion P xs → AllByRecursion P ys → AllByRecursion P (xs ++ ys)
  all_joined [] ys first second = second
  all_joined (x ∷ xs) ys first second = (first.0, all_joined xs ys first.1 second)

  pub all_behind : (xs ys : List X) → AllByRecursion P (xs ++ ys) → AllByRecursion P ys
  all_behind [] ys all = all
  all_behind (x ∷ xs) ys all = all_behind xs ys all.1

all_weaker : {X : Type 0} (P Q : X → Type 0) → ((x : X) → P x → Q x) → (xs : List X) → AllByRecursion P xs → AllByRecursion Q xs
all_weaker P Q so [] all = tt
all_weaker P Q so (x ∷ xs) all = (so x all.0, all_weaker P Q so xs all.1)

module _ (calls : List RecordedCall) where
  -- every place began by the time of the one that began last
  pub all_by : (places : List Place) (number : ℕ) → BeganLast calls places number → AllByRecursion (λ p. begin_of calls (call_of p) ≤ begin_of calls number) places
  all_by places number last =
      let By : Place → Type 0 = λ p. begin_of calls (call_of p) ≤ begin_of calls number in
      let ahead : AllByRecursion By last.ahead = all_weaker (λ p. begin_of calls (call_of p) < begin_of calls number) By (λ p h. omega arith) last.ahead last.after_those_ahead in
      let same : call_of last.latest ≡ number = last.named in
      let here : By last.latest = rw same (omega arith) in
      subst (AllByRecursion By) (sym last.stands) (all_joined By last.ahead (last.latest ∷ last.behind) ahead (here, last.not_before_those_behind))

  -- one more place that began after all of them
  pub later_last : (places : List Place) (place : Place) (other number : ℕ) → BeganLast calls places other → call_of place ≡ number
      → begin_of calls other < begin_of calls number → BeganLast calls (places ++ place ∷ []) number
  later_last places place other number last named later = record {
    ahead = places;
    latest = place;
    behind = [];
    stands = refl;
    named = named;
    after_those_ahead = all_weaker (λ p. begin_of calls (call_of p) ≤ begin_of calls other) (λ p. begin_of calls (call_of p) < begin_of calls number) (λ p h. omega arith) places (all_by places other last);
    not_before_those_behind = tt;
  }

  -- one more place that began no later
  pub still_last : (places : List Place) (place : Place) (other number : ℕ) → BeganLast calls places other → call_of place ≡ number
      → begin_of calls number ≤ begin_of calls other → BeganLast calls (places ++ place ∷ []) other
  still_last places place other number last named by =
      let here : begin_of calls (call_of place) ≤ begin_of calls other = rw named by in
      record {
        ahead = last.ahead;
        latest = last.latest;
        behind = last.behind ++ place ∷ [];
        stands = ap (λ ps. ps ++ place ∷ []) last.stands ∙ append_assoc last.ahead (last.latest ∷ last.behind) (place ∷ []);
        named = last.named;
        after_those_ahead = last.after_those_ahead;
        not_before_those_behind = all_push (λ p. begin_of calls (call_of p) ≤ begin_of calls other) last.behind place last.not_before_those_behind here;
      }

  -- the only place
  pub only_last : (places : List Place) (place : Place) (number : ℕ) → places ≡ [] → call_of place ≡ number → BeganLast calls (places ++ place ∷ []) number
  only_last places place number none named = record {
    ahead = places;
    latest = place;
    behind = [];
    stands = refl;
    named = named;
    after_those_ahead = subst (AllByRecursion (λ p. begin_of calls (call_of p) < begin_of calls number)) (sym none) tt;
    not_before_those_behind = tt;
  }

  -- who precedes a call precedes each that began no earlier
  precedes_later : (first second third : ℕ) → begin_of calls second ≤ begin_of calls third → Precedes calls first second → Precedes calls first third
  precedes_later first second third by before = (before.0, before.1, omega (arith, before.2))

  pub none_preceded : (places : List Place) (latest : Option ℕ) (number : ℕ) → BeganLastIfAny calls places latest → ((other : ℕ) → latest ≡ Some other → ¬ Precedes calls number other)
      → AllByRecursion (λ p. ¬ Precedes calls number (call_of p)) places
  none_preceded places None number none not_before = subst (AllByRecursion (λ p. ¬ Precedes calls number (call_of p))) (sym none) tt
  none_preceded places (Some other) number last not_before =
      all_weaker (λ p. begin_of calls (call_of p) ≤ begin_of calls other) (λ p. ¬ Precedes calls number (call_of p))
      (λ p by before. not_before other refl (precedes_later number (call_of p) other by before)) places (all_by places other last)

  pub respects_push : (places : List Place) (place : Place) → RespectsOrder calls places → AllByRecursion (λ p. ¬ Precedes calls (call_of place) (call_of p)) places
      → RespectsOrder calls (places ++ place ∷ [])
  respects_push [] place respected fine = (tt, tt)
  respects_push (p ∷ places) place respected fine =
      (all_push (λ later. ¬ Precedes calls (call_of later) (call_of p)) places place respected.0 fine.0, respects_push places place respected.1 fine.1)

  respects_behind : (xs ys : List Place) → RespectsOrder calls (xs ++ ys) → RespectsOrder calls ys
  respects_behind [] ys respected = respected
  respects_behind (x ∷ xs) ys respected = respects_behind xs ys respected.1

  -- an early place breaks the order
  pub not_early : (places : List Place) (i j : ℕ) → IsEarlyAmong calls places i j → RespectsOrder calls places → ⊥
  not_early places i j early respected =
      let last = early.began_last in
      let stands : places ≡ last.ahead ++ (last.latest ∷ (last.behind ++ early.early ∷ early.behind)) =
      early.stands ∙ ap (λ ps. ps ++ early.early ∷ early.behind) last.stands ∙ append_assoc last.ahead (last.latest ∷ last.behind) (early.early ∷ early.behind) in
      let from_latest = respects_behind last.ahead (last.latest ∷ (last.behind ++ early.early ∷ early.behind)) (subst (RespectsOrder calls) stands respected) in
      let from_early = all_behind (λ later. ¬ Precedes calls (call_of later) (call_of last.latest)) last.behind (early.early ∷ early.behind) from_latest.0 in
      let same_j : call_of early.early ≡ j = early.named in
      let same_i : call_of last.latest ≡ i = last.named in
      from_early.0 (rw (same_j, same_i) early.precedes)

  pub not_first_early : (plan : List EraPlan) (i j : ℕ) → IsFirstEarly calls plan i j → EachEraRespectsOrder calls plan → ⊥
  not_first_early plan i j early each =
      let from_era = all_behind (λ era. RespectsOrder calls era.places) early.eras_ahead (early.era ∷ early.eras_behind) (subst (EachEraRespectsOrder calls) early.stands each) in
      not_early early.era.places i j early.among from_era.0

  -- one more place keeps what the loop keeps
  pub one_more : (places : List Place) (index : ℕ) (d : Place) (latest : Option ℕ) (number next : ℕ) → index < length places → number ≡ call_of (get_or places index d)
      → InOrderSoFar calls (take index places) latest → ((other : ℕ) → latest ≡ Some other → ¬ Precedes calls number other)
      → ((ps : List Place) (place : Place) → call_of place ≡ number → BeganLastIfAny calls ps latest → BeganLast calls (ps ++ place ∷ []) next)
      → InOrderSoFar calls (take (index + 1) places) (Some next)
  one_more places index d latest number next inside named so_far not_before takes =
      let place = get_or places index d in
      let front = take index places in
      let fine : AllByRecursion (λ p. ¬ Precedes calls number (call_of p)) front = none_preceded front latest number so_far.began_last not_before in
      let more : InOrderSoFar calls (front ++ place ∷ []) (Some next) = record {
        respected = respects_push front place so_far.respected (subst (λ n. AllByRecursion (λ p. ¬ Precedes calls n (call_of p)) front) named fine);
        began_last = takes front place (sym named) so_far.began_last;
      } in
      subst (λ ps. InOrderSoFar calls ps (Some next)) (sym (take_more places index d inside)) more

  -- the place at which the loop stops
  pub early_here : (places : List Place) (index : ℕ) (d : Place) (number other : ℕ) → index < length places → number ≡ call_of (get_or places index d)
      → InOrderSoFar calls (take index places) (Some other) → Precedes calls number other → IsEarlyAmong calls places other number
  early_here places index d number other inside named so_far before = record {
    ahead = take index places;
    early = get_or places index d;
    behind = drop (index + 1) places;
    stands = sym (take-append-drop index places) ∙ at_drop_more (λ ps. take index places ++ ps) places index d inside;
    named = sym named;
    first = so_far.respected;
    began_last = so_far.began_last;
    precedes = before;
  }

  -- what the era at which the loop over eras stops answers
  pub early_fault_here : (plan : List EraPlan) (index : ℕ) (era : EraPlan) (fault : OrderFault) → index < length plan → era ≡ get_or plan index era
      → EachEraRespectsOrder calls (take index plan) → IsEarlyFaultAmong calls era.places fault → IsEarlyFault calls plan fault
  early_fault_here plan index era (Early i j) inside is each early = record {
    eras_ahead = take index plan;
    era = era;
    eras_behind = drop (index + 1) plan;
    stands = sym (take-append-drop index plan) ∙ at_drop_more (λ eras. take index plan ++ eras) plan index era inside ∙ ap (λ e. take index plan ++ e ∷ drop (index + 1) plan) (sym is);
    first = each;
    among = early;
  }

  pub no_early_fault : (plan : List EraPlan) (fault : OrderFault) → IsEarlyFault calls plan fault → EachEraRespectsOrder calls plan → ⊥
  no_early_fault plan (Early i j) early each = not_first_early plan i j early each

-- the same, of the lists that the loop reads
pub fault_at : (calls : List RecordedCall) (plan : List EraPlan) (calls_read : List RecordedCall) (plan_read : List EraPlan) (places_read : List Place) (index : ℕ) (era : EraPlan) (fault : OrderFault)
    → calls_read ≡ calls → plan_read ≡ plan → places_read ≡ era.places → index < length plan_read → era ≡ get_or plan_read index era
    → EachEraRespectsOrder calls_read (take index plan_read) → IsEarlyFaultAmong calls_read places_read fault → IsEarlyFault calls plan fault
fault_at calls plan calls_read plan_read places_read index era fault same_calls same_plan same_places inside is each early =
    let among = subst (λ ps. IsEarlyFaultAmong calls_read ps fault) same_places early in
    let found = early_fault_here calls_read plan_read index era fault inside is each among in
    let by_calls = subst (λ cs. IsEarlyFault cs plan_read fault) same_calls found in
    subst (λ p. IsEarlyFault calls p fault) same_plan by_calls

-- the eras that were gone over are all
pub all_eras : (calls : List RecordedCall) (plan : List EraPlan) (calls_read : List RecordedCall) (plan_read : List EraPlan) (index : ℕ) → calls_read ≡ calls → plan_read ≡ plan
    → length plan_read ≤ index → EachEraRespectsOrder calls_read (take index plan_read) → EachEraRespectsOrder calls plan
all_eras calls plan calls_read plan_read index same_calls same_plan past each =
    let whole = subst (EachEraRespectsOrder calls_read) (take_all index plan_read past) each in
    let by_calls = subst (λ cs. EachEraRespectsOrder cs plan_read) same_calls whole in
    subst (EachEraRespectsOrder calls) same_plan by_calls
