-- The eras of a plan have the shape of eras where the plan has its shape, keeps to the order, and loses nothing stable.
use Rattle.std.proofs.Common.{◌≡◌, ◌≢◌, ◌⊎◌, ◌==◌, ◌&&◌, ◌||◌, inl, inr, ℕ, suc, ◌+◌, ◌<◌, ◌≤◌, nat_le, Bool, true, false, IsTrue, List, [], ◌∷◌, ◌++◌, length, take, drop, map, Option, Some, None, IfSome, unwrap_or, refl, sym, ap, subst, ◌∙◌, arith, append-nil}
use Rattle.std.specs.Prelude.{option_and_then}
use Rattle.std.specs.List.{AllByRecursion}
use Rattle.std.proofs.lemmas.Bool.{eqb-true, false≢true}
use Rattle.std.proofs.lemmas.List.{take-append-drop, map-append}
use Rattle.std.proofs.lemmas.List.Folds.{list_any-append}
use Rattle.nfs_history.specs.declared.recorded.RecordedCall.{RecordedCall}
use Rattle.nfs_history.specs.declared.knowing.KnownCalls.{KnownCalls}
use Rattle.nfs_history.specs.Precedence as precedence
use Rattle.nfs_history.specs.Precedence.{call_at}
use Rattle.certificate.specs.declared.plan.Place.{Place}
use Rattle.certificate.specs.declared.plan.EraPlan.{EraPlan}
use Rattle.certificate.specs.Plan.{call_of, cut_of}
use Rattle.order_check.specs.declared.places.OrderedPlace.{OrderedPlace}
use Rattle.order_check.specs.Places.{order_from, number_of, is_wanted, may_place, passes, is_of_era, is_placeable}
use Rattle.order_check.specs.Shape.{is_named, NameDifferentCalls}
use Rattle.order_check.specs.Order as order
use Rattle.tree_handles.specs.Binding.{Bindings}
use Rattle.cut_check.specs.Places.{era_at}
use Rattle.decision_core.specs.Times.{Precedes, RespectsOrder, IsAmong, IsOnce}
use Rattle.decision_core.specs.Eras.{PlanEra, NoneSaved, EraShape, PlanShape}
use Rattle.decision_core.proofs.Orders.{all_ahead, all_behind}
use Rattle.decision_law.specs.Times.{AreTimed, may_stand, is_of_call, era_ended, era_of_number, numbering_of, times_of}
use Rattle.decision_law.specs.NeverLost.{IsNeverLost, Hints, AreRight}
use Rattle.decision_law.specs.Plans.{cut_era, whole_era, eras_of_plan}
use Rattle.decision_law.proofs.Numbered.{passing, wanted_end, of_call, its_era}
use Rattle.decision_law.proofs.Placed.{is_call_number, stands_placed, wanted_call}
use Rattle.decision_law.proofs.Runs.{HasRun}
use Rattle.tree_nodes.proofs.Chains.{both_pass}

-- ---- places as numbers

abbrev pub at_era : ℕ → Place → OrderedPlace
at_era e place = record { era = e; place = place }

pub all_map : (P : OrderedPlace → Type 0) (e : ℕ) (places : List Place) → AllByRecursion P (map (at_era e) places) → AllByRecursion (λ place. P (at_era e place)) places
all_map P e [] all = tt
all_map P e (place ∷ places) all = (all.0, all_map P e places all.1)

pub all_numbers : (P : ℕ → Type 0) (places : List Place) → AllByRecursion (λ place. P (call_of place)) places → AllByRecursion P (map call_of places)
all_numbers P [] all = tt
all_numbers P (place ∷ places) all = (all.0, all_numbers P places all.1)

all_weaker : {X : Type 0} (P Q : X → Type 0) → ((x : X) → P x → Q x) → (xs : List X) → AllByRecursion P xs → AllByRecursion Q xs
all_weaker P Q so [] all = tt
all_weaker P Q so (x ∷ xs) all = (so x all.0, all_weaker P Q so xs all.1)

all_both : {X : Type 0} (P Q : X → Type 0) (xs : List X) → AllByRecursion P xs → AllByRecursion Q xs → AllByRecursion (λ x. P x × Q x) xs
all_both P Q [] first second = tt
all_both P Q (x ∷ xs) first second = ((first.0, second.0), all_both P Q xs first.1 second.1)

once_rest : (xs ys : List OrderedPlace) → NameDifferentCalls (xs ++ ys) → NameDifferentCalls ys
once_rest [] ys once = once
once_rest (x ∷ xs) ys once = once_rest xs ys once.1

once_places : (e : ℕ) (places : List Place) (rest : List OrderedPlace) → NameDifferentCalls (map (at_era e) places ++ rest) → IsOnce (map call_of places)
once_places e [] rest once = tt
once_places e (place ∷ places) rest once = (
  all_numbers (λ m. m ≢ call_of place) places
      (all_map (λ q. number_of q ≢ call_of place) e places (all_ahead (λ q. number_of q ≢ call_of place) (map (at_era e) places) rest once.0)),
  once_places e places rest once.1,
)

-- ---- named calls

or_cases : (a b : Bool) → (a || b) ≡ true → (a ≡ true) ⊎ (b ≡ true)
or_cases true b is = inl refl
or_cases false b is = inr is

-- of a call that is named some place holds what all hold
named_place : (P : OrderedPlace → Type 0) (places : List OrderedPlace) (n : ℕ) → AllByRecursion P places → is_named places n ≡ true → (p : OrderedPlace) × P p × (number_of p ≡ n)
named_place P [] n all named = absurd cc
named_place P (p ∷ places) n all named = elim (or_cases (number_of p == n) (is_named places n) named) [
  | inl here ↦ (p, all.0, eqb-true (number_of p) n here)
  | inr later ↦ named_place P places n all.1 later
]

pub named_among : (e : ℕ) (places : List Place) (n : ℕ) → is_named (map (at_era e) places) n ≡ true → IsAmong (map call_of places) n
named_among e [] n named = absurd cc
named_among e (place ∷ places) n named = elim (or_cases (call_of place == n) (is_named (map (at_era e) places) n) named) [
  | inl here ↦ inl (eqb-true (call_of place) n here)
  | inr later ↦ inr (named_among e places n later)
]

pub named_parts : (xs ys : List OrderedPlace) (n : ℕ) → is_named (xs ++ ys) n ≡ true → (is_named xs n ≡ true) ⊎ (is_named ys n ≡ true)
named_parts xs ys n named = or_cases (is_named xs n) (is_named ys n) (sym (list_any-append (λ p. number_of p == n) xs ys) ∙ named)

among_cases : (xs ys : List ℕ) (n : ℕ) → IsAmong (xs ++ ys) n → IsAmong xs n ⊎ IsAmong ys n
among_cases [] ys n among = inr among
among_cases (x ∷ xs) ys n (inl same) = inl (inl same)
among_cases (x ∷ xs) ys n (inr among) = elim (among_cases xs ys n among) [ inl ahead ↦ inl (inr ahead) | inr behind ↦ inr behind ]

-- the place of a call that stands among those of places
pub record PlaceOf (places : List Place) (n : ℕ) : Type 0 where
  pub ahead : List Place
  pub place : Place
  pub behind : List Place
  pub stands : places ≡ ahead ++ place ∷ behind
  pub names : call_of place ≡ n

pub place_of : (places : List Place) (n : ℕ) → IsAmong (map call_of places) n → PlaceOf places n
place_of [] n among = absurd among
place_of (place ∷ places) n (inl same) = record { ahead = []; place = place; behind = places; stands = refl; names = same }
place_of (place ∷ places) n (inr among) =
    let p = place_of places n among in
    record { ahead = place ∷ p.ahead; place = p.place; behind = p.behind; stands = ap (λ l. place ∷ l) p.stands; names = p.names }

-- the places of later eras
later_eras : (e : ℕ) (eras : List EraPlan) → AllByRecursion (λ p. e ≤ p.era) (order_from e eras)
later_eras e [] = tt
later_eras e (era ∷ eras) = joined (λ p. e ≤ p.era) (map (at_era e) era.places) (order_from (e + 1) eras) (here e era.places)
    (all_weaker (λ p. e + 1 ≤ p.era) (λ p. e ≤ p.era) (λ p later. omega (arith, later)) (order_from (e + 1) eras) (later_eras (e + 1) eras)) where
      joined : (P : OrderedPlace → Type 0) (xs ys : List OrderedPlace) → AllByRecursion P xs → AllByRecursion P ys → AllByRecursion P (xs ++ ys)
      joined P [] ys first second = second
      joined P (x ∷ xs) ys first second = (first.0, joined P xs ys first.1 second)

      here : (e : ℕ) (places : List Place) → AllByRecursion (λ p. e ≤ p.era) (map (at_era e) places)
      here e [] = tt
      here e (place ∷ places) = (omega arith, here e places)

-- what passes two tests
passes_both : (t u : RecordedCall → Bool) (o : Option RecordedCall) → passes t o ≡ true → passes u o ≡ true → (recorded : RecordedCall) × (o ≡ Some recorded) × (t recorded ≡ true) × (u recorded ≡ true)
passes_both t u None first second = absurd cc
passes_both t u (Some recorded) first second = (recorded, refl, first, second)

same_era : (a e : ℕ) → (nat_le a e && nat_le e a) ≡ true → a ≡ e
same_era a e is = let p = both_pass (nat_le a e) (nat_le e a) is in grind (arith, p)

cut_fits : (o : Option ℕ) (many : ℕ) → IfSome o (λ kept. kept ≤ many) → unwrap_or o many ≤ many
cut_fits None many fits = omega arith
cut_fits (Some kept) many fits = fits

-- the kept and the lost places of an era are its places
pub numbers_parted : (cut : ℕ) (places : List Place) → map call_of (take cut places) ++ map call_of (drop cut places) ≡ map call_of places
numbers_parted cut places = sym (map-append call_of (take cut places) (drop cut places)) ∙ ap (map call_of) (take-append-drop cut places)

module _ (known : KnownCalls) (start : ℕ → ℕ) (timed : AreTimed known start) (binds : Bindings) where
  -- what is asked of a plan, of these eras, the first of which has this number
  pub record Facts (e : ℕ) (eras : List EraPlan) : Type 0 where
    pub of_their_eras : AllByRecursion (λ p. IsTrue (is_of_era known.calls p)) (order_from e eras)
    pub right : AllByRecursion (λ p. IsTrue (is_placeable known.calls p)) (order_from e eras)
    pub once : NameDifferentCalls (order_from e eras)
    pub fits : AllByRecursion (λ era. IfSome era.cut (λ kept. kept ≤ length era.places)) eras
    pub complete : (n : ℕ) (recorded : RecordedCall) → call_at known.calls n ≡ Some recorded → is_wanted recorded ≡ true → e ≤ recorded.era → is_named (order_from e eras) n ≡ true
    pub respects : order.EachEraRespectsOrder known.calls eras
    pub ran : AllByRecursion (λ era. AllByRecursion (HasRun known binds) era.places) eras

  -- a placed call is there, of its era, and may be placed so
  abbrev pub IsPlaced : ℕ → Place → Type 0
  IsPlaced e place = (recorded : RecordedCall) × (call_at known.calls (call_of place) ≡ Some recorded) × (recorded.era ≡ e) × (may_place place recorded ≡ true)

  placed_at : (e : ℕ) (place : Place) → IsTrue (is_of_era known.calls (at_era e place)) → IsTrue (is_placeable known.calls (at_era e place)) → IsPlaced e place
  placed_at e place of_era may =
      let p = passes_both (λ call. nat_le call.era e && nat_le e call.era) (may_place place) (call_at known.calls (call_of place)) of_era may in
      (p.0, p.1, same_era p.0.era e p.2, p.3)

  pub all_placed : (e : ℕ) (era : EraPlan) (eras : List EraPlan) → Facts e (era ∷ eras) → AllByRecursion (IsPlaced e) era.places
  all_placed e era eras facts =
      all_weaker (λ place. IsTrue (is_of_era known.calls (at_era e place)) × IsTrue (is_placeable known.calls (at_era e place))) (IsPlaced e) (λ place p. placed_at e place p.0 p.1) era.places
      (all_both (λ place. IsTrue (is_of_era known.calls (at_era e place))) (λ place. IsTrue (is_placeable known.calls (at_era e place))) era.places
      (all_map (λ p. IsTrue (is_of_era known.calls p)) e era.places (all_ahead (λ p. IsTrue (is_of_era known.calls p)) (map (at_era e) era.places) (order_from (e + 1) eras) facts.of_their_eras))
      (all_map (λ p. IsTrue (is_placeable known.calls p)) e era.places (all_ahead (λ p. IsTrue (is_placeable known.calls p)) (map (at_era e) era.places) (order_from (e + 1) eras) facts.right)))

  -- a call of the era
  abbrev IsReal : ℕ → ℕ → Type 0
  IsReal e n = IsTrue ((times_of known start).is_call n) × (era_of_number known n ≡ e) × IsTrue (is_of_call known n)

  real : (e : ℕ) (place : Place) → IsPlaced e place → IsReal e (call_of place)
  real e place (recorded, stands, era, may) =
      let is = is_call_number known (call_of place) recorded stands in (
        of_call known start (call_of place) (passes may_stand (call_at known.calls (call_of place))) (nat_le (era_ended known (call_of place)) known.eras) is
            ∙ ap (passes may_stand) stands ∙ stands_placed place recorded may,
        its_era known start timed (call_of place) is recorded stands ∙ era,
        is,
      )

  -- what ends so by the times ends so by the calls
  not_before : (m n : ℕ) → is_of_call known m ≡ true → is_of_call known n ≡ true → ¬ precedence.Precedes known.calls m n → ¬ Precedes (times_of known start) m n
  not_before m n is_m is_n not before =
      let ends = wanted_end (call_at known.calls m) before.0 (sym (of_call known start m (option_and_then _ (call_at known.calls m)) _ is_m) ∙ before.1) in
      not (before.0, ap (option_and_then (λ call. call.«end»)) ends.1 ∙ ends.3, subst (λ b. before.0 < b) (of_call known start n (precedence.begin_of known.calls n) _ is_n) before.2)

  respects_so : (e : ℕ) (places : List Place) → AllByRecursion (IsPlaced e) places → order.RespectsOrder known.calls places → RespectsOrder (times_of known start) (map call_of places)
  respects_so e [] placed respects = tt
  respects_so e (place ∷ places) placed respects = (
    all_numbers (λ m. ¬ Precedes (times_of known start) m (call_of place)) places
        (all_weaker (λ later. IsPlaced e later × ¬ precedence.Precedes known.calls (call_of later) (call_of place)) (λ later. ¬ Precedes (times_of known start) (call_of later) (call_of place))
        (λ later p. not_before (call_of later) (call_of place) (real e later p.0).2 (real e place placed.0).2 p.1) places
        (all_both (IsPlaced e) (λ later. ¬ precedence.Precedes known.calls (call_of later) (call_of place)) places placed.1 respects.0)),
    respects_so e places placed.1 respects.1,
  )

  -- a call of a later era isn't of this one
  not_later : (e : ℕ) (eras : List EraPlan) (n : ℕ) (recorded : RecordedCall) → AllByRecursion (λ p. IsTrue (is_of_era known.calls p)) (order_from (e + 1) eras)
      → call_at known.calls n ≡ Some recorded → recorded.era ≡ e → is_named (order_from (e + 1) eras) n ≡ true → ⊥
  not_later e eras n recorded of_their_eras stands era named =
      let p = named_place (λ q. IsTrue (is_of_era known.calls q) × (e + 1 ≤ q.era)) (order_from (e + 1) eras) n
      (all_both (λ q. IsTrue (is_of_era known.calls q)) (λ q. e + 1 ≤ q.era) (order_from (e + 1) eras) of_their_eras (later_eras (e + 1) eras)) named in
      let c = passing (λ call. nat_le call.era p.0.era && nat_le p.0.era call.era) (call_at known.calls (number_of p.0)) p.1.0 in
      let same : Some c.0 ≡ Some recorded = sym c.1 ∙ (ap (call_at known.calls) p.2 ∙ stands) in
      let eras_same : c.0.era ≡ recorded.era = era_same c.0 recorded same in
      let at_place = same_era c.0.era p.0.era c.2 in
      omega (arith, eras_same, at_place, era, p.1.1) where
        era_same : (a b : RecordedCall) → Some a ≡ Some b → a.era ≡ b.era
        era_same a b same = let is : a ≡ b = cc in ap (λ r. r.era) is

  -- a wanted call of the first era has a place there
  pub named_here : (e : ℕ) (era : EraPlan) (eras : List EraPlan) → Facts e (era ∷ eras) → (n : ℕ) (recorded : RecordedCall) → call_at known.calls n ≡ Some recorded → is_wanted recorded ≡ true
      → recorded.era ≡ e → IsAmong (map call_of era.places) n
  named_here e era eras facts n recorded stands wanted is =
      elim (named_parts (map (at_era e) era.places) (order_from (e + 1) eras) n (facts.complete n recorded stands wanted (omega (arith, is)))) [
        | inl here ↦ named_among e era.places n here
        | inr later ↦ absurd (not_later e eras n recorded (all_behind (λ p. IsTrue (is_of_era known.calls p)) (map (at_era e) era.places) (order_from (e + 1) eras) facts.of_their_eras) stands is later)
      ]

  -- the facts of the eras behind the first
  pub facts_behind : (e : ℕ) (era : EraPlan) (eras : List EraPlan) → Facts e (era ∷ eras) → Facts (e + 1) eras
  facts_behind e era eras facts = record {
    of_their_eras = all_behind (λ p. IsTrue (is_of_era known.calls p)) (map (at_era e) era.places) (order_from (e + 1) eras) facts.of_their_eras;
    right = all_behind (λ p. IsTrue (is_placeable known.calls p)) (map (at_era e) era.places) (order_from (e + 1) eras) facts.right;
    once = once_rest (map (at_era e) era.places) (order_from (e + 1) eras) facts.once;
    fits = facts.fits.1;
    complete = λ n recorded stands wanted later.
        elim (named_parts (map (at_era e) era.places) (order_from (e + 1) eras) n (facts.complete n recorded stands wanted (omega (arith, later)))) [
          | inl here ↦ absurd (earlier n recorded stands later here)
          | inr behind ↦ behind
        ];
    respects = facts.respects.1;
    ran = facts.ran.1;
  } where
    earlier : (n : ℕ) (recorded : RecordedCall) → call_at known.calls n ≡ Some recorded → e + 1 ≤ recorded.era → is_named (map (at_era e) era.places) n ≡ true → ⊥
    earlier n recorded stands later named =
        let p = place_of era.places n (named_among e era.places n named) in
        let at : IsPlaced e p.place = (all_behind (IsPlaced e) p.ahead (p.place ∷ p.behind) (subst (AllByRecursion (IsPlaced e)) p.stands (all_placed e era eras facts))).0 in
        let same : Some at.0 ≡ Some recorded = sym at.1 ∙ (ap (call_at known.calls) p.names ∙ stands) in
        let is : at.0 ≡ recorded = cc in
        let eras_same : at.0.era ≡ recorded.era = ap (λ r. r.era) is in
        let of_era = at.2 in
        omega (arith, eras_same, of_era, later)

  -- what is known of one era
  pub record EraFacts (e : ℕ) (era : EraPlan) : Type 0 where
    pub placed : AllByRecursion (IsPlaced e) era.places
    pub respects : order.RespectsOrder known.calls era.places
    pub ran : AllByRecursion (HasRun known binds) era.places
    pub fits : cut_of era ≤ length era.places
    pub named : (n : ℕ) (recorded : RecordedCall) → call_at known.calls n ≡ Some recorded → is_wanted recorded ≡ true → recorded.era ≡ e → IsAmong (map call_of era.places) n

  pub first_facts : (e : ℕ) (era : EraPlan) (eras : List EraPlan) → Facts e (era ∷ eras) → EraFacts e era
  first_facts e era eras facts = record {
    placed = all_placed e era eras facts;
    respects = facts.respects.0;
    ran = facts.ran.0;
    fits = cut_fits era.cut (length era.places) facts.fits.0;
    named = named_here e era eras facts;
  }

  -- the era of a wanted call
  pub record EraOf (e : ℕ) (eras : List EraPlan) (n : ℕ) (recorded : RecordedCall) : Type 0 where
    pub further : ℕ
    pub is_of : recorded.era ≡ e + further
    pub era : EraPlan
    pub there : era_at eras (suc further) ≡ Some era
    pub placed : AllByRecursion (IsPlaced recorded.era) era.places
    pub among : IsAmong (map call_of era.places) n

  pub era_of_call : (e : ℕ) (eras : List EraPlan) → Facts e eras → (n : ℕ) (recorded : RecordedCall) → call_at known.calls n ≡ Some recorded → is_wanted recorded ≡ true → e ≤ recorded.era → EraOf e eras n recorded
  era_of_call e [] facts n recorded stands wanted from = absurd (false≢true (facts.complete n recorded stands wanted from))
  era_of_call e (era ∷ eras) facts n recorded stands wanted from = elim (either e recorded.era from) [
    | inl same ↦ record {
      further = 0;
      is_of = omega (arith, same);
      era = era;
      there = refl;
      placed = subst (λ k. AllByRecursion (IsPlaced k) era.places) same (all_placed e era eras facts);
      among = named_here e era eras facts n recorded stands wanted (sym same);
    }
    | inr later ↦
        let o = era_of_call (e + 1) eras (facts_behind e era eras facts) n recorded stands wanted later in
        record { further = suc o.further; is_of = let h = o.is_of in omega (arith, h); era = o.era; there = o.there; placed = o.placed; among = o.among }
  ] where
    either : (e f : ℕ) → e ≤ f → (e ≡ f) ⊎ (e + 1 ≤ f)
    either e f from = grind (arith, from)

  -- a wanted call has an era of the plan's
  pub of_some_era : (eras : List EraPlan) → AllByRecursion (λ p. IsTrue (is_of_era known.calls p)) (order_from 1 eras) → (n : ℕ) (recorded : RecordedCall) → call_at known.calls n ≡ Some recorded
      → is_named (order_from 1 eras) n ≡ true → 1 ≤ recorded.era
  of_some_era eras of_their_eras n recorded stands named =
      let p = named_place (λ q. IsTrue (is_of_era known.calls q) × (1 ≤ q.era)) (order_from 1 eras) n
      (all_both (λ q. IsTrue (is_of_era known.calls q)) (λ q. 1 ≤ q.era) (order_from 1 eras) of_their_eras (later_eras 1 eras)) named in
      let c = passing (λ call. nat_le call.era p.0.era && nat_le p.0.era call.era) (call_at known.calls (number_of p.0)) p.1.0 in
      let same : Some c.0 ≡ Some recorded = sym c.1 ∙ (ap (call_at known.calls) p.2 ∙ stands) in
      let is : c.0 ≡ recorded = cc in
      let at_place = same_era c.0.era p.0.era c.2 in
      let eras_same : c.0.era ≡ recorded.era = ap (λ r. r.era) is in
      omega (arith, eras_same, at_place, p.1.1)

  -- an era's shape, however its places are parted
  shape_of : (hints : Hints) (e : ℕ) (era : EraPlan) (eras : List EraPlan) → Facts e (era ∷ eras) → (parts : PlanEra) → parts.kept ++ parts.lost ≡ map call_of era.places
      → ((n : ℕ) → IsTrue (hints.never_lost n) → era_of_number known n ≡ e → IsAmong parts.kept n) → NoneSaved (numbering_of known hints) parts.lost → EraShape (times_of known start) (numbering_of known hints) e parts
  shape_of hints e era eras facts parts is stable unsaved =
      let placed = all_placed e era eras facts in
      record {
        calls = subst (AllByRecursion (IsReal e)) (sym is) (all_numbers (IsReal e) era.places (all_weaker (IsPlaced e) (λ place. IsReal e (call_of place)) (real e) era.places placed));
        once = subst IsOnce (sym is) (once_places e era.places (order_from (e + 1) eras) facts.once);
        respects = subst (RespectsOrder (times_of known start)) (sym is) (respects_so e era.places placed facts.respects.0);
        stable = stable;
        unsaved = unsaved;
      }

  module _ (hints : Hints) (told : AreRight known hints) where
    -- a call that is never lost has a place in its era
    place_here : (e : ℕ) (era : EraPlan) → EraFacts e era → (n : ℕ) → IsTrue (hints.never_lost n) → era_of_number known n ≡ e
        → (recorded : RecordedCall) × IsNeverLost known n recorded × (recorded.era ≡ e) × IsAmong (map call_of era.places) n
    place_here e era facts n never is =
        let call = told.never_lost n never in
        let w = wanted_call known n call.0 call.1 in
        let of_era : call.0.era ≡ e = sym (its_era known start timed n (is_call_number known n call.0 w.0) call.0 w.0) ∙ is in
        (call.0, call.1, of_era, facts.named n call.0 w.0 w.1 of_era)

    -- no such call is past the cut of an era that a crash ended, and none there is saved
    pub record AreKept (whole : List EraPlan) : Type 0 where
      pub never : (e : ℕ) (era : EraPlan) → era_at whole e ≡ Some era → e < length whole → EraFacts e era
          → (n : ℕ) (recorded : RecordedCall) → IsNeverLost known n recorded → recorded.era ≡ e → ¬ IsAmong (map call_of (drop (cut_of era) era.places)) n
      pub unsaved : (e : ℕ) (era : EraPlan) → era_at whole e ≡ Some era → e < length whole → EraFacts e era → NoneSaved (numbering_of known hints) (map call_of (drop (cut_of era) era.places))

    module _ (whole : List EraPlan) (kept : AreKept whole) where
      -- a call that is never lost isn't past the cut
      kept_here : (e : ℕ) (era : EraPlan) → EraFacts e era → era_at whole e ≡ Some era → e < length whole
          → (n : ℕ) → IsTrue (hints.never_lost n) → era_of_number known n ≡ e → IsAmong (map call_of (take (cut_of era) era.places)) n
      kept_here e era facts at less n never is =
          let p = place_here e era facts n never is in
          elim (among_cases (map call_of (take (cut_of era) era.places)) (map call_of (drop (cut_of era) era.places)) n
          (subst (λ l. IsAmong l n) (sym (numbers_parted (cut_of era) era.places)) p.3)) [
            | inl ahead ↦ ahead
            | inr lost ↦ absurd (kept.never e era at less facts n p.0 p.1 p.2 lost)
          ]

      -- these eras are the last ones of the plan
      abbrev pub AreLast : ℕ → List EraPlan → Type 0
      AreLast e eras = (e + length eras ≡ length whole + 1) × ((k : ℕ) (era : EraPlan) → era_at eras (suc k) ≡ Some era → era_at whole (e + k) ≡ Some era)

      last_behind : (e : ℕ) (era : EraPlan) (eras : List EraPlan) → AreLast e (era ∷ eras) → AreLast (e + 1) eras
      last_behind e era eras last = (
        (let h = last.0 in omega (arith, h)),
        (λ k other at. let same : e + suc k ≡ e + 1 + k = omega arith in subst (λ j. era_at whole j ≡ Some other) same (last.1 (suc k) other at)),
      )

      first_last : (e : ℕ) (era : EraPlan) (eras : List EraPlan) → AreLast e (era ∷ eras) → era_at whole e ≡ Some era
      first_last e era eras last = let same : e + 0 ≡ e = omega arith in subst (λ j. era_at whole j ≡ Some era) same (last.1 0 era refl)

      pub plan_shape : (e : ℕ) (eras : List EraPlan) → Facts e eras → AreLast e eras → PlanShape (times_of known start) (numbering_of known hints) e (eras_of_plan eras)
      plan_shape e [] facts last = tt
      plan_shape e (era ∷ []) facts last = (
        shape_of hints e era [] facts (whole_era era) (append-nil (map call_of era.places)) (λ n never is. (place_here e era (first_facts e era [] facts) n never is).3) tt,
        tt,
      )
      plan_shape e (era ∷ following ∷ eras) facts last = (
        shape_of hints e era (following ∷ eras) facts (cut_era era) (numbers_parted (cut_of era) era.places)
            (kept_here e era (first_facts e era (following ∷ eras) facts) (first_last e era (following ∷ eras) last) (let h = last.0 in omega (arith, h)))
            (kept.unsaved e era (first_last e era (following ∷ eras) last) (let h = last.0 in omega (arith, h)) (first_facts e era (following ∷ eras) facts)),
        plan_shape (e + 1) (following ∷ eras) (facts_behind e era (following ∷ eras) facts) (last_behind e era (following ∷ eras) last),
      )
