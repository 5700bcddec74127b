-- Where a plan names no call twice, its run stops at the place that is found by the call's number.
use Rattle.std.proofs.Common.{◌≡◌, ◌≢◌, ℕ, ◌+◌, ◌≤◌, nat_le, ◌&&◌, Bool, true, false, IsTrue, List, [], ◌∷◌, ◌++◌, length, map, Option, Some, None, option_map, refl, sym, ap, ◌∙◌, subst, append_assoc, arith}
use Rattle.std.specs.Prelude.{IsSome, option_and_then}
use Rattle.std.specs.List.{AllByRecursion, filter_map, cons_option}
use Rattle.std.proofs.lemmas.List.{append_cancel_left, map-append}
use Rattle.nfs3_types.specs.declared.calls.NfsCall.{NfsCall}
use Rattle.nfs3_types.specs.declared.replies.Outcome.{Outcome}
use Rattle.nfs_history.specs.declared.recorded.RecordedCall.{RecordedCall}
use Rattle.certificate.specs.declared.plan.Place.{Place}
use Rattle.certificate.specs.declared.plan.EraPlan.{EraPlan}
use Rattle.certificate.specs.Plan.{call_of}
use Rattle.order_check.specs.declared.places.OrderedPlace.{OrderedPlace}
use Rattle.order_check.specs.Places.{order_from, number_of, passes, is_of_era}
use Rattle.order_check.specs.Shape.{NameDifferentCalls}
use Rattle.replay_law.specs.Run.{Era, TakenStep, state_after, kept_steps}
use Rattle.replay_law.proofs.Crashes.{from_base}
use Rattle.tree_nodes.specs.Tree.{Tree}
use Rattle.witness_check.specs.Run.{step_at, steps_of, era_of}
use Rattle.witness_check.specs.Stop.{IsStopInEras}
use Rattle.witness_check.proofs.Steps.{numbered}
use Rattle.nfs_history.specs.Precedence.{call_at}
use Rattle.fault_reasons.specs.Reason.{IsSpot, steps_behind}
use Rattle.fault_reasons.specs.Running.{IsStuckAt}
use Rattle.fault_reasons.specs.declared.explaining.Spot.{Spot}

-- ---- lists in parts

-- the list has this item behind that front
record IsParted {A B : Type 0} (f : A → Option B) (xs : List A) (front : List B) (y : B) : Type 0 where
  ahead : List A
  at : A
  behind : List A
  parts : xs ≡ ahead ++ at ∷ behind
  front_is : filter_map f ahead ≡ front
  is : f at ≡ Some y

module _ {A B : Type 0} (f : A → Option B) where
  part_here : (x : A) (xs : List A) (front back : List B) (y z : B) → f x ≡ Some z
      → ((front back : List B) → filter_map f xs ≡ front ++ y ∷ back → IsParted f xs front y) → z ∷ filter_map f xs ≡ front ++ y ∷ back → IsParted f (x ∷ xs) front y
  part_here x xs [] back y z some later e =
      let same : z ≡ y = cc in record { ahead = []; at = x; behind = xs; parts = refl; front_is = refl; is = some ∙ ap Some same }
  part_here x xs (w ∷ front) back y z some later e =
      let same : z ≡ w = cc in
      let rest : filter_map f xs ≡ front ++ y ∷ back = cc in
      let p = later front back rest in
      record {
        ahead = x ∷ p.ahead;
        at = p.at;
        behind = p.behind;
        parts = ap (λ ys. x ∷ ys) p.parts;
        front_is = ap (λ o. cons_option o (filter_map f p.ahead)) some ∙ (λ i. same i ∷ p.front_is i);
        is = p.is;
      }

  part_next : (x : A) (xs : List A) (front back : List B) (y : B) (o : Option B) → f x ≡ o
      → ((front back : List B) → filter_map f xs ≡ front ++ y ∷ back → IsParted f xs front y) → cons_option o (filter_map f xs) ≡ front ++ y ∷ back → IsParted f (x ∷ xs) front y
  part_next x xs front back y None none later e =
      let p = later front back e in
      record {
        ahead = x ∷ p.ahead;
        at = p.at;
        behind = p.behind;
        parts = ap (λ ys. x ∷ ys) p.parts;
        front_is = ap (λ o. cons_option o (filter_map f p.ahead)) none ∙ p.front_is;
        is = p.is;
      }
  part_next x xs front back y (Some z) some later e = part_here x xs front back y z some later e

  parted : (xs : List A) (front back : List B) (y : B) → filter_map f xs ≡ front ++ y ∷ back → IsParted f xs front y
  parted [] [] back y e = absurd (cc)
  parted [] (z ∷ front) back y e = absurd (cc)
  parted (x ∷ xs) front back y e = part_next x xs front back y (f x) refl (λ front back e. parted xs front back y e) e

-- the same of a list whose items all give one
record IsMapped {A B : Type 0} (g : A → B) (xs : List A) (front : List B) (y : B) : Type 0 where
  ahead : List A
  at : A
  behind : List A
  parts : xs ≡ ahead ++ at ∷ behind
  front_is : map g ahead ≡ front
  is : g at ≡ y

mapped : {A B : Type 0} (g : A → B) (xs : List A) (front back : List B) (y : B) → map g xs ≡ front ++ y ∷ back → IsMapped g xs front y
mapped g [] [] back y e = absurd (cc)
mapped g [] (z ∷ front) back y e = absurd (cc)
mapped g (x ∷ xs) [] back y e = record { ahead = []; at = x; behind = xs; parts = refl; front_is = refl; is = cc }
mapped g (x ∷ xs) (w ∷ front) back y e =
    let same : g x ≡ w = cc in
    let rest : map g xs ≡ front ++ y ∷ back = cc in
    let p = mapped g xs front back y rest in
    record {
      ahead = x ∷ p.ahead;
      at = p.at;
      behind = p.behind;
      parts = ap (λ ys. x ∷ ys) p.parts;
      front_is = λ i. same i ∷ p.front_is i;
      is = p.is;
    }

-- of two fronts that are as long, the same is left
same_long : {A : Type 0} (a b c d : List A) (x y : A) → length a ≡ length b → a ++ x ∷ c ≡ b ++ y ∷ d → a ≡ b
same_long [] [] c d x y long e = refl
same_long [] (z ∷ b) c d x y long e = absurd (omega (arith, long))
same_long (z ∷ a) [] c d x y long e = absurd (omega (arith, long))
same_long (z ∷ a) (w ∷ b) c d x y long e =
    let same : z ≡ w = cc in
    let rest : a ++ x ∷ c ≡ b ++ y ∷ d = cc in
    let less : length a ≡ length b = omega (arith, long) in
    (λ i. same i ∷ same_long a b c d x y less rest i)

-- ---- places that name no call twice

-- a place further back names another call
another : (n : ℕ) (order behind : List OrderedPlace) (p : OrderedPlace) → AllByRecursion (λ q. number_of q ≢ n) (order ++ p ∷ behind) → number_of p ≢ n
another n [] behind p all = all.0
another n (q ∷ order) behind p all = another n order behind p all.1

-- what stands ahead of the place of a call is one list
one_front : (front other : List OrderedPlace) (x y : OrderedPlace) (back behind : List OrderedPlace) → NameDifferentCalls (front ++ x ∷ back) → front ++ x ∷ back ≡ other ++ y ∷ behind
    → number_of x ≡ number_of y → (front ≡ other) × (x ≡ y)
one_front [] [] x y back behind once e same = (refl, cc)
one_front [] (z ∷ other) x y back behind once e same =
    let rest : back ≡ other ++ y ∷ behind = cc in
    absurd (another (number_of x) other behind y (subst (λ (ps : List OrderedPlace). AllByRecursion (λ q. number_of q ≢ number_of x) ps) rest once.0) (sym same))
one_front (z ∷ front) [] x y back behind once e same =
    let here : z ≡ y = cc in
    absurd (another (number_of z) front back x once.0 (same ∙ sym (ap number_of here)))
one_front (z ∷ front) (w ∷ other) x y back behind once e same =
    let here : z ≡ w = cc in
    let rest : front ++ x ∷ back ≡ other ++ y ∷ behind = cc in
    let more = one_front front other x y back behind once.1 rest same in
    ((λ i. here i ∷ more.0 i), more.1)

abbrev ordered : ℕ → Place → OrderedPlace
ordered e place = record { era = e; place = place }

-- a place of an era, in the order of all
record InOrder (e : ℕ) (eras ahead : List EraPlan) (front : List Place) (place : Place) : Type 0 where
  era : ℕ
  behind : List OrderedPlace
  is : era ≡ e + length ahead
  order : order_from e eras ≡ (order_from e ahead ++ map (ordered era) front) ++ ordered era place ∷ behind

in_order : (e : ℕ) (ahead behind : List EraPlan) (era : EraPlan) (front back : List Place) (place : Place) → era.places ≡ front ++ place ∷ back
    → InOrder e (ahead ++ era ∷ behind) ahead front place
in_order e [] behind era front back place places = record {
  era = e;
  behind = map (ordered e) back ++ order_from (e + 1) behind;
  is = omega arith;
  order = ap (λ ps. map (ordered e) ps ++ order_from (e + 1) behind) places ∙ ap (λ ps. ps ++ order_from (e + 1) behind) (map-append (ordered e) front (place ∷ back))
      ∙ append_assoc (map (ordered e) front) (ordered e place ∷ map (ordered e) back) (order_from (e + 1) behind);
}
in_order e (first ∷ ahead) behind era front back place places =
    let p = in_order (e + 1) ahead behind era front back place places in
    let own = map (ordered e) first.places in
    let later = order_from (e + 1) ahead in
    record {
      era = p.era;
      behind = p.behind;
      is = omega (arith, p.is);
      order = ap (λ ps. own ++ ps) p.order ∙ sym (append_assoc own (later ++ map (ordered p.era) front) (ordered p.era place ∷ p.behind))
          ∙ ap (λ ps. ps ++ ordered p.era place ∷ p.behind) (sym (append_assoc own later (map (ordered p.era) front)));
    }

unordered : (e : ℕ) (places : List Place) → map (λ p. p.place) (map (ordered e) places) ≡ places
unordered e [] = refl
unordered e (place ∷ places) = ap (λ ps. place ∷ ps) (unordered e places)

-- two spots of one call are one
one_spot : (eras one other : List EraPlan) (front ahead : List Place) (x y : Place) → NameDifferentCalls (order_from 1 eras) → IsSpot eras one front x → IsSpot eras other ahead y
    → call_of x ≡ call_of y → (one ≡ other) × (front ≡ ahead) × (x ≡ y)
one_spot eras one other front ahead x y once s t same =
    let eras_of_one = subst (λ (es : List EraPlan). InOrder 1 es one front x) (sym s.eras_are) (in_order 1 one s.behind s.era front s.back x s.places_are) in
    let eras_of_other = subst (λ (es : List EraPlan). InOrder 1 es other ahead y) (sym t.eras_are) (in_order 1 other t.behind t.era ahead t.back y t.places_are) in
    joined eras_of_one eras_of_other
  where
    joined : InOrder 1 eras one front x → InOrder 1 eras other ahead y → (one ≡ other) × (front ≡ ahead) × (x ≡ y)
    joined p q =
        let fronts = one_front (order_from 1 one ++ map (ordered p.era) front) (order_from 1 other ++ map (ordered q.era) ahead) (ordered p.era x) (ordered q.era y) p.behind q.behind
        (subst NameDifferentCalls p.order once) (sym p.order ∙ q.order) same in
        let era : p.era ≡ q.era = ap (λ (o : OrderedPlace). o.era) fronts.1 in
        let long : length one ≡ length other = omega (arith, era, p.is, q.is) in
        let eras_are : one ≡ other = same_long one other s.behind t.behind s.era t.era long (sym s.eras_are ∙ t.eras_are) in
        let own : map (ordered p.era) front ≡ map (ordered q.era) ahead =
        append_cancel_left (order_from 1 other) (map (ordered p.era) front) (map (ordered q.era) ahead)
        (subst (λ (es : List EraPlan). order_from 1 es ++ map (ordered p.era) front ≡ order_from 1 other ++ map (ordered q.era) ahead) eras_are fronts.0) in
        (eras_are, sym (unordered p.era front) ∙ ap (map (λ (o : OrderedPlace). o.place)) own ∙ unordered q.era ahead, ap (λ (o : OrderedPlace). o.place) fronts.1)

-- ---- where a run stops

-- a place of the call at which the run stops, and the tree there
pub record IsStopAt (next : Tree → ℕ → NfsCall → Outcome → Option Tree) (base tree : Tree) (calls : List RecordedCall) (eras : List EraPlan) (number : ℕ) : Type 0 where
  pub ahead : List EraPlan
  pub front : List Place
  pub place : Place
  pub spot : IsSpot eras ahead front place
  pub named : call_of place ≡ number
  pub reached : state_after next base (steps_behind calls ahead front) ≡ Some tree
  pub stuck : IsStuckAt next calls place tree

none_of : {A : Type 0} (o : Option A) → option_and_then (λ x. Some x) o ≡ None → o ≡ None
none_of None none = refl
none_of (Some x) none = absurd cc

module _ (next : Tree → ℕ → NfsCall → Outcome → Option Tree) (base tree : Tree) (calls : List RecordedCall) (eras : List EraPlan) (number : ℕ) where
  -- the tree doesn't take the step behind those that lead to it
  not_taken : (start : Tree) (ahead : List (TakenStep NfsCall Outcome)) (stuck : TakenStep NfsCall Outcome) → state_after next start ahead ≡ Some tree
      → state_after next start (ahead ++ stuck ∷ []) ≡ None → next tree stuck.number stuck.call stuck.outcome ≡ None
  not_taken start ahead stuck there stops =
      none_of (next tree stuck.number stuck.call stuck.outcome) (sym (from_base next start tree ahead (stuck ∷ []) there) ∙ stops)

  pub stop_at : IsStopInEras next base (map (era_of calls) eras) number tree → IsStopAt next base tree calls eras number
  stop_at stop =
      let stuck = stop.stuck in
      let first = stuck.first in
      let m = mapped (era_of calls) eras stuck.ahead stuck.behind stuck.era stuck.parts in
      let steps : steps_of calls m.at.places ≡ first.ahead ++ first.stuck ∷ first.behind = ap (λ (e : Era NfsCall Outcome). e.steps) m.is ∙ first.parts in
      let p = parted (step_at calls) m.at.places first.ahead first.behind first.stuck steps in
      let there : state_after next base (kept_steps stuck.ahead ++ first.ahead) ≡ Some tree = from_base next base stuck.base (kept_steps stuck.ahead) first.ahead stuck.reached ∙ stop.there in
      record {
        ahead = m.ahead;
        front = p.ahead;
        place = p.at;
        spot = record { era = m.at; behind = m.behind; back = p.behind; eras_are = m.parts; places_are = p.parts };
        named = sym (numbered calls p.at first.stuck p.is) ∙ first.named;
        reached = (λ i. state_after next base (kept_steps (m.front_is i) ++ p.front_is i)) ∙ there;
        stuck = record { step = first.stuck; there = p.is; refused = not_taken stuck.base first.ahead first.stuck stop.there first.stops };
      }

  module _ (once : NameDifferentCalls (order_from 1 eras)) (stop : IsStopInEras next base (map (era_of calls) eras) number tree) (ahead : List EraPlan) (front : List Place) (place : Place)
      (spot : IsSpot eras ahead front place) (named : call_of place ≡ number) where
    one : ((stop_at stop).ahead ≡ ahead) × ((stop_at stop).front ≡ front) × ((stop_at stop).place ≡ place)
    one = let at = stop_at stop in one_spot eras at.ahead ahead at.front front at.place place once at.spot spot (at.named ∙ sym named)

    -- the tree at which a run stops is the one at the place that is found
    pub reached : state_after next base (steps_behind calls ahead front) ≡ Some tree
    reached =
        let at = stop_at stop in
        subst (λ (ps : List Place). state_after next base (steps_behind calls ahead ps) ≡ Some tree) one.1
        (subst (λ (es : List EraPlan). state_after next base (steps_behind calls es at.front) ≡ Some tree) one.0 at.reached)

    -- and it doesn't take that place's step
    pub stuck_there : IsStuckAt next calls place tree
    stuck_there = subst (λ (p : Place). IsStuckAt next calls p tree) one.2 (stop_at stop).stuck

-- ---- the era of a placed call

at_most : (a b : ℕ) → nat_le a b ≡ true → a ≤ b
at_most a b is = grind (arith, is)

both : (a b : Bool) → (a && b) ≡ true → (a ≡ true) × (b ≡ true)
both true true is = (refl, refl)
both true false is = absurd cc
both false b is = absurd cc

era_of_passing : (o : Option RecordedCall) (e : ℕ) → IsTrue (passes (λ call. nat_le call.era e && nat_le e call.era) o) → option_map (λ (call : RecordedCall). call.era) o ≡ Some e
era_of_passing None e passed = absurd cc
era_of_passing (Some call) e passed =
    let parts = both (nat_le call.era e) (nat_le e call.era) passed in
    let below = at_most call.era e parts.0 in
    let above = at_most e call.era parts.1 in
    let same : call.era ≡ e = omega (arith, below, above) in
    ap Some same

all_here : {A : Type 0} (P : A → Type 0) (xs ys : List A) (x : A) → AllByRecursion P (xs ++ x ∷ ys) → P x
all_here P [] ys x all = all.0
all_here P (z ∷ xs) ys x all = all_here P xs ys x all.1

-- a call is of the era in which it is placed
pub placed_in : (calls : List RecordedCall) (eras ahead : List EraPlan) (front : List Place) (place : Place) → AllByRecursion (λ p. IsTrue (is_of_era calls p)) (order_from 1 eras)
    → IsSpot eras ahead front place → option_map (λ (call : RecordedCall). call.era) (call_at calls (call_of place)) ≡ Some (length ahead + 1)
placed_in calls eras ahead front place all s =
    let p = subst (λ (es : List EraPlan). InOrder 1 es ahead front place) (sym s.eras_are) (in_order 1 ahead s.behind s.era front s.back place s.places_are) in
    let here = all_here (λ q. IsTrue (is_of_era calls q)) (order_from 1 ahead ++ map (ordered p.era) front) p.behind (ordered p.era place)
    (subst (AllByRecursion (λ q. IsTrue (is_of_era calls q))) p.order all) in
    let at : p.era ≡ length ahead + 1 = omega (arith, p.is) in
    subst (λ e. option_map (λ (call : RecordedCall). call.era) (call_at calls (call_of place)) ≡ Some e) at (era_of_passing (call_at calls (call_of place)) p.era here)

some_or_none : {A : Type 0} (o : Option A) → IsSome o → ((x : A) → o ≡ Some x → ⊥) → ⊥
some_or_none None some none = absurd cc
some_or_none (Some x) some none = none x refl

module _ (next : Tree → ℕ → NfsCall → Outcome → Option Tree) (base tree : Tree) (calls : List RecordedCall) (eras : List EraPlan) (number : ℕ)
    (all : AllByRecursion (λ p. IsTrue (is_of_era calls p)) (order_from 1 eras)) (stop : IsStopInEras next base (map (era_of calls) eras) number tree) where
  -- the call at which a run stops has an era
  pub has_era : (found : Option ℕ) → found ≡ option_map (λ (call : RecordedCall). call.era) (call_at calls number) → ((e : ℕ) → found ≡ Some e → ⊥) → ⊥
  has_era found is none =
      let at = stop_at next base tree calls eras number stop in
      let era = placed_in calls eras at.ahead at.front at.place all at.spot in
      none (length at.ahead + 1) (is ∙ ap (λ n. option_map (λ (call : RecordedCall). call.era) (call_at calls n)) (sym at.named) ∙ era)

  -- and its place is found
  pub has_spot : (slice : List EraPlan) (era : ℕ) (found : Option ℕ) (spot : Option Spot) → slice ≡ eras → found ≡ option_map (λ (call : RecordedCall). call.era) (call_at calls number)
      → found ≡ Some era
      → ((ahead : List EraPlan) (front : List Place) (place : Place) → IsSpot slice ahead front place → era ≡ length ahead + 1 → call_of place ≡ number → IsSome spot)
      → ((x : Spot) → spot ≡ Some x → ⊥) → ⊥
  has_spot slice era found spot same is some finds none =
      let at = stop_at next base tree calls eras number stop in
      let known : found ≡ Some (length at.ahead + 1) =
      is ∙ ap (λ n. option_map (λ (call : RecordedCall). call.era) (call_at calls n)) (sym at.named) ∙ placed_in calls eras at.ahead at.front at.place all at.spot in
      let era_is : era ≡ length at.ahead + 1 = let both : Some era ≡ Some (length at.ahead + 1) = sym some ∙ known in cc in
      let here = subst (λ (es : List EraPlan). IsSpot es at.ahead at.front at.place) (sym same) at.spot in
      some_or_none spot (finds at.ahead at.front at.place here era_is at.named) none
