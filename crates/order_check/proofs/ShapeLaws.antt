-- A plan has its shape exactly where no fault of the shape is found.
use Rattle.std.proofs.Common.{◌≡◌, ◌≢◌, ◌==◌, ◌&&◌, ◌||◌, ℕ, zero, suc, ◌+◌, ◌<◌, ◌≤◌, Bool, true, false, not, cond, IsTrue, List, [], ◌∷◌, ◌++◌, length, take, ◌-◌, find, option_map, slice_index_or, All, Option, Some, None, IfSome, is_some, Result, Ok, Err, OnOk, unwrap_or, nat_lt, refl, sym, ap, subst, ◌∙◌, arith, inl, inr}
use Rattle.std.specs.List.{AllByRecursion, enumerate_from, range_with_len, position_from}
use Rattle.std.proofs.Math.Seq.{take-append_seam}
use Rattle.std.proofs.lemmas.List.{append_assoc, length-append}
use Rattle.std.proofs.lemmas.List.Elements.{All-from_recursion}
use Rattle.std.proofs.lemmas.List.Recursion.{or_push}
use Rattle.std.proofs.lemmas.Option.{slice_get_cases, none-some}
use Rattle.std.proofs.lemmas.Bool.{false≢true, true≢false, not-false, not_from_true, or_parts, or_from, eqb-false, ne_eqb, eqb-true, eq-eqb, ltb-false, le-ltb, cond-false, cond-true}
use Rattle.nfs_history.specs.declared.recorded.RecordedCall.{RecordedCall}
use Rattle.nfs_history.specs.Precedence.{call_at}
use Rattle.certificate.specs.declared.plan.EraPlan.{EraPlan}
use Rattle.order_check.specs.declared.places.OrderedPlace.{OrderedPlace}
use Rattle.order_check.specs.declared.fault.ShapeFault.{ShapeFault}
use Rattle.order_check.specs.declared.fault.ShapeFault.TheVariants as faults
use Rattle.order_check.specs.Places.{order_from, number_of, passes, is_known, is_of_era, is_placeable, is_wanted}
use Rattle.order_check.specs.Shape.{is_named, NameDifferentCalls, HasShape}
use Rattle.order_check.specs.FirstFault.{Marks, at_place, failing, is_repeat, first_repeat, is_missing, first_missing, keeps_too_many, first_bad_cut, or_else, shape_fault_of_order, shape_fault, IsCheck}

-- a choice of a value or of another answer is none exactly where the test fails and the other answer is none
not_chosen : {X : Type 0} (b : Bool) (x : X) (other : Option X) → cond b (Some x) other ≡ None → (b ≡ false) × (other ≡ None)
not_chosen true x other none = absurd (none-some x (sym none))
not_chosen false x other none = (refl, none)

skipped : {X : Type 0} (b : Bool) (x : X) (other : Option X) → b ≡ false → other ≡ None → cond b (Some x) other ≡ None
skipped b x other is none = cond-false b (Some x) other is ∙ none

-- where no place fails a test, each passes, and the other way round
module _ (test : OrderedPlace → Bool) where
  pub none_failing : (order : List OrderedPlace) → failing test order ≡ None → AllByRecursion (λ p. IsTrue (test p)) order
  none_failing [] none = tt
  none_failing (p ∷ order) none =
      let h = not_chosen (not (test p)) p (failing test order) none in (not-false (test p) h.0, none_failing order h.1)

  pub all_pass : (order : List OrderedPlace) → AllByRecursion (λ p. IsTrue (test p)) order → failing test order ≡ None
  all_pass [] all = refl
  all_pass (p ∷ order) all = skipped (not (test p)) p (failing test order) (not_from_true (test p) all.0) (all_pass order all.1)

-- a number behind which a call stands is one of theirs
within : (calls : List RecordedCall) (n : ℕ) → is_some (call_at calls n) ≡ true → (0 < n) × (n ≤ length calls)
within calls zero known = absurd (false≢true known)
within calls (suc n) known =
    elim (slice_get_cases calls n).1 [ inl w ↦ (omega arith, omega (arith, w.1)) | inr w ↦ absurd (false≢true (sym (ap is_some w.1) ∙ known)) ]

all_within : (calls : List RecordedCall) (order : List OrderedPlace) → AllByRecursion (λ p. IsTrue (is_known calls p)) order
    → AllByRecursion (λ p. (0 < number_of p) × (number_of p ≤ length calls)) order
all_within calls [] known = tt
all_within calls (p ∷ order) known = (within calls (number_of p) known.0, all_within calls order known.1)

pub numbers_within : (calls : List RecordedCall) (order : List OrderedPlace) → failing (is_known calls) order ≡ None
    → All (λ p. (0 < number_of p) × (number_of p ≤ length calls)) order
numbers_within calls order none =
    All-from_recursion (λ p. (0 < number_of p) × (number_of p ≤ length calls)) order (all_within calls order (none_failing (is_known calls) order none))

-- what passes a test is there
passes_some : (test : RecordedCall → Bool) (o : Option RecordedCall) → passes test o ≡ true → is_some o ≡ true
passes_some test None passed = passed
passes_some test (Some call) passed = refl

all_known : (calls : List RecordedCall) (order : List OrderedPlace) → AllByRecursion (λ p. IsTrue (is_of_era calls p)) order
    → AllByRecursion (λ p. IsTrue (is_known calls p)) order
all_known calls [] all = tt
all_known calls (p ∷ order) all = (passes_some _ (call_at calls (number_of p)) all.0, all_known calls order all.1)

-- one more place names its call
named_push : (before : List OrderedPlace) (p : OrderedPlace) (n : ℕ) → is_named (before ++ p ∷ []) n ≡ (is_named before n || (number_of p == n))
named_push before p n = or_push (λ order. is_named order n) (λ q. number_of q == n) refl (λ _ _. refl) before p

apart : (before : List OrderedPlace) (p : OrderedPlace) (order : List OrderedPlace) → AllByRecursion (λ q. is_named (before ++ p ∷ []) (number_of q) ≡ false) order
    → AllByRecursion (λ q. is_named before (number_of q) ≡ false) order × AllByRecursion (λ q. number_of q ≢ number_of p) order
apart before p [] all = (tt, tt)
apart before p (q ∷ order) all =
    let n = number_of q in
    let h = or_parts (is_named before n) (number_of p == n) (sym (named_push before p n) ∙ all.0) in
    let rest = apart before p order all.1 in
    ((h.0, rest.0), (λ same. eqb-false (number_of p) n h.1 (sym same), rest.1))

joined : (before : List OrderedPlace) (p : OrderedPlace) (order : List OrderedPlace) → AllByRecursion (λ q. is_named before (number_of q) ≡ false) order
    → AllByRecursion (λ q. number_of q ≢ number_of p) order → AllByRecursion (λ q. is_named (before ++ p ∷ []) (number_of q) ≡ false) order
joined before p [] all others = tt
joined before p (q ∷ order) all others =
    let n = number_of q in
    (named_push before p n ∙ or_from (is_named before n) (number_of p == n) all.0 (ne_eqb (number_of p) n (λ same. others.0 (sym same))), joined before p order all.1 others.1)

-- the first place that names a call which one of these, or a place ahead of it, names
abbrev repeat_behind : List OrderedPlace → List OrderedPlace → Option OrderedPlace
repeat_behind before [] = None
repeat_behind before (p ∷ order) = cond (is_named before (number_of p)) (Some p) (repeat_behind (before ++ p ∷ []) order)

place_of_choice : (b : Bool) (e : ℕ × OrderedPlace) (other : Option (ℕ × OrderedPlace)) → option_map (λ e. e.1) (cond b (Some e) other) ≡ cond b (Some e.1) (option_map (λ e. e.1) other)
place_of_choice true e other = refl
place_of_choice false e other = refl

repeat_from : (before order : List OrderedPlace) → option_map (λ e. e.1) (find (is_repeat (before ++ order)) (enumerate_from (length before) order)) ≡ repeat_behind before order
repeat_from before [] = refl
repeat_from before (p ∷ order) =
    let rest = find (is_repeat (before ++ p ∷ order)) (enumerate_from (length before + 1) order) in
    place_of_choice (is_named (take (length before) (before ++ p ∷ order)) (number_of p)) (length before, p) rest
    ∙ ap (λ front. cond (is_named front (number_of p)) (Some p) (option_map (λ e. e.1) rest)) (take-append_seam before (p ∷ order))
    ∙ ap (λ all. cond (is_named before (number_of p)) (Some p) (option_map (λ e. e.1) (find (is_repeat all) (enumerate_from (length before + 1) order)))) (sym (append_assoc before (p ∷ []) order))
    ∙ ap (λ n. cond (is_named before (number_of p)) (Some p) (option_map (λ e. e.1) (find (is_repeat ((before ++ p ∷ []) ++ order)) (enumerate_from n order)))) (sym (length-append before (p ∷ [])))
    ∙ ap (λ found. cond (is_named before (number_of p)) (Some p) found) (repeat_from (before ++ p ∷ []) order)

none_repeated : (before order : List OrderedPlace) → repeat_behind before order ≡ None
    → AllByRecursion (λ q. is_named before (number_of q) ≡ false) order × NameDifferentCalls order
none_repeated before [] none = (tt, tt)
none_repeated before (p ∷ order) none =
    let h = not_chosen (is_named before (number_of p)) p (repeat_behind (before ++ p ∷ []) order) none in
    let rest = none_repeated (before ++ p ∷ []) order h.1 in
    let parts = apart before p order rest.0 in
    ((h.0, parts.0), (parts.1, rest.1))

no_repeat : (before order : List OrderedPlace) → AllByRecursion (λ q. is_named before (number_of q) ≡ false) order → NameDifferentCalls order
    → repeat_behind before order ≡ None
no_repeat before [] unnamed different = refl
no_repeat before (p ∷ order) unnamed different =
    skipped (is_named before (number_of p)) p (repeat_behind (before ++ p ∷ []) order) unnamed.0
    (no_repeat (before ++ p ∷ []) order (joined before p order unnamed.1 different.0) different.1)

none_named : (order : List OrderedPlace) → AllByRecursion (λ q. is_named [] (number_of q) ≡ false) order
none_named [] = tt
none_named (p ∷ order) = (refl, none_named order)

-- an answered judged call that isn't left out is named
kept : (asked named : Bool) → (asked && not named) ≡ false → asked ≡ true → named ≡ true
kept true true left asked = refl
kept true false left asked = absurd (true≢false left)
kept false named left asked = absurd (false≢true asked)

not_left : (asked named : Bool) → (asked ≡ true → named ≡ true) → (asked && not named) ≡ false
not_left true named h = rw h refl
not_left false named h = refl

-- a search along numbers finds none exactly where none of them passes
none_found : (test : ℕ → Bool) (a n : ℕ) → find test (range_with_len a n) ≡ None → (k : ℕ) → k < n → test (a + k) ≡ false
none_found test a zero none k lt = absurd (omega (arith, lt))
none_found test a (suc n) none zero lt =
    let h = not_chosen (test a) a (find test (range_with_len (a + 1) n)) none in
    let e : a ≡ a + 0 = omega arith in subst (λ m. test m ≡ false) e h.0
none_found test a (suc n) none (suc k) lt =
    let h = not_chosen (test a) a (find test (range_with_len (a + 1) n)) none in
    let e : (a + 1) + k ≡ a + suc k = omega arith in subst (λ m. test m ≡ false) e (none_found test (a + 1) n h.1 k (omega (arith, lt)))

no_found : (test : ℕ → Bool) (a n : ℕ) → ((k : ℕ) → k < n → test (a + k) ≡ false) → find test (range_with_len a n) ≡ None
no_found test a zero none = refl
no_found test a (suc n) none =
    let e : a + 0 ≡ a = omega arith in
    let here : test a ≡ false = subst (λ m. test m ≡ false) e (none 0 (omega arith)) in
    let later : (k : ℕ) → k < n → test ((a + 1) + k) ≡ false = λ k lt.
    let f : a + suc k ≡ (a + 1) + k = omega arith in subst (λ m. test m ≡ false) f (none (suc k) (omega (arith, lt))) in
    skipped (test a) a (find test (range_with_len (a + 1) n)) here (no_found test (a + 1) n later)

-- each call that has to have a place has one
abbrev Complete : List RecordedCall → List OrderedPlace → Type 0
Complete calls order = (n : ℕ) (call : RecordedCall) → call_at calls n ≡ Some call → IsTrue (is_wanted call) → IsTrue (is_named order n)

none_missing : (calls : List RecordedCall) (order : List OrderedPlace) → first_missing calls order ≡ None → Complete calls order
none_missing calls order none zero call there asked = absurd (none-some call there)
none_missing calls order none (suc k) call there asked =
    let inside = within calls (suc k) (ap is_some there) in
    let e : 1 + k ≡ suc k = omega arith in
    let left : is_missing calls order (suc k) ≡ false = subst (λ n. is_missing calls order n ≡ false) e (none_found (is_missing calls order) 1 (length calls) none k (omega (arith, inside.1))) in
    kept (passes is_wanted (call_at calls (suc k))) (is_named order (suc k)) left (ap (passes is_wanted) there ∙ asked)

wanted_named : (calls : List RecordedCall) (order : List OrderedPlace) → Complete calls order
    → (n : ℕ) (there : Option RecordedCall) → call_at calls n ≡ there → passes is_wanted there ≡ true → is_named order n ≡ true
wanted_named calls order complete n None is asked = absurd (false≢true asked)
wanted_named calls order complete n (Some call) is asked = complete n call is asked

no_missing : (calls : List RecordedCall) (order : List OrderedPlace) → Complete calls order → first_missing calls order ≡ None
no_missing calls order complete =
    no_found (is_missing calls order) 1 (length calls)
    (λ k lt. not_left (passes is_wanted (call_at calls (1 + k))) (is_named order (1 + k)) (wanted_named calls order complete (1 + k) (call_at calls (1 + k)) refl))

kept_within : (cut : Option ℕ) (most : ℕ) → unwrap_or cut 0 ≤ most → IfSome cut (λ count. count ≤ most)
kept_within None most h = tt
kept_within (Some count) most h = h

within_kept : (cut : Option ℕ) (most : ℕ) → IfSome cut (λ count. count ≤ most) → unwrap_or cut 0 ≤ most
within_kept None most h = omega arith
within_kept (Some count) most h = h

none_cut : (e : ℕ) (plan : List EraPlan) → position_from keeps_too_many e plan ≡ None → AllByRecursion (λ era. IfSome era.cut (λ count. count ≤ length era.places)) plan
none_cut e [] none = tt
none_cut e (era ∷ plan) none =
    let most = length era.places in
    let h = not_chosen (nat_lt most (unwrap_or era.cut 0)) e (position_from keeps_too_many (e + 1) plan) none in
    (kept_within era.cut most (ltb-false most (unwrap_or era.cut 0) h.0), none_cut (e + 1) plan h.1)

no_cut : (e : ℕ) (plan : List EraPlan) → AllByRecursion (λ era. IfSome era.cut (λ count. count ≤ length era.places)) plan → position_from keeps_too_many e plan ≡ None
no_cut e [] cuts = refl
no_cut e (era ∷ plan) cuts =
    let most = length era.places in
    skipped (nat_lt most (unwrap_or era.cut 0)) e (position_from keeps_too_many (e + 1) plan) (le-ltb most (unwrap_or era.cut 0) (within_kept era.cut most cuts.0)) (no_cut (e + 1) plan cuts.1)

neither : (found other : Option ShapeFault) → or_else found other ≡ None → (found ≡ None) × (other ≡ None)
neither None other none = (refl, none)
neither (Some fault) other none = absurd (none-some fault (sym none))

or_none : (found other : Option ShapeFault) → found ≡ None → other ≡ None → or_else found other ≡ None
or_none found other first second = rw first second

nowhere : (fault : ℕ → ShapeFault) (place : Option OrderedPlace) → at_place fault place ≡ None → place ≡ None
nowhere fault None none = refl
nowhere fault (Some p) none = absurd (none-some (fault (number_of p)) (sym none))

no_number : (fault : ℕ → ShapeFault) (number : Option ℕ) → option_map fault number ≡ None → number ≡ None
no_number fault None none = refl
no_number fault (Some n) none = absurd (none-some (fault n) (sym none))

none_of : (fault : ℕ → ShapeFault) (number : Option ℕ) → number ≡ None → option_map fault number ≡ None
none_of fault number none = rw none refl

at_none : (fault : ℕ → ShapeFault) (place : Option OrderedPlace) → place ≡ None → at_place fault place ≡ None
at_none fault place none = rw none refl

shape_of_order : (eras : ℕ) (calls : List RecordedCall) (plan : List EraPlan) → length plan ≡ eras → shape_fault_of_order calls plan (order_from 1 plan) ≡ None → HasShape eras calls plan
shape_of_order eras calls plan as_many none =
    let order = order_from 1 plan in
    let cut = option_map faults.BadCut (first_bad_cut plan) in
    let absent = or_else (option_map faults.Missing (first_missing calls order)) cut in
    let wrong = or_else (at_place faults.NotToPlace (failing (is_placeable calls) order)) absent in
    let twice = or_else (at_place faults.Twice (first_repeat order)) wrong in
    let era = or_else (at_place faults.WrongEra (failing (is_of_era calls) order)) twice in
    let a = neither (at_place faults.Unknown (failing (is_known calls) order)) era none in
    let b = neither (at_place faults.WrongEra (failing (is_of_era calls) order)) twice a.1 in
    let c = neither (at_place faults.Twice (first_repeat order)) wrong b.1 in
    let d = neither (at_place faults.NotToPlace (failing (is_placeable calls) order)) absent c.1 in
    let e = neither (option_map faults.Missing (first_missing calls order)) cut d.1 in
    record {
      as_many_eras = as_many;
      of_their_eras = none_failing (is_of_era calls) order (nowhere faults.WrongEra (failing (is_of_era calls) order) b.0);
      once = (none_repeated [] order (sym (repeat_from [] order) ∙ nowhere faults.Twice (first_repeat order) c.0)).1;
      right = none_failing (is_placeable calls) order (nowhere faults.NotToPlace (failing (is_placeable calls) order) d.0);
      complete = none_missing calls order (no_number faults.Missing (first_missing calls order) e.0);
      cuts = none_cut 1 plan (no_number faults.BadCut (first_bad_cut plan) e.1);
    }

no_fault_of_order : (eras : ℕ) (calls : List RecordedCall) (plan : List EraPlan) → HasShape eras calls plan → shape_fault_of_order calls plan (order_from 1 plan) ≡ None
no_fault_of_order eras calls plan shape =
    let order = order_from 1 plan in
    or_none _ _ (at_none faults.Unknown (failing (is_known calls) order) (all_pass (is_known calls) order (all_known calls order shape.of_their_eras)))
    (or_none _ _ (at_none faults.WrongEra (failing (is_of_era calls) order) (all_pass (is_of_era calls) order shape.of_their_eras))
    (or_none _ _ (at_none faults.Twice (first_repeat order) (repeat_from [] order ∙ no_repeat [] order (none_named order) shape.once))
    (or_none _ _ (at_none faults.NotToPlace (failing (is_placeable calls) order) (all_pass (is_placeable calls) order shape.right))
    (or_none _ _ (none_of faults.Missing (first_missing calls order) (no_missing calls order shape.complete)) (none_of faults.BadCut (first_bad_cut plan) (no_cut 1 plan shape.cuts))))))

-- a choice between the order's faults and another fault
chosen : (b : Bool) (found : Option ShapeFault) (fault : ShapeFault) → cond b found (Some fault) ≡ None → (b ≡ true) × (found ≡ None)
chosen true found fault none = (refl, none)
chosen false found fault none = absurd (none-some fault (sym none))

pub shape_from_none : (eras : ℕ) (calls : List RecordedCall) (plan : List EraPlan) → shape_fault eras calls plan ≡ None → HasShape eras calls plan
shape_from_none eras calls plan none =
    let h = chosen (length plan == eras) (shape_fault_of_order calls plan (order_from 1 plan)) faults.WrongEras none in
    shape_of_order eras calls plan (eqb-true (length plan) eras h.0) h.1

pub none_from_shape : (eras : ℕ) (calls : List RecordedCall) (plan : List EraPlan) → HasShape eras calls plan → shape_fault eras calls plan ≡ None
none_from_shape eras calls plan shape =
    cond-true (length plan == eras) (shape_fault_of_order calls plan (order_from 1 plan)) (Some faults.WrongEras) (eq-eqb (length plan) eras shape.as_many_eras) ∙ no_fault_of_order eras calls plan shape

-- what the places' check answered is what the whole plan's check answers
pub whole_check : (eras : ℕ) (calls : List RecordedCall) (plan : List EraPlan) (result : Result (Unit {0}) ShapeFault)
    (calls_read : List RecordedCall) (plan_read : List EraPlan) (order order_read : List OrderedPlace)
    → calls_read ≡ calls → plan_read ≡ plan → order_read ≡ order → order ≡ order_from 1 plan_read → length plan_read ≡ eras
    → IsCheck result (shape_fault_of_order calls_read plan_read order_read) → IsCheck result (shape_fault eras calls plan)
whole_check eras calls plan result calls_read plan_read order order_read same_calls same_plan same_order is_order as_many checked =
    let e : shape_fault_of_order calls_read plan_read order_read ≡ shape_fault_of_order calls plan (order_from 1 plan) = rw (same_order, is_order, same_calls, same_plan) refl in
    let whole : shape_fault eras calls plan ≡ shape_fault_of_order calls plan (order_from 1 plan) =
    cond-true (length plan == eras) (shape_fault_of_order calls plan (order_from 1 plan)) (Some faults.WrongEras) (eq-eqb (length plan) eras (ap length (sym same_plan) ∙ as_many)) in
    subst (λ found. IsCheck result found) (e ∙ sym whole) checked

pub shape_on_ok : (eras : ℕ) (calls : List RecordedCall) (plan : List EraPlan) (result : Result (Unit {0}) ShapeFault)
    → IsCheck result (shape_fault eras calls plan) → OnOk result (HasShape eras calls plan)
shape_on_ok eras calls plan (Ok done) none = shape_from_none eras calls plan none
shape_on_ok eras calls plan (Err fault) found = tt

pub shape_only : (eras : ℕ) (calls : List RecordedCall) (plan : List EraPlan) (result : Result (Unit {0}) ShapeFault)
    → IsCheck result (shape_fault eras calls plan) → HasShape eras calls plan → IsCheck result None
shape_only eras calls plan result found shape = subst (λ fault. IsCheck result fault) (none_from_shape eras calls plan shape) found

-- ---- the calls one after the other

-- whether the call behind the first i is missing
abbrev pub IsMissingAt : List RecordedCall → List OrderedPlace → ℕ → List Bool → ℕ → Bool → Type 0
IsMissingAt calls order many named i found =
    Marks order named many × (many ≡ length calls) × (i < many) × (found ≡ (passes is_wanted (call_at calls (i + 1)) && not (slice_index_or named i false)))

-- what is left to search finds what all do
abbrev pub IsSoFar : List RecordedCall → List OrderedPlace → ℕ → Type 0
IsSoFar calls order i = find (is_missing calls order) (range_with_len (i + 1) (length calls - i)) ≡ first_missing calls order

missing_is : (calls : List RecordedCall) (order : List OrderedPlace) (many : ℕ) (named : List Bool) (i : ℕ) (found : Bool) → IsMissingAt calls order many named i found
    → find (is_missing calls order) (range_with_len (i + 1) (length calls - i))
    ≡ cond found (Some (i + 1)) (find (is_missing calls order) (range_with_len (i + 1 + 1) (length calls - (i + 1))))
missing_is calls order many named i found (marks, size, lt, is) =
    let same : is_missing calls order (i + 1) ≡ found = sym (is ∙ ap (λ (b : Bool). passes is_wanted (call_at calls (i + 1)) && not b) (marks.marked i lt)) in
    let left : length calls - i ≡ suc (length calls - (i + 1)) = omega (arith, lt, size) in
    ap (λ n. find (is_missing calls order) (range_with_len (i + 1) n)) left
    ∙ ap (λ (b : Bool). cond b (Some (i + 1)) (find (is_missing calls order) (range_with_len (i + 1 + 1) (length calls - (i + 1))))) same

pub missing_here : (calls : List RecordedCall) (order : List OrderedPlace) (many : ℕ) (named : List Bool) (i : ℕ) → IsMissingAt calls order many named i true
    → IsSoFar calls order i → Some (faults.Missing (i + 1)) ≡ option_map faults.Missing (first_missing calls order)
missing_here calls order many named i is so_far = ap (option_map faults.Missing) (sym (missing_is calls order many named i true is) ∙ so_far)

pub missing_later : (calls : List RecordedCall) (order : List OrderedPlace) (many : ℕ) (named : List Bool) (i : ℕ) → IsMissingAt calls order many named i false
    → IsSoFar calls order i → IsSoFar calls order (i + 1)
missing_later calls order many named i is so_far = sym (missing_is calls order many named i false is) ∙ so_far
