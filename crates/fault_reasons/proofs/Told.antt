-- Where a call is placed, and what is told of it.
use Rattle.std.proofs.Common.{◌≡◌, ◌≢◌, inl, inr, ℕ, suc, ◌<◌, Bool, true, List, [], ◌∷◌, ◌++◌, length, map, drop, option_map, Option, Some, None, refl, ap, sym, ◌∙◌, subst, arith}
use Rattle.std.specs.Prelude.{IsSome, IfSome, MatchBool, ⊤}
use Rattle.std.specs.List.{IsSplitAt, IsFirstAndRest, slice_get}
use Rattle.std.proofs.lemmas.List.{take-append-drop}
use Rattle.nfs3_types.specs.declared.calls.NfsCall.{NfsCall}
use Rattle.nfs3_types.specs.declared.replies.NfsReply.{NfsReply}
use Rattle.nfs3_types.specs.declared.replies.Outcome.{Outcome}
use Rattle.nfs3_types.specs.declared.replies.Outcome.TheVariants.{Received}
use Rattle.nfs_history.specs.declared.knowing.KnownCalls.{KnownCalls}
use Rattle.nfs_history.specs.declared.recorded.RecordedCall.{RecordedCall}
use Rattle.certificate.specs.declared.plan.Place.{Place}
use Rattle.certificate.specs.declared.plan.EraPlan.{EraPlan}
use Rattle.certificate.specs.declared.plan.Certificate.{Certificate}
use Rattle.certificate.specs.Plan.{call_of, cut_of}
use Rattle.order_check.specs.declared.fault.ShapeFault.{ShapeFault}
use Rattle.order_check.specs.declared.fault.ShapeFault.TheVariants as shapes
use Rattle.order_check.specs.declared.fault.OrderFault.{OrderFault}
use Rattle.order_check.specs.declared.fault.OrderFault.TheVariants.{Early}
use Rattle.cut_check.specs.Places.{era_at, bindings_of, effect_at}
use Rattle.cut_check.specs.ShortCut.{IsShortCut}
use Rattle.witness_check.specs.Faults.{of_shape, of_order}
use Rattle.witness_check.specs.declared.fault.CheckFault.TheVariants.{No}
use Rattle.replay_law.specs.Run.{TakenStep, state_after}
use Rattle.tree_starts.specs.declared.profile.Profile.{Profile}
use Rattle.tree_nodes.specs.Tree.{Tree}
use Rattle.tree_handles.specs.Binding.{Bindings}
use Rattle.file_tree.specs.Setting.{next_in}
use Rattle.witness_check.specs.declared.fault.Fault.TheVariants as faults
use Rattle.witness_check.specs.Run.{step_at}
use Rattle.witness_check.specs.Verdict.{IsPlanFault}
use Rattle.fault_reasons.specs.declared.placed.Placed.{Placed}
use Rattle.fault_reasons.specs.declared.explaining.Spot.{Spot}
use Rattle.fault_reasons.specs.declared.reason.IllegalPlace.{IllegalPlace}
use Rattle.fault_reasons.specs.declared.reason.CallSpan.{CallSpan}
use Rattle.fault_reasons.specs.declared.reason.LostPlace.{LostPlace}
use Rattle.fault_reasons.specs.declared.reason.Reason.TheVariants as reasons
use Rattle.fault_reasons.specs.Reason.{IsSpot, steps_behind, IsIllegalIn, IsIllegalPlace, span_of, place_at, IsLostIn, IsReasonOf}
use Rattle.fault_reasons.specs.Running.{placed_step, StandsBehind, IsStuckAt, illegal_of}
use Rattle.witness_check.proofs.Steps.{numbered}

-- the first of what is left stands behind the front
pub stands_behind : {A : Type 0} (whole all front rest back : List A) (x : A) (i : ℕ) → all ≡ whole → IsSplitAt all i front rest → IsFirstAndRest rest x back → StandsBehind whole front x
stands_behind whole all front rest back x i same split first =
    record { back = back; is = sym same ∙ sym (take-append-drop i all) ∙ ap (λ ys. ys ++ drop i all) (sym split.1) ∙ ap (λ ys. front ++ ys) (sym split.2 ∙ first.0) }

-- the place of an era, in a plan
pub is_spot : (eras ahead rest behind : List EraPlan) (era : EraPlan) (i : ℕ) (found : Option Spot) → IsSplitAt eras i ahead rest → IsFirstAndRest rest era behind
    → IfSome found (λ spot. spot.ahead.now ≡ ahead) → IfSome found (λ spot. StandsBehind era.places spot.front.now spot.place)
    → IfSome found (λ spot. IsSpot eras spot.ahead.now spot.front.now spot.place)
unfolding stands_behind
is_spot eras ahead rest behind era i None split first same stands = same
is_spot eras ahead rest behind era i (Some spot) split first same stands = record {
  era = era;
  behind = behind;
  back = stands.back;
  eras_are = (stands_behind eras eras ahead rest behind era i refl split first).is ∙ ap (λ xs. xs ++ era ∷ behind) (sym same);
  places_are = stands.is;
}

-- what is told of a step that its tree doesn't take
pub told : (next : Tree → ℕ → NfsCall → Outcome → Option Tree) (base : Tree) (calls : List RecordedCall) (eras : List EraPlan) (spot : Spot) (step : Placed) (found : Option Placed)
    (right : Option NfsReply) (tree after asked : Tree) (given : IllegalPlace) (stops : Bool) → given ≡ illegal_of spot step asked right
    → IsSpot eras spot.ahead.now spot.front.now spot.place → found ≡ Some step → option_map placed_step found ≡ step_at calls spot.place
    → state_after next base (steps_behind calls spot.ahead.now spot.front.now) ≡ Some tree → stops ≡ true
    → MatchBool stops (next tree step.number step.call step.outcome ≡ None) (IsSome (next tree step.number step.call step.outcome)) → MatchBool stops (after ≡ tree) ⊤ → asked ≡ after
    → IfSome right (λ reply. IsSome (next after step.number step.call (Received reply))) → IsIllegalIn next base calls eras given
told next base calls eras spot step found right tree after asked given stops is stands some placed reached stopped may_refuse may_stay kept taken =
    let refused : next tree step.number step.call step.outcome ≡ None = subst (λ (b : Bool). MatchBool b (next tree step.number step.call step.outcome ≡ None) (IsSome (next tree step.number step.call step.outcome))) stopped may_refuse in
    let stays : after ≡ tree = subst (λ (b : Bool). MatchBool b (after ≡ tree) ⊤) stopped may_stay in
    let same : asked ≡ tree = kept ∙ stays in
    subst (λ (p : IllegalPlace). IsIllegalIn next base calls eras p) (sym is) (record {
      ahead = spot.ahead.now;
      front = spot.front.now;
      place = spot.place;
      spot = stands;
      era = refl;
      position = refl;
      step = sym placed ∙ ap (option_map placed_step) some;
      reached = reached ∙ ap Some (sym same);
      refused = subst (λ (t : Tree). next t step.number step.call step.outcome ≡ None) (sym same) refused;
      right = subst (λ (t : Tree). IfSome right (λ reply. IsSome (next t step.number step.call (Received reply)))) (sym kept) taken;
    })

-- the same under equal binds
pub same_binds : (profile : Profile) (first : ℕ) (base : Tree) (calls : List RecordedCall) (eras : List EraPlan) (b d : Bindings) (found : Option IllegalPlace) → b ≡ d
    → IfSome found (IsIllegalIn (next_in profile first b) base calls eras) → IfSome found (IsIllegalIn (next_in profile first d) base calls eras)
same_binds profile first base calls eras b d found is told_by =
    subst (λ (x : Bindings). IfSome found (IsIllegalIn (next_in profile first x) base calls eras)) is told_by

-- what is told of a place that a cut loses
pub is_lost : (eras : List EraPlan) (era : EraPlan) (place : Place) (given : LostPlace) → era_at eras given.era ≡ Some era → given.cut ≡ cut_of era
    → place_at era.places given.position ≡ Some place → given.number ≡ call_of place → IsLostIn eras given
is_lost eras era place given there cut stands named =
    record { era = era; there = there; cut = cut; place = place; stands = stands; named = named }

-- what is told of a call that is placed too early, and of the other one
pub early_told : (history : KnownCalls) (one other : CallSpan) (i j : ℕ) → one ≡ span_of history.calls i → other ≡ span_of history.calls j
    → (plan : Certificate) → IsPlanFault history plan (faults.Early i j) → IsReasonOf history plan (reasons.Early one other)
early_told history one other i j first second plan fault =
    subst (λ (s : CallSpan). IsReasonOf history plan (reasons.Early s other)) (sym first)
    (subst (λ (s : CallSpan). IsReasonOf history plan (reasons.Early (span_of history.calls i) s)) (sym second) (fault, refl, refl))

-- what is told of a cut that is too short
pub short_told : (eras : List EraPlan) (lost : LostPlace) (e needed : ℕ) → IsLostIn eras lost → lost.era ≡ e → lost.position ≡ needed
    → (history : KnownCalls) (plan : Certificate) → plan.eras ≡ eras → IsPlanFault history plan (faults.ShortCut e needed) → IsReasonOf history plan (reasons.ShortCut lost)
short_told eras lost e needed told is_era is_position history plan same fault = (
  subst (λ n. IsPlanFault history plan (faults.ShortCut lost.era n)) (sym is_position) (subst (λ n. IsPlanFault history plan (faults.ShortCut n needed)) (sym is_era) fault),
  subst (λ (es : List EraPlan). IsLostIn es lost) (sym same) told,
)

-- ---- a cut that is too short is one of a place

of_no_shape : (found : ShapeFault) (e needed : ℕ) → of_shape found ≢ No (faults.ShortCut e needed)
of_no_shape shapes.WrongEras e needed is = cc
of_no_shape (shapes.Unknown n) e needed is = cc
of_no_shape (shapes.WrongEra n) e needed is = cc
of_no_shape (shapes.Twice n) e needed is = cc
of_no_shape (shapes.NotToPlace n) e needed is = cc
of_no_shape (shapes.Missing n) e needed is = cc
of_no_shape (shapes.BadCut k) e needed is = cc
of_no_shape shapes.NoMemory e needed is = cc

of_no_order : (found : OrderFault) (e needed : ℕ) → of_order found ≢ No (faults.ShortCut e needed)
of_no_order (Early i j) e needed is = cc

pub short_is : (history : KnownCalls) (plan : Certificate) (e needed : ℕ) → IsPlanFault history plan (faults.ShortCut e needed)
    → IsShortCut (bindings_of history.head.root plan.binds) history.calls plan.eras e needed
short_is history plan e needed (inl shape) = absurd (of_no_shape shape.0 e needed shape.2)
short_is history plan e needed (inr (inl order)) = absurd (of_no_order order.1.0 e needed order.1.2)
short_is history plan e needed (inr (inr (inl run))) = absurd (let is : faults.ShortCut e needed ≡ faults.Illegal run.1.0 = run.1.2 in cc)
short_is history plan e needed (inr (inr (inr (inl cut)))) =
    let is : faults.ShortCut e needed ≡ faults.ShortCut cut.1.0 cut.1.1 = cut.1.3 in
    let era : e ≡ cut.1.0 = cc in
    let position : needed ≡ cut.1.1 = cc in
    subst (λ n. IsShortCut (bindings_of history.head.root plan.binds) history.calls plan.eras n needed) (sym era)
    (subst (λ n. IsShortCut (bindings_of history.head.root plan.binds) history.calls plan.eras cut.1.0 n) (sym position) cut.1.2)
short_is history plan e needed (inr (inr (inr (inr verifiers)))) = absurd (let is : faults.ShortCut e needed ≡ faults.Verifier verifiers.1.0 = verifiers.1.2 in cc)

get_here : {A : Type 0} (xs ys : List A) (x : A) → slice_get (xs ++ x ∷ ys) (length xs) ≡ Some x
get_here [] ys x = refl
get_here (z ∷ xs) ys x = get_here xs ys x

stands_at : {A B : Type 0} (f : A → B) (xs : List A) (ahead behind : List B) (here : B) → map f xs ≡ ahead ++ here ∷ behind → IsSome (slice_get xs (length ahead))
stands_at f [] [] behind here is = absurd cc
stands_at f [] (z ∷ ahead) behind here is = absurd cc
stands_at f (x ∷ xs) [] behind here is = refl
stands_at f (x ∷ xs) (z ∷ ahead) behind here is =
    let rest : map f xs ≡ ahead ++ here ∷ behind = cc in stands_at f xs ahead behind here rest

pub has_place : (binds : Bindings) (calls : List RecordedCall) (eras : List EraPlan) (e needed : ℕ) (short : IsShortCut binds calls eras e needed)
    → IsSome (place_at short.era.places needed)
has_place binds calls eras e needed short =
    let above : 0 < needed = omega (arith, short.short) in
    let at = short.last_stable.stable above in
    let is : needed ≡ suc (length at.ahead) = omega (arith, at.number) in
    subst (λ n. IsSome (place_at short.era.places n)) (sym is) (stands_at (effect_at binds calls) short.era.places at.ahead at.behind at.here at.stands)

pub not_some : {A : Type 0} (o : Option A) → o ≡ None → IsSome o → ⊥
not_some None none some = absurd cc
not_some (Some x) none some = absurd cc

-- a place is found where a cut is too short
pub short_found : (eras : List EraPlan) (e needed : ℕ) (found : Option LostPlace) → found ≡ None
    → ((plan : EraPlan) → era_at eras e ≡ Some plan → IsSome (place_at plan.places needed) → IsSome found)
    → (history : KnownCalls) (plan : Certificate) → plan.eras ≡ eras → IsPlanFault history plan (faults.ShortCut e needed) → ⊥
short_found eras e needed found none finds history plan same fault =
    let binds = bindings_of history.head.root plan.binds in
    let short : IsShortCut binds history.calls eras e needed =
    subst (λ (es : List EraPlan). IsShortCut binds history.calls es e needed) same (short_is history plan e needed fault) in
    not_some found none (finds short.era short.there (has_place binds history.calls eras e needed short))

-- what is told of the place at which a run stops is its reason
pub illegal_told : (history : KnownCalls) (plan : Certificate) (number : ℕ) (found : Option IllegalPlace) (place : IllegalPlace) → found ≡ Some place
    → IsPlanFault history plan (faults.Illegal number) → IfSome found (IsIllegalPlace history plan) → IfSome found (λ told. told.number ≡ number)
    → IsReasonOf history plan (reasons.Illegal place)
illegal_told history plan number found place is fault told named =
    let told_of : IsIllegalPlace history plan place = subst (λ (o : Option IllegalPlace). IfSome o (IsIllegalPlace history plan)) is told in
    let number_is : place.number ≡ number = subst (λ (o : Option IllegalPlace). IfSome o (λ (t : IllegalPlace). t.number ≡ number)) is named in
    (subst (λ n. IsPlanFault history plan (faults.Illegal n)) (sym number_is) fault, told_of)

-- what is told of a step is of the call at its place
pub told_number : (calls : List RecordedCall) (spot : Spot) (step : Placed) (found : Option Placed) (given : IllegalPlace) → given.number ≡ step.number → found ≡ Some step
    → option_map placed_step found ≡ step_at calls spot.place → given.number ≡ call_of spot.place
told_number calls spot step found given is some placed = is ∙ numbered calls spot.place (placed_step step) (sym placed ∙ ap (option_map placed_step) some)

-- a place whose step the tree doesn't take has a step, and the tree doesn't take it
pub no_other : (next : Tree → ℕ → NfsCall → Outcome → Option Tree) (calls : List RecordedCall) (place : Place) (tree : Tree) (found : Option Placed)
    → IsStuckAt next calls place tree → option_map placed_step found ≡ step_at calls place → ((x : Placed) → found ≡ Some x → ⊥) → ⊥
no_other next calls place tree None stuck placed none = absurd (let both : None ≡ Some stuck.step = placed ∙ stuck.there in cc)
no_other next calls place tree (Some x) stuck placed none = none x refl

pub not_taken_there : (next : Tree → ℕ → NfsCall → Outcome → Option Tree) (calls : List RecordedCall) (place : Place) (tree : Tree) (step : Placed) (found : Option Placed)
    → IsStuckAt next calls place tree → found ≡ Some step → option_map placed_step found ≡ step_at calls place → next tree step.number step.call step.outcome ≡ None
not_taken_there next calls place tree step found stuck some placed =
    let is : placed_step step ≡ stuck.step = let both : Some (placed_step step) ≡ Some stuck.step = sym (ap (option_map placed_step) some) ∙ placed ∙ stuck.there in cc in
    subst (λ (s : TakenStep NfsCall Outcome). next tree s.number s.call s.outcome ≡ None) (sym is) stuck.refused
