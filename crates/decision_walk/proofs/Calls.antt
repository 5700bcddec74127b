-- a call that is placed, however it came out
use Rattle.std.proofs.Common.{◌≡◌, inl, inr, ℕ, ◌+◌, ◌-◌, ◌<◌, ◌≤◌, Bool, true, false, List, [], ◌∷◌, length, take, get_or, Some, None, refl, sym, ap, ◌∙◌, subst, arith}
use Rattle.std.specs.Prelude.{◌==◌, ◌||◌, cond}
use Rattle.std.specs.Option.{option_map_or}
use Rattle.std.specs.List.{list_any}
use Rattle.std.proofs.lemmas.Bool.{true≢false, eq-eqb, or_right, le-ltb}
use Rattle.nfs_history.specs.declared.recorded.RecordedCall.{RecordedCall}
use Rattle.nfs_history.specs.declared.knowing.KnownCalls.{KnownCalls}
use Rattle.nfs_history.specs.Precedence.{call_at}
use Rattle.decision_law.specs.Times.{era_of_number}
use Rattle.decision_law.proofs.Placed.{is_call_number}
use Rattle.decision_core.specs.Times.{IsAmong}
use Rattle.decision_core.specs.Layers.{Grows}
use Rattle.decision_core.proofs.Sets.{one_more, all_gone_over}
use Rattle.decision_walk.specs.View.{WalkView}
use Rattle.decision_walk.specs.Standing.{is_marked, has_call, is_of_earlier, is_told}
use Rattle.decision_walk.specs.Placings.{HasAllOf, HasStepOf, HasStepsOf, IsMissing, MayNotLose}

some_is : {X : Type 0} (a b : X) → Some a ≡ Some b → a ≡ b
some_is a b e = cc

module _ (known : KnownCalls) where
  -- the era of a call
  pub era_is : (n : ℕ) (recorded : RecordedCall) → call_at known.calls n ≡ Some recorded → era_of_number known n ≡ recorded.era
  era_is n recorded stands =
      ap (λ b. cond b (option_map_or (λ (r : RecordedCall). r.era) (call_at known.calls n) 0) (n - length known.calls)) (is_call_number known n recorded stands)
      ∙ ap (λ o. option_map_or (λ (r : RecordedCall). r.era) o 0) stands

  module _ (marks : List Bool) where
    -- a call that has no place leads to nothing
    pub all_of_steps : (states : List WalkView) (state : WalkView) (n : ℕ) (recorded : RecordedCall) → 0 < state.era → state.era ≤ known.eras → n ≤ length known.calls → call_at known.calls n ≡ Some recorded
        → HasAllOf known marks states state n recorded → HasStepOf known marks states n state
    all_of_steps states state n recorded late early inside stands has plan gone point after at kept unplaced (inl real) =
        let changes = real.2.1 in
        let same : changes.recorded ≡ recorded = some_is changes.recorded recorded (sym changes.stands ∙ stands) in
        let here : HasAllOf known marks states state n changes.recorded = subst (HasAllOf known marks states state n) (sym same) has in
        here changes.call changes.outcome changes.judged changes.came_out plan gone point after at (subst (λ e. e ≤ known.eras) at.era early) kept (record { era = real.1; tree = real.2.0; goes = changes.leads; cut = real.2.2 })
    all_of_steps states state n recorded late early inside stands has plan gone point after at kept unplaced (inr crash) = absurd (omega (arith, crash.0, at.era, late, inside))

    -- of a number that is no call's, or of a call that is of another era, nothing comes
    pub no_call_steps : (states : List WalkView) (state : WalkView) (n : ℕ) → 0 < state.era → n ≤ length known.calls → call_at known.calls n ≡ None → HasStepOf known marks states n state
    no_call_steps states state n late inside none plan gone point after at kept unplaced (inl real) = absurd (differ real.2.1.recorded (sym none ∙ real.2.1.stands)) where
      differ : (recorded : RecordedCall) → None ≡ Some recorded → ⊥
      differ recorded e = cc
    no_call_steps states state n late inside none plan gone point after at kept unplaced (inr crash) = absurd (omega (arith, crash.0, at.era, late, inside))

    pub other_era_steps : (states : List WalkView) (state : WalkView) (n : ℕ) (recorded : RecordedCall) → 0 < state.era → n ≤ length known.calls → call_at known.calls n ≡ Some recorded
        → (recorded.era ≡ state.era → ⊥) → HasStepOf known marks states n state
    other_era_steps states state n recorded late inside stands other plan gone point after at kept unplaced (inl real) = absurd (other (sym (era_is n recorded stands) ∙ real.1 ∙ sym at.era))
    other_era_steps states state n recorded late inside stands other plan gone point after at kept unplaced (inr crash) = absurd (omega (arith, crash.0, at.era, late, inside))

    -- nothing comes of a call that is placed
    pub placed_steps : (states : List WalkView) (state : WalkView) (n : ℕ) → is_told known state n ≡ true → HasStepOf known marks states n state
    placed_steps states state n is plan gone point after at kept unplaced next = absurd (true≢false (sym is ∙ at.placed n kept ∙ unplaced))

    -- what a greater list has
    pub step_kept : (old new : List WalkView) (state : WalkView) (n : ℕ) → Grows old new → HasStepOf known marks old n state → HasStepOf known marks new n state
    step_kept old new state n grows has plan gone point after at kept unplaced next = let held = has plan gone point after at kept unplaced next in (held.0, grows held.0 held.1, held.2)

    -- one call more
    pub steps_next : (old new : List WalkView) (calls : List ℕ) (i : ℕ) (state : WalkView) → i < length calls → Grows old new → HasStepOf known marks new (get_or calls i 0) state
        → HasStepsOf known marks old (take i calls) state → HasStepsOf known marks new (take (i + 1) calls) state
    steps_next old new calls i state inside grows here so_far =
        one_more (λ n. HasStepOf known marks old n state) (λ n. HasStepOf known marks new n state) calls i 0 inside (λ n has. step_kept old new state n grows has) so_far here

    pub steps_all : (states : List WalkView) (calls : List ℕ) (i : ℕ) (state : WalkView) → length calls ≤ i → HasStepsOf known marks states (take i calls) state → HasStepsOf known marks states calls state
    steps_all states calls i state past all = all_gone_over (λ n. HasStepOf known marks states n state) calls i past all

    -- ---- calls that can't be lost

    among_any : (calls : List ℕ) (m : ℕ) → IsAmong calls m → list_any (λ k. k == m) calls ≡ true
    among_any [] m among = absurd among
    among_any (k ∷ calls) m (inl same) = ap (λ b. b || list_any (λ j. j == m) calls) (eq-eqb k m same)
    among_any (k ∷ calls) m (inr among) = or_right (k == m) (list_any (λ j. j == m) calls) (among_any calls m among)

    pub marked_stays : (state : WalkView) (n : ℕ) → is_marked marks n ≡ true → MayNotLose known marks state n
    marked_stays state n marked plan gone point at lost = lost.0 marked

    pub missing_stays : (state : WalkView) (n : ℕ) → IsMissing known marks state → MayNotLose known marks state n
    missing_stays state n missing plan gone point at lost =
        let kept : gone missing.number ≡ false = of_later (gone missing.number) refl in
        true≢false (sym (among_any point.calls missing.number (lost.1 missing.number missing.marked (missing.era ∙ at.era)))
        ∙ sym (at.placed missing.number kept) ∙ ap (λ b. b || has_call state.placed missing.number) (not_earlier at.past) ∙ missing.unplaced) where
          not_earlier : state.past ≤ state.era → is_of_earlier known state.past missing.number ≡ false
          not_earlier within = le-ltb (era_of_number known missing.number) state.past (let era = missing.era in omega (arith, within, era))

          of_later : (b : Bool) → gone missing.number ≡ b → b ≡ false
          of_later true is = let by = at.answered missing.number is missing.later.recorded missing.later.at missing.later.stands missing.later.ended in absurd (omega (arith, by, missing.later.later))
          of_later false is = refl
