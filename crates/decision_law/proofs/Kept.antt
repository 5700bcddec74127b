-- A call that is never lost isn't past a cut of a plan that is a witness.
use Rattle.std.proofs.Common.{IsTrue, ◌≡◌, inl, inr, ℕ, suc, ◌+◌, ◌<◌, ◌≤◌, ◌||◌, Bool, true, false, List, [], ◌∷◌, ◌++◌, length, take, drop, map, Some, Contains, refl, sym, ap, subst, ◌∙◌, arith, append_assoc, length-append}
use Rattle.std.specs.Prelude.{option_map, unwrap_or, option_and_then, nat_lt}
use Rattle.std.specs.List.{AllByRecursion, list_any}
use Rattle.std.proofs.lemmas.List.{take-append-drop, map-append, length-take-le, length-map}
use Rattle.std.proofs.lemmas.List.Elements.{Contains-append_right}
use Rattle.nfs3_types.specs.declared.calls.NfsCall.{NfsCall}
use Rattle.nfs3_types.specs.declared.calls.NfsCall.TheVariants as calls
use Rattle.nfs3_types.specs.declared.calls.StableHow.{StableHow}
use Rattle.nfs3_types.specs.declared.calls.StableHow.TheVariants as levels
use Rattle.nfs3_types.specs.declared.replies.Outcome.{Outcome}
use Rattle.nfs_history.specs.declared.recorded.Meaning.TheVariants as meanings
use Rattle.nfs_history.specs.declared.recorded.RecordedCall.{RecordedCall}
use Rattle.nfs_history.specs.declared.knowing.KnownCalls.{KnownCalls}
use Rattle.nfs_history.specs.Precedence.{call_at, Precedes}
use Rattle.certificate.specs.declared.plan.Place.{Place}
use Rattle.certificate.specs.declared.plan.EraPlan.{EraPlan}
use Rattle.certificate.specs.Plan.{call_of, cut_of}
use Rattle.order_check.specs.Order.{RespectsOrder}
use Rattle.order_check.specs.Places.{is_wanted, may_place}
use Rattle.tree_handles.specs.Binding.{Bindings, object_of}
use Rattle.cut_check.specs.declared.effect.Effect.{Effect}
use Rattle.cut_check.specs.declared.effect.Effect.TheVariants.{Lasting, Unstable, Committed}
use Rattle.cut_check.specs.Effect.{of_object, at_level}
use Rattle.cut_check.specs.Stable.{AreCommitted, IsStable}
use Rattle.cut_check.specs.Places.{era_at, object_written, effect_at, effects_of}
use Rattle.cut_check.specs.Cut.{KeepsStable, CutsKeepStable}
use Rattle.cut_check.specs.Verifier.{verifier_of, writes_bytes_at, loses_write, Shows, VerifiersAgree}
use Rattle.decision_law.specs.Laws.{ShowsTwoVerifiers}
use Rattle.decision_core.specs.Times.{IsAmong}
use Rattle.decision_core.specs.Eras.{NoneSaved}
use Rattle.decision_core.proofs.Orders.{all_behind, all_of_each, which_part}
use Rattle.decision_law.specs.Times.{AreTimed, numbering_of}
use Rattle.decision_law.specs.NeverLost.{written, committed, IsAnswered, IsLasting, IsReached, IsCommitted, IsShownLater, IsNeverLost, Hints, AreRight}
use Rattle.decision_law.proofs.Placed.{answered_wanted}
use Rattle.decision_law.proofs.Runs.{HasRun}
use Rattle.decision_law.proofs.Effects.{lasts_so, effect_so, verifier_so, writes_so, object_named}
use Rattle.decision_law.proofs.Shapes.{place_of, Facts, IsPlaced, EraFacts, EraOf, era_of_call, AreKept}

contains_first : {X : Type 0} (x : X) (xs : List X) → Contains (x ∷ xs) x
contains_first x xs = (0, omega arith, refl)

contains_middle : {X : Type 0} (xs : List X) (x : X) (ys : List X) → Contains (xs ++ x ∷ ys) x
contains_middle xs x ys = Contains-append_right xs (x ∷ ys) x (contains_first x ys)

any_middle : (test : Place → Bool) (xs : List Place) (x : Place) (ys : List Place) → test x ≡ true → list_any test (xs ++ x ∷ ys) ≡ true
any_middle test [] x ys is = ap (λ b. b || list_any test ys) is
any_middle test (y ∷ xs) x ys is = ap (λ b. test y || b) (any_middle test xs x ys is) ∙ or_true (test y) where
  or_true : (b : Bool) → (b || true) ≡ true
  or_true true = refl
  or_true false = refl

-- nothing ahead of a place is preceded by its call
none_ahead : (calls : List RecordedCall) (front : List Place) (place : Place) (back : List Place) → RespectsOrder calls (front ++ place ∷ back)
    → AllByRecursion (λ first. ¬ Precedes calls (call_of place) (call_of first)) front
none_ahead calls [] place back respects = tt
none_ahead calls (first ∷ front) place back respects = (
  (all_behind (λ later. ¬ Precedes calls (call_of later) (call_of first)) front (place ∷ back) respects.0).0,
  none_ahead calls front place back respects.1,
)

-- an UNSTABLE WRITE that is committed is stable, and so is one that was answered as synced
level_stable : (level : StableHow) (object offset count : ℕ) (behind : List Effect) → AreCommitted object offset count behind → IsStable (at_level level (Unstable object offset count)) behind
level_stable levels.Unstable object offset count behind are = are
level_stable levels.DataSync object offset count behind are = tt
level_stable levels.FileSync object offset count behind are = tt

module _ (known : KnownCalls) (start : ℕ → ℕ) (timed : AreTimed known start) (binds : Bindings) where
  -- where a lost place stands in its era
  record IsLostAt (e : ℕ) (era : EraPlan) (n : ℕ) (recorded : RecordedCall) : Type 0 where
    front : List Place
    place : Place
    back : List Place
    within : List Place
    lost : drop (cut_of era) era.places ≡ within ++ place ∷ back
    whole : era.places ≡ front ++ place ∷ back
    past : cut_of era ≤ length front
    names : call_of place ≡ n
    may : may_place place recorded ≡ true

  lost_place : (e : ℕ) (era : EraPlan) → EraFacts known start timed binds e era → (within : List Place) (place : Place) (back : List Place) (recorded : RecordedCall)
      → drop (cut_of era) era.places ≡ within ++ place ∷ back → call_at known.calls (call_of place) ≡ Some recorded → IsLostAt e era (call_of place) recorded
  lost_place e era facts within place back recorded lost stands =
      let kept = take (cut_of era) era.places in
      let parts : era.places ≡ (kept ++ within) ++ place ∷ back = sym (take-append-drop (cut_of era) era.places) ∙ ap (λ l. kept ++ l) lost ∙ sym (append_assoc kept within (place ∷ back)) in
      let at : IsPlaced known start timed binds e place = (all_behind (IsPlaced known start timed binds e) (kept ++ within) (place ∷ back) (subst (AllByRecursion (IsPlaced known start timed binds e)) parts facts.placed)).0 in
      let same : Some at.0 ≡ Some recorded = sym at.1 ∙ stands in
      let is : at.0 ≡ recorded = cc in
      let many = length-append kept within in
      let cut = length-take-le (cut_of era) era.places facts.fits in
      record {
        front = kept ++ within;
        place = place;
        back = back;
        within = within;
        lost = lost;
        whole = parts;
        past = omega (arith, many, cut);
        names = refl;
        may = subst (λ r. may_place place r ≡ true) is at.3;
      }

  lost_at : (e : ℕ) (era : EraPlan) → EraFacts known start timed binds e era → (n : ℕ) (recorded : RecordedCall) → call_at known.calls n ≡ Some recorded
      → IsAmong (map call_of (drop (cut_of era) era.places)) n → IsLostAt e era n recorded
  lost_at e era facts n recorded stands among =
      let p = place_of (drop (cut_of era) era.places) n among in
      subst (λ k. IsLostAt e era k recorded) p.names (lost_place e era facts p.ahead p.place p.behind recorded p.stands (ap (call_at known.calls) p.names ∙ stands))

  -- a stable place isn't lost
  never_stable : (e : ℕ) (era : EraPlan) (n : ℕ) (recorded : RecordedCall) (at : IsLostAt e era n recorded) → KeepsStable binds known.calls era
      → IsStable (effect_at binds known.calls at.place) (effects_of binds known.calls at.back) → ⊥
  never_stable e era n recorded at keeps stable =
      let ahead = effects_of binds known.calls at.front in
      let parts : effects_of binds known.calls era.places ≡ ahead ++ effect_at binds known.calls at.place ∷ effects_of binds known.calls at.back =
      ap (effects_of binds known.calls) at.whole ∙ map-append (effect_at binds known.calls) at.front (at.place ∷ at.back) in
      let many = length-map at.front (effect_at binds known.calls) in
      let past = at.past in
      keeps (length ahead + 1) (omega (arith, many, past)) (record {
        ahead = ahead;
        here = effect_at binds known.calls at.place;
        behind = effects_of binds known.calls at.back;
        stands = parts;
        number = refl;
        stable = stable;
      })

  -- an answered call at another place of the era
  answered_place : (e : ℕ) (place : Place) (recorded : RecordedCall) (n : ℕ) (call : NfsCall) (outcome : _) (at : ℕ) → IsPlaced known start timed binds e place → call_of place ≡ n → IsAnswered known n recorded call outcome at
      → IsAnswered known (call_of place) recorded call outcome at × (may_place place recorded ≡ true)
  answered_place e place recorded n call outcome at placed names answered =
      let same : Some placed.0 ≡ Some recorded = sym placed.1 ∙ (ap (call_at known.calls) names ∙ answered.stands) in
      let is : placed.0 ≡ recorded = cc in
      (subst (λ k. IsAnswered known k recorded call outcome at) (sym names) answered, subst (λ r. may_place place r ≡ true) is placed.3)

  -- ---- the three kinds

  lasting_kept : (e : ℕ) (era : EraPlan) → KeepsStable binds known.calls era → (n : ℕ) (recorded : RecordedCall) → IsLasting known n recorded → IsLostAt e era n recorded → ⊥
  lasting_kept e era keeps n recorded lasts at =
      let answered = subst (λ k. IsAnswered known k recorded lasts.call lasts.outcome lasts.at) (sym at.names) lasts.answered in
      let effect : effect_at binds known.calls at.place ≡ Lasting =
      effect_so known binds at.place recorded lasts.call lasts.outcome lasts.at answered at.may ∙ lasts_so (object_written binds lasts.call) lasts.call lasts.outcome lasts.lasting in
      never_stable e era n recorded at keeps (subst (λ x. IsStable x (effects_of binds known.calls at.back)) (sym effect) tt)

  not_write : {a : _} {b : _} → meanings.Judged (calls.Commit a) ≡ meanings.Judged (calls.Write b) → ⊥
  not_write is = cc

  -- a WRITE isn't lost where a COMMIT behind it in its era reaches it
  saved_kept : (e : ℕ) (era : EraPlan) (facts : EraFacts known start timed binds e era) (n : ℕ) (recorded : RecordedCall) (m : ℕ) (behind : RecordedCall) (c : IsReached known n recorded m behind)
      (at : IsLostAt e era n recorded) → IsAmong (map call_of at.back) m → KeepsStable binds known.calls era → ⊥
  saved_kept e era facts n recorded m behind c at among keeps =
      let q = place_of at.back m among in
      let ran = (all_behind (HasRun known binds) at.front (at.place ∷ at.back) (subst (AllByRecursion (HasRun known binds)) at.whole facts.ran)).0 in
      let here = subst (λ k. IsAnswered known k recorded (calls.Write c.write) (written c.success) c.at) (sym at.names) c.answered in
      let object = object_named known binds (call_of at.place) recorded c.write c.success c.at ran.0 ran.1 here ran.2 in
      let write_effect : effect_at binds known.calls at.place ≡ at_level c.success.level (Unstable object.0 c.write.offset c.success.count) =
      effect_so known binds at.place recorded (calls.Write c.write) (written c.success) c.at here at.may
      ∙ ap (λ o. at_level c.success.level (of_object (λ named. Unstable named c.write.offset c.success.count) o)) object.1 in
      let placed_back = (all_behind (IsPlaced known start timed binds e) at.front (at.place ∷ at.back) (subst (AllByRecursion (IsPlaced known start timed binds e)) at.whole facts.placed)).1 in
      let q_placed : IsPlaced known start timed binds e q.place = (all_behind (IsPlaced known start timed binds e) q.ahead (q.place ∷ q.behind) (subst (AllByRecursion (IsPlaced known start timed binds e)) q.stands placed_back)).0 in
      let answered = answered_place e q.place behind m (calls.Commit c.commit) (committed c.commit_success) c.commit_at q_placed q.names c.commit_answered in
      let commit_effect : effect_at binds known.calls q.place ≡ Committed object.0 c.commit.offset c.commit.count =
      effect_so known binds q.place behind (calls.Commit c.commit) (committed c.commit_success) c.commit_at answered.0 answered.1
      ∙ ap (λ o. of_object (λ named. Committed named c.commit.offset c.commit.count) o) (ap (object_of binds) c.same_file ∙ object.1) in
      let effects_back : effects_of binds known.calls at.back ≡ effects_of binds known.calls q.ahead ++ effect_at binds known.calls q.place ∷ effects_of binds known.calls q.behind =
      ap (effects_of binds known.calls) q.stands ∙ map-append (effect_at binds known.calls) q.ahead (q.place ∷ q.behind) in
      let has : Contains (effects_of binds known.calls at.back) (effect_at binds known.calls q.place) =
      subst (λ l. Contains l (effect_at binds known.calls q.place)) (sym effects_back) (contains_middle (effects_of binds known.calls q.ahead) (effect_at binds known.calls q.place) (effects_of binds known.calls q.behind)) in
      let are_committed : AreCommitted object.0 c.write.offset c.success.count (effects_of binds known.calls at.back) =
      (Committed object.0 c.commit.offset c.commit.count, subst (Contains (effects_of binds known.calls at.back)) commit_effect has, (c.byte, c.was_written, (refl, c.reached.0, c.reached.1))) in
      never_stable e era n recorded at keeps
      (subst (λ x. IsStable x (effects_of binds known.calls at.back)) (sym write_effect) (level_stable c.success.level object.0 c.write.offset c.success.count (effects_of binds known.calls at.back) are_committed))

  module _ (e : ℕ) (era : EraPlan) (facts : EraFacts known start timed binds e era) (n : ℕ) (recorded : RecordedCall) (c : IsCommitted known n recorded) (of_era : recorded.era ≡ e)
      (at : IsLostAt e era n recorded) where
    -- the WRITE's reply came before the COMMIT was sent
    before : Precedes known.calls n c.later
    before = (
      c.reaches.at,
      ap (option_and_then (λ call. call.«end»)) c.reaches.answered.stands ∙ c.reaches.answered.ended,
      subst (λ b. c.reaches.at < b) (sym (ap (λ o. unwrap_or (option_map (λ call. call.begin) o) 0) c.reaches.commit_answered.stands)) c.sent_behind,
    )

    -- so the COMMIT stands behind
    commit_behind : IsAmong (map call_of at.back) c.later
    commit_behind =
        let among = facts.named c.later c.behind c.reaches.commit_answered.stands (answered_wanted known c.later c.behind (calls.Commit c.reaches.commit) _ c.reaches.commit_at c.reaches.commit_answered) (c.same_era ∙ of_era) in
        let parted : map call_of era.places ≡ map call_of at.front ++ n ∷ map call_of at.back =
        ap (map call_of) at.whole ∙ map-append call_of at.front (at.place ∷ at.back) ∙ ap (λ k. map call_of at.front ++ k ∷ map call_of at.back) at.names in
        elim (which_part (map call_of at.front) n (map call_of at.back) c.later (subst (λ l. IsAmong l c.later) parted among)) [
          | inl ahead ↦ absurd (not_ahead ahead)
          | inr it ↦ elim it [ inl same ↦ absurd (not_it same) | inr behind ↦ behind ]
        ] where
          not_ahead : IsAmong (map call_of at.front) c.later → ⊥
          not_ahead ahead =
              let q = place_of at.front c.later ahead in
              let none = none_ahead known.calls at.front at.place at.back (subst (RespectsOrder known.calls) at.whole facts.respects) in
              let here = (all_behind (λ first. ¬ Precedes known.calls (call_of at.place) (call_of first)) q.ahead (q.place ∷ q.behind) (subst (AllByRecursion (λ first. ¬ Precedes known.calls (call_of at.place) (call_of first))) q.stands none)).0 in
              here (subst (λ k. Precedes known.calls k (call_of q.place)) (sym at.names) (subst (λ k. Precedes known.calls n k) (sym q.names) before))

          not_it : n ≡ c.later → ⊥
          not_it same =
              let there : Some recorded ≡ Some c.behind = sym c.reaches.answered.stands ∙ (ap (call_at known.calls) same ∙ c.reaches.commit_answered.stands) in
              let is : recorded ≡ c.behind = cc in
              not_write (sym c.reaches.commit_answered.judged ∙ (sym (ap (λ r. r.meaning) is) ∙ c.reaches.answered.judged))

    committed_kept : KeepsStable binds known.calls era → ⊥
    committed_kept keeps = saved_kept e era facts n recorded c.later c.behind c.reaches at commit_behind keeps

  -- none of the lost calls is saved by one behind it
  module _ (e : ℕ) (era : EraPlan) (facts : EraFacts known start timed binds e era) (keeps : KeepsStable binds known.calls era) (hints : Hints) (told : AreRight known hints) where
    none_saved : (within places : List Place) → drop (cut_of era) era.places ≡ within ++ places → NoneSaved (numbering_of known hints) (map call_of places)
    unfolding lost_place
    none_saved within [] parts = tt
    none_saved within (place ∷ places) parts = (
      all_of_each (λ later. ¬ IsTrue (hints.saves (call_of place) later)) (map call_of places) (λ m among saves. saved m among saves),
      none_saved (within ++ place ∷ []) places (parts ∙ sym (append_assoc within (place ∷ []) places)),
    ) where
      saved : (m : ℕ) → IsAmong (map call_of places) m → IsTrue (hints.saves (call_of place) m) → ⊥
      saved m among saves =
          let r = told.saves (call_of place) m saves in
          saved_kept e era facts (call_of place) r.0 m r.1 r.2 (lost_place e era facts within place places r.0 parts r.2.answered.stands) among keeps

  module _ (whole : List EraPlan) (verifiers : VerifiersAgree known.calls whole) (facts : Facts known start timed binds 1 whole) where
    shown_kept : (e : ℕ) (era : EraPlan) → era_at whole e ≡ Some era → (n : ℕ) (recorded : RecordedCall) → IsShownLater known n recorded → recorded.era ≡ e → IsLostAt e era n recorded → ⊥
    shown_kept e era there n recorded s of_era at =
        let answered = subst (λ k. IsAnswered known k recorded (calls.Write s.write) (written s.success) s.at) (sym at.names) s.answered in
        let wrote : writes_bytes_at known.calls at.place ≡ true =
        writes_so known binds at.place recorded (calls.Write s.write) (written s.success) s.at answered at.may ∙ lt_true 0 s.success.count s.wrote in
        let loses : loses_write known.calls era ≡ true = ap (list_any (writes_bytes_at known.calls)) at.lost ∙ any_middle (writes_bytes_at known.calls) at.within at.place at.back wrote in
        let shows : Shows known.calls era.places s.success.verifier.value = (
          at.place,
          subst (λ l. Contains l at.place) (sym at.whole) (contains_middle at.front at.place at.back),
          verifier_so known binds at.place recorded (calls.Write s.write) (written s.success) s.at answered at.may,
        ) in
        let later_from = s.later_era in
        let o = era_of_call known start timed binds 1 whole facts s.later s.behind s.later_answered.stands (answered_wanted known s.later s.behind s.call s.outcome s.later_at s.later_answered) (omega (arith, later_from)) in
        let q = place_of o.era.places s.later o.among in
        let q_placed : IsPlaced known start timed binds s.behind.era q.place =
        (all_behind (IsPlaced known start timed binds s.behind.era) q.ahead (q.place ∷ q.behind) (subst (AllByRecursion (IsPlaced known start timed binds s.behind.era)) q.stands o.placed)).0 in
        let later = answered_place s.behind.era q.place s.behind s.later s.call s.outcome s.later_at q_placed q.names s.later_answered in
        let shows_later : Shows known.calls o.era.places s.success.verifier.value = (
          q.place,
          subst (λ l. Contains l q.place) (sym q.stands) (contains_middle q.ahead q.place q.behind),
          verifier_so known binds q.place s.behind s.call s.outcome s.later_at later.0 later.1 ∙ s.shows,
        ) in
        let is_of = o.is_of in
        verifiers.across e (suc o.further) s.success.verifier.value era o.era (omega (arith, later_from, of_era, is_of)) there o.there loses shows shows_later where
          lt_true : (a b : ℕ) → a < b → nat_lt a b ≡ true
          lt_true a b less = grind (arith, less)

    pub are_kept : (hints : Hints) (told : AreRight known hints) → CutsKeepStable binds known.calls whole → AreKept known start timed binds hints told whole
    are_kept hints told cuts = record {
      never = λ e era there less era_facts n recorded never of_era lost. go e era there (cuts e era there less) era_facts n recorded of_era lost never;
      unsaved = λ e era there less era_facts. none_saved e era era_facts (cuts e era there less) hints told [] (drop (cut_of era) era.places) refl;
    } where
      go : (e : ℕ) (era : EraPlan) → era_at whole e ≡ Some era → KeepsStable binds known.calls era → EraFacts known start timed binds e era → (n : ℕ) (recorded : RecordedCall) → recorded.era ≡ e
          → IsAmong (map call_of (drop (cut_of era) era.places)) n → IsNeverLost known n recorded → ⊥
      go e era there keeps era_facts n recorded of_era lost (inl lasts) = lasting_kept e era keeps n recorded lasts (lost_at e era era_facts n recorded lasts.answered.stands lost)
      go e era there keeps era_facts n recorded of_era lost (inr (inl c)) = committed_kept e era era_facts n recorded c of_era (lost_at e era era_facts n recorded c.reaches.answered.stands lost) keeps
      go e era there keeps era_facts n recorded of_era lost (inr (inr s)) = shown_kept e era there n recorded s of_era (lost_at e era era_facts n recorded s.answered.stands lost)

    -- ---- verifiers

    -- what an answered call shows is shown in its era
    pub shown_in : (n : ℕ) (recorded : RecordedCall) (call : NfsCall) (outcome : Outcome) (at : ℕ) → IsAnswered known n recorded call outcome at → 1 ≤ recorded.era → (v : ℕ) → verifier_of call outcome ≡ Some v
        → (o : EraOf known start timed binds 1 whole n recorded) × Shows known.calls o.era.places v
    shown_in n recorded call outcome at answered from v shows =
        let o = era_of_call known start timed binds 1 whole facts n recorded answered.stands (answered_wanted known n recorded call outcome at answered) from in
        let q = place_of o.era.places n o.among in
        let q_placed : IsPlaced known start timed binds recorded.era q.place =
        (all_behind (IsPlaced known start timed binds recorded.era) q.ahead (q.place ∷ q.behind) (subst (AllByRecursion (IsPlaced known start timed binds recorded.era)) q.stands o.placed)).0 in
        let here = answered_place recorded.era q.place recorded n call outcome at q_placed q.names answered in (
          o,
          (
            q.place,
            subst (λ l. Contains l q.place) (sym q.stands) (contains_middle q.ahead q.place q.behind),
            verifier_so known binds q.place recorded call outcome at here.0 here.1 ∙ shows,
          ),
        )

    pub no_two : ShowsTwoVerifiers known → (n_from : (n : ℕ) (recorded : RecordedCall) → call_at known.calls n ≡ Some recorded → is_wanted recorded ≡ true → 1 ≤ recorded.era) → ⊥
    no_two s n_from =
        let first = shown_in s.n s.recorded s.call s.outcome s.at s.answered (n_from s.n s.recorded s.answered.stands (answered_wanted known s.n s.recorded s.call s.outcome s.at s.answered)) s.one s.shows_one in
        let second = shown_in s.m s.other s.other_call s.other_outcome s.other_at s.other_answered
        (n_from s.m s.other s.other_answered.stands (answered_wanted known s.m s.other s.other_call s.other_outcome s.other_at s.other_answered)) s.two s.shows_two in
        let a = first.0.is_of in
        let b = second.0.is_of in
        let e = s.same_era in
        let same : first.0.further ≡ second.0.further = omega (arith, a, b, e) in
        let there : Some first.0.era ≡ Some second.0.era = sym first.0.there ∙ (ap (λ k. era_at whole (suc k)) same ∙ second.0.there) in
        let era_is : first.0.era ≡ second.0.era = cc in
        s.differ (verifiers.within (suc second.0.further) s.one s.two second.0.era second.0.there (subst (λ x. Shows known.calls x.places s.one) era_is first.1) second.1)
