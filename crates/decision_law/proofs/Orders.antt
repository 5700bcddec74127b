-- A plan that is a witness is a witness of eras, and so one order.
use Rattle.std.proofs.Common.{◌≡◌, ◌⊎◌, inl, inr, ℕ, suc, ◌+◌, ◌<◌, ◌≤◌, nat_le, Bool, true, false, cond, IsTrue, List, [], ◌∷◌, ◌++◌, length, map, Some, None, refl, sym, ap, subst, ◌∙◌, arith, append-nil}
use Rattle.std.specs.List.{AllByRecursion}
use Rattle.nfs_history.specs.declared.knowing.KnownCalls.{KnownCalls}
use Rattle.nfs_history.specs.Precedence.{call_at}
use Rattle.certificate.specs.declared.plan.Certificate.{Certificate}
use Rattle.certificate.specs.declared.plan.EraPlan.{EraPlan}
use Rattle.certificate.specs.Plan.{call_of, cut_of}
use Rattle.order_check.specs.Places.{order_from, is_placeable}
use Rattle.order_check.specs.Shape.{is_named}
use Rattle.witness_check.specs.Run.{base_of}
use Rattle.witness_check.specs.Witness.{IsWitness}
use Rattle.decision_core.specs.Times.{IsAmong}
use Rattle.decision_core.specs.Eras.{PlanEra, part_of, order_of, PlanRuns, IsEraWitness}
use Rattle.decision_core.proofs.Orders.{all_ahead, all_behind}
use Rattle.decision_core.proofs.Walk.{among_ahead, among_last}
use Rattle.decision_core.proofs.ErasWalk.{eras_are_one_order}
use Rattle.decision_law.specs.Times.{AreTimed, is_of_call, era_ended, numbering_of, times_of}
use Rattle.cut_check.specs.Places.{era_at}
use Rattle.decision_law.specs.NeverLost.{Hints, no_hints, AreRight}
use Rattle.decision_law.specs.Machine.{Changes, IsOrder}
use Rattle.decision_law.specs.Plans.{cut_era, whole_era, eras_of_plan}
use Rattle.decision_law.specs.Laws.{binds_of, ShowsTwoVerifiers}
use Rattle.decision_law.proofs.Numbered.{numbered, which, wanted_end, of_call, crash_end}
use Rattle.decision_law.proofs.Runs.{MayBePlaced, plan_runs, have_run}
use Rattle.decision_law.proofs.Shapes.{at_era, all_map, named_among, named_parts, numbers_parted, Facts, of_some_era, plan_shape}
use Rattle.decision_law.proofs.Kept.{are_kept, no_two}

-- as many eras
pub as_many : (eras : List EraPlan) → length (eras_of_plan eras) ≡ length eras
as_many [] = refl
as_many (era ∷ []) = refl
as_many (era ∷ following ∷ eras) = ap (λ k. suc k) (as_many (following ∷ eras))

-- among the second of two lists
among_behind : (xs ys : List ℕ) (n : ℕ) → IsAmong ys n → IsAmong (xs ++ ys) n
among_behind [] ys n among = among
among_behind (x ∷ xs) ys n among = inr (among_behind xs ys n among)

module _ (known : KnownCalls) (hints : Hints) where
  -- the calls of an era are in its part
  in_part : (e : ℕ) (era : EraPlan) (parts : PlanEra) (n : ℕ) → parts.kept ++ parts.lost ≡ map call_of era.places → IsAmong (map call_of era.places) n → IsAmong (part_of (numbering_of known hints) e parts) n
  in_part e era parts n is among = among_ahead (parts.kept ++ parts.lost) ((numbering_of known hints).crash e ∷ []) n (subst (λ l. IsAmong l n) (sym is) among)

  -- what is named is in the order
  pub named_in_order : (e : ℕ) (eras : List EraPlan) (n : ℕ) → is_named (order_from e eras) n ≡ true → IsAmong (order_of (numbering_of known hints) e (eras_of_plan eras)) n
  named_in_order e [] n named = absurd cc
  named_in_order e (era ∷ []) n named = elim (named_parts (map (at_era e) era.places) [] n named) [
    | inl here ↦ among_ahead (part_of (numbering_of known hints) e (whole_era era)) [] n (in_part e era (whole_era era) n (append-nil (map call_of era.places)) (named_among e era.places n here))
    | inr later ↦ absurd cc
  ]
  named_in_order e (era ∷ following ∷ eras) n named = elim (named_parts (map (at_era e) era.places) (order_from (e + 1) (following ∷ eras)) n named) [
    | inl here ↦ among_ahead (part_of (numbering_of known hints) e (cut_era era)) (order_of (numbering_of known hints) (e + 1) (eras_of_plan (following ∷ eras))) n
        (in_part e era (cut_era era) n (numbers_parted (cut_of era) era.places) (named_among e era.places n here))
    | inr later ↦ among_behind (part_of (numbering_of known hints) e (cut_era era)) (order_of (numbering_of known hints) (e + 1) (eras_of_plan (following ∷ eras))) n
        (named_in_order (e + 1) (following ∷ eras) n later)
  ]

  -- so is each crash
  crash_in_order : (e : ℕ) (eras : List PlanEra) (f : ℕ) → e ≤ f → f < e + length eras → IsAmong (order_of (numbering_of known hints) e eras) ((numbering_of known hints).crash f)
  crash_in_order e [] f from to = absurd (omega (arith, from, to))
  crash_in_order e (era ∷ eras) f from to = elim (either e f from) [
    | inl same ↦ among_ahead (part_of (numbering_of known hints) e era) (order_of (numbering_of known hints) (e + 1) eras) ((numbering_of known hints).crash f)
        (subst (λ k. IsAmong (part_of (numbering_of known hints) e era) ((numbering_of known hints).crash k)) same (among_last (era.kept ++ era.lost) ((numbering_of known hints).crash e)))
    | inr later ↦ among_behind (part_of (numbering_of known hints) e era) (order_of (numbering_of known hints) (e + 1) eras) ((numbering_of known hints).crash f)
        (crash_in_order (e + 1) eras f later (omega (arith, to)))
  ] where
    either : (e f : ℕ) → e ≤ f → (e ≡ f) ⊎ (e + 1 ≤ f)
    either e f from = grind (arith, from)

  crash_within : (b : Bool) (start at : ℕ) → cond b (Some start) None ≡ Some at → b ≡ true
  crash_within true start at ends = refl
  crash_within false start at ends = absurd cc

  behind_calls : (n : ℕ) → is_of_call known n ≡ false → length known.calls < n
  behind_calls n is = grind (arith, is)

  at_most : (a b : ℕ) → nat_le a b ≡ true → a ≤ b
  at_most a b is = grind (arith, is)

  -- each place may be placed
  may_be : (e : ℕ) (eras : List EraPlan) → AllByRecursion (λ p. IsTrue (is_placeable known.calls p)) (order_from e eras) → AllByRecursion (λ era. MayBePlaced known.calls era.places) eras
  may_be e [] right = tt
  may_be e (era ∷ eras) right = (
    all_map (λ p. IsTrue (is_placeable known.calls p)) e era.places (all_ahead (λ p. IsTrue (is_placeable known.calls p)) (map (at_era e) era.places) (order_from (e + 1) eras) right),
    may_be (e + 1) eras (all_behind (λ p. IsTrue (is_placeable known.calls p)) (map (at_era e) era.places) (order_from (e + 1) eras) right),
  )

  module _ (start : ℕ → ℕ) (plan : Certificate) (timed : AreTimed known start) (told : AreRight known hints) (witness : IsWitness known plan) where
    runs : PlanRuns (Changes known (binds_of known plan)) (base_of known) (eras_of_plan plan.eras)
    runs = plan_runs known (binds_of known plan) (base_of known) plan.eras (may_be 1 plan.eras witness.shape.right) witness.runs

    facts : Facts known start timed (binds_of known plan) 1 plan.eras
    facts = record {
      of_their_eras = witness.shape.of_their_eras;
      right = witness.shape.right;
      once = witness.shape.once;
      fits = witness.shape.cuts;
      complete = λ n recorded stands wanted later. witness.shape.complete n recorded stands wanted;
      respects = witness.order;
      ran = have_run known (binds_of known plan) (base_of known) plan.eras runs;
    }

    complete : (n at : ℕ) → (times_of known start).end_of n ≡ Some at → IsAmong (order_of (numbering_of known hints) 1 (eras_of_plan plan.eras)) n
    complete n at ends = elim (which known start n) [
      | inl is ↦ let c = wanted_end (call_at known.calls n) at (sym (of_call known start n _ _ is) ∙ ends) in
          named_in_order 1 plan.eras n (witness.shape.complete n c.0 c.1 c.2)
      | inr is ↦ let within = crash_within (nat_le (era_ended known n) known.eras) (start (era_ended known n + 1)) at (sym (crash_end known start timed n is) ∙ ends) in
          let behind = behind_calls n is in
          let most = at_most (era_ended known n) known.eras within in
          let same : length known.calls + era_ended known n ≡ n = omega (arith, behind) in
          let many = as_many plan.eras in
          let eras = witness.shape.as_many_eras in
          subst (IsAmong (order_of (numbering_of known hints) 1 (eras_of_plan plan.eras))) same
          (crash_in_order 1 (eras_of_plan plan.eras) (era_ended known n) (omega (arith, behind)) (omega (arith, most, many, eras)))
    ]

    pub era_witness : IsEraWitness (Changes known (binds_of known plan)) (times_of known start) (numbering_of known hints) known.eras (base_of known) (eras_of_plan plan.eras)
    era_witness = record {
      as_many_eras = as_many plan.eras ∙ witness.shape.as_many_eras;
      shape = plan_shape known start timed (binds_of known plan) hints told plan.eras
          (are_kept known start timed (binds_of known plan) plan.eras witness.verifiers facts hints told witness.cuts) 1 plan.eras facts
          (omega arith, (λ k era at. let same : suc k ≡ 1 + k = omega arith in subst (λ j. era_at plan.eras j ≡ Some era) same at));
      runs = runs;
      complete = complete;
    }

    pub is_order : IsOrder known start hints (binds_of known plan) (order_of (numbering_of known hints) 1 (eras_of_plan plan.eras))
    is_order = eras_are_one_order (Changes known (binds_of known plan)) (numbering_of known hints) (times_of known start) known.eras (start)
        (numbered known start timed hints) (base_of known) (eras_of_plan plan.eras) era_witness

-- two verifiers in one era
pub no_two_verifiers : (known : KnownCalls) (start : ℕ → ℕ) (timed : AreTimed known start) (plan : Certificate) → ShowsTwoVerifiers known → ¬ IsWitness known plan
no_two_verifiers known start timed plan two witness =
    let told : AreRight known no_hints = record { never_lost = λ n never. absurd (cc); saves = λ n m saves. absurd (cc) } in
    no_two known start timed (binds_of known plan) plan.eras witness.verifiers (facts known no_hints start plan timed told witness) two
    (λ n recorded stands wanted. of_some_era known start timed (binds_of known plan) plan.eras witness.shape.of_their_eras n recorded stands (witness.shape.complete n recorded stands wanted))
