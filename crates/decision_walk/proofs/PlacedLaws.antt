-- the states in which a call is placed stand for all points to which it may lead
use Rattle.std.proofs.Common.{◌≡◌, ◌⊎◌, inl, inr, ℕ, ◌<◌, ◌≤◌, Bool, true, false, List, [], ◌∷◌, ◌++◌, Option, Some, None, refl, sym, ap, ◌∙◌, subst, arith}
use Rattle.std.specs.Prelude.{◌==◌, ◌||◌, Contains}
use Rattle.std.specs.List.{list_any}
use Rattle.std.proofs.lemmas.Bool.{cases_lt}
use Rattle.nfs3_types.specs.declared.calls.NfsCall.{NfsCall}
use Rattle.nfs3_types.specs.declared.replies.Outcome.{Outcome}
use Rattle.nfs_history.specs.declared.knowing.KnownCalls.{KnownCalls}
use Rattle.certificate.specs.declared.plan.Certificate.{Certificate}
use Rattle.tree_nodes.specs.Tree.{Tree}
use Rattle.tree_handles.specs.Binding.{Bindings}
use Rattle.decision_core.specs.Eras.{IsAheadOfCut, IsFirstLost, IsBehindCut}
use Rattle.decision_steps.specs.Known.{AgreesWith}
use Rattle.decision_steps.specs.Standing.{Standing}
use Rattle.decision_law.specs.Laws.{binds_of}
use Rattle.decision_law.specs.Machine.{Point, Changes}
use Rattle.decision_walk.specs.declared.open_writes.OpenWrite.{OpenWrite}
use Rattle.decision_walk.specs.View.{KeptView, WalkView}
use Rattle.decision_walk.specs.Opening.{HasWritten, HasWrittenBase}
use Rattle.decision_walk.specs.Standing.{numbers_of, has_call, is_of_earlier, IsAt}
use Rattle.decision_walk.specs.Placings.{kept_of, child_of, CoversPoints, HasChildren, HasPlaced, HoldsAt, MayNotLose}

-- ---- calls that are placed

or_false : (b : Bool) → (b || false) ≡ b
or_false true = refl
or_false false = refl

or_swap : (a b : Bool) → (a || b) ≡ (b || a)
or_swap true true = refl
or_swap true false = refl
or_swap false true = refl
or_swap false false = refl

or_assoc : (a b c : Bool) → (a || (b || c)) ≡ ((a || b) || c)
or_assoc true b c = refl
or_assoc false b c = refl

any_push : (test : ℕ → Bool) (xs : List ℕ) (x : ℕ) → list_any test (xs ++ x ∷ []) ≡ (test x || list_any test xs)
any_push test [] x = refl
any_push test (y ∷ xs) x =
    ap (λ b. test y || b) (any_push test xs x) ∙ or_assoc (test y) (test x) (list_any test xs) ∙ ap (λ b. b || list_any test xs) (or_swap (test y) (test x)) ∙ sym (or_assoc (test x) (test y) (list_any test xs))

-- one call more after those that are listed is one more before all that are placed
pub told_more : (known : KnownCalls) (past : ℕ) (placed calls : List ℕ) (n m : ℕ) → (is_of_earlier known past m || has_call placed m) ≡ list_any (λ k. k == m) calls
    → (is_of_earlier known past m || has_call (placed ++ n ∷ []) m) ≡ list_any (λ k. k == m) (n ∷ calls)
told_more known past placed calls n m same =
    ap (λ b. is_of_earlier known past m || b) (any_push (λ k. k == m) placed n)
    ∙ or_assoc (is_of_earlier known past m) (n == m) (has_call placed m)
    ∙ ap (λ b. b || has_call placed m) (or_swap (is_of_earlier known past m) (n == m))
    ∙ sym (or_assoc (n == m) (is_of_earlier known past m) (has_call placed m)) ∙ ap (λ b. (n == m) || b) same

module _ (known : KnownCalls) (marks : List Bool) where
  -- the state in which the call is placed stands for the point after it
  child_at : (plan : Certificate) (gone : ℕ → Bool) (point after : Point known) (state : WalkView) (next : Standing) (writes : List OpenWrite) (base : Option KeptView) (n : ℕ) (counts : ℕ → ℕ)
      → IsAt known marks plan gone point state → AgreesWith next.binds (binds_of known plan) → HasWritten known (binds_of known plan) counts writes next.tree after.tree → after.era ≡ point.era
      → after.calls ≡ n ∷ point.calls → (after.era < known.eras → HasWrittenBase known (binds_of known plan) counts base after.base)
      → IsAt known marks plan gone after (child_of state next writes base n)
  child_at plan gone point after state next writes base n counts at binds tree era calls is_base = record {
    counts = counts;
    binds = binds;
    era = at.era ∙ sym era;
    past = at.past;
    tree = λ inside. tree;
    base = is_base;
    answered = at.answered;
    barred = at.barred;
    placed = λ m kept. told_more known state.past state.placed point.calls n m (at.placed m kept) ∙ ap (list_any (λ k. k == m)) (sym calls);
  }

  -- nothing is lost in the state where nothing is at the point
  no_base : (binds : Bindings) (counts : ℕ → ℕ) (base : Option KeptView) → HasWrittenBase known binds counts base None → base ≡ None
  no_base binds counts None has = refl
  no_base binds counts (Some kept) has = absurd has

  -- so they have all to which the call may lead, by which these counts are the open WRITEs'
  pub children_hold : (states : List WalkView) (state : WalkView) (n : ℕ) (next : Standing) (writes : List OpenWrite) → HasChildren known marks states state n next writes
      → (plan : Certificate) (gone : ℕ → Bool) (point after : Point known) (tree : Tree) (counts : ℕ → ℕ) → IsAt known marks plan gone point state
      → HasWritten known (binds_of known plan) counts state.writes state.tree point.tree → (point.era < known.eras → HasWrittenBase known (binds_of known plan) counts state.base point.base)
      → AgreesWith next.binds (binds_of known plan) → HasWritten known (binds_of known plan) counts writes next.tree tree
      → IsAheadOfCut (Changes known (binds_of known plan)) point n tree after
      ⊎ (IsFirstLost (Changes known (binds_of known plan)) (numbers_of known marks) point n tree after
      ⊎ IsBehindCut (Changes known (binds_of known plan)) (numbers_of known marks) point n tree after) → HoldsAt known marks states plan gone after
  children_hold states state n next writes children plan gone point after tree counts at before base binds written cut = go cut where
    goal : (kept : Option KeptView) → Contains states (child_of state next writes kept n) → after.tree ≡ tree → after.era ≡ point.era → after.calls ≡ n ∷ point.calls
        → (after.era < known.eras → HasWrittenBase known (binds_of known plan) counts kept after.base) → HoldsAt known marks states plan gone after
    goal kept there same era calls is_base = (
      child_of state next writes kept n,
      there,
      child_at plan gone point after state next writes kept n counts at binds (subst (HasWritten known (binds_of known plan) counts writes next.tree) (sym same) written) era calls is_base,
    )

    -- the cut stays as it is
    stays : after.tree ≡ tree → after.base ≡ point.base → after.era ≡ point.era → after.calls ≡ n ∷ point.calls → HoldsAt known marks states plan gone after
    stays same is era calls = goal state.base children.0 same era calls
        (λ early. subst (HasWrittenBase known (binds_of known plan) counts state.base) (sym is) (base (subst (λ e. e < known.eras) era early)))

    -- in the last era any cut will do
    late : known.eras ≤ point.era → after.tree ≡ tree → after.era ≡ point.era → after.calls ≡ n ∷ point.calls → HoldsAt known marks states plan gone after
    late last same era calls = goal state.base children.0 same era calls (λ early. absurd (omega (arith, early, last, era)))

    -- the call is the first that is lost
    lost : after.tree ≡ tree → point.base ≡ None → after.base ≡ Some point.tree → after.era ≡ point.era → after.calls ≡ n ∷ point.calls
        → ¬ (MayNotLose known marks state n) → HoldsAt known marks states plan gone after
    lost same none is era calls may = elim (cases_lt point.era known.eras) [
      | inr last ↦ late last same era calls
      | inl early ↦ elim (children.1 (no_base (binds_of known plan) counts state.base (subst (HasWrittenBase known (binds_of known plan) counts state.base) none (base early))) (subst (λ e. e < known.eras) (sym at.era) early)) [
        | inl not ↦ absurd (may not)
        | inr child ↦ goal (Some (kept_of state)) child same era calls (λ inner. subst (HasWrittenBase known (binds_of known plan) counts (Some (kept_of state))) (sym is) before)
      ]
    ]

    go : IsAheadOfCut (Changes known (binds_of known plan)) point n tree after
        ⊎ (IsFirstLost (Changes known (binds_of known plan)) (numbers_of known marks) point n tree after
        ⊎ IsBehindCut (Changes known (binds_of known plan)) (numbers_of known marks) point n tree after) → HoldsAt known marks states plan gone after
    go (inl ahead) = stays (ap (λ p. p.tree) ahead.1) (ap (λ p. p.base) ahead.1 ∙ sym ahead.0) (ap (λ p. p.era) ahead.1) (ap (λ p. p.calls) ahead.1)
    go (inr (inl first)) = lost (ap (λ p. p.tree) first.3) first.0 (ap (λ p. p.base) first.3) (ap (λ p. p.era) first.3) (ap (λ p. p.calls) first.3)
        (λ not. not plan gone point at (first.1, first.2))
    go (inr (inr behind)) = stays (ap (λ p. p.tree) behind.3) (ap (λ p. p.base) behind.3 ∙ sym behind.1) (ap (λ p. p.era) behind.3) (ap (λ p. p.calls) behind.3)

  -- a call that comes to no open WRITE's file
  pub children_cover : (states : List WalkView) (state : WalkView) (n : ℕ) (call : NfsCall) (outcome : Outcome) (next : Standing) → CoversPoints known marks state n call outcome (Some next)
      → HasChildren known marks states state n next state.writes → HasPlaced known marks states state n call outcome
  children_cover states state n call outcome next covers children plan gone point after at inside kept comes =
      let covered = covers plan gone point at inside comes.tree comes.goes in
      children_hold states state n next state.writes children plan gone point after comes.tree at.counts at (at.tree inside) at.base covered.1 covered.0 comes.cut
