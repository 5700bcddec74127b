-- where a walk begins, what a state forgets, and what it is compared by
use Rattle.std.proofs.Common.{◌≡◌, ◌≢◌, inl, inr, ℕ, ◌≤◌, Bool, true, false, cond, List, [], ◌∷◌, Option, Some, None, refl, sym, ap, ◌∙◌, subst, eq-eqb, arith}
use Rattle.std.specs.Prelude.{◌==◌, ◌||◌, not, filter, option_map}
use Rattle.std.proofs.lemmas.Bool.{eqb-true, ne_eqb, or_parts, or_cases, true≢false, le-ltb}
use Rattle.nfs_history.specs.declared.knowing.KnownCalls.{KnownCalls}
use Rattle.certificate.specs.declared.plan.Certificate.{Certificate}
use Rattle.witness_check.specs.Run.{base_of}
use Rattle.tree_nodes.specs.Tree.{Tree}
use Rattle.tree_handles.specs.Binding.{Bindings}
use Rattle.decision_core.specs.Eras.{is_placed}
use Rattle.decision_core.specs.States.{also, Replaces}
use Rattle.decision_steps.specs.Known.{AgreesWith}
use Rattle.decision_law.specs.Laws.{binds_of}
use Rattle.decision_law.specs.Machine.{Point, first_point}
use Rattle.decision_law.specs.Times.{era_of_number}
use Rattle.decision_walk.specs.View.{KeptView, WalkView}
use Rattle.decision_walk.specs.Bars.{AreBarred}
use Rattle.decision_walk.specs.Opening.{HasWritten, HasWrittenBase}
use Rattle.decision_walk.specs.Standing.{has_call, is_of_earlier, EndsBy, IsAt}
use Rattle.decision_walk.specs.Placings.{renewed_kept, renewed}
use Rattle.decision_walk.proofs.Resolutions.{none_written}

module _ (known : KnownCalls) (marks : List Bool) where
  pub opens : (state : WalkView) → state.tree ≡ base_of known → state.writes ≡ [] → state.base ≡ None → state.era ≡ 1 → state.past ≡ 0 → state.placed ≡ [] → state.barred ≡ [] → (plan : Certificate)
      → AgreesWith state.binds (binds_of known plan) → IsAt known marks plan (λ _. false) (first_point known) state
  opens state tree writes base era past placed barred plan agrees = record {
    counts = λ _. 0;
    binds = agrees;
    era = era;
    past = omega (arith, past);
    tree = λ inside. subst (λ ws. HasWritten known (binds_of known plan) (λ _. 0) ws state.tree (base_of known)) (sym writes)
        (subst (λ t. HasWritten known (binds_of known plan) (λ _. 0) [] t (base_of known)) (sym tree) (none_written known (binds_of known plan) (λ _. 0) (base_of known)));
    base = λ inside. subst (λ b. HasWrittenBase known (binds_of known plan) (λ _. 0) b None) (sym base) tt;
    placed = λ n kept. ap (λ p. is_of_earlier known p n || has_call state.placed n) past ∙ ap (λ b. b || has_call state.placed n) (le-ltb (era_of_number known n) 0 (omega arith)) ∙ ap (λ l. has_call l n) placed;
    answered = λ n kept. absurd (true≢false (sym kept));
    barred = subst (AreBarred known (binds_of known plan)) (sym barred) tt;
  }

  -- a call that is looked for stays, where another one is left out
  has_other : (calls : List ℕ) (n m : ℕ) → m ≢ n → has_call (filter (λ k. not (k == n)) calls) m ≡ has_call calls m
  has_other [] n m other = refl
  has_other (k ∷ calls) n m other = go (k == n) refl (has_other calls n m other) where
    go : (b : Bool) → (k == n) ≡ b → has_call (filter (λ j. not (j == n)) calls) m ≡ has_call calls m
        → has_call (cond (not b) (k ∷ filter (λ j. not (j == n)) calls) (filter (λ j. not (j == n)) calls)) m ≡ ((k == m) || has_call calls m)
    go true same rest = rest ∙ ap (λ b. b || has_call calls m) (sym (ne_eqb k m (λ it. other (sym it ∙ eqb-true k n same))))
    go false apart rest = ap (λ b. (k == m) || b) rest

  pub forgets : (plan : Certificate) (gone : ℕ → Bool) (point : Point known) (state : WalkView) (n answered_to : ℕ) → state.answered_to ≤ answered_to → EndsBy known n answered_to
      → IsAt known marks plan gone point state → IsAt known marks plan (also gone n) point (record state { placed = filter (λ m. not (m == n)) state.placed; answered_to = answered_to })
  forgets plan gone point state n answered_to later ends at = record {
    counts = at.counts;
    binds = at.binds;
    era = at.era;
    past = at.past;
    tree = at.tree;
    base = at.base;
    placed = λ m kept. of_kept m kept;
    barred = at.barred;
    answered = λ m kept. elim (or_cases (gone m) (m == n) kept) [
      | inl earlier ↦ (λ recorded event stands ended. let by = at.answered m earlier recorded event stands ended in omega (arith, by, later))
      | inr now ↦ subst (λ k. EndsBy known k answered_to) (sym (eqb-true m n now)) ends
    ];
  } where
    of_kept : (m : ℕ) → also gone n m ≡ false → (is_of_earlier known state.past m || has_call (filter (λ k. not (k == n)) state.placed) m) ≡ is_placed point m
    of_kept m kept = let parts = or_parts (gone m) (m == n) kept in
        ap (λ b. is_of_earlier known state.past m || b) (has_other state.placed n m (λ same. true≢false (sym (eq-eqb m n same) ∙ parts.1))) ∙ at.placed m parts.0

  -- what a state is compared by says nothing of what it stands for
  base_renewed : (binds : Bindings) (counts : ℕ → ℕ) (origin : Tree × Bindings) (base : Option KeptView) (other : Option Tree) → HasWrittenBase known binds counts base other
      → HasWrittenBase known binds counts (option_map (renewed_kept origin) base) other
  base_renewed binds counts origin None None has = has
  base_renewed binds counts origin None (Some other) has = absurd has
  base_renewed binds counts origin (Some kept) None has = absurd has
  base_renewed binds counts origin (Some kept) (Some other) has = has

  pub renewed_stands : (state : WalkView) (origin : Tree × Bindings) → Replaces (IsAt known marks) state (renewed state origin)
  renewed_stands state origin plan gone point at = record {
    counts = at.counts;
    binds = at.binds;
    era = at.era;
    past = at.past;
    tree = at.tree;
    base = λ early. base_renewed (binds_of known plan) at.counts origin state.base point.base (at.base early);
    placed = at.placed;
    answered = at.answered;
    barred = at.barred;
  }
