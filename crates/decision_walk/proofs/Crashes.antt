-- a crash goes back to what it keeps
use Rattle.std.proofs.Common.{◌≡◌, inl, inr, ℕ, ◌+◌, ◌-◌, ◌<◌, leb, Bool, true, List, length, Option, Some, None, sym, ap, ◌∙◌, subst, arith}
use Rattle.std.specs.Prelude.{◌==◌, unwrap_or, Contains}
use Rattle.std.specs.List.{list_any}
use Rattle.std.proofs.lemmas.Bool.{leb-true}
use Rattle.nfs_history.specs.declared.knowing.KnownCalls.{KnownCalls}
use Rattle.certificate.specs.declared.plan.Certificate.{Certificate}
use Rattle.decision_core.specs.Eras.{IsCrash}
use Rattle.decision_law.specs.Laws.{binds_of}
use Rattle.decision_law.specs.Machine.{Point, Changes}
use Rattle.tree_nodes.specs.Tree.{Tree}
use Rattle.tree_handles.specs.Binding.{Bindings}
use Rattle.decision_walk.specs.View.{KeptView, WalkView}
use Rattle.decision_walk.specs.Opening.{HasWritten, HasWrittenBase}
use Rattle.decision_walk.specs.Standing.{numbers_of, IsAt}
use Rattle.decision_walk.specs.Placings.{kept_of, crashed, HasStepOf}
use Rattle.decision_walk.proofs.PlacedLaws.{told_more}

module _ (known : KnownCalls) (binds : Bindings) (counts : ℕ → ℕ) (here : KeptView) (tree : Tree) (stands : HasWritten known binds counts here.writes here.tree tree) where
  -- what the crash goes back to
  back : (base : Option KeptView) (other : Option Tree) → HasWrittenBase known binds counts base other
      → HasWritten known binds counts (unwrap_or base here).writes (unwrap_or base here).tree (unwrap_or other tree)
  back None None has = stands
  back None (Some other) has = absurd has
  back (Some kept) None has = absurd has
  back (Some kept) (Some other) has = has

module _ (known : KnownCalls) (marks : List Bool) where
  crashed_at : (plan : Certificate) (gone : ℕ → Bool) (point after : Point known) (state : WalkView) (n : ℕ) → IsAt known marks plan gone point state
      → IsCrash (Changes known (binds_of known plan)) (numbers_of known marks) point n after → IsAt known marks plan gone after (crashed state n)
  crashed_at plan gone point after state n at crash =
      let era : after.era ≡ point.era + 1 = ap (λ p. p.era) crash.1 in
      record {
        counts = at.counts;
        binds = at.binds;
        era = ap (λ e. e + 1) at.era ∙ sym era;
        past = (let within = at.past in omega (arith, within));
        tree = λ inside. subst (HasWritten known (binds_of known plan) at.counts (unwrap_or state.base (kept_of state)).writes (unwrap_or state.base (kept_of state)).tree) (sym (ap (λ p. p.tree) crash.1))
            (back known (binds_of known plan) at.counts (kept_of state) point.tree (at.tree (omega (arith, inside, era))) state.base point.base (at.base (omega (arith, inside, era))));
        base = λ inside. subst (HasWrittenBase known (binds_of known plan) at.counts None) (sym (ap (λ p. p.base) crash.1)) tt;
        answered = at.answered;
        barred = at.barred;
        placed = λ m kept. told_more known state.past state.placed point.calls n m (at.placed m kept) ∙ ap (λ p. list_any (λ k. k == m) p.calls) (sym crash.1);
      }

  -- after the calls a number stands for a crash
  of_crash : (n : ℕ) → length known.calls < n → leb n (length known.calls) ≡ true → ⊥
  of_crash n behind e = omega (arith, behind, leb-true n (length known.calls) e)

  pub crash_steps : (states : List WalkView) (state : WalkView) (n : ℕ) → length known.calls < n → Contains states (crashed state n) → HasStepOf known marks states n state
  crash_steps states state n behind there plan gone point after at kept unplaced (inl real) = absurd (of_crash n behind real.0)
  crash_steps states state n behind there plan gone point after at kept unplaced (inr crash) = (crashed state n, there, crashed_at plan gone point after state n at crash)

  -- and of another era's crash nothing comes
  pub no_crash_steps : (states : List WalkView) (state : WalkView) (n : ℕ) → length known.calls < n → (n - length known.calls ≡ state.era → ⊥) → HasStepOf known marks states n state
  no_crash_steps states state n behind other plan gone point after at kept unplaced (inl real) = absurd (of_crash n behind real.0)
  no_crash_steps states state n behind other plan gone point after at kept unplaced (inr crash) = absurd (other (omega (arith, crash.0, at.era)))
