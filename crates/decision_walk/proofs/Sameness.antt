-- a state that comes to the same as another one, or has more open WRITEs, stands for what that one stands for
use Rattle.std.proofs.Common.{◌≡◌, inl, inr, ℕ, ◌≤◌, Bool, true, false, cond, List, [], ◌∷◌, Option, Some, None, refl, sym, ap, ◌∙◌, subst, eq-eqb, arith}
use Rattle.std.specs.Prelude.{◌==◌, ◌||◌}
use Rattle.std.specs.List.{AllByRecursion}
use Rattle.std.proofs.lemmas.Bool.{eqb-true, or_right}
use Rattle.nfs_history.specs.declared.knowing.KnownCalls.{KnownCalls}
use Rattle.tree_nodes.specs.Tree.{Tree}
use Rattle.tree_handles.specs.Binding.{Bindings}
use Rattle.alike_calls.proofs.WritesSame.{same_on_files}
use Rattle.decision_core.specs.States.{Replaces}
use Rattle.decision_steps.specs.Known.{AgreesWith}
use Rattle.decision_law.specs.Laws.{binds_of}
use Rattle.decision_walk.specs.declared.open_writes.OpenWrite.{OpenWrite}
use Rattle.decision_walk.specs.View.{KeptView, WalkView}
use Rattle.decision_walk.specs.Bars.{AreBarred}
use Rattle.decision_walk.specs.Opening.{write_of, held_with, filled, IsOpen, HasWritten, HasWrittenBase, is_open}
use Rattle.decision_walk.specs.Resolving.{is_open_base, is_open_in, IsExtra, Covers, HasBaseOver}
use Rattle.decision_walk.specs.Standing.{has_call, is_of_earlier, EndsBy, IsAt}
use Rattle.decision_walk.proofs.Filling.{filled_none}

-- each of some WRITEs is one of them
all_open : (more writes : List OpenWrite) → ((w : OpenWrite) → is_open writes w.call ≡ true → is_open more w.call ≡ true) → AllByRecursion (λ (w : OpenWrite). is_open more w.call ≡ true) writes
all_open more [] inside = tt
all_open more (w ∷ writes) inside = (
  inside w (ap (λ b. b || is_open writes w.call) (eq-eqb w.call w.call refl)),
  all_open more writes (λ x is. inside x (or_right (w.call == x.call) (is_open writes x.call) is)),
)

module _ (known : KnownCalls) (binds plan : Bindings) (agrees : AgreesWith binds plan) (state : WalkView) (counts : ℕ → ℕ) where
  -- those that the state hasn't open wrote nothing
  abbrev pub counts_here : ℕ → ℕ
  counts_here n = cond (is_open_in state n) (counts n) 0

  abbrev IsHere : OpenWrite → Type 0
  IsHere w = is_open_in state w.call ≡ true

  same_count : (w : OpenWrite) → IsHere w → counts w.call ≡ counts_here w.call
  same_count w here = ap (λ b. cond b (counts w.call) 0) (sym here)

  no_count : (n : ℕ) → is_open_in state n ≡ false → 0 ≡ counts_here n
  no_count n other = ap (λ b. cond b (counts n) 0) (sym other)

  one_open : (w : OpenWrite) → IsHere w → IsOpen known plan counts w → IsOpen known plan counts_here w
  one_open w here is = record {
    plain = is.plain;
    write = is.write;
    «is» = is.«is»;
    named = is.named;
    least = subst (λ c. w.least ≤ c) (same_count w here) is.least;
    most = subst (λ c. c ≤ w.most) (same_count w here) is.most;
  }

  extra_open : (writes : List OpenWrite) (w : OpenWrite) → IsExtra known binds state writes w → IsOpen known plan counts_here w
  extra_open writes w extra = record {
    plain = extra.empty.plain;
    write = extra.empty.write;
    «is» = extra.empty.«is»;
    named = agrees extra.empty.write.file w.object extra.empty.named;
    least = subst (λ c. w.least ≤ c) (no_count w.call extra.other) (omega (arith, extra.empty.least));
    most = subst (λ c. c ≤ w.most) (no_count w.call extra.other) (omega arith);
  }

  covers_open : (writes others : List OpenWrite) → AllByRecursion IsHere writes → AllByRecursion (IsOpen known plan counts) writes → Covers known binds state writes others
      → AllByRecursion (IsOpen known plan counts_here) others
  covers_open writes [] here each covers = tt
  covers_open writes (one ∷ others) here each (inl found) =
      let h = subst (AllByRecursion IsHere) found.1 here in
      let e = subst (AllByRecursion (IsOpen known plan counts)) found.1 each in
      (one_open one h.0 e.0, covers_open found.0 others h.1 e.1 found.2)
  covers_open writes (one ∷ others) here each (inr extra) = (extra_open writes one extra.0, covers_open writes others here each extra.1)

  covers_fill : (writes others : List OpenWrite) → AllByRecursion IsHere writes → Covers known binds state writes others → (o : ℕ) (held : List ℕ)
      → filled known counts writes o held ≡ filled known counts_here others o held
  covers_fill writes [] here covers o held = ap (λ ws. filled known counts ws o held) covers
  covers_fill writes (one ∷ others) here (inl found) o held =
      let h = subst (AllByRecursion IsHere) found.1 here in
      ap (λ ws. filled known counts ws o held) found.1
      ∙ ap (λ c. cond (o == one.object) (held_with (write_of known one.call) c held) (filled known counts found.0 o held)) (same_count one h.0)
      ∙ ap (cond (o == one.object) (held_with (write_of known one.call) (counts_here one.call) held)) (covers_fill found.0 others h.1 found.2 o held)
  covers_fill writes (one ∷ others) here (inr extra) o held = go (o == one.object) refl (covers_fill writes others here extra.1 o held) where
    go : (b : Bool) → (o == one.object) ≡ b → filled known counts writes o held ≡ filled known counts_here others o held → filled known counts writes o held ≡ cond b (held_with (write_of known one.call) (counts_here one.call) held) (filled known counts_here others o held)
    go false apart rest = rest
    go true same rest =
        ap (λ x. filled known counts writes x held) (eqb-true o one.object same) ∙ filled_none known counts writes one.object extra.0.alone held
        ∙ ap (λ w. held_with w 0 held) (sym extra.0.empty.«is») ∙ ap (λ c. held_with (write_of known one.call) c held) (no_count one.call extra.0.other)

  pub covers_written : (writes others : List OpenWrite) (tree point : Tree) → AllByRecursion IsHere writes → Covers known binds state writes others → HasWritten known plan counts writes tree point
      → HasWritten known plan counts_here others tree point
  covers_written writes others tree point here covers has = record {
    each = covers_open writes others here has.each covers;
    alike = same_on_files (filled known counts writes) (filled known counts_here others) tree point (λ path node file is holds. covers_fill writes others here covers node.object file.bytes) has.alike;
  }

  base_here : (base : Option KeptView) → ((n : ℕ) → is_open_base base n ≡ true → is_open_in state n ≡ true) → (other : Option KeptView) (point : Option Tree) → HasBaseOver known binds state base other
      → HasWrittenBase known plan counts base point → HasWrittenBase known plan counts_here other point
  base_here None inside None point over has = same point has where
    same : (point : Option Tree) → HasWrittenBase known plan counts None point → HasWrittenBase known plan counts_here None point
    same None has = has
    same (Some tree) has = absurd has
  base_here None inside (Some other) point over has = absurd over
  base_here (Some kept) inside None point over has = absurd over
  base_here (Some kept) inside (Some other) None over has = absurd has
  base_here (Some kept) inside (Some other) (Some point) over has =
      subst (λ t. HasWritten known plan counts_here other.writes t point) over.1
      (covers_written kept.writes other.writes kept.tree point (all_here kept.writes (all_open kept.writes kept.writes (λ w is. is))) over.0 has) where
        all_here : (ws : List OpenWrite) → AllByRecursion (λ (w : OpenWrite). is_open kept.writes w.call ≡ true) ws → AllByRecursion IsHere ws
        all_here [] each = tt
        all_here (w ∷ ws) each = (inside w.call each.0, all_here ws each.1)

pub same_stands : (known : KnownCalls) (marks : List Bool) (state other : WalkView) → state.era ≡ other.era → state.past ≡ other.past → state.answered_to ≡ other.answered_to
    → ((n : ℕ) → has_call state.placed n ≡ has_call other.placed n) → Covers known other.binds state state.writes other.writes → HasBaseOver known other.binds state state.base other.base
    → AgreesWith other.binds state.binds → state.tree ≡ other.tree → ((known : KnownCalls) (binds : Bindings) → AreBarred known binds state.barred → AreBarred known binds other.barred)
    → Replaces (IsAt known marks) state other
same_stands known marks state other era past answered calls writes base binds tree bars plan gone point at = record {
  counts = counts_here known other.binds (binds_of known plan) agrees state at.counts;
  binds = agrees;
  era = sym era ∙ at.era;
  past = subst (λ p. p ≤ other.era) past (subst (λ e. state.past ≤ e) era at.past);
  tree = λ inside. subst (λ t. HasWritten known (binds_of known plan) (counts_here known other.binds (binds_of known plan) agrees state at.counts) other.writes t point.tree) tree
      (covers_written known other.binds (binds_of known plan) agrees state at.counts state.writes other.writes state.tree point.tree (all_here state.writes (all_open state.writes state.writes (λ w is. is))) writes (at.tree inside));
  base = λ inside. base_here known other.binds (binds_of known plan) agrees state at.counts state.base (λ n is. or_right (is_open state.writes n) (is_open_base state.base n) is) other.base point.base base (at.base inside);
  answered = λ n kept. subst (EndsBy known n) answered (at.answered n kept);
  barred = bars known (binds_of known plan) at.barred;
  placed = λ n kept. ap (λ p. is_of_earlier known p n || has_call other.placed n) (sym past) ∙ ap (λ b. is_of_earlier known state.past n || b) (sym (calls n)) ∙ at.placed n kept;
} where
  agrees : AgreesWith other.binds (binds_of known plan)
  agrees handle object named = at.binds handle object (binds handle object named)

  all_here : (ws : List OpenWrite) → AllByRecursion (λ (w : OpenWrite). is_open state.writes w.call ≡ true) ws → AllByRecursion (λ (w : OpenWrite). is_open_in state w.call ≡ true) ws
  all_here [] each = tt
  all_here (w ∷ ws) each = (ap (λ b. b || is_open_base state.base w.call) each.0, all_here ws each.1)
