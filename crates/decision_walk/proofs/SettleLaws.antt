-- a call that leaves the tree as it is may be placed at once
use Rattle.std.proofs.Common.{◌≡◌, ◌≢◌, inl, inr, ℕ, ◌+◌, ◌<◌, ◌≤◌, Bool, false, List, [], ◌∷◌, ◌++◌, length, take, get_or, Some, sym, ap, ◌∙◌, subst, arith}
use Rattle.std.proofs.lemmas.Bool.{leb-true, true≢false}
use Rattle.std.proofs.lemmas.List.{take_more, take_all}
use Rattle.nfs3_types.specs.declared.calls.NfsCall.{NfsCall}
use Rattle.nfs3_types.specs.declared.replies.Outcome.{Outcome}
use Rattle.nfs_history.specs.declared.recorded.Meaning.TheVariants as meanings
use Rattle.nfs_history.specs.declared.recorded.RecordedCall.{RecordedCall}
use Rattle.nfs_history.specs.declared.knowing.KnownCalls.{KnownCalls}
use Rattle.nfs_history.specs.Precedence.{call_at}
use Rattle.certificate.specs.declared.plan.Certificate.{Certificate}
use Rattle.tree_starts.specs.Start.{object_made}
use Rattle.tree_starts.specs.declared.profile.Profile.{Profile}
use Rattle.tree_nodes.specs.Tree.{Tree}
use Rattle.tree_handles.specs.Binding.{Bindings}
use Rattle.file_tree.specs.Setting.{under}
use Rattle.decision_core.specs.Eras.{is_placed}
use Rattle.decision_core.proofs.Orders.{all_ahead, all_behind}
use Rattle.decision_core.proofs.Walk.{for_itself, for_another}
use Rattle.decision_core.proofs.Skipping.{may_skip}
use Rattle.decision_steps.proofs.Unknown.{under_keeps}
use Rattle.decision_law.specs.Laws.{binds_of}
use Rattle.decision_law.specs.Machine.{Point, Changes, MayComeOut, Next}
use Rattle.decision_law.proofs.Placed.{is_call_number}
use Rattle.decision_walk.specs.View.{WalkView}
use Rattle.decision_walk.specs.Standing.{hints_of, numbers_of, IsAt}
use Rattle.decision_walk.specs.Settling.{IsNeutral, LeavesTree, MaySettle, settled, SettlesAt}
use Rattle.decision_walk.proofs.Looks.{look_keeps, set_keeps}
use Rattle.decision_walk.proofs.PlacedLaws.{told_more}

some_is : {X : Type 0} (a b : X) → Some a ≡ Some b → a ≡ b
some_is a b e = cc

judged_is : (a b : NfsCall) → meanings.Judged a ≡ meanings.Judged b → a ≡ b
judged_is a b e = cc

-- a neutral call leaves the tree
keeps_tree : (profile : Profile) (binds : Bindings) (tree after : Tree) (number : ℕ) (call : NfsCall) (outcome : Outcome) → IsNeutral call outcome
    → under profile binds tree number call outcome ≡ Some after → after ≡ tree
keeps_tree profile binds tree after number call outcome (inl looks) leads = sym (look_keeps profile binds tree after number call outcome looks leads)
keeps_tree profile binds tree after number call outcome (inr (inl fails)) leads = sym (under_keeps profile binds tree after number call outcome fails leads)
keeps_tree profile binds tree after number call outcome (inr (inr sets)) leads = sym (set_keeps profile binds tree after number call outcome sets leads)

module _ (known : KnownCalls) where
  -- what such a call changes is nothing
  changes_nothing : (plan : Certificate) (n : ℕ) (recorded : RecordedCall) → call_at known.calls n ≡ Some recorded → LeavesTree recorded → (tree after : Tree)
      → Changes known (binds_of known plan) tree n after → after ≡ tree
  changes_nothing plan n recorded stands leaves tree after changes =
      let same : changes.recorded ≡ recorded = some_is changes.recorded recorded (sym changes.stands ∙ stands) in
      let same_call : changes.call ≡ leaves.call = judged_is changes.call leaves.call (sym changes.judged ∙ ap (λ (r : RecordedCall). r.meaning) same ∙ leaves.judged) in
      keeps_tree known.head.profile (binds_of known plan) tree after (object_made (length known.head.start) n) leaves.call changes.outcome
      (leaves.leaves changes.outcome (subst (λ r. MayComeOut r changes.outcome) same changes.came_out))
      (subst (λ k. under known.head.profile (binds_of known plan) tree (object_made (length known.head.start) n) k changes.outcome ≡ Some after) same_call changes.leads)

  -- its number is no crash's
  is_no_crash : (n : ℕ) (recorded : RecordedCall) → call_at known.calls n ≡ Some recorded → (e : ℕ) → 1 ≤ e → n ≢ length known.calls + e
  is_no_crash n recorded stands e late same = let inside = leb-true n (length known.calls) (is_call_number known n recorded stands) in absurd (omega (arith, inside, late, same))

  module _ (marks : List Bool) where
    -- the point in which n is placed besides
    abbrev beside : Point known → ℕ → Point known
    beside point n = record { tree = point.tree; base = point.base; lost = point.lost; era = point.era; calls = n ∷ point.calls }

    at_settled : (plan : Certificate) (gone : ℕ → Bool) (point : Point known) (state : WalkView) (n : ℕ) → IsAt known marks plan gone point state
        → IsAt known marks plan gone (beside point n) (settled state n)
    at_settled plan gone point state n at = record {
      counts = at.counts;
      binds = at.binds;
      era = at.era;
      past = at.past;
      tree = at.tree;
      base = at.base;
      answered = at.answered;
      barred = at.barred;
      placed = λ m kept. told_more known state.past state.placed point.calls n m (at.placed m kept);
    }

    -- so it may be placed at once
    pub settles_one : (calls : List ℕ) (state : WalkView) (n : ℕ) (recorded : RecordedCall) → MaySettle known state n recorded → SettlesAt known marks calls state (settled state n)
    settles_one calls state n recorded may plan gone point at kept = (
      beside point n,
      at_settled plan gone point state n at,
      may_skip (Changes known (binds_of known plan)) (numbers_of known marks) (λ m k saved. absurd (true≢false (sym saved))) n (is_no_crash n recorded may.stands)
          (changes_nothing plan n recorded may.stands may.leaves) point (subst (λ e. 1 ≤ e) at.era may.late),
    )

    pub settles_nothing : (calls : List ℕ) (state : WalkView) → SettlesAt known marks calls state state
    settles_nothing calls state plan gone point at kept = (point, at, for_itself is_placed (Next known (hints_of marks) (binds_of known plan)) point)

    -- one after the other
    pub settles_on : (calls : List ℕ) (first second third : WalkView) → SettlesAt known marks [] first second → SettlesAt known marks calls second third → SettlesAt known marks calls first third
    settles_on calls first second third one two plan gone point at kept =
        let a = one plan gone point at tt in
        let b = two plan gone a.0 a.1 kept in
        (b.0, b.1, for_another is_placed (Next known (hints_of marks) (binds_of known plan)) point a.0 b.0 a.2 b.2)

    -- one call more
    settles_more : (calls : List ℕ) (n : ℕ) (first second third : WalkView) → SettlesAt known marks calls first second → SettlesAt known marks (n ∷ []) second third
        → SettlesAt known marks (calls ++ n ∷ []) first third
    settles_more calls n first second third one two plan gone point at kept =
        let a = one plan gone point at (all_ahead (λ m. gone m ≡ false) calls (n ∷ []) kept) in
        let b = two plan gone a.0 a.1 (all_behind (λ m. gone m ≡ false) calls (n ∷ []) kept) in
        (b.0, b.1, for_another is_placed (Next known (hints_of marks) (binds_of known plan)) point a.0 b.0 a.2 b.2)

    pub settles_next : (calls : List ℕ) (i d : ℕ) (first second third : WalkView) → i < length calls → SettlesAt known marks (take i calls) first second
        → SettlesAt known marks (get_or calls i d ∷ []) second third → SettlesAt known marks (take (i + 1) calls) first third
    settles_next calls i d first second third inside one two =
        subst (λ l. SettlesAt known marks l first third) (sym (take_more calls i d inside)) (settles_more (take i calls) (get_or calls i d) first second third one two)

    pub settles_all : (calls : List ℕ) (i : ℕ) (first last : WalkView) → length calls ≤ i → SettlesAt known marks (take i calls) first last → SettlesAt known marks calls first last
    settles_all calls i first last past all = subst (λ l. SettlesAt known marks l first last) (take_all i calls past) all
