use Rattle.tree_nodes.specs.Tree.{Tree}
use Rattle.std.proofs.Common.{◌≡◌, ◌+◌, ◌<◌, ◌≤◌, List, length, map, take, get_or, Some, sym, ap, ◌∙◌, subst}
use Rattle.replay_law.specs.Run.{state_after, kept_steps}
use Rattle.file_tree.specs.StartTree.{start_tree}
use Rattle.book_laws.specs.Book.{next_by}
use Rattle.book_ledger.specs.declared.placed.PlacedCall.{PlacedCall}
use Rattle.book_ledger.specs.declared.placed.EraOver.{EraOver}
use Rattle.book_ledger.specs.Inside.{era_in, setting_in}
use Rattle.book_ledger.specs.Undoing.{tree_after, CanRun}
use Rattle.book_ledger.proofs.Undoing.{era_can, era_further, last_can, last_done}
use Rattle.book_ledger.proofs.ledger.Ledger.tree_behind.Goals as goal

pub loop-era-init : goal.loop-era-init
loop-era-init c = ap (λ (t : Tree). Some t) (ap start_tree (sym c.start.ensures) ∙ sym c.in_ok-tree.ensures)

pub run_steps-requires : goal.run_steps-requires
run_steps-requires c =
    let self = c.args.self.now in
    let calls = self.history.known.calls in
    let items = c.deref-era-items.ensures.value in
    let i = c.loop-era.era-index in
    let era = c.era-item.result in
    let tree = c.loop-era.tree in
    let lt = subst (λ (es : List EraOver). i < length es) items c.loop-era-test.true in
    let reached = subst (λ (es : List EraOver). state_after (next_by (setting_in self)) (start_tree self.history.known.head.start) (kept_steps (map (era_in calls) (take i es))) ≡ Some tree) items c.loop-era.invariant in
    subst (λ (xs : List PlacedCall). CanRun (setting_in self) calls tree (take era.kept xs)) (sym c.deref.ensures.value)
    (era_can self c.args.count c.requires i era tree lt (c.era-item.is ∙ ap (λ (es : List EraOver). get_or es i era) items) reached)

pub loop-era-preserved : goal.loop-era-preserved
loop-era-preserved c =
    let self = c.args.self.now in
    let calls = self.history.known.calls in
    let items = c.deref-era-items.ensures.value in
    let i = c.loop-era.era-index in
    let era = c.era-item.result in
    let tree = c.loop-era.tree in
    let after = c.run_steps.new.tree in
    let lt = subst (λ (es : List EraOver). i < length es) items c.loop-era-test.true in
    let reached = subst (λ (es : List EraOver). state_after (next_by (setting_in self)) (start_tree self.history.known.head.start) (kept_steps (map (era_in calls) (take i es))) ≡ Some tree) items c.loop-era.invariant in
    let runs = subst (λ (xs : List PlacedCall). tree_after (setting_in self) calls tree (take era.kept xs) ≡ Some after) c.deref.ensures.value c.in_ok-run_steps.ensures in
    subst (λ (es : List EraOver). state_after (next_by (setting_in self)) (start_tree self.history.known.head.start) (kept_steps (map (era_in calls) (take (i + 1) es))) ≡ Some after) (sym items)
    (era_further self c.args.count c.requires i era tree after lt (c.era-item.is ∙ ap (λ (es : List EraOver). get_or es i era) items) reached runs)

pub run_steps-requires-2 : goal.run_steps-requires-2
run_steps-requires-2 c =
    let self = c.args.self.now in
    let calls = self.history.known.calls in
    let items = c.deref-era-items.ensures.value in
    let i = c.loop-era.era-index in
    let tree = c.loop-era.tree in
    let le = subst (λ (es : List EraOver). length es ≤ i) items c.loop-era-test.false in
    let reached = subst (λ (es : List EraOver). state_after (next_by (setting_in self)) (start_tree self.history.known.head.start) (kept_steps (map (era_in calls) (take i es))) ≡ Some tree) items c.loop-era.invariant in
    subst (λ (xs : List PlacedCall). CanRun (setting_in self) calls tree (take c.args.count xs)) (sym c.deref-2.ensures.value) (last_can self c.args.count c.requires i tree le reached)

pub returns : goal.returns
returns c =
    let self = c.args.self.now in
    let calls = self.history.known.calls in
    let items = c.deref-era-items.ensures.value in
    let i = c.loop-era.era-index in
    let tree = c.loop-era.tree in
    let after = c.run_steps-2.new.tree in
    let le = subst (λ (es : List EraOver). length es ≤ i) items c.loop-era-test.false in
    let reached = subst (λ (es : List EraOver). state_after (next_by (setting_in self)) (start_tree self.history.known.head.start) (kept_steps (map (era_in calls) (take i es))) ≡ Some tree) items c.loop-era.invariant in
    let runs = subst (λ (xs : List PlacedCall). tree_after (setting_in self) calls tree (take c.args.count xs) ≡ Some after) c.deref-2.ensures.value c.in_ok-run_steps-2.ensures in
    last_done self c.args.count c.requires i tree after le reached runs
