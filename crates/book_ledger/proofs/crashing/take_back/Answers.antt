use Rattle.std.proofs.Common.{◌≡◌, ◌+◌, ◌-◌, ◌≤◌, length, drop, sym, ap, ◌∙◌, subst, arith}
use Rattle.std.proofs.lemmas.List.{length_push}
use Rattle.replay_law.specs.Undone.{UndoesAll}
use Rattle.tree_nodes.specs.Tree.{Tree}
use Rattle.tree_nodes.specs.Undo.{TakesBack}
use Rattle.book_ledger.proofs.Undoing.{one_back}
use Rattle.book_ledger.proofs.crashing.take_back.Goals as goal

pub undo-requires : goal.undo-requires
undo-requires c =
    let m = length c.args.undos.now.items - c.args.count in
    let left = c.pop.new.self.items in
    let longer : length c.loop.undos.items ≡ length left + 1 = ap length c.in-Some.ensures.items ∙ length_push left c.in-Some.undo in
    let le : m ≤ length left = omega (arith, c.loop.invariant.left, c.loop-test.true, longer, c.requires.there) in
    let known = c.loop.invariant.known in
    let back = one_back m c.loop.undos.items left c.in-Some.undo c.loop.tree known.0 c.in-Some.ensures.items le known.1 in
    (back.0, back.1)

pub loop-preserved : goal.loop-preserved
loop-preserved c =
    let m = length c.args.undos.now.items - c.args.count in
    let left = c.pop.new.self.items in
    let longer : length c.loop.undos.items ≡ length left + 1 = ap length c.in-Some.ensures.items ∙ length_push left c.in-Some.undo in
    let le : m ≤ length left = omega (arith, c.loop.invariant.left, c.loop-test.true, longer, c.requires.there) in
    let known = c.loop.invariant.known in
    let step = λ (before : Tree) (h : UndoesAll TakesBack (drop m c.loop.undos.items) c.loop.tree before).
    let back = one_back m c.loop.undos.items left c.in-Some.undo c.loop.tree before c.in-Some.ensures.items le h in
    subst (λ (tree : Tree). UndoesAll TakesBack (drop m left) tree before) (sym (c.in_ok-tree.ensures back.0 back.1)) back.2 in
    record {
      left = omega (arith, c.loop.invariant.left, longer);
      known = (known.0, step known.0 known.1);
      same = λ before h. step before (c.loop.invariant.same before h);
    }
