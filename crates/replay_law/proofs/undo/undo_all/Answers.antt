use Rattle.std.proofs.Common.{sym, subst}
use Rattle.replay_law.specs.Undone.{UndoesAll}
use Rattle.replay_law.proofs.Undos.{last_undone}
use Rattle.replay_law.proofs.undo.undo_all.Goals as goal

pub undo-requires : goal.undo-requires
undo-requires g c =
    let undoes = g.R.Replayable.undoes in
    let before = c.loop-undo.invariant.left in
    let all = subst (λ undos. UndoesAll undoes undos c.loop-undo.state before.0) c.in-Some.ensures.items before.1 in
    let last = last_undone undoes c.pop.new.self.items c.in-Some.undo c.loop-undo.state before.0 all in
    (last.0, last.1)

pub loop-undo-preserved : goal.loop-undo-preserved
loop-undo-preserved g c =
    let undoes = g.R.Replayable.undoes in
    let left = c.pop.new.self.items in
    let back = λ (before : g.row.R.Denot) (h : UndoesAll undoes c.loop-undo.undos.items c.loop-undo.state before).
    let all = subst (λ undos. UndoesAll undoes undos c.loop-undo.state before) c.in-Some.ensures.items h in
    let last = last_undone undoes left c.in-Some.undo c.loop-undo.state before all in
    subst (λ state. UndoesAll undoes left state before) (sym (c.in_ok-state.ensures last.0 last.1)) last.2 in
    let before = c.loop-undo.invariant.left in
    record {
      left = (before.0, back before.0 before.1);
      same = λ b h. back b (c.loop-undo.invariant.same b h);
    }
