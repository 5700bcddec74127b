use Rattle.std.proofs.Common.{subst, List, ℕ, ◌≤◌, length}
use Rattle.nfs_tap.specs.Whole.{IsPassed, StopsAmid}
use Rattle.nfs_tap.proofs.Turning.{passed_within, advanced, next_turned}
use Rattle.nfs_tap.proofs.pump.pass_window.Goals as goal

pub advance-requires : goal.advance-requires
advance-requires g c =
    let held = g.W.Write.contents c.args.writer.now in
    let held' = g.W.Write.contents c.forward_front.new.writer in
    subst (λ (l : List ℕ). c.in-Ok.used ≤ length l) c.as_slice.ensures (passed_within c.as_slice.result.now c.in-Ok.used held held' c.in-Ok.ensures.ok)

pub returns-in-Ok : goal.returns-in-Ok
returns-in-Ok g c =
    let held = g.W.Write.contents c.args.writer.now in
    let held' = g.W.Write.contents c.forward_front.new.writer in
    let passed = subst (λ (l : List ℕ). IsPassed held held' l c.in-Ok.used) c.as_slice.ensures c.in-Ok.ensures.ok in
    next_turned c.next_turn.result c.args.window.now.bytes c.advance.new.self.bytes held held' c.next_turn.ensures (advanced c.args.window.now.bytes c.advance.new.self.bytes c.in-Ok.used held held' passed c.advance.ensures)

pub returns-in-Err : goal.returns-in-Err
returns-in-Err g c =
    let held = g.W.Write.contents c.args.writer.now in
    let held' = g.W.Write.contents c.forward_front.new.writer in
    subst (λ (l : List ℕ). StopsAmid c.in-Err.end l held held') c.as_slice.ensures c.in-Err.ensures.err
