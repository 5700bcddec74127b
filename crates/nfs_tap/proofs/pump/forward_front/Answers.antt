use Rattle.std.proofs.Common.{arith}
use Rattle.std.proofs.lemmas.Result.{err_from_is_err_and}
use Rattle.nfs_tap.proofs.Turning.{none_sent, one_sent, stopped_amid, passed_so, passed_shorter, behind_shorter}
use Rattle.nfs_tap.proofs.pump.forward_front.Goals as goal

pub loop-first-init : goal.loop-first-init
loop-first-init g c = none_sent c.args.bytes.now (g.W.Write.contents c.args.writer.now)

pub forward-requires : goal.forward-requires
forward-requires g c = c.in-Some.ensures.spelled

pub returns-in_err-forward-clause-err : goal.returns-in_err-forward-clause-err
returns-in_err-forward-clause-err g c =
    let held = g.W.Write.contents c.args.writer.now in
    let mid = g.W.Write.contents c.loop-first.writer in
    let held' = g.W.Write.contents c.forward.new.writer in
    let first = c.in-Some.first in
    let p = err_from_is_err_and c.from_residual.result c.from_residual.ensures.1 in
    rw (p.1, p.2) (stopped_amid _ c.args.bytes.now c.loop-first.rest.now first.text.now first.content.now first.behind.now held mid held' c.loop-first.invariant c.in-Some.ensures c.in_err-forward.ensures.err)

pub loop-first-preserved : goal.loop-first-preserved
loop-first-preserved g c =
    let held = g.W.Write.contents c.args.writer.now in
    let mid = g.W.Write.contents c.loop-first.writer in
    let held' = g.W.Write.contents c.forward.new.writer in
    let first = c.in-Some.first in
    one_sent c.args.bytes.now c.loop-first.rest.now first.text.now first.content.now first.behind.now held mid held' c.loop-first.invariant c.in-Some.ensures c.in_ok-forward.ensures.ok

pub returns-clause-ok : goal.returns-clause-ok
returns-clause-ok g c =
    let held = g.W.Write.contents c.args.writer.now in
    let held' = g.W.Write.contents c.loop-first.writer in
    passed_so c.args.bytes.now c.loop-first.rest.now _ held held' c.loop-first.invariant (omega arith)

pub loop-first-smaller : goal.loop-first-smaller
loop-first-smaller g c =
    let first = c.in-Some.first in
    behind_shorter c.loop-first.rest.now first.text.now first.content.now first.behind.now c.in-Some.ensures

pub overflow_sub-result : goal.overflow_sub-result
overflow_sub-result g c =
    let held = g.W.Write.contents c.args.writer.now in
    let held' = g.W.Write.contents c.loop-first.writer in
    omega (arith, passed_shorter c.args.bytes.now c.loop-first.rest.now held held' c.loop-first.invariant)
