use Rattle.std.proofs.lemmas.Result.{err_from_is_err_and}
use Rattle.xdr_records.specs.Feed.{TakesFirst}
use Rattle.nfs_tap.proofs.Forwarding.{one_forwarded, stops_later}
use Rattle.nfs_tap.proofs.pump.forward_waiting.Goals as goal

pub returns-in_err-forward_content-clause-err : goal.returns-in_err-forward_content-clause-err
returns-in_err-forward_content-clause-err g c =
    let held = g.W.Write.contents c.args.writer.now in
    let mid = g.W.Write.contents c.loop-content.writer in
    let held' = g.W.Write.contents c.forward_content.new.writer in
    let took : TakesFirst c.loop-content.feed c.as_slice.result.now c.take.new.self = rw c.as_slice.ensures.value c.in-Some.ensures.some in
    let p = err_from_is_err_and c.from_residual.result c.from_residual.ensures.1 in
    rw (p.1, p.2) (stops_later _ held mid held' c.args.feed.now c.loop-content.feed c.take.new.self c.as_slice.result.now c.loop-content.invariant took c.in_err-forward_content.ensures.err)

pub loop-content-preserved : goal.loop-content-preserved
loop-content-preserved g c =
    let held = g.W.Write.contents c.args.writer.now in
    let mid = g.W.Write.contents c.loop-content.writer in
    let held' = g.W.Write.contents c.forward_content.new.writer in
    let took : TakesFirst c.loop-content.feed c.as_slice.result.now c.take.new.self = rw c.as_slice.ensures.value c.in-Some.ensures.some in
    one_forwarded held mid held' c.args.feed.now c.loop-content.feed c.take.new.self c.as_slice.result.now c.loop-content.invariant took c.in_ok-forward_content.ensures.ok
