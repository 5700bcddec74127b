use Rattle.std.proofs.lemmas.Result.{err_from_is_err_and}
use Rattle.xdr_records.specs.Feed.{TakesFirst}
use Rattle.server_connection.proofs.Waiting.{one_answered, stops_full, stops_later}
use Rattle.server_connection.proofs.serving.serve_waiting.Goals as goal

pub returns-in_err-serve_record-clause-err : goal.returns-in_err-serve_record-clause-err
returns-in_err-serve_record-clause-err g c =
    let held = g.W.Write.contents c.args.writer.now in
    let between = g.W.Write.contents c.loop-content.writer in
    let held' = g.W.Write.contents c.serve_record.new.writer in
    let content = c.as_slice.result.now in
    let took : TakesFirst c.loop-content.intake.feed content c.next.new.self.feed = rw c.as_slice.ensures.value c.in-Some.ensures.some.0 in
    let p = err_from_is_err_and c.from_residual.result c.from_residual.ensures.1 in
    rw (p.1, p.2) (stops_later c.args.export c.args.intake.now c.loop-content.intake c.next.new.self content c.args.pass.now c.loop-content.pass c.serve_record.new.pass held between held'
    c.loop-content.invariant took c.in-Some.ensures.some.1 _ c.in_err-serve_record.ensures.err)

pub loop-content-preserved : goal.loop-content-preserved
loop-content-preserved g c =
    let held = g.W.Write.contents c.args.writer.now in
    let between = g.W.Write.contents c.loop-content.writer in
    let held' = g.W.Write.contents c.serve_record.new.writer in
    let content = c.as_slice.result.now in
    let took : TakesFirst c.loop-content.intake.feed content c.next.new.self.feed = rw c.as_slice.ensures.value c.in-Some.ensures.some.0 in
    one_answered c.args.export c.args.intake.now c.loop-content.intake c.next.new.self content c.args.pass.now c.loop-content.pass c.serve_record.new.pass held between held'
    c.loop-content.invariant took c.in-Some.ensures.some.1 c.in_ok-serve_record.ensures.ok

pub returns-then-not-take-clause-err : goal.returns-then-not-take-clause-err
returns-then-not-take-clause-err g c =
    let held = g.W.Write.contents c.args.writer.now in
    let between = g.W.Write.contents c.loop-content.writer in
    stops_full c.args.export c.args.intake.now c.loop-content.intake c.next.new.self c.in-Some.content.items c.args.pass.now c.loop-content.pass c.loop-content.pass held between between
    c.loop-content.invariant c.in-Some.ensures.some.0 c.in-Some.ensures.some.1
