use Rattle.std.proofs.Common.{arith}
use Rattle.recording_command.proofs.Saved.{one_more, split_parts}
use Rattle.recording_command.proofs.saving.write_events.Goals as goal

pub loop-rest-preserved : goal.loop-rest-preserved
loop-rest-preserved g c =
    let old = g.W.Write.contents c.args.writer.now in
    let mid = g.W.Write.contents c.loop-rest.writer in
    let new = g.W.Write.contents c.write_piece.new.writer in
    let piece = c.split_at.result.0.now in
    let behind = c.split_at.result.1.now in
    one_more old mid new c.args.events.now c.loop-rest.rest.now piece behind c.args.ahead c.loop-rest.size c.in_ok-count.count c.loop-rest.invariant
    (split_parts c.loop-rest.rest.now piece behind c.min.result c.split_at.ensures.front c.split_at.ensures.back)
    c.in_ok-count.ensures.written c.in_ok-count.ensures.count (omega (arith, c.if-count-size.false, c.loop-rest.invariant.within))
