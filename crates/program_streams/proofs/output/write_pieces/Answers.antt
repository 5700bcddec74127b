use Rattle.program_streams.proofs.Fronts.{goes_on, kept}
use Rattle.program_streams.proofs.output.write_pieces.Goals as goal
use Rattle.program_streams.proofs.output.write_pieces.Goals.{in-Ok, in-Err}
use Rattle.std.proofs.Common.{take}

pub loop-preserved : goal.loop-preserved
loop-preserved g c =
    let old = g.W.Write.contents c.args.writer.now in
    let mid = g.W.Write.contents c.loop.writer in
    let new = g.W.Write.contents c.write.new.self in
    elim c.match-write.branch [
      | in-Ok w ↦ rw w.written-is (goes_on old mid new c.args.text.now c.loop.written w.in-Ok.count c.loop.invariant.0 w.in-Ok.ensures.bound c.loop.invariant.1 w.in-Ok.ensures.bytes)
      | in-Err w ↦ rw w.written-is (c.loop.invariant.0, kept old mid new (take c.loop.written c.args.text.now) c.loop.invariant.1 w.in-Err.ensures.bytes)
    ]
