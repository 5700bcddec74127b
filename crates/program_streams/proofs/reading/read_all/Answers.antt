use Rattle.std.proofs.Common.{Ok, ap, ◌∙◌}
use Rattle.program_streams.proofs.Pieces.{consumed_both, consumed_none, many_reads, nearer_first, nearer_next}
use Rattle.program_streams.proofs.reading.read_all.Goals as goal

pub loop-read-init : goal.loop-read-init
loop-read-init g c = record {
  room = c.in_ok-buffer.ensures;
  read = rw c.new-bytes.ensures.items (consumed_none (g.I.Input.remaining c.args.input.now));
  nearer = nearer_first (g.I.Input.reads_left c.args.input.now);
}

pub loop-read-preserved : goal.loop-read-preserved
loop-read-preserved g c =
    let left = g.I.Input.remaining c.args.input.now in
    let mid = g.I.Input.remaining c.loop-read.input in
    let new = g.I.Input.remaining c.read_piece.new.input in
    record {
      room = c.loop-read.invariant.room;
      read = rw c.in-Ok-More.ensures.piece.1 (consumed_both left mid new c.loop-read.bytes.items c.in-Ok-More.ensures.piece.0 c.loop-read.invariant.read c.in-Ok-More.ensures.piece.2);
      nearer = nearer_next (g.I.Input.reads_left c.args.input.now) (g.I.Input.reads_left c.loop-read.input) (g.I.Input.reads_left c.read_piece.new.input) c.loop-read._read
          c.loop-read.invariant.nearer (c.read_piece.ensures.more (c.in-Ok-More.is ∙ ap Ok c.in-Ok-More.field-0-is));
    }

pub returns-clause-fails : goal.returns-clause-fails
returns-clause-fails g c =
    λ _. many_reads (g.I.Input.reads_left c.args.input.now) (g.I.Input.reads_left c.loop-read.input) c.loop-read._read 1000000 c.loop-read.invariant.nearer c.loop-read-test.false
