use Rattle.std.proofs.Common.{◌≡◌, vec_len}
use Rattle.std.specs.Io.KnownBytes.{prepend_known}
use Rattle.nfs_tap.proofs.Forwarding.{HasPumped}
use Rattle.nfs_tap.proofs.pump.pump_pieces.Given as goal

abbrev pub invariant-loop-read : goal.invariant-loop-read
invariant-loop-read g l = record {
  room : vec_len l.buffer ≡ 65536;
  pumped : HasPumped (prepend_known l.begun (g.I.Read.remaining l.fn.reader)) (g.I.Read.remaining l.reader) (g.W.Write.contents l.fn.writer) (g.W.Write.contents l.writer) l.feed;
}
