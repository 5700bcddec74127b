use Rattle.std.proofs.Common.{◌≡◌, vec_len}
use Rattle.std.specs.Io.KnownBytes.{Consumes}
use Rattle.program_streams.proofs.Pieces.{IsNearer}
use Rattle.program_streams.proofs.reading.read_all.Given as goal

abbrev pub invariant-loop-read : goal.invariant-loop-read
invariant-loop-read g l = record {
  room : vec_len l.buffer ≡ 65536;
  read : Consumes (g.I.Input.remaining l.fn.input) (g.I.Input.remaining l.input) l.bytes.items;
  nearer : IsNearer (g.I.Input.reads_left l.fn.input) (g.I.Input.reads_left l.input) l._read;
}
