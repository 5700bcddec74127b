use Rattle.std.proofs.Common.{◌≤◌, length, take}
use Rattle.std.specs.Io.KnownBytes.{Appends}
use Rattle.program_streams.proofs.output.write_pieces.Given as goal

abbrev pub invariant-loop : goal.invariant-loop
invariant-loop g l = (l.written ≤ length l.text) × Appends (g.W.Write.contents l.fn.writer) (g.W.Write.contents l.writer) (take l.written l.text)
