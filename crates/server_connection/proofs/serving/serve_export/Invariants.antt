use Rattle.std.proofs.Common.{◌≡◌, vec_len}
use Rattle.server_connection.proofs.Streams.{HasServed}
use Rattle.server_connection.proofs.serving.serve_export.Given as goal

abbrev pub invariant-loop-read : goal.invariant-loop-read
invariant-loop-read g l = record {
  room : vec_len l.buffer ≡ 65536;
  served : HasServed l.export l.fn.allowance.records l.fn.pass l.pass (g.I.Read.remaining l.fn.reader) (g.I.Read.remaining l.reader) (g.W.Write.contents l.fn.writer) (g.W.Write.contents l.writer) l.intake;
}
