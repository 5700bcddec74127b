use Rattle.std.proofs.Common.{sym, arith}
use Rattle.capture_history.proofs.Joining.{joined_whole}
use Rattle.capture_history.proofs.stream.stream_of.Goals as goal

pub returns : goal.returns
returns c = record {
  assembly = c.in_ok-assembly.assembly;
  put = rw (sym c.as_slice.ensures.value) c.in_ok-assembly.ensures;
  is =
      let whole = joined_whole c.as_slice-payloads.result.now c.as_slice-run-items.result.now c.loop-run.run-index c.loop-run.bytes.items (omega arith) c.loop-run.invariant in
      rw (sym c.as_slice-payloads.ensures.value, sym c.as_slice-run-items.ensures.value) whole;
}
