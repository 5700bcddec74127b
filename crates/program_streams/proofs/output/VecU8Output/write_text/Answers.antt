use Rattle.std.proofs.Common.{length, take_all, arith}
use Rattle.program_streams.proofs.output.VecU8Output.write_text.Goals as goal

pub returns-clause-front : goal.returns-clause-front
returns-clause-front c =
    (length c.args.text.now, omega arith, rw (take_all (length c.args.text.now) c.args.text.now (omega arith)) c.in_ok-extend_from_slice.ensures.items)
