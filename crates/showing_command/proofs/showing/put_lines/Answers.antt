use Rattle.std.proofs.Common.{sym, subst}
use Rattle.history_lines.specs.Printable.{IsLine}
use Rattle.showing_command.proofs.ShownLines.{one_shown, part_shown, whole_shown}
use Rattle.showing_command.proofs.showing.put_lines.Goals as goal

pub returns-in-Err-write_text-clause-lines : goal.returns-in-Err-write_text-clause-lines
returns-in-Err-write_text-clause-lines g c =
    part_shown (g.O.Output.contents c.args.output.now) (g.O.Output.contents c.loop.output) (g.O.Output.contents c.write_text.new.self) c.as_slice.result.now
    c.loop.invariant (subst IsLine (sym c.as_slice.ensures.shown) c.as_slice.ensures.line) c.in-Err-write_text.ensures.front

pub returns-in-Ok-None-clause-lines : goal.returns-in-Ok-None-clause-lines
returns-in-Ok-None-clause-lines g c =
    whole_shown (g.O.Output.contents c.args.output.now) (g.O.Output.contents c.loop.output) c.loop.invariant

pub returns-in-Err-clause-lines : goal.returns-in-Err-clause-lines
returns-in-Err-clause-lines g c =
    whole_shown (g.O.Output.contents c.args.output.now) (g.O.Output.contents c.loop.output) c.loop.invariant

pub loop-preserved : goal.loop-preserved
loop-preserved g c =
    one_shown (g.O.Output.contents c.args.output.now) (g.O.Output.contents c.loop.output) (g.O.Output.contents c.write_text.new.self) c.as_slice.result.now
    c.loop.invariant (subst IsLine (sym c.as_slice.ensures.shown) c.as_slice.ensures.line) c.in-Ok.ensures.whole

pub returns-clause-lines : goal.returns-clause-lines
returns-clause-lines g c =
    whole_shown (g.O.Output.contents c.args.output.now) (g.O.Output.contents c.loop.output) c.loop.invariant
