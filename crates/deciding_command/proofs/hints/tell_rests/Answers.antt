use Rattle.std.proofs.Common.{List, ℕ, Option, ◌++◌}
use Rattle.std.proofs.KnownBytes.{Appends-trans}
use Rattle.deciding_command.specs.Told.{Grows}
use Rattle.deciding_command.proofs.hints.tell_rests.Goals as goal

more : (old mid new : Option (List ℕ)) → Grows old mid → Grows mid new → Grows old new
more old mid new so one = (so.0 ++ one.0, Appends-trans old mid new so.0 one.0 so.1 one.1)

pub returns-then-is_err-clause-grows : goal.returns-then-is_err-clause-grows
returns-then-is_err-clause-grows g c =
    more (g.O.Output.contents c.args.output.now) (g.O.Output.contents c.loop.output) (g.O.Output.contents c.tell_hint-then-is_err.new.output) c.loop.invariant c.tell_hint-then-is_err.ensures.grows

pub returns-in_default-clause-grows : goal.returns-in_default-clause-grows
returns-in_default-clause-grows g c =
    more (g.O.Output.contents c.args.output.now) (g.O.Output.contents c.loop.output) (g.O.Output.contents c.tell_hint-status.new.output) c.loop.invariant c.tell_hint-status.ensures.grows

pub loop-preserved : goal.loop-preserved
loop-preserved g c =
    more (g.O.Output.contents c.args.output.now) (g.O.Output.contents c.loop.output) (g.O.Output.contents c.tell_hint-status.new.output) c.loop.invariant c.tell_hint-status.ensures.grows
