use Rattle.std.proofs.Common.{◌+◌, length, subst}
use Rattle.history_file.specs.declared.fault.FileFault.{FileFault}
use Rattle.history_mending.specs.Ends.{EventFails}
use Rattle.history_mending.proofs.events.end_of.Goals as goal

pub returns-in-Truncated : goal.returns-in-Truncated
returns-in-Truncated c = λ over seen fails. c.cut_end.ensures over seen (subst (λ (f : FileFault). EventFails (length seen + 1) c.args.rest.now f) c.in-Truncated.is fails)

pub returns-in_default : goal.returns-in_default
returns-in_default c = λ over seen fails. (c.args.fault, c.in_default.not-Truncated, fails)
