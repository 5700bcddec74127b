use Rattle.std.proofs.Common.{take}
use Rattle.decision_core.specs.Spanned.{AreTold}
use Rattle.decision_core.proofs.spans.timeline.Given as goal

abbrev pub invariant-loop-span : goal.invariant-loop-span
invariant-loop-span l = AreTold (take l.span-index l.spans) l.events.items
