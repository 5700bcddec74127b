use Rattle.std.proofs.Common.{take}
use Rattle.nfs_history.specs.declared.knowing.KnownCalls.{KnownCalls}
use Rattle.tree_handles.specs.Binding.{Bindings}
use Rattle.decision_walk.specs.Bars.{AreBarred}
use Rattle.decision_walk.proofs.bars.has_bars.Given as goal

-- each so far is met where all are
abbrev pub invariant-loop-bar : goal.invariant-loop-bar
invariant-loop-bar l = (known : KnownCalls) (binds : Bindings) → AreBarred known binds l.bars → AreBarred known binds (take l.bar-index l.others)
