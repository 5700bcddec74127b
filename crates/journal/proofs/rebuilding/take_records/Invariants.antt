use Rattle.std.proofs.Common.{take}
use Rattle.journal.specs.Taking.{Stands}
use Rattle.journal.proofs.rebuilding.take_records.Given as goal

-- the records so far are taken
abbrev pub invariant-loop-index : goal.invariant-loop-index
invariant-loop-index l = Stands l.profile l.start (take l.index l.records) l.binds l.tree
