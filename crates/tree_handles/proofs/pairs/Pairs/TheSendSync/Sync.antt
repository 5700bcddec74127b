-- Pairs own nothing, so any thread may look at them.
use denote.Param.Send.{IsSync, part_keyless}
use Rattle.tree_handles.specs.contracts.pairs.Pairs.{the_row}
use Rattle.tree_handles.proofs.pairs.Pairs.TheSendSync.Send.{send}

pub sync : IsSync the_row
sync = record { shared = λ d b o κ q. part_keyless the_row send q d b o }
