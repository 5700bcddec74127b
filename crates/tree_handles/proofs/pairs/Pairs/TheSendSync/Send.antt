-- Pairs own nothing, so they may go to another thread.
use denote.Param.Send.{IsSend, owning_send}
use Rattle.tree_handles.specs.contracts.pairs.Pairs.{the_row, the_type}

pub send : IsSend the_row
send = owning_send the_type tt (λ d. tt) (λ k x w. tt)
