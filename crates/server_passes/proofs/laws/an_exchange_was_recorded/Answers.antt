use Rattle.server_passes.proofs.Recorded.{was_recorded}
use Rattle.server_passes.proofs.laws.an_exchange_was_recorded.Goals as goal

pub returns : goal.returns
returns c = was_recorded
