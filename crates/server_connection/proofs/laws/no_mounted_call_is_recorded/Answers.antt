use Rattle.server_connection.proofs.Mounted.{not_recorded}
use Rattle.server_connection.proofs.laws.no_mounted_call_is_recorded.Goals as goal

pub returns : goal.returns
returns c = λ head call mounted recorded. not_recorded head mounted recorded.served
