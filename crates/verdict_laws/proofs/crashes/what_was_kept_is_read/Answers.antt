use Rattle.verdict_laws.proofs.Left.{synced_is_left}
use Rattle.verdict_laws.proofs.Seen.{what_was_kept}
use Rattle.verdict_laws.proofs.crashes.what_was_kept_is_read.Goals as goal

pub returns : goal.returns
returns c = record { synced = synced_is_left; read = what_was_kept }
