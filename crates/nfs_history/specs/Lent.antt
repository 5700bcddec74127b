-- For the prover.
-- What of a history's calls is seen, wherever they are kept.
use Rattle.nfs_history.specs.HistoryValue.{CallsValue}
use Rattle.nfs_history.specs.declared.lent.Kept.{Kept}
use Rattle.nfs_history.specs.declared.lent.Kept.TheVariants.{Seen, Recorded}

abbrev pub kept_within : Kept → CallsValue
kept_within (Seen known) = known.now
kept_within (Recorded history) = history.now.known
