use Rattle.xdr_records.proofs.Feeding.{run_split, run_break}
use Rattle.xdr_records.proofs.marked.calls_give_the_records.Goals as goal

pub returns : goal.returns
returns c = record { whole = λ bytes taken feed r. run_split r; too_long = λ bytes piece taken old new r b. (b.stop, run_break piece new r b) }
