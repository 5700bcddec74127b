use Rattle.decision_law.proofs.Told.{spans_tell}
use Rattle.decision_law.proofs.laws.spans_tell_the_times.Goals as goal

pub returns : goal.returns
returns c = λ known start spans timed are. spans_tell known start timed spans are
