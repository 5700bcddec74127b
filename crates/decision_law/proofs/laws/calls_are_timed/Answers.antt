use Rattle.decision_law.proofs.Starts.{are_timed}
use Rattle.decision_law.proofs.Numbered.{numbered}
use Rattle.decision_law.proofs.laws.calls_are_timed.Goals as goal

pub returns-clause-timed : goal.returns-clause-timed
returns-clause-timed c = λ seen known are. are_timed seen.events known are.calls

pub returns-clause-numbered : goal.returns-clause-numbered
returns-clause-numbered c = λ known start hints timed. numbered known start timed hints
