use Rattle.seen_states.proofs.SeenLaws.{seen_was_new, full_of_others}
use Rattle.seen_states.proofs.laws.what_the_answers_mean.Goals as goal

pub returns-clause-seen : goal.returns-clause-seen
returns-clause-seen c = seen_was_new

pub returns-clause-full : goal.returns-clause-full
returns-clause-full c = full_of_others
