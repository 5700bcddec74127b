use Rattle.decision_core.proofs.deciding.take_event.Given as goal

abbrev pub ghost-settle_all : goal.ghost-settle_all
ghost-settle_all g a = g.of

abbrev pub ghost-take_answer : goal.ghost-take_answer
ghost-take_answer g a = g.of
