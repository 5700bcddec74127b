use Rattle.decision_core.proofs.deciding.take_answer.Given as goal

abbrev pub ghost-extend : goal.ghost-extend
ghost-extend g a = g.of

abbrev pub ghost-forget_in_all : goal.ghost-forget_in_all
ghost-forget_in_all g a = g.of
