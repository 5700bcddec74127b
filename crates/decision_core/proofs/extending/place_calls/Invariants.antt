use Rattle.decision_core.proofs.extending.place_calls.Given as goal

abbrev pub ghost-put_all : goal.ghost-put_all
ghost-put_all g a = g.of
