use Rattle.decision_core.proofs.extending.put_settled.Given as goal

abbrev pub ghost-sort_into : goal.ghost-sort_into
ghost-sort_into g a = g.of
