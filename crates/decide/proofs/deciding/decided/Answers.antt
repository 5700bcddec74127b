use Rattle.decide.proofs.deciding.decided.Goals as goal

pub returns : goal.returns
returns g c = c.decision_of.ensures c.args.history.now.known
