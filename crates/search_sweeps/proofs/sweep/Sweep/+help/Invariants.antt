use Rattle.search_sweeps.proofs.sweep.Sweep.+help.Given as goal

abbrev pub decreases-help : goal.decreases-help
decreases-help l = l.most
