use Rattle.search_sweeps.proofs.sweep.Sweep.+place_behind.Given as goal

abbrev pub decreases-place_behind : goal.decreases-place_behind
decreases-place_behind l = l.deepest
