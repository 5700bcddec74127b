use Rattle.format_tests.proofs.runs.+run.Given as goal

abbrev pub decreases-run : goal.decreases-run
decreases-run l = l.steps
