use Rattle.search_sweeps.proofs.sweep.Sweep.try_makers.Given as goal

abbrev pub invariant-loop-maker : goal.invariant-loop-maker
invariant-loop-maker l =
    (goal.iterator-loop-maker).can_next l.maker-iterator ×
    (goal.iterator-loop-maker).is_finite l.maker-iterator
