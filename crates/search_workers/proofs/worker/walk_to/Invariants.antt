use Rattle.search_workers.proofs.worker.walk_to.Given as goal

abbrev pub invariant-loop-chosen : goal.invariant-loop-chosen
invariant-loop-chosen g l =
    (goal.iterator-loop-chosen g).can_next l.chosen-iterator ×
    (goal.iterator-loop-chosen g).is_finite l.chosen-iterator
