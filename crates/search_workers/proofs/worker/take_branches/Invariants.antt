use Rattle.seen_states.specs.Handles.{IsOf}
use Rattle.search_workers.proofs.worker.take_branches.Given as goal

abbrev pub invariant-loop : goal.invariant-loop
invariant-loop g l =
    IsOf l.claimer l.table × (goal.iterator-loop g).can_next l.iterator' × (goal.iterator-loop g).is_finite l.iterator'
