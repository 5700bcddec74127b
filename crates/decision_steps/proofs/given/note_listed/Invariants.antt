use Rattle.std.proofs.Common.{◌≡◌, ◌++◌, drop}
use Rattle.std.specs.List.{flat_map}
use Rattle.tree_handles.specs.Standing.{place_of}
use Rattle.decision_steps.specs.Given.{given_beside}
use Rattle.decision_steps.specs.Listed.{given_pairs}
use Rattle.decision_steps.proofs.given.note_listed.Given as goal

-- what is noted so far, and what is left, make the whole
abbrev pub invariant-loop-entry : goal.invariant-loop-entry
invariant-loop-entry l =
    given_pairs l.list.items ++ flat_map (given_beside l.nodes (place_of l.nodes l.directory)) (drop l.entry-index l.entries)
    ≡ given_pairs l.initial.list.items ++ flat_map (given_beside l.nodes (place_of l.nodes l.directory)) l.entries
