use Rattle.std.proofs.Common.{◌≡◌, drop}
use Rattle.std.specs.List.{list_all}
use Rattle.tree_answers.specs.tree_handles_specs.Standing.{place_of}
use Rattle.file_tree.specs.Strict.{entry_agrees}
use Rattle.file_tree.proofs.agreeing.all_agree.Given as goal

abbrev pub invariant-loop-entry : goal.invariant-loop-entry
invariant-loop-entry l =
    list_all (entry_agrees l.nodes (place_of l.nodes l.directory)) l.entries ≡ list_all (entry_agrees l.nodes (place_of l.nodes l.directory)) (drop l.entry-index l.entries)
