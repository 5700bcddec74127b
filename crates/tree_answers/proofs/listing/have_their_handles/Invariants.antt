use Rattle.std.proofs.Common.{◌≡◌, drop}
use Rattle.std.specs.List.{list_all}
use Rattle.tree_handles.specs.Standing.{place_of}
use Rattle.tree_answers.specs.Listing.{has_its_handle}
use Rattle.tree_answers.proofs.listing.have_their_handles.Given as goal

abbrev pub invariant-loop-entry : goal.invariant-loop-entry
invariant-loop-entry l =
    list_all (has_its_handle l.view.binds.now l.view.nodes.now (place_of l.view.nodes.now l.directory)) l.entries ≡ list_all (has_its_handle l.view.binds.now l.view.nodes.now (place_of l.view.nodes.now l.directory)) (drop l.entry-index l.entries)
