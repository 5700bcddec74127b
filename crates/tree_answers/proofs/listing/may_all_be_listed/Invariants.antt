use Rattle.std.proofs.Common.{◌≡◌, drop}
use Rattle.std.specs.List.{list_all}
use Rattle.tree_handles.specs.Standing.{place_of}
use Rattle.tree_answers.specs.Listing.{may_be_listed}
use Rattle.tree_answers.proofs.listing.may_all_be_listed.Given as goal

abbrev pub invariant-loop-name : goal.invariant-loop-name
invariant-loop-name l = list_all (may_be_listed l.nodes (place_of l.nodes l.directory)) l.names ≡ list_all (may_be_listed l.nodes (place_of l.nodes l.directory)) (drop l.name-index l.names)
