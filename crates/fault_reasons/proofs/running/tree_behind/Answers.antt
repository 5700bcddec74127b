use Rattle.std.proofs.Common.{ap, ◌∙◌}
use Rattle.file_tree.specs.StartTree.{start_tree}
use Rattle.fault_reasons.specs.Running.{next_by, first_tree}
use Rattle.fault_reasons.proofs.Behind.{started}
use Rattle.fault_reasons.proofs.running.tree_behind.Goals as goal

pub returns : goal.returns
returns c =
    started (next_by c.args.rule.now) (first_tree c.args.rule.now) _ _ _ _ _ (c.in_ok-tree.ensures ∙ ap start_tree c.start.ensures)
    c.in_ok-run_kept.ensures c.in_ok-run_places.ensures
