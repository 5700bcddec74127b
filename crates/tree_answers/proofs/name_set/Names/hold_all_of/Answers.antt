use Rattle.std.proofs.Common.{sym, ap, ◌∙◌}
use Rattle.tree_answers.specs.Listing.{are_all_listed}
use Rattle.tree_handles.proofs.Standing.{stands_at}
use Rattle.tree_answers.proofs.Standing.{whole}
use Rattle.tree_answers.proofs.name_set.Names.hold_all_of.Goals as goal

pub returns : goal.returns
returns c =
    let tree = c.args.nodes.now in
    let there = stands_at tree c.args.directory c.requires in
    c.lists_all.ensures there.0 there.1 ∙ whole tree there.0.0 c.self.inside.set c.self.inside.list.items c.self.invariant.0
    ∙ ap (λ p. are_all_listed tree p c.self.inside.list.items) (sym there.2) ∙ ap (are_all_listed tree _) c.self.view_is
