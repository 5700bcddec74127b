use Rattle.std.proofs.Common.{◌∙◌, sym, ⊎_elim}
use Rattle.tree_nodes.specs.Table.{child, held}
use Rattle.tree_nodes.proofs.Chains.{decide}
use Rattle.tree_nodes.proofs.Among.{among_if, among_not}
use Rattle.tree_nodes.proofs.Methods.{good_at}
use Rattle.tree_nodes.proofs.nodes.Nodes.lists_all.Goals as goal

pub lists_all-requires : goal.lists_all-requires
lists_all-requires c = c.self.invariant.table.tree

pub returns : goal.returns
returns c = λ e at.
    let good = good_at c.self.inside.entries c.self.inside.shown c.args.self.now c.self.view_is c.self.invariant.table in
    ⊎_elim (λ yes. yes ∙ sym (among_if c.args.self.now (child c.self.inside.entries) (held c.self.inside.entries) good.table.tree good.agrees c.args.directory e c.args.names.now at (c.lists_all.ensures.all yes)))
    (λ no. let lies = c.lists_all.ensures.missing no in no ∙ sym (among_not c.args.self.now (child c.self.inside.entries) (held c.self.inside.entries) good.table.tree good.agrees c.args.directory e c.args.names.now lies.0 lies.1 at lies.2 lies.3))
    (decide c.lists_all.result)
