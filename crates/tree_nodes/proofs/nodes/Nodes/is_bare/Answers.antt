use Rattle.std.proofs.Common.{◌∙◌, sym, ⊎_elim}
use Rattle.tree_nodes.specs.Table.{child, held}
use Rattle.tree_nodes.proofs.Chains.{decide}
use Rattle.tree_nodes.proofs.Looking.{bare_if, bare_not}
use Rattle.tree_nodes.proofs.Methods.{good_at}
use Rattle.tree_nodes.proofs.nodes.Nodes.is_bare.Goals as goal

pub returns : goal.returns
returns c = λ e at.
    let good = good_at c.self.inside.entries c.self.inside.shown c.args.self.now c.self.view_is c.self.invariant.table in
    ⊎_elim (λ yes. yes ∙ sym (bare_if c.args.self.now (child c.self.inside.entries) (held c.self.inside.entries) good.table.tree good.agrees c.args.object e at (c.is_bare.ensures.bare yes)))
    (λ no. let lies = c.is_bare.ensures.other no in no ∙ sym (bare_not c.args.self.now (child c.self.inside.entries) (held c.self.inside.entries) good.table.tree good.agrees c.args.object e lies.0 lies.1 at lies.2))
    (decide c.is_bare.result)
