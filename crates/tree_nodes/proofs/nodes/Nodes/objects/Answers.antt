use Rattle.std.proofs.Common.{ℕ, List, sym, subst, Contains}
use Rattle.std.proofs.lemmas.Result.{IfOk-weaker}
use Rattle.tree_nodes.proofs.Counting.{listed}
use Rattle.tree_nodes.proofs.Methods.{good_at}
use Rattle.tree_nodes.proofs.nodes.Nodes.objects.Goals as goal

pub returns : goal.returns
returns c =
    let m = c.self.inside.entries in
    let good = good_at m c.self.inside.shown c.args.self.now c.self.view_is c.self.invariant.table in
    IfOk-weaker c.objects_of.result _ _
    (λ objects is object there. subst (λ (z : List ℕ). Contains z object) (sym is) (listed m c.args.self.now good.table.tree good.agrees object there))
    c.objects_of.ensures
