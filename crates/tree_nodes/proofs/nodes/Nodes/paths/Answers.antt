use Rattle.std.proofs.Common.{rules, ◌≡◌, ℕ, List, [], sym, ap, ◌∙◌, subst}
use Rattle.std.specs.FinMap as map
use Rattle.tree_nodes.specs.declared.table.Entry.{Entry}
use Rattle.tree_nodes.specs.Table.{child, held}
use Rattle.tree_nodes.proofs.Chains.{value_of}
use Rattle.tree_nodes.proofs.Looking.{is_numbered}
use Rattle.tree_nodes.proofs.Methods.{good_at}
use Rattle.tree_nodes.proofs.Paths.{Collects, object_at, collect_none, collect_key, collect_more, collect_all, at_its_path}
use Rattle.tree_nodes.proofs.nodes.Nodes.paths.Goals as goal

pub loop-object-init : goal.loop-object-init
loop-object-init c =
    let m = c.self.inside.entries in
    let good = good_at m c.self.inside.shown c.args.self.now c.self.view_is c.self.invariant.table in
    let is : c.into_iter-object-iterator.result ≡ map.entries m = search rules in
    subst (λ (z : List (ℕ × Entry)). Collects c.args.self.now c.new-paths.result z) (sym is)
    (collect_none m c.args.self.now c.new-paths.result good.table.tree good.agrees c.new-paths.ensures.empty c.new-paths.ensures.ordered)

pub path-requires-clause-numbered : goal.path-requires-clause-numbered
path-requires-clause-numbered c =
    let m = c.self.inside.entries in
    let good = good_at m c.self.inside.shown c.args.self.now c.self.view_is c.self.invariant.table in
    is_numbered c.args.self.now (child m) (held m) good.table.tree good.agrees

pub loop-object-preserved : goal.loop-object-preserved
loop-object-preserved c =
    let m = c.self.inside.entries in
    let t = c.args.self.now in
    let good = good_at m c.self.inside.shown t c.self.view_is c.self.invariant.table in
    let object = c.in-Some.object in
    let entry = c.in-Some.field-0-1.now in
    let collects = subst (λ (z : List (ℕ × Entry)). Collects t c.loop-object.paths z) c.in-Some.ensures.steps c.loop-object.invariant in
    let e = value_of _ (collect_key t c.loop-object.paths object entry c.next.new.self collects) in
    let at = ap (object_at t) (c.in_ok-path.ensures e.0 e.1) ∙ at_its_path t object e.0 e.1 in
    collect_more t c.loop-object.paths c.insert.new.self object entry c.next.new.self c.in_ok-path.path (is_numbered t (child m) (held m) good.table.tree good.agrees) at c.in-Ok.ensures.updates
    c.in-Ok.ensures.ordered collects

pub returns-clause-objects : goal.returns-clause-objects
returns-clause-objects c =
    let none : c.loop-object.object-iterator ≡ [] = search rules in
    collect_all c.args.self.now c.loop-object.paths (subst (λ (z : List (ℕ × Entry)). Collects c.args.self.now c.loop-object.paths z) none c.loop-object.invariant)
