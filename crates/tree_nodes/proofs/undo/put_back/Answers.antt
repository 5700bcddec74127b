use Rattle.std.proofs.Common.{◌≡◌, ℕ, List, None, sym, subst}
use Rattle.tree_nodes.specs.declared.table.Body.{Body}
use Rattle.tree_nodes.specs.Changes.{Adds}
use Rattle.tree_nodes.specs.Table.{child, held}
use Rattle.tree_nodes.proofs.Backs.{put_back_stands, put_back_new, put_back_good}
use Rattle.tree_nodes.proofs.Methods.{on_ok_both}
use Rattle.tree_nodes.proofs.undo.put_back.Goals as goal

pub add-requires-clause-stands : goal.add-requires-clause-stands
add-requires-clause-stands c = put_back_stands c.args.entries.now c.requires.0 c.requires.2 c.requires.1 c.args.entry c.requires.3

pub add-requires-clause-new : goal.add-requires-clause-new
add-requires-clause-new c =
    let m = c.args.entries.now in
    subst (λ (z : Body). held m z.node.object ≡ None) (sym c.in_ok-body.ensures) (put_back_new m c.requires.0 c.requires.2 c.requires.1 c.args.entry c.requires.3)

pub returns-clause-ok : goal.returns-clause-ok
returns-clause-ok c =
    let m = c.args.entries.now in
    let n = c.add.new.entries in
    let entry = c.args.entry in
    let body = c.in_ok-body.body in
    on_ok_both c.add.result _ _ _ c.add.ensures.ok c.add.ensures.len (λ adds len tree before good back.
    put_back_good m tree good before entry back n
    (subst (λ (z : Body). Adds entry.parent z.name z.node.object z.node (child m) (child n) (held m) (held n)) c.in_ok-body.ensures
    (subst (λ (z : List ℕ). Adds entry.parent z body.node.object body.node (child m) (child n) (held m) (held n)) c.as_slice.ensures.value adds)) len)
