use Rattle.std.proofs.Common.{sym, ap, ◌∙◌}
use Rattle.std.specs.Prelude.{option_and_then}
use Rattle.tree_nodes.specs.declared.table.Body.{Body}
use Rattle.tree_nodes.specs.Table.{name_in, named}
use Rattle.tree_nodes.proofs.table.lists_all.Goals as goal

pub are_among-requires : goal.are_among-requires
are_among-requires c = λ name next is.
    let h = c.requires.down c.args.directory name next (sym (ap (option_and_then (λ e. named e name)) c.in-Some.ensures.value) ∙ ap (λ (z : Body). name_in z.names name) (sym c.get-2.ensures) ∙ is) in
    (h.0, h.1, h.3)
