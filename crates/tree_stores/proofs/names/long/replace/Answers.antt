use Rattle.std.proofs.Common.{sym, ap, ◌∙◌}
use Rattle.tree_stores.specs.Names.{entered}
use Rattle.tree_stores.proofs.ManyLemmas.{looked_up, replaced_entered}
use Rattle.tree_stores.proofs.names.long.replace.Goals as goal

pub returns-in_default-clause-absent : goal.returns-in_default-clause-absent
returns-in_default-clause-absent c = sym (looked_up (λ key. key.items) c.args.name.now c.args.many.now.entries) ∙ sym c.in_default.ensures.value

pub returns-clause-ok : goal.returns-clause-ok
returns-clause-ok c =
    ap (entered (λ key. key.items)) (c.get_mut.follows.holds c.args.object).0
    ∙ replaced_entered (λ key. key.items) c.args.name.now c.args.object _ c.args.many.now.entries c.in-Some.ensures.ordered (sym c.in-Some.ensures.value)
