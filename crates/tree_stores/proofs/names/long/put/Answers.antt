use Rattle.std.proofs.Common.{◌≡◌, None, ℕ, List, sym, ap, subst, ◌∙◌}
use Rattle.std.specs.FinMap.Entries as es
use Rattle.tree_stores.specs.Names.{name_cmp, entered}
use Rattle.tree_stores.proofs.ManyLemmas.{looked_up, put_entered}
use Rattle.tree_stores.proofs.names.long.put.Goals as goal

pub returns-in_default-insert-clause-absent : goal.returns-in_default-insert-clause-absent
returns-in_default-insert-clause-absent c =
    let many = c.args.many.now.entries in
    subst (λ (k : List ℕ). es.find name_cmp k (entered (λ key. key.items) many) ≡ None) c.in-Ok.ensures.items (sym (looked_up (λ key. key.items) c.in-Ok.key.items many) ∙ c.in_default-insert.ensures.absent)

pub returns-clause-ok : goal.returns-clause-ok
returns-clause-ok c =
    let many = c.args.many.now.entries in
    ap (entered (λ key. key.items)) c.in-Ok-insert.ensures.entries ∙ put_entered (λ key. key.items) c.in-Ok.key c.args.object many
    ∙ ap (λ k. es.put name_cmp k c.args.object (entered (λ key. key.items) many)) c.in-Ok.ensures.items
