use Rattle.std.proofs.Common.{◌≡◌, None, sym, ap, subst, ◌∙◌}
use Rattle.std.specs.FinMap.Entries as es
use Rattle.tree_stores.specs.Names.{name_cmp, entered}
use Rattle.tree_stores.specs.Places.{AreShort}
use Rattle.tree_stores.proofs.ManyLemmas.{looked_up, put_entered, put_short}
use Rattle.tree_stores.proofs.names.short.put.Goals as goal

pub returns-in_default-clause-absent : goal.returns-in_default-clause-absent
returns-in_default-clause-absent c =
    let many = c.args.many.now.entries in
    subst (λ k. es.find name_cmp k (entered (λ key. key) many) ≡ None) c.from_slice.ensures (sym (looked_up (λ key. key) c.from_slice.result many) ∙ c.in_default.ensures.absent)

pub returns-clause-ok : goal.returns-clause-ok
returns-clause-ok c =
    let many = c.args.many.now.entries in
    subst (λ k. entered (λ key. key) c.insert.new.self.entries ≡ es.put name_cmp k c.args.object (entered (λ key. key) many)) c.from_slice.ensures
    (ap (entered (λ key. key)) c.in-Ok.ensures.entries ∙ put_entered (λ key. key) c.from_slice.result c.args.object many)

pub returns-clause-short : goal.returns-clause-short
returns-clause-short c =
    let many = c.args.many.now.entries in
    let put = subst (λ k. entered (λ key. key) c.insert.new.self.entries ≡ es.put name_cmp k c.args.object (entered (λ key. key) many)) c.from_slice.ensures
    (ap (entered (λ key. key)) c.in-Ok.ensures.entries ∙ put_entered (λ key. key) c.from_slice.result c.args.object many) in
    subst AreShort (sym put) (put_short c.args.name.now c.args.object _ c.requires.room c.requires.short)
