use Rattle.std.proofs.Common.{◌≡◌, sym, ap, subst, ◌∙◌}
use Rattle.tree_stores.specs.Names.{entered}
use Rattle.tree_stores.specs.Places.{AreShort, without}
use Rattle.tree_stores.proofs.Orders.{holds}
use Rattle.tree_stores.proofs.ManyLemmas.{removed_entered, long_stays, without_short}
use Rattle.tree_stores.proofs.names.short.remove.Goals as goal

pub returns-then-name-gt-SHORT_LIMIT-clause-same : goal.returns-then-name-gt-SHORT_LIMIT-clause-same
returns-then-name-gt-SHORT_LIMIT-clause-same c = long_stays c.args.name.now c.if-name-gt-SHORT_LIMIT.true _ c.requires.short

pub returns-clause-same : goal.returns-clause-same
returns-clause-same c =
    let many = c.args.many.now.entries in
    subst (λ k. entered (λ key. key) c.remove.new.self.entries ≡ without k (entered (λ key. key) many)) c.from_slice.ensures
    (ap (entered (λ key. key)) c.remove.ensures.entries ∙ removed_entered (λ key. key) c.from_slice.result many (holds _ c.requires.order))

pub returns-clause-short : goal.returns-clause-short
returns-clause-short c =
    let many = c.args.many.now.entries in
    let same = subst (λ k. entered (λ key. key) c.remove.new.self.entries ≡ without k (entered (λ key. key) many)) c.from_slice.ensures
    (ap (entered (λ key. key)) c.remove.ensures.entries ∙ removed_entered (λ key. key) c.from_slice.result many (holds _ c.requires.order)) in
    subst AreShort (sym same) (without_short c.args.name.now _ c.requires.short)
