use Rattle.std.proofs.Common.{ap, ◌∙◌}
use Rattle.std.specs.FinMap.Entries as es
use Rattle.tree_stores.specs.Names.{name_cmp, entered}
use Rattle.tree_stores.proofs.ManyLemmas.{looked_up, long_none}
use Rattle.tree_stores.proofs.names.short.object_of.Goals as goal

pub returns-then-name-gt-SHORT_LIMIT : goal.returns-then-name-gt-SHORT_LIMIT
returns-then-name-gt-SHORT_LIMIT c = long_none c.args.name.now c.if-name-gt-SHORT_LIMIT.true _ c.requires

pub returns : goal.returns
returns c =
    let many = c.args.many.now.entries in
    c.copied.ensures ∙ c.get.ensures.value ∙ looked_up (λ key. key) c.from_slice.result many ∙ ap (λ k. es.find name_cmp k (entered (λ key. key) many)) c.from_slice.ensures
