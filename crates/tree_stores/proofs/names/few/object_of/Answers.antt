use Rattle.std.proofs.Common.{◌+◌, cond, sym, ap, ◌∙◌, Some}
use Rattle.std.specs.Prelude.{drop}
use Rattle.std.specs.FinMap.Entries as es
use Rattle.tree_stores.specs.Names.{name_cmp, listed}
use Rattle.tree_stores.proofs.FewLemmas.{found_from}
use Rattle.tree_stores.proofs.names.few.object_of.Goals as goal

pub returns-then-eq : goal.returns-then-eq
returns-then-eq c =
    let d = c.named-item.result in
    sym (c.loop-named.invariant ∙ found_from c.args.few.now c.loop-named.named-index d c.args.name.now c.loop-named-test.true c.named-item.is
    ∙ ap (λ b. cond b (Some d.object) (es.find name_cmp c.args.name.now (listed (drop (c.loop-named.named-index + 1) c.args.few.now)))) (rw c.as_slice.ensures at (sym c.eq.ensures ∙ c.if-eq.true)))

pub loop-named-preserved : goal.loop-named-preserved
loop-named-preserved c =
    let d = c.named-item.result in
    c.loop-named.invariant ∙ found_from c.args.few.now c.loop-named.named-index d c.args.name.now c.loop-named-test.true c.named-item.is
    ∙ ap (λ b. cond b (Some d.object) (es.find name_cmp c.args.name.now (listed (drop (c.loop-named.named-index + 1) c.args.few.now)))) (rw c.as_slice.ensures at (sym c.eq.ensures ∙ c.if-eq.false))
