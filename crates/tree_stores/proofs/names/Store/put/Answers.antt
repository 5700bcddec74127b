use Rattle.std.proofs.Common.{ap, subst}
use Rattle.std.proofs.lemmas.Result.{on_err_weaker}
use Rattle.tree_stores.specs.Names.{listed, entered, pairs_of}
use Rattle.tree_stores.specs.Places.{IsInOrder}
use Rattle.tree_stores.proofs.Maps.{put_still}
use Rattle.tree_stores.proofs.names.Store.put.Goals as goal

pub returns-in-Few-clause-kept : goal.returns-in-Few-clause-kept
returns-in-Few-clause-kept c =
    let order = subst (λ s. IsInOrder (pairs_of s)) c.in-Few.is c.requires.kept.0 in
    (put_still _ order c.args.name.now c.args.object _ c.put.result c.put.ensures.ok (on_err_weaker c.put.result (ap listed) c.put.ensures.err), tt)

pub returns-in-Short-clause-kept : goal.returns-in-Short-clause-kept
returns-in-Short-clause-kept c =
    let order = subst (λ s. IsInOrder (pairs_of s)) c.in-Short.is c.requires.kept.0 in (
      put_still _ order c.args.name.now c.args.object _ c.put-in-Short.result c.put-in-Short.ensures.ok (on_err_weaker c.put-in-Short.result (ap (entered (λ key. key))) c.put-in-Short.ensures.err),
      c.put-in-Short.ensures.short,
    )

pub returns-in-Long-clause-kept : goal.returns-in-Long-clause-kept
returns-in-Long-clause-kept c =
    let order = subst (λ s. IsInOrder (pairs_of s)) c.in-Long.is c.requires.kept.0 in
    (put_still _ order c.args.name.now c.args.object _ c.put-in-Long.result c.put-in-Long.ensures.ok (on_err_weaker c.put-in-Long.result (ap (entered (λ key. key.items))) c.put-in-Long.ensures.err), tt)
