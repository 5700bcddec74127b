use Rattle.std.proofs.Common.{subst}
use Rattle.tree_stores.specs.Names.{pairs_of}
use Rattle.tree_stores.specs.Places.{IsInOrder}
use Rattle.tree_stores.proofs.Maps.{without_order}
use Rattle.tree_stores.proofs.names.Store.remove.Goals as goal

pub returns-in-Few-clause-kept : goal.returns-in-Few-clause-kept
returns-in-Few-clause-kept c = (without_order _ (subst (λ s. IsInOrder (pairs_of s)) c.in-Few.is c.requires.0) c.args.name.now _ c.remove.ensures, tt)

pub returns-in-Short-clause-kept : goal.returns-in-Short-clause-kept
returns-in-Short-clause-kept c = (without_order _ (subst (λ s. IsInOrder (pairs_of s)) c.in-Short.is c.requires.0) c.args.name.now _ c.remove-in-Short.ensures.same, c.remove-in-Short.ensures.short)

pub returns-in-Long-clause-kept : goal.returns-in-Long-clause-kept
returns-in-Long-clause-kept c = (without_order _ (subst (λ s. IsInOrder (pairs_of s)) c.in-Long.is c.requires.0) c.args.name.now _ c.remove-in-Long.ensures, tt)
