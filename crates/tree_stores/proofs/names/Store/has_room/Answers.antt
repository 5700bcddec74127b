use Rattle.std.proofs.Common.{◌≡◌, ◌<◌, None, length, sym, subst, arith}
use Rattle.std.specs.FinMap.Entries as es
use Rattle.std.proofs.lemmas.Bool.Decides.{nat_tests}
use Rattle.tree_stores.specs.Names.{name_cmp, pairs_of}
use Rattle.tree_stores.specs.Places.{IsFit}
use Rattle.tree_stores.proofs.ManyLemmas.{long_none}
use Rattle.tree_stores.proofs.names.Store.has_room.Goals as goal

pub returns-in-Short-clause-absent : goal.returns-in-Short-clause-absent
returns-in-Short-clause-absent c = λ is_longer.
    let longer : 23 < length c.args.name.now = grind (arith, nat_tests, is_longer) in
    subst (λ s. es.find name_cmp c.args.name.now (pairs_of s) ≡ None) (sym c.in-Short.is) (sym (long_none c.args.name.now longer _ (subst IsFit c.in-Short.is c.requires.1)))
