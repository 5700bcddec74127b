use Rattle.std.proofs.Common.{rules}
use Rattle.std.proofs.lemmas.Fn.{always_returns_same}
use Rattle.tree_stores.specs.Names.{name_cmp}
use Rattle.tree_stores.proofs.FewLemmas.{found, absent}
use Rattle.tree_stores.proofs.names.few.search.Goals as goal

pub returns-clause-found : goal.returns-clause-found
returns-clause-found c =
    let facts = c.binary_search_by.ensures in
    let by = facts.position (λ named. name_cmp named.name c.args.name.now) (always_returns_same _ _ _ (λ a r g called. search rules)) in
    found c.args.few.now c.args.name.now _ facts.bound by

pub returns-clause-absent : goal.returns-clause-absent
returns-clause-absent c =
    let facts = c.binary_search_by.ensures in
    let by = facts.position (λ named. name_cmp named.name c.args.name.now) (always_returns_same _ _ _ (λ a r g called. search rules)) in
    absent c.args.few.now c.args.name.now _ c.requires facts.bound by
