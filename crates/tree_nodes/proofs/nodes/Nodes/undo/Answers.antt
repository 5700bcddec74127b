use Rattle.std.proofs.lemmas.Result.{on_ok_weaker}
use Rattle.tree_nodes.specs.Shown.{Shown}
use Rattle.tree_nodes.specs.Undo.{TakesBack}
use Rattle.tree_nodes.proofs.Methods.{good_at, by_both, one_tree}
use Rattle.tree_nodes.specs.Table.{held}
use Rattle.tree_nodes.specs.Ranks.{rank_of}
use Rattle.tree_nodes.proofs.Ranking.{all_top}
use Rattle.tree_nodes.proofs.nodes.Nodes.undo.Goals as goal

pub take_back-requires : goal.take_back-requires
unfolding TakesBack
take_back-requires c =
    let good = good_at c.self.inside.entries c.self.inside.shown c.args.self.now c.self.view_is c.self.invariant.table in
    (c.args.self.now, c.requires.0, good, c.requires.1)

pub invariant_of-self-inside : goal.invariant_of-self-inside
unfolding TakesBack
invariant_of-self-inside c =
    let good = good_at c.self.inside.entries c.self.inside.shown c.args.self.now c.self.view_is c.self.invariant.table in
    let n = c.take_back.new.entries in
    let shown : Shown n = by_both c.take_back.result _ _ c.take_back.ensures.ok c.take_back.ensures.err
    (λ put. (c.requires.0, (put c.args.self.now c.requires.0 good c.requires.1).agrees))
    (λ put. let now = put c.args.self.now c.requires.0 good c.requires.1 in (now.0, now.1.agrees)) in
    (shown, tt)

pub invariant_of-self : goal.invariant_of-self
unfolding TakesBack
invariant_of-self c =
    let good = good_at c.self.inside.entries c.self.inside.shown c.args.self.now c.self.view_is c.self.invariant.table in
    record {
      table = by_both c.take_back.result _ _ c.take_back.ensures.ok c.take_back.ensures.err
          (λ put. (put c.args.self.now c.requires.0 good c.requires.1).table)
          (λ put. (put c.args.self.now c.requires.0 good c.requires.1).1.table);
      ranked = all_top (held c.take_back.new.entries) (rank_of c.forget.new.self) c.forget.ensures;
    }

pub returns : goal.returns
unfolding TakesBack
returns c =
    let good = good_at c.self.inside.entries c.self.inside.shown c.args.self.now c.self.view_is c.self.invariant.table in
    let n = c.take_back.new.entries in
    record { ok = on_ok_weaker c.take_back.result (λ put before back. one_tree n _ before (assumption c) (put c.args.self.now before good back).agrees) c.take_back.ensures.ok }
