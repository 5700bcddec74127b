use Rattle.std.proofs.Common.{ℕ, ◌+◌, ◌-◌, ◌^◌, min, ◌∷◌, [], ◌++◌, sym, ap, ◌∙◌, subst}
use Rattle.std.proofs.lemmas.Result.{on_err_weaker}
use Rattle.std.specs.FinMap as map
use Rattle.tree_nodes.specs.Shown.{Shown}
use Rattle.tree_nodes.specs.TableChanges.{IsSame}
use Rattle.tree_nodes.specs.Results.{IsMade}
use Rattle.tree_nodes.proofs.Chains.{value_of}
use Rattle.tree_nodes.proofs.Methods.{good_at, held_where, new_where, by_outcome, on_ok, one_tree, undo_clause, unchanged, made_good, made_back}
use Rattle.tree_nodes.specs.Table.{child, held}
use Rattle.tree_nodes.specs.Ranks.{rank_of, IsRankedBut}
use Rattle.tree_nodes.proofs.Ranking.{add_ranked, new_rank, same_ranked, all_ranked}
use Rattle.tree_nodes.specs.Spots.{spot_of}
use Rattle.tree_nodes.proofs.Spots.{spots_kept}
use Rattle.tree_nodes.proofs.nodes.Nodes.make.Goals as goal

pub make-made-requires-clause-stands : goal.make-made-requires-clause-stands
make-made-requires-clause-stands c =
    let good = good_at c.self.inside.entries c.self.inside.shown c.args.self.now c.self.view_is c.self.invariant.table in
    held_where c.self.inside.entries c.args.self.now good c.args.directory c.requires.stands

pub make-made-requires-clause-new : goal.make-made-requires-clause-new
make-made-requires-clause-new c =
    let good = good_at c.self.inside.entries c.self.inside.shown c.args.self.now c.self.view_is c.self.invariant.table in
    new_where c.self.inside.entries c.args.self.now good c.args.node.object c.requires.new

pub lift-requires : goal.lift-requires
lift-requires c =
    let m = c.self.inside.entries in
    let good = good_at m c.self.inside.shown c.args.self.now c.self.view_is c.self.invariant.table in
    let n = c.make-made.new.entries in
    let new = new_where m c.args.self.now good c.args.node.object c.requires.new in
    let r = rank_of c.self.inside.ranks in
    let s = rank_of c.begin.new.self in
    let next : ℕ → ℕ = λ k. min (k + 1) (2 ^ 32 - 1) in
    subst (λ (least : ℕ). IsRankedBut (held n) s c.args.directory least) (sym (c.saturating_add-least.ensures ∙ ap next c.get.ensures))
    (by_outcome c.make-made.result (λ undo. IsMade c.args.directory c.args.name.now c.args.node undo m n) (IsSame m n) c.make-made.ensures.ok c.make-made.ensures.err
    (λ undo change. add_ranked (child m) (child n) (held m) (held n) r s good.table.tree c.args.directory c.args.name.now c.args.node.object c.args.node new change.adds c.begin.ensures c.self.invariant.ranked)
    (λ same. all_ranked (held n) s c.args.directory (next (s c.args.node.object)) (same_ranked (held m) (held n) s same.places (new_rank (child m) (held m) r s good.table.tree c.args.node.object new c.begin.ensures c.self.invariant.ranked))))

pub invariant_of-self-inside : goal.invariant_of-self-inside
invariant_of-self-inside c =
    let good = good_at c.self.inside.entries c.self.inside.shown c.args.self.now c.self.view_is c.self.invariant.table in
    let n = c.make-made.new.entries in
    let e = value_of _ c.requires.stands in
    let shown : Shown n = by_outcome c.make-made.result (λ undo. IsMade c.args.directory c.args.name.now c.args.node undo c.self.inside.entries n) (IsSame c.self.inside.entries n) c.make-made.ensures.ok c.make-made.ensures.err
    (λ undo change. (map.insert c.args.self.now (e.0.0 ++ c.args.name.now ∷ []) c.args.node, (made_good c.self.inside.entries c.args.self.now good n c.args.directory c.args.name.now c.args.node undo e.0 e.1 c.requires.free c.requires.new c.requires.room change).agrees))
    (λ same. (c.args.self.now, (unchanged c.self.inside.entries c.args.self.now good n same).agrees)) in
    (shown, tt)

pub invariant_of-self : goal.invariant_of-self
invariant_of-self c =
    let good = good_at c.self.inside.entries c.self.inside.shown c.args.self.now c.self.view_is c.self.invariant.table in
    let n = c.make-made.new.entries in
    let e = value_of _ c.requires.stands in
    record {
      table = by_outcome c.make-made.result (λ undo. IsMade c.args.directory c.args.name.now c.args.node undo c.self.inside.entries n) (IsSame c.self.inside.entries n) c.make-made.ensures.ok c.make-made.ensures.err (λ undo change. (made_good c.self.inside.entries c.args.self.now good n c.args.directory c.args.name.now c.args.node undo e.0 e.1 c.requires.free c.requires.new c.requires.room change).table)
          (λ same. (unchanged c.self.inside.entries c.args.self.now good n same).table);
      ranked = c.lift.ensures;
    }

pub returns-clause-ok : goal.returns-clause-ok
returns-clause-ok c =
    let good = good_at c.self.inside.entries c.self.inside.shown c.args.self.now c.self.view_is c.self.invariant.table in
    let n = c.make-made.new.entries in
    on_ok c.make-made.result (λ undo. IsMade c.args.directory c.args.name.now c.args.node undo c.self.inside.entries n) _ c.make-made.ensures.ok (λ undo change e at.
    one_tree n _ (map.insert c.args.self.now (e.0 ++ c.args.name.now ∷ []) c.args.node) (assumption c) (made_good c.self.inside.entries c.args.self.now good n c.args.directory c.args.name.now c.args.node undo e at c.requires.free c.requires.new c.requires.room change).agrees)

pub returns-clause-undo : goal.returns-clause-undo
returns-clause-undo c =
    let good = good_at c.self.inside.entries c.self.inside.shown c.args.self.now c.self.view_is c.self.invariant.table in
    let n = c.make-made.new.entries in
    let e = value_of _ c.requires.stands in
    undo_clause c.make-made.result (λ undo. IsMade c.args.directory c.args.name.now c.args.node undo c.self.inside.entries n) n _ c.args.self.now (assumption c) c.make-made.ensures.ok
    (λ undo change. (map.insert c.args.self.now (e.0.0 ++ c.args.name.now ∷ []) c.args.node, (made_good c.self.inside.entries c.args.self.now good n c.args.directory c.args.name.now c.args.node undo e.0 e.1 c.requires.free c.requires.new c.requires.room change).agrees, made_back c.self.inside.entries c.args.self.now good n c.args.directory c.args.name.now c.args.node undo e.0 e.1 c.requires.free c.requires.new c.requires.room change))

pub returns-clause-err : goal.returns-clause-err
returns-clause-err c =
    let good = good_at c.self.inside.entries c.self.inside.shown c.args.self.now c.self.view_is c.self.invariant.table in
    let n = c.make-made.new.entries in
    on_err_weaker c.make-made.result (λ same. one_tree n _ c.args.self.now (assumption c) (unchanged c.self.inside.entries c.args.self.now good n same).agrees) c.make-made.ensures.err

pub returns-clause-spots : goal.returns-clause-spots
returns-clause-spots c =
    let m = c.self.inside.entries in
    let good = good_at m c.self.inside.shown c.args.self.now c.self.view_is c.self.invariant.table in
    let n = c.make-made.new.entries in
    let e = value_of _ c.requires.stands in
    on_ok c.make-made.result (λ undo. IsMade c.args.directory c.args.name.now c.args.node undo m n) _ c.make-made.ensures.ok (λ undo change other apart.
    let made = made_good m c.args.self.now good n c.args.directory c.args.name.now c.args.node undo e.0 e.1 c.requires.free c.requires.new c.requires.room change in
    let new = map.insert c.args.self.now (e.0.0 ++ c.args.name.now ∷ []) c.args.node in
    ap (λ z. spot_of z other) (one_tree n _ new (assumption c) made.agrees) ∙ spots_kept m n c.args.self.now new good made other (change.adds.kept other apart))
