use Rattle.std.proofs.Common.{ap, ◌∙◌}
use Rattle.std.proofs.lemmas.Result.{on_err_weaker}
use Rattle.std.specs.FinMap as map
use Rattle.tree_nodes.specs.Shown.{Shown}
use Rattle.tree_nodes.specs.Table.{child, held}
use Rattle.tree_nodes.specs.TableChanges.{IsSame}
use Rattle.tree_nodes.specs.Results.{IsRemoved}
use Rattle.tree_nodes.proofs.Looking.{is_numbered}
use Rattle.tree_nodes.proofs.Rooted.{isnt_zero}
use Rattle.tree_nodes.proofs.Chains.{value_of}
use Rattle.tree_nodes.proofs.Methods.{good_at, cut_stands, bare_where, by_outcome, on_ok, one_tree, undo_clause, unchanged, removed_good, removed_back}
use Rattle.tree_nodes.specs.Ranks.{rank_of}
use Rattle.tree_nodes.proofs.Ranking.{cut_ranked, same_ranked}
use Rattle.tree_nodes.specs.Spots.{spot_of}
use Rattle.tree_nodes.proofs.Spots.{spots_kept}
use Rattle.tree_nodes.proofs.nodes.Nodes.remove.Goals as goal

pub remove-requires-clause-stands : goal.remove-requires-clause-stands
remove-requires-clause-stands c =
    let good = good_at c.self.inside.entries c.self.inside.shown c.args.self.now c.self.view_is c.self.invariant.table in
    cut_stands c.self.inside.entries c.args.self.now good c.args.object c.requires.stands (isnt_zero c.args.self.now (is_numbered c.args.self.now (child c.self.inside.entries) (held c.self.inside.entries) good.table.tree good.agrees) c.args.object c.requires.stands c.requires.isnt_root)

pub remove-requires-clause-bare : goal.remove-requires-clause-bare
remove-requires-clause-bare c =
    let good = good_at c.self.inside.entries c.self.inside.shown c.args.self.now c.self.view_is c.self.invariant.table in
    bare_where c.self.inside.entries c.args.self.now good c.args.object c.requires.stands c.requires.bare

pub invariant_of-self-inside : goal.invariant_of-self-inside
invariant_of-self-inside c =
    let m = c.self.inside.entries in
    let good = good_at m c.self.inside.shown c.args.self.now c.self.view_is c.self.invariant.table in
    let n = c.remove.new.entries in
    let e = value_of _ c.requires.stands in
    let apart = isnt_zero c.args.self.now (is_numbered c.args.self.now (child m) (held m) good.table.tree good.agrees) c.args.object c.requires.stands c.requires.isnt_root in
    let shown : Shown n = by_outcome c.remove.result (λ undo. IsRemoved c.args.object undo m n) (IsSame m n) c.remove.ensures.ok c.remove.ensures.err
    (λ undo change. (map.remove c.args.self.now e.0.0, (removed_good m c.args.self.now good n c.args.object undo e.0 e.1 apart (c.requires.bare e.0 e.1) change).agrees))
    (λ same. (c.args.self.now, (unchanged m c.args.self.now good n same).agrees)) in
    (shown, tt)

pub invariant_of-self : goal.invariant_of-self
invariant_of-self c =
    let m = c.self.inside.entries in
    let good = good_at m c.self.inside.shown c.args.self.now c.self.view_is c.self.invariant.table in
    let n = c.remove.new.entries in
    let e = value_of _ c.requires.stands in
    let apart = isnt_zero c.args.self.now (is_numbered c.args.self.now (child m) (held m) good.table.tree good.agrees) c.args.object c.requires.stands c.requires.isnt_root in
    record {
      table = by_outcome c.remove.result (λ undo. IsRemoved c.args.object undo m n) (IsSame m n) c.remove.ensures.ok c.remove.ensures.err
          (λ undo change. (removed_good m c.args.self.now good n c.args.object undo e.0 e.1 apart (c.requires.bare e.0 e.1) change).table)
          (λ same. (unchanged m c.args.self.now good n same).table);
      ranked = by_outcome c.remove.result (λ undo. IsRemoved c.args.object undo m n) (IsSame m n) c.remove.ensures.ok c.remove.ensures.err
          (λ undo change. cut_ranked (held m) (held n) (rank_of c.self.inside.ranks) c.args.object change.cuts.gone change.cuts.kept c.self.invariant.ranked)
          (λ same. same_ranked (held m) (held n) (rank_of c.self.inside.ranks) same.places c.self.invariant.ranked);
    }

pub returns-clause-ok : goal.returns-clause-ok
returns-clause-ok c =
    let m = c.self.inside.entries in
    let good = good_at m c.self.inside.shown c.args.self.now c.self.view_is c.self.invariant.table in
    let n = c.remove.new.entries in
    let apart = isnt_zero c.args.self.now (is_numbered c.args.self.now (child m) (held m) good.table.tree good.agrees) c.args.object c.requires.stands c.requires.isnt_root in
    on_ok c.remove.result (λ undo. IsRemoved c.args.object undo m n) _ c.remove.ensures.ok (λ undo change e at.
    one_tree n _ (map.remove c.args.self.now e.0) (assumption c) (removed_good m c.args.self.now good n c.args.object undo e at apart (c.requires.bare e at) change).agrees)

pub returns-clause-undo : goal.returns-clause-undo
returns-clause-undo c =
    let m = c.self.inside.entries in
    let good = good_at m c.self.inside.shown c.args.self.now c.self.view_is c.self.invariant.table in
    let n = c.remove.new.entries in
    let e = value_of _ c.requires.stands in
    let apart = isnt_zero c.args.self.now (is_numbered c.args.self.now (child m) (held m) good.table.tree good.agrees) c.args.object c.requires.stands c.requires.isnt_root in
    undo_clause c.remove.result (λ undo. IsRemoved c.args.object undo m n) n _ c.args.self.now (assumption c) c.remove.ensures.ok
    (λ undo change. (map.remove c.args.self.now e.0.0, (removed_good m c.args.self.now good n c.args.object undo e.0 e.1 apart (c.requires.bare e.0 e.1) change).agrees, removed_back m c.args.self.now good n c.args.object undo e.0 e.1 apart (c.requires.bare e.0 e.1) change))

pub returns-clause-err : goal.returns-clause-err
returns-clause-err c =
    let m = c.self.inside.entries in
    let good = good_at m c.self.inside.shown c.args.self.now c.self.view_is c.self.invariant.table in
    let n = c.remove.new.entries in
    on_err_weaker c.remove.result (λ same. one_tree n _ c.args.self.now (assumption c) (unchanged m c.args.self.now good n same).agrees) c.remove.ensures.err

pub returns-clause-spots : goal.returns-clause-spots
returns-clause-spots c =
    let m = c.self.inside.entries in
    let good = good_at m c.self.inside.shown c.args.self.now c.self.view_is c.self.invariant.table in
    let n = c.remove.new.entries in
    let e = value_of _ c.requires.stands in
    let root = isnt_zero c.args.self.now (is_numbered c.args.self.now (child m) (held m) good.table.tree good.agrees) c.args.object c.requires.stands c.requires.isnt_root in
    on_ok c.remove.result (λ undo. IsRemoved c.args.object undo m n) _ c.remove.ensures.ok (λ undo change other apart.
    let removed = removed_good m c.args.self.now good n c.args.object undo e.0 e.1 root (c.requires.bare e.0 e.1) change in
    let new = map.remove c.args.self.now e.0.0 in
    ap (λ z. spot_of z other) (one_tree n _ new (assumption c) removed.agrees) ∙ spots_kept m n c.args.self.now new good removed other (change.cuts.kept other apart))
