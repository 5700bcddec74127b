use Rattle.std.proofs.Common.{ℕ, ◌+◌, ◌-◌, ◌^◌, min, ◌∷◌, [], ◌++◌, sym, ap, ◌∙◌, subst}
use Rattle.std.proofs.lemmas.Result.{on_err_weaker}
use Rattle.tree_nodes.specs.Shown.{Shown}
use Rattle.tree_nodes.specs.TableChanges.{IsSame}
use Rattle.tree_nodes.specs.Moved.{moved}
use Rattle.tree_nodes.specs.Results.{IsMoved}
use Rattle.tree_nodes.proofs.Chains.{value_of}
use Rattle.tree_nodes.proofs.Methods.{good_at, held_where, rename_stands, rename_displaced, rename_bare, by_outcome, on_ok, one_tree, undo_clause, unchanged, moved_good, moved_back}
use Rattle.tree_nodes.specs.Table.{child, held}
use Rattle.tree_nodes.specs.Ranks.{rank_of, IsRankedBut}
use Rattle.tree_nodes.proofs.Ranking.{moved_ranked, same_ranked, all_ranked}
use Rattle.tree_nodes.specs.Spots.{spot_of}
use Rattle.tree_nodes.proofs.Spots.{spots_kept}
use Rattle.tree_nodes.proofs.Spots.{named_node}
use Rattle.tree_nodes.proofs.nodes.Nodes.rename.Goals as goal

pub rename-moved-requires-clause-stands : goal.rename-moved-requires-clause-stands
rename-moved-requires-clause-stands c =
    let good = good_at c.self.inside.entries c.self.inside.shown c.args.self.now c.self.view_is c.self.invariant.table in
    let e = value_of _ c.requires.stands in
    let f = value_of _ c.requires.directory in
    rename_stands c.self.inside.entries c.args.self.now good c.args.object c.args.directory c.args.name.now e.0 f.0 e.1 f.1 (c.requires.outside e.0 f.0 e.1 f.1) (c.requires.bare f.0 f.1)

pub rename-moved-requires-clause-displaced : goal.rename-moved-requires-clause-displaced
rename-moved-requires-clause-displaced c =
    let good = good_at c.self.inside.entries c.self.inside.shown c.args.self.now c.self.view_is c.self.invariant.table in
    let e = value_of _ c.requires.stands in
    let f = value_of _ c.requires.directory in
    rename_displaced c.self.inside.entries c.args.self.now good c.args.object c.args.directory c.args.name.now e.0 f.0 e.1 f.1 (c.requires.outside e.0 f.0 e.1 f.1) (c.requires.bare f.0 f.1)

pub rename-moved-requires-clause-bare : goal.rename-moved-requires-clause-bare
rename-moved-requires-clause-bare c =
    let good = good_at c.self.inside.entries c.self.inside.shown c.args.self.now c.self.view_is c.self.invariant.table in
    let e = value_of _ c.requires.stands in
    let f = value_of _ c.requires.directory in
    rename_bare c.self.inside.entries c.args.self.now good c.args.object c.args.directory c.args.name.now e.0 f.0 e.1 f.1 (c.requires.outside e.0 f.0 e.1 f.1) (c.requires.bare f.0 f.1)

pub rename-moved-requires-clause-directory : goal.rename-moved-requires-clause-directory
rename-moved-requires-clause-directory c =
    let good = good_at c.self.inside.entries c.self.inside.shown c.args.self.now c.self.view_is c.self.invariant.table in
    held_where c.self.inside.entries c.args.self.now good c.args.directory c.requires.directory

pub lift-requires : goal.lift-requires
lift-requires c =
    let m = c.self.inside.entries in
    let good = good_at m c.self.inside.shown c.args.self.now c.self.view_is c.self.invariant.table in
    let n = c.rename-moved.new.entries in
    let e = value_of _ c.requires.stands in
    let f = value_of _ c.requires.directory in
    let stands = rename_stands m c.args.self.now good c.args.object c.args.directory c.args.name.now e.0 f.0 e.1 f.1 (c.requires.outside e.0 f.0 e.1 f.1) (c.requires.bare f.0 f.1) in
    let r = rank_of c.self.inside.ranks in
    let next : ℕ → ℕ = λ k. min (k + 1) (2 ^ 32 - 1) in
    subst (λ (least : ℕ). IsRankedBut (held n) r c.args.directory least) (sym (c.saturating_add-least.ensures ∙ ap next c.get.ensures))
    (by_outcome c.rename-moved.result (λ undo. IsMoved c.args.object c.args.directory c.args.name.now undo m n) (IsSame m n) c.rename-moved.ensures.ok c.rename-moved.ensures.err
    (λ undo change. moved_ranked m n r c.args.object c.args.directory c.args.name.now change.move stands.0 stands.1 change.renamed c.self.invariant.ranked)
    (λ same. all_ranked (held n) r c.args.directory (next (r c.args.object)) (same_ranked (held m) (held n) r same.places c.self.invariant.ranked)))

pub invariant_of-self-inside : goal.invariant_of-self-inside
invariant_of-self-inside c =
    let good = good_at c.self.inside.entries c.self.inside.shown c.args.self.now c.self.view_is c.self.invariant.table in
    let n = c.rename-moved.new.entries in
    let e = value_of _ c.requires.stands in
    let f = value_of _ c.requires.directory in
    let shown : Shown n = by_outcome c.rename-moved.result (λ undo. IsMoved c.args.object c.args.directory c.args.name.now undo c.self.inside.entries n) (IsSame c.self.inside.entries n) c.rename-moved.ensures.ok c.rename-moved.ensures.err
    (λ undo change. (moved c.args.self.now e.0.0 (f.0.0 ++ c.args.name.now ∷ []), (moved_good c.self.inside.entries c.args.self.now good n c.args.object c.args.directory c.args.name.now undo e.0 f.0 e.1 f.1 (c.requires.outside e.0 f.0 e.1 f.1) (c.requires.bare f.0 f.1) change).agrees))
    (λ same. (c.args.self.now, (unchanged c.self.inside.entries c.args.self.now good n same).agrees)) in
    (shown, tt)

pub invariant_of-self : goal.invariant_of-self
invariant_of-self c =
    let good = good_at c.self.inside.entries c.self.inside.shown c.args.self.now c.self.view_is c.self.invariant.table in
    let n = c.rename-moved.new.entries in
    let e = value_of _ c.requires.stands in
    let f = value_of _ c.requires.directory in
    record {
      table = by_outcome c.rename-moved.result (λ undo. IsMoved c.args.object c.args.directory c.args.name.now undo c.self.inside.entries n) (IsSame c.self.inside.entries n) c.rename-moved.ensures.ok c.rename-moved.ensures.err (λ undo change. (moved_good c.self.inside.entries c.args.self.now good n c.args.object c.args.directory c.args.name.now undo e.0 f.0 e.1 f.1 (c.requires.outside e.0 f.0 e.1 f.1) (c.requires.bare f.0 f.1) change).table)
          (λ same. (unchanged c.self.inside.entries c.args.self.now good n same).table);
      ranked = c.lift.ensures;
    }

pub returns-clause-ok : goal.returns-clause-ok
returns-clause-ok c =
    let good = good_at c.self.inside.entries c.self.inside.shown c.args.self.now c.self.view_is c.self.invariant.table in
    let n = c.rename-moved.new.entries in
    on_ok c.rename-moved.result (λ undo. IsMoved c.args.object c.args.directory c.args.name.now undo c.self.inside.entries n) _ c.rename-moved.ensures.ok (λ undo change e f at there.
    one_tree n _ (moved c.args.self.now e.0 (f.0 ++ c.args.name.now ∷ [])) (assumption c) (moved_good c.self.inside.entries c.args.self.now good n c.args.object c.args.directory c.args.name.now undo e f at there (c.requires.outside e f at there) (c.requires.bare f there) change).agrees)

pub returns-clause-undo : goal.returns-clause-undo
returns-clause-undo c =
    let good = good_at c.self.inside.entries c.self.inside.shown c.args.self.now c.self.view_is c.self.invariant.table in
    let n = c.rename-moved.new.entries in
    let e = value_of _ c.requires.stands in
    let f = value_of _ c.requires.directory in
    undo_clause c.rename-moved.result (λ undo. IsMoved c.args.object c.args.directory c.args.name.now undo c.self.inside.entries n) n _ c.args.self.now (assumption c) c.rename-moved.ensures.ok
    (λ undo change. (moved c.args.self.now e.0.0 (f.0.0 ++ c.args.name.now ∷ []), (moved_good c.self.inside.entries c.args.self.now good n c.args.object c.args.directory c.args.name.now undo e.0 f.0 e.1 f.1 (c.requires.outside e.0 f.0 e.1 f.1) (c.requires.bare f.0 f.1) change).agrees, moved_back c.self.inside.entries c.args.self.now good n c.args.object c.args.directory c.args.name.now undo e.0 f.0 e.1 f.1 (c.requires.outside e.0 f.0 e.1 f.1) (c.requires.bare f.0 f.1) change))

pub returns-clause-err : goal.returns-clause-err
returns-clause-err c =
    let good = good_at c.self.inside.entries c.self.inside.shown c.args.self.now c.self.view_is c.self.invariant.table in
    let n = c.rename-moved.new.entries in
    on_err_weaker c.rename-moved.result (λ same. one_tree n _ c.args.self.now (assumption c) (unchanged c.self.inside.entries c.args.self.now good n same).agrees) c.rename-moved.ensures.err

pub returns-clause-spots : goal.returns-clause-spots
returns-clause-spots c =
    let m = c.self.inside.entries in
    let good = good_at m c.self.inside.shown c.args.self.now c.self.view_is c.self.invariant.table in
    let n = c.rename-moved.new.entries in
    let e = value_of _ c.requires.stands in
    let f = value_of _ c.requires.directory in
    on_ok c.rename-moved.result (λ undo. IsMoved c.args.object c.args.directory c.args.name.now undo m n) _ c.rename-moved.ensures.ok (λ undo change other apart beside.
    let there = moved_good m c.args.self.now good n c.args.object c.args.directory c.args.name.now undo e.0 f.0 e.1 f.1 (c.requires.outside e.0 f.0 e.1 f.1) (c.requires.bare f.0 f.1) change in
    let new = moved c.args.self.now e.0.0 (f.0.0 ++ c.args.name.now ∷ []) in
    ap (λ z. spot_of z other) (one_tree n _ new (assumption c) there.agrees)
    ∙ spots_kept m n c.args.self.now new good there other
    (change.renamed.kept other apart (λ leads. let at = named_node c.args.self.now (child m) (held m) good.table.tree good.agrees c.args.directory c.args.name.now other leads in beside at.0 at.1 (sym at.2))))
