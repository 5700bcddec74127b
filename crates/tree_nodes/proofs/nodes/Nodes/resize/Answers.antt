use Rattle.std.proofs.Common.{ap, ◌∙◌}
use Rattle.std.proofs.lemmas.Result.{on_err_weaker}
use Rattle.std.specs.FinMap as map
use Rattle.tree_nodes.specs.Shown.{Shown}
use Rattle.tree_nodes.specs.TableChanges.{IsSame}
use Rattle.tree_nodes.specs.declared.table.Edit.TheVariants.{Resize}
use Rattle.tree_nodes.specs.Files.{file_node}
use Rattle.tree_stores.specs.Files.{resized}
use Rattle.tree_nodes.specs.Results.{IsEdited}
use Rattle.tree_nodes.proofs.Methods.{good_at, file_where, by_outcome, on_ok, one_tree, undo_clause, unchanged, edited_good, edited_back}
use Rattle.tree_nodes.specs.Table.{child, held}
use Rattle.tree_nodes.specs.Ranks.{rank_of}
use Rattle.tree_nodes.proofs.Ranking.{set_ranked, same_ranked}
use Rattle.tree_nodes.specs.Spots.{spot_of}
use Rattle.tree_nodes.proofs.Spots.{spots_kept}
use Rattle.tree_nodes.proofs.nodes.Nodes.resize.Goals as goal

pub edit-requires-clause-file : goal.edit-requires-clause-file
edit-requires-clause-file c =
    let good = good_at c.self.inside.entries c.self.inside.shown c.args.self.now c.self.view_is c.self.invariant.table in
    file_where c.self.inside.entries c.args.self.now good c.args.object c.requires.file

pub invariant_of-self-inside : goal.invariant_of-self-inside
invariant_of-self-inside c =
    let good = good_at c.self.inside.entries c.self.inside.shown c.args.self.now c.self.view_is c.self.invariant.table in
    let n = c.edit.new.entries in
    let shown : Shown n = by_outcome c.edit.result (λ undo. IsEdited c.args.object (Resize c.args.size) undo c.self.inside.entries n) (IsSame c.self.inside.entries n) c.edit.ensures.ok c.edit.ensures.err
    (λ undo change. (map.insert c.args.self.now c.requires.file.0.0 (file_node c.args.object (resized c.requires.file.1.bytes c.args.size) c.requires.file.1.verifier), (edited_good c.self.inside.entries c.args.self.now good n c.args.object (Resize c.args.size) undo c.requires.file.0 c.requires.file.1 c.requires.file.2 c.requires.file.3 change).agrees))
    (λ same. (c.args.self.now, (unchanged c.self.inside.entries c.args.self.now good n same).agrees)) in
    (shown, tt)

pub invariant_of-self : goal.invariant_of-self
invariant_of-self c =
    let good = good_at c.self.inside.entries c.self.inside.shown c.args.self.now c.self.view_is c.self.invariant.table in
    let n = c.edit.new.entries in
    let file = file_where c.self.inside.entries c.args.self.now good c.args.object c.requires.file in
    record {
      table = by_outcome c.edit.result (λ undo. IsEdited c.args.object (Resize c.args.size) undo c.self.inside.entries n) (IsSame c.self.inside.entries n) c.edit.ensures.ok c.edit.ensures.err (λ undo change. (edited_good c.self.inside.entries c.args.self.now good n c.args.object (Resize c.args.size) undo c.requires.file.0 c.requires.file.1 c.requires.file.2 c.requires.file.3 change).table)
          (λ same. (unchanged c.self.inside.entries c.args.self.now good n same).table);
      ranked = by_outcome c.edit.result (λ undo. IsEdited c.args.object (Resize c.args.size) undo c.self.inside.entries n) (IsSame c.self.inside.entries n) c.edit.ensures.ok c.edit.ensures.err
          (λ undo change. set_ranked (child c.self.inside.entries) (child n) (held c.self.inside.entries) (held n) (rank_of c.self.inside.ranks) c.args.object _ file.0 file.2 (change.sets file.0 file.1 file.2 file.3) c.self.invariant.ranked)
          (λ same. same_ranked (held c.self.inside.entries) (held n) (rank_of c.self.inside.ranks) same.places c.self.invariant.ranked);
    }

pub returns-clause-ok : goal.returns-clause-ok
returns-clause-ok c =
    let good = good_at c.self.inside.entries c.self.inside.shown c.args.self.now c.self.view_is c.self.invariant.table in
    let n = c.edit.new.entries in
    on_ok c.edit.result (λ undo. IsEdited c.args.object (Resize c.args.size) undo c.self.inside.entries n) _ c.edit.ensures.ok (λ undo change e file at holds.
    one_tree n _ (map.insert c.args.self.now e.0 (file_node c.args.object (resized file.bytes c.args.size) file.verifier)) (assumption c) (edited_good c.self.inside.entries c.args.self.now good n c.args.object (Resize c.args.size) undo e file at holds change).agrees)

pub returns-clause-undo : goal.returns-clause-undo
returns-clause-undo c =
    let good = good_at c.self.inside.entries c.self.inside.shown c.args.self.now c.self.view_is c.self.invariant.table in
    let n = c.edit.new.entries in
    undo_clause c.edit.result (λ undo. IsEdited c.args.object (Resize c.args.size) undo c.self.inside.entries n) n _ c.args.self.now (assumption c) c.edit.ensures.ok
    (λ undo change. (map.insert c.args.self.now c.requires.file.0.0 (file_node c.args.object (resized c.requires.file.1.bytes c.args.size) c.requires.file.1.verifier), (edited_good c.self.inside.entries c.args.self.now good n c.args.object (Resize c.args.size) undo c.requires.file.0 c.requires.file.1 c.requires.file.2 c.requires.file.3 change).agrees, edited_back c.self.inside.entries c.args.self.now good n c.args.object (Resize c.args.size) undo c.requires.file.0 c.requires.file.1 c.requires.file.2 c.requires.file.3 change))

pub returns-clause-err : goal.returns-clause-err
returns-clause-err c =
    let good = good_at c.self.inside.entries c.self.inside.shown c.args.self.now c.self.view_is c.self.invariant.table in
    let n = c.edit.new.entries in
    on_err_weaker c.edit.result (λ same. one_tree n _ c.args.self.now (assumption c) (unchanged c.self.inside.entries c.args.self.now good n same).agrees) c.edit.ensures.err

pub returns-clause-spots : goal.returns-clause-spots
returns-clause-spots c =
    let m = c.self.inside.entries in
    let good = good_at m c.self.inside.shown c.args.self.now c.self.view_is c.self.invariant.table in
    let n = c.edit.new.entries in
    let h = file_where m c.args.self.now good c.args.object c.requires.file in
    on_ok c.edit.result (λ undo. IsEdited c.args.object (Resize c.args.size) undo m n) _ c.edit.ensures.ok (λ undo change other apart.
    let made = edited_good m c.args.self.now good n c.args.object (Resize c.args.size) undo c.requires.file.0 c.requires.file.1 c.requires.file.2 c.requires.file.3 change in
    let new = map.insert c.args.self.now c.requires.file.0.0 (file_node c.args.object (resized c.requires.file.1.bytes c.args.size) c.requires.file.1.verifier) in
    ap (λ z. spot_of z other) (one_tree n _ new (assumption c) made.agrees) ∙ spots_kept m n c.args.self.now new good made other ((change.sets h.0 h.1 h.2 h.3).kept other apart))
