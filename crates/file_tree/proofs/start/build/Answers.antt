use Rattle.std.proofs.Common.{◌+◌, [], take, map, subst, sym, ◌∙◌}
use Rattle.tree_nodes.specs.Tree.{Tree}
use Rattle.tree_starts.specs.Seen.{seen_object}
use Rattle.tree_starts.specs.declared.seen.SeenNode.TheVariants.{Directory}
use Rattle.tree_starts.specs.declared.seen.SeenObject.{SeenObject}
use Rattle.file_tree.specs.Built.{Built}
use Rattle.file_tree.proofs.StartTrees.{built_opening, may, stands, free, fresh, next, goes_on}
use Rattle.file_tree.proofs.start.build.Goals as goal

some : SeenObject
some = record { parent = 0; name = record { ref_ptr = (0, 0); now = [] }; node = Directory }

pub loop-index-init : goal.loop-index-init
loop-index-init c = record { built = subst (λ (t : Tree). Built t [] 0) (sym c.in_ok-nodes.ensures) built_opening; is = c.in_ok-nodes.ensures }

pub put-requires-clause-stands : goal.put-requires-clause-stands
put-requires-clause-stands c = stands c.args.objects.now c.loop-index.index _ c.loop-index-test.true c.requires.start c.loop-index.nodes c.loop-index.invariant.built

pub put-requires-clause-free : goal.put-requires-clause-free
put-requires-clause-free c = free c.args.objects.now c.loop-index.index _ c.loop-index-test.true c.requires.start c.loop-index.nodes c.loop-index.invariant.built

pub put-requires-clause-new : goal.put-requires-clause-new
put-requires-clause-new c = fresh c.args.objects.now c.loop-index.index some c.loop-index-test.true c.requires.start c.loop-index.nodes c.loop-index.invariant.built

pub put-requires-clause-short : goal.put-requires-clause-short
put-requires-clause-short c = (may c.args.objects.now c.loop-index.index _ c.loop-index-test.true c.requires.start c.loop-index.nodes c.loop-index.invariant.built).short

pub put-requires-clause-fits : goal.put-requires-clause-fits
put-requires-clause-fits c = (may c.args.objects.now c.loop-index.index _ c.loop-index-test.true c.requires.start c.loop-index.nodes c.loop-index.invariant.built).fits

pub loop-index-preserved : goal.loop-index-preserved
loop-index-preserved c = record {
  built = subst (λ (t : Tree). Built t (map seen_object (take (c.loop-index.index + 1) c.args.objects.now)) (c.loop-index.index + 1)) (sym c.in_ok-put.ensures)
      (next c.args.objects.now c.loop-index.index _ c.loop-index-test.true c.requires.start c.loop-index.nodes c.loop-index.invariant.built);
  is = c.in_ok-put.ensures ∙ goes_on c.args.objects.now c.loop-index.index _ c.loop-index-test.true c.requires.start c.loop-index.nodes c.loop-index.invariant.built c.loop-index.invariant.is;
}
