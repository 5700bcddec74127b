use Rattle.std.proofs.Common.{◌/◌, ◌∙◌}
use Rattle.std.proofs.lemmas.Result.{on_ok_weaker}
use Rattle.tree_stores.proofs.Blocks.{values_set, own_set, own_here_blocks}
use Rattle.tree_stores.proofs.slots.steps.own_at.Goals as goal

pub returns-clause-same : goal.returns-clause-same
returns-clause-same g c =
    values_set c.reach.new.blocks.items (c.args.number / 4096) c.index_mut.result.now c.own_page.new.block c.in_ok-reach.ensures.ok c.index_mut.ensures.value c.own_page.ensures.same
    ∙ c.in_ok-reach.ensures.same

pub returns-clause-kept : goal.returns-clause-kept
returns-clause-kept g c = λ other h.
    own_set c.reach.new.blocks.items (c.args.number / 4096) c.index_mut.result.now c.own_page.new.block c.in_ok-reach.ensures.ok c.index_mut.ensures.value c.own_page.ensures.kept
    other (c.in_ok-reach.ensures.kept other h)

pub returns-clause-own : goal.returns-clause-own
returns-clause-own g c =
    on_ok_weaker c.own_page.result (own_here_blocks c.reach.new.blocks.items c.args.number c.own_page.new.block c.in_ok-reach.ensures.ok) c.own_page.ensures.own
