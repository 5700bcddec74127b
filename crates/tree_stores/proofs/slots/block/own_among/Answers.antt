use Rattle.std.proofs.Common.{◌<◌, length, ◌∙◌, arith}
use Rattle.std.proofs.lemmas.Result.{on_ok_weaker}
use Rattle.tree_stores.proofs.Blocks.{alike_same, alike_set, own_alike, own_kept, own_here}
use Rattle.tree_stores.proofs.slots.block.own_among.Goals as goal

pub returns-in_err-fill-clause-same : goal.returns-in_err-fill-clause-same
returns-in_err-fill-clause-same g c = alike_same c.fill.new.self c.args.row.now c.in_err-fill.ensures.same

pub returns-in_err-fill-clause-kept : goal.returns-in_err-fill-clause-kept
returns-in_err-fill-clause-kept g c = own_alike c.fill.new.self c.args.row.now c.in_err-fill.ensures.same

pub returns-clause-same : goal.returns-clause-same
returns-clause-same g c = λ k.
    let within : c.args.index < length c.fill.new.self = omega (arith, c.in_ok-fill.ensures.ok) in
    alike_set c.fill.new.self c.args.index c.at.result.now c.own_slots.new.page within c.at.ensures.value c.own_slots.ensures.same k
    ∙ alike_same c.fill.new.self c.args.row.now c.in_ok-fill.ensures.same k

pub returns-clause-kept : goal.returns-clause-kept
returns-clause-kept g c = λ other h.
    let within : c.args.index < length c.fill.new.self = omega (arith, c.in_ok-fill.ensures.ok) in
    own_kept c.fill.new.self c.args.index c.at.result.now c.own_slots.new.page within c.at.ensures.value c.own_slots.ensures.kept other
    (own_alike c.fill.new.self c.args.row.now c.in_ok-fill.ensures.same other h)

pub returns-clause-own : goal.returns-clause-own
returns-clause-own g c =
    let within : c.args.index < length c.fill.new.self = omega (arith, c.in_ok-fill.ensures.ok) in
    on_ok_weaker c.own_slots.result (own_here c.fill.new.self c.args.index c.own_slots.new.page within) c.own_slots.ensures.own
