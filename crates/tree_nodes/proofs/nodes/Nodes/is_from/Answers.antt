use Rattle.std.proofs.Common.{ℕ, sym, ap, ◌∙◌, subst, Some}
use Rattle.tree_nodes.proofs.Climbing.{Climbs, step_up, less_deep, at_front, at_top, no_top}
use Rattle.tree_nodes.proofs.nodes.Nodes.is_from.Goals as goal

pub returns-then-is_beyond : goal.returns-then-is_beyond
returns-then-is_beyond c = λ e f is there. sym (c.is_beyond.ensures c.if-is_beyond.true e f is there)

pub returns-in_default : goal.returns-in_default
returns-in_default c = λ e f is there.
    no_top c.args.self.now c.above.ensures.sound c.above.ensures.numbered c.args.object c.loop-at.at c.args.front (sym c.in_default.ensures.value) c.loop-at.invariant e f is

pub returns-then-above-at : goal.returns-then-above-at
returns-then-above-at c = λ e f is there.
    at_top c.args.self.now c.above.ensures.sound c.above.ensures.numbered c.args.object c.loop-at.at c.args.front (sym c.in-Some.ensures.value ∙ ap Some c.if-above-at.true) c.loop-at-test.true
    c.loop-at.invariant e f is there

pub loop-at-smaller : goal.loop-at-smaller
loop-at-smaller c = less_deep c.args.self.now c.above.ensures.sound c.above.ensures.numbered c.loop-at.at c.in-Some.above (sym c.in-Some.ensures.value) c.if-above-at.false

pub loop-at-preserved : goal.loop-at-preserved
loop-at-preserved c =
    step_up c.args.self.now c.above.ensures.sound c.above.ensures.numbered c.args.object c.loop-at.at c.in-Some.above c.args.front (sym c.in-Some.ensures.value) c.loop-at-test.true c.loop-at.invariant

pub returns : goal.returns
returns c = λ e f is there.
    at_front c.args.self.now c.args.object c.args.front
    (subst (λ (n : ℕ). Climbs c.args.self.now c.args.object n c.args.front) c.loop-at-test.false c.loop-at.invariant) e f is there
