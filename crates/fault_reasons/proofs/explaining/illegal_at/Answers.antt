use Rattle.std.proofs.Common.{ap}
use Rattle.fault_reasons.specs.declared.reason.IllegalPlace.{IllegalPlace}
use Rattle.fault_reasons.specs.Running.{next_by, first_tree}
use Rattle.fault_reasons.proofs.Told.{told, told_number}
use Rattle.fault_reasons.proofs.explaining.illegal_at.Goals as goal

pub returns-in_ok-answered-clause-told : goal.returns-in_ok-answered-clause-told
returns-in_ok-answered-clause-told c =
    told (next_by c.args.rule.now) (first_tree c.args.rule.now) c.args.rule.now.history.now.calls c.args.rule.now.plan.now.eras c.args.spot.now
    c.in-Some.step c.in_ok-step.field-0 c.in_ok-answered.answered.right c.args.tree c.stops.new.tree c.in_ok-answered.answered.tree c.illegal_step.result c.in_ok-is_stuck.is_stuck
    c.illegal_step.ensures c.requires.spot c.in-Some.is c.in_ok-step.ensures c.requires.tree c.if-is_stuck.true
    c.in_ok-is_stuck.ensures.refused c.in_ok-is_stuck.ensures.stays c.in_ok-answered.ensures.same c.in_ok-answered.ensures.right

pub returns-in_ok-answered-clause-named : goal.returns-in_ok-answered-clause-named
returns-in_ok-answered-clause-named c =
    told_number c.args.rule.now.history.now.calls c.args.spot.now c.in-Some.step c.in_ok-step.field-0 c.illegal_step.result
    (ap (λ (p : IllegalPlace). p.number) c.illegal_step.ensures) c.in-Some.is c.in_ok-step.ensures
