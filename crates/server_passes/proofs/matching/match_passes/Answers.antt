use Rattle.std.proofs.Common.{count_by, is_some, inr, refl, ap, ◌∙◌}
use Rattle.server_passes.specs.declared.fault.CloseFault.TheVariants.{Torn}
use Rattle.server_passes.proofs.TornLaws.{told_right, all_covered, one_least}
use Rattle.server_passes.proofs.matching.match_passes.Goals as goal

pub returns-in-None-clause-each : goal.returns-in-None-clause-each
returns-in-None-clause-each c = told_right c.args.history.now c.args.passes.now (rw c.in-None.is at c.in_ok-lane.ensures)

pub returns-in-None-clause-covered : goal.returns-in-None-clause-covered
returns-in-None-clause-covered c = all_covered c.args.history.now c.args.passes.now
    (c.if-not-tell_of.ensures.0 refl ∙ c.count_answered-answered.ensures ∙ ap (count_by (λ call. is_some call.«end»)) c.recorded_calls.ensures)
    (rw c.in-None.is at c.in_ok-lane.ensures)

pub returns-in-None-clause-torn : goal.returns-in-None-clause-torn
returns-in-None-clause-torn c = λ lane least. absurd ((rw c.in-None.is at c.in_ok-lane.ensures) lane least.torn)

pub returns-in-Some-clause-only : goal.returns-in-Some-clause-only
returns-in-Some-clause-only c = λ told. absurd (told.whole c.in-Some.lane (rw c.in-Some.is at c.in_ok-lane.ensures).0)

pub returns-in-Some-clause-torn : goal.returns-in-Some-clause-torn
returns-in-Some-clause-torn c = λ lane least.
    inr (ap Torn (one_least c.args.history.now c.args.passes.now c.in-Some.lane lane (rw c.in-Some.is at c.in_ok-lane.ensures) least))
