use Rattle.std.proofs.Common.{refl, sym, ◌∙◌}
use Rattle.std.specs.Prelude.{nat_lt}
use Rattle.night_verdict.specs.Verdict.{has_trouble_of_server, is_astray, is_few, little_of, is_not_up, health_of}
use Rattle.night_verdict.proofs.Causes.{yes_accepted, cause_holds, few_is}
use Rattle.night_verdict.proofs.judging.judge_night.Goals as goal

pub returns-clause-yes : goal.returns-clause-yes
returns-clause-yes g c = λ same.
    let facts = c.args.facts.now in
    let answered = c.in_ok-answered.answered in
    yes_accepted facts.troubles.now facts.end (is_few (is_astray facts.end) (nat_lt answered.all facts.at_least)) (little_of facts answered) c.args.history.now c.in_ok-decision.decision
    c.in_ok-decision.ensures.decided (health_of facts.troubles.now facts.end) (sym c.verdict_of.ensures ∙ same)

pub returns-clause-no : goal.returns-clause-no
returns-clause-no g c = λ cause same.
    let facts = c.args.facts.now in
    let answered = c.in_ok-answered.answered in
    cause_holds facts.troubles.now facts.end facts.at_least answered.all c.args.history.now c.in_ok-decision.decision c.in_ok-decision.ensures.decided cause
    (has_trouble_of_server facts.end facts.troubles.now.kept.items) refl (is_not_up facts.end) refl (is_few (is_astray facts.end) (nat_lt answered.all facts.at_least)) (little_of facts answered)
    (few_is (is_astray facts.end) answered.all facts.at_least) (sym c.verdict_of.ensures ∙ same)
