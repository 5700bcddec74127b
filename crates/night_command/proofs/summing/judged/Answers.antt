use Rattle.std.proofs.Common.{◌≡◌, ap, ◌∙◌}
use Rattle.std.proofs.lemmas.Result.{IfOk-weaker}
use Rattle.night_eras.specs.night_verdict_specs.declared.judging.Judgement.{Judgement}
use Rattle.night_command.specs.declared.summing.Told.{Told}
use Rattle.night_command.specs.Nights.{IsJudged}
use Rattle.night_command.proofs.summing.judged.Goals as goal

pub returns-clause-judged : goal.returns-clause-judged
returns-clause-judged g c =
    let judgement = c.in_ok-judged.judged in
    IfOk-weaker c.told_of.result (λ (told : Told). told.judged ≡ judgement)
    (λ (told : Told). IsJudged c.args.eras.end c.args.troubles.now c.args.history.now told.judged.verdict)
    (λ told same. record {
      facts = c.facts_of-facts.result;
      hindered = c.facts_of-facts.ensures.hindered;
      ended = c.facts_of-facts.ensures.ended;
      answered = judgement.answered;
      counted = (c.in_ok-judged.ensures.answered, c.in_ok-judged.ensures.excused, c.in_ok-judged.ensures.idle);
      decision = judgement.decision;
      decided = c.in_ok-judged.ensures.decided;
      exact = ap (λ (j : Judgement). j.verdict) same ∙ c.in_ok-judged.ensures.exact;
    })
    c.told_of.ensures.same
