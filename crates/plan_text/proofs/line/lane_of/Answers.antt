use Rattle.std.proofs.Common.{◌++◌, codes, sym, ◌∙◌, arith}
use Rattle.std.proofs.lemmas.Result.{err_from_is_err_and}
use Rattle.std.proofs.lemmas.Fmt.{decimal_injective}
use Rattle.plan_text.specs.Line.{IsOperation, IsStep}
use Rattle.plan_text.proofs.Parts.{lane_space, lane_all, passed_on}
use Rattle.plan_text.proofs.line.lane_of.Goals as goal
use Rattle.plan_text.proofs.line.lane_of.Goals.{then-lane-eq0-via-then-lane-eq0, then-lane-eq0-via-else-lane-eq0+then-lane-gt-LANE_LIMIT}

pub returns-in_default : goal.returns-in_default
returns-in_default c = λ s h. lane_space c.args.words.now s c.in_default.ensures h

pub returns-in_default-count_of : goal.returns-in_default-count_of
returns-in_default-count_of c = λ s h.
    let parts = lane_all c.args.words.now c.in-Some.lane.now c.in-Some.words.now s c.in-Some.ensures.0 c.in-Some.ensures.1 h in
    c.in_default-count_of.ensures parts.0 (omega (arith, parts.4)) parts.2

pub returns-then-lane-eq0 : goal.returns-then-lane-eq0
returns-then-lane-eq0 c = λ s h.
    let parts = lane_all c.args.words.now c.in-Some.lane.now c.in-Some.words.now s c.in-Some.ensures.0 c.in-Some.ensures.1 h in
    let read = c.in-Some-count_of.ensures in
    let same = decimal_injective c.in-Some-count_of.lane parts.0 (omega (arith, read.1)) (omega (arith, parts.4)) (sym read.0 ∙ parts.2) in
    elim c.then-lane-eq0.branch [
      | then-lane-eq0-via-then-lane-eq0 w ↦ omega (arith, same, parts.3)
      | then-lane-eq0-via-else-lane-eq0+then-lane-gt-LANE_LIMIT w ↦ omega (arith, same, parts.4)
    ]

pub returns-in_err-operation : goal.returns-in_err-operation
returns-in_err-operation c =
    let p = err_from_is_err_and c.from_residual.result c.from_residual.ensures.1 in
    rw (p.1, p.2) (passed_on (IsOperation c.in-Some.words.now) (IsStep (codes "lane " ++ c.args.words.now)) c.in_err-operation.field-0.0 (λ s h. ((lane_all c.args.words.now c.in-Some.lane.now c.in-Some.words.now s c.in-Some.ensures.0 c.in-Some.ensures.1 h).1, (lane_all c.args.words.now c.in-Some.lane.now c.in-Some.words.now s c.in-Some.ensures.0 c.in-Some.ensures.1 h).5)) c.in_err-operation.ensures)
