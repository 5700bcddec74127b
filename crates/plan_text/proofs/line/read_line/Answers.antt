use Rattle.std.proofs.Common.{sym, ◌∙◌}
use Rattle.std.specs.Cmp.Lexicographic.{other_text}
use Rattle.std.proofs.lemmas.Result.{err_from_is_err_and}
use Rattle.plan_text.specs.Line.{IsStep, IsLine}
use Rattle.plan_text.proofs.Parts.{step_line, passed_on}
use Rattle.plan_text.proofs.line.read_line.Goals as goal

pub returns-in_err-read_step : goal.returns-in_err-read_step
returns-in_err-read_step c =
    let p = err_from_is_err_and c.from_residual.result c.from_residual.ensures.1 in
    rw (p.1, p.2) (passed_on (IsStep c.args.words.now) (IsLine c.args.words.now) c.in_err-read_step.field-0.0 (λ l h. step_line c.args.words.now l (λ e. other_text c.args.words.now c.as_slice.result.now c.if-eq.ensures (e ∙ sym c.as_slice.ensures)) (λ e. other_text c.args.words.now c.as_slice-2.result.now c.if-eq-2.ensures (e ∙ sym c.as_slice-2.ensures)) c.in_default.ensures c.in_default-behind.ensures h) c.in_err-read_step.ensures)
