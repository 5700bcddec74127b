use Rattle.std.proofs.Common.{subst, sym}
use Rattle.witness_check.specs.declared.verdict.FileVerdict.{FileVerdict}
use Rattle.witness_check.specs.Verdict.{IsFileVerdict}
use Rattle.explaining_command.proofs.Told.{of_files}
use Rattle.explaining_command.proofs.found.find_text.Goals as goal

pub returns-in_ok-find_plan-in-Ok : goal.returns-in_ok-find_plan-in-Ok
returns-in_ok-find_plan-in-Ok c = λ file is.
    subst (λ (v : FileVerdict). IsFileVerdict file c.args.text.now v) (sym c.of_plan.ensures)
    (of_files file c.args.text.now c.args.history.now c.in-Ok.certificate c.in_ok-find_plan-in-Ok.field-0.verdict is c.in-Ok.ensures.found c.in_ok-find_plan-in-Ok.ensures)
