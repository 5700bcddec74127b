use Rattle.std.proofs.Common.{◌≡◌, ap, ◌∙◌}
use Rattle.witness_check.specs.Run.{steps_of}
use Rattle.witness_check.specs.Running.{found_steps}
use Rattle.witness_check.proofs.run.run_kept_block.Goals as goal

pub returns-clause-ok : goal.returns-clause-ok
returns-clause-ok c =
    let same : found_steps c.as_slice-steps.result.now ≡ steps_of c.args.history.now.calls c.args.places.now = ap found_steps c.as_slice-steps.ensures.value ∙ c.in_ok-find_steps.ensures in
    rw same at c.run_kept_steps.ensures.ok

pub returns-clause-illegal : goal.returns-clause-illegal
returns-clause-illegal c =
    let same : found_steps c.as_slice-steps.result.now ≡ steps_of c.args.history.now.calls c.args.places.now = ap found_steps c.as_slice-steps.ensures.value ∙ c.in_ok-find_steps.ensures in
    rw same at c.run_kept_steps.ensures.illegal
