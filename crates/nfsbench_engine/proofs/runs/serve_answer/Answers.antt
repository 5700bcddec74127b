use Rattle.witness_check.specs.declared.verdict.FileVerdict.TheVariants.{Yes}
use Rattle.showing_command.specs.judging_commands_specs.Report.{line_of}
use Rattle.nfsbench_engine.proofs.Yes.{yes_said, served_yes}
use Rattle.nfsbench_engine.proofs.runs.serve_answer.Goals as goal

pub returns-in-Ok-clause-said : goal.returns-in-Ok-clause-said
returns-in-Ok-clause-said c =
    served_yes c.args.served c.in-Ok.recorded c.in-Ok.is c.judge_files.result
    (λ recording. c.judge_files.ensures.only 0 (line_of Yes) (rw (c.as_slice-history.ensures.value, c.as_slice.ensures.value) (yes_said c.in-Ok.recorded recording)))
    c.requires
