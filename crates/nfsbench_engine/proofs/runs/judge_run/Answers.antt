use Rattle.witness_check.specs.declared.verdict.FileVerdict.TheVariants.{Yes}
use Rattle.showing_command.specs.judging_commands_specs.Report.{line_of}
use Rattle.nfsbench_engine.specs.Ran.{run_lines}
use Rattle.nfsbench_engine.proofs.Yes.{yes_said, yes_behind}
use Rattle.nfsbench_engine.proofs.runs.judge_run.Goals as goal

pub returns-clause-yes : goal.returns-clause-yes
returns-clause-yes c = λ recording.
    let said = c.in_ok-judge_files.ensures.only 0 (line_of Yes) (rw (c.as_slice-history.ensures.value, c.as_slice.ensures.value) (yes_said c.args.recorded.now recording)) in
    yes_behind c.behind.result _ (run_lines c.args.recorded.now.counts) c.in_ok-judge_files.field-0 said.0 said.1 c.in_ok-lines.ensures c.behind.ensures.status c.behind.ensures.line
