use Rattle.serving_commands.proofs.running.run.Goals as goal

pub returns-in-Err-clause-bad_line : goal.returns-in-Err-clause-bad_line
returns-in-Err-clause-bad_line g c = λ k bad. absurd (c.in_ok-recorded.ensures.bad_line k bad)
