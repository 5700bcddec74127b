use Rattle.deciding_command.proofs.file_decision.decide_file.Goals as goal

pub returns-in-Ok-clause-refused : goal.returns-in-Ok-clause-refused
returns-in-Ok-clause-refused g c = λ fault first. absurd (c.in-Ok.ensures.named fault first)
