use Rattle.deciding_command.proofs.prefixing.prefix_history.Goals as goal

pub returns-in-Ok-clause-refused : goal.returns-in-Ok-clause-refused
returns-in-Ok-clause-refused g c = λ fault first of_file. absurd (c.in-Ok.ensures.refused fault first of_file)

pub returns-in-Ok-clause-written : goal.returns-in-Ok-clause-written
returns-in-Ok-clause-written g c = λ none. (c.in-Ok.prefix, c.in-Ok.ensures.prefix, c.save.ensures.written none)
