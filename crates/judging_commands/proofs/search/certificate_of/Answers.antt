use Rattle.judging_commands.proofs.search.certificate_of.Goals as goal

pub returns-clause-refused : goal.returns-clause-refused
returns-clause-refused g c = λ fault first. absurd (c.in-Ok.ensures.named fault first)
