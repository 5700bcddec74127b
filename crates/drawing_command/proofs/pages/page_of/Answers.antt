use Rattle.drawing_command.proofs.pages.page_of.Goals as goal

pub returns-in-Ok-clause-refused : goal.returns-in-Ok-clause-refused
returns-in-Ok-clause-refused c = λ fault first. absurd (c.in-Ok.ensures.named fault first)
