use Rattle.history_lines.proofs.lines.EventLines.next_line.Goals as goal

pub returns-in-Ok-None-clause-fault : goal.returns-in-Ok-None-clause-fault
returns-in-Ok-None-clause-fault c = λ bytes left. c.next_line-in-Ok-None.ensures.fault bytes c.args.self.now.ahead.start c.args.self.now.ahead.profile left

pub returns-in-Ok-None-clause-ended : goal.returns-in-Ok-None-clause-ended
returns-in-Ok-None-clause-ended c = λ bytes left. c.next_line-in-Ok-None.ensures.ended bytes c.args.self.now.ahead.start c.args.self.now.ahead.profile left
