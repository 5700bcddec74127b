use Rattle.history_file.specs.declared.event.Event.TheVariants as owns
use Rattle.nfs_history.specs.Appending.{with_event}
use Rattle.nfs_history.proofs.AppendSteps.{history_with, events_with, spare_with, only_memory_with, named_with}
use Rattle.nfs_history.proofs.history.History.append_read_reply.Goals as goal

pub returns-clause-found : goal.returns-clause-found
returns-clause-found c = history_with c.args.self.now c.append_answer.new.self (owns.Reply c.args.lane c.args.message) c.append_answer.result c.append_answer.ensures

pub returns-clause-behind : goal.returns-clause-behind
returns-clause-behind c = events_with c.args.self.now c.append_answer.new.self (owns.Reply c.args.lane c.args.message) c.append_answer.result c.append_answer.ensures

pub returns-clause-kept : goal.returns-clause-kept
returns-clause-kept c = c.append_answer.ensures.kept

pub returns-clause-only : goal.returns-clause-only
returns-clause-only c = λ history is. only_memory_with (with_event c.args.self.now (owns.Reply c.args.lane c.args.message)) c.append_answer.result history c.append_answer.ensures.fault is

pub returns-clause-fault : goal.returns-clause-fault
returns-clause-fault c = c.append_answer.ensures.fault

pub returns-clause-named : goal.returns-clause-named
returns-clause-named c = λ fault first. named_with c.args.self.now c.append_answer.new.self (owns.Reply c.args.lane c.args.message) c.append_answer.result fault c.append_answer.ensures first

pub returns-clause-taken : goal.returns-clause-taken
returns-clause-taken c = spare_with c.args.self.now c.append_answer.new.self (owns.Reply c.args.lane c.args.message) c.append_answer.result c.append_answer.ensures
