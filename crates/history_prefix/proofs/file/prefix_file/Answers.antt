use Rattle.std.proofs.Common.{◌≡◌, ◌∙◌, sym, true}
use Rattle.history_prefix.specs.Front.{is_of_events}
use Rattle.history_prefix.proofs.Fronts.{whole_front, not_memory, not_cut}
use Rattle.history_prefix.proofs.Told.{told_first}
use Rattle.history_prefix.proofs.file.prefix_file.Goals as goal

pub prefix_read-requires : goal.prefix_read-requires
prefix_read-requires c = whole_front c.args.bytes.now c.in-Ok.history c.in-Ok.ensures.found

pub returns-in-Ok-clause-refused : goal.returns-in-Ok-clause-refused
returns-in-Ok-clause-refused c = λ fault first of_file. absurd (c.in-Ok.ensures.named fault first)

pub returns-in-Err-clause-whole : goal.returns-in-Err-clause-whole
returns-in-Err-clause-whole c = λ history file.
    let is : is_of_events c.in-Err.fault ≡ true = sym c.is_of_events.ensures ∙ c.if-is_of_events.true in
    absurd (not_memory c.in-Err.fault (c.in-Err.ensures.only history file) is)

pub returns-in-Err-clause-refused : goal.returns-in-Err-clause-refused
returns-in-Err-clause-refused c = λ fault first of_file.
    let is : is_of_events c.in-Err.fault ≡ true = sym c.is_of_events.ensures ∙ c.if-is_of_events.true in
    absurd (not_cut fault c.in-Err.fault (c.in-Err.ensures.named fault first) of_file is)

pub returns-in-Err-2-clause-refused : goal.returns-in-Err-2-clause-refused
returns-in-Err-2-clause-refused c = λ fault first of_file. told_first c.read_history.result c.in-Err.fault fault c.from.result c.in-Err.is c.from.ensures (c.read_history.ensures.named fault first)
