use Rattle.std.proofs.Common.{Err, ap, ◌∙◌}
use Rattle.xdr_records.specs.Spelling.{Spells}
use Rattle.journal.specs.Journal.{journal_record}
use Rattle.journal.proofs.Meanings.{only_one, no_one, record_found, record_only}
use Rattle.journal.proofs.text.read_text.Goals as goal

pub returns-in-Ok : goal.returns-in-Ok
returns-in-Ok c =
    let bytes = c.args.bytes.now in
    let r = c.all_of_it.result in
    only_one (Spells journal_record bytes) r (record_found bytes r c.all_of_it.ensures) (record_only bytes r c.all_of_it.ensures) c.in-Ok.written c.in-Ok.is

pub returns-in-Err-BadMessage : goal.returns-in-Err-BadMessage
returns-in-Err-BadMessage c =
    let bytes = c.args.bytes.now in
    let r = c.all_of_it.result in
    let bad = c.in-Err-BadMessage in
    no_one (Spells journal_record bytes) r (record_found bytes r c.all_of_it.ensures) (record_only bytes r c.all_of_it.ensures) bad.field-0-0 bad.field-0-1 (bad.is ∙ ap Err bad.field-0-is)
