-- For the prover.
-- What is written of a record is a spelling of it. For the prover alone.
use Rattle.std.specs.Prelude.{◌++◌}
use Rattle.xdr_records.specs.Spelling.{Spells}
use Rattle.xdr_records.specs.Texts.{long_text, opaque_text}
use Rattle.xdr_records.proofs.Written.{long_spelled}
use Rattle.nfs3_values.specs.Spelled.{joined, last, file_data_spelled}
use Rattle.journal.specs.declared.text.JournalRecord.{JournalRecord}
use Rattle.journal.specs.Journal.{journal_record, record_text, RecordFits}

pub record_spelled : (r : JournalRecord) → RecordFits r → Spells journal_record (record_text r) r
unfolding journal_record record_text RecordFits
record_spelled r fits = (
  r.number,
  joined (long_text r.number) (opaque_text r.call ++ opaque_text r.reply) (long_spelled r.number fits.0) (
    r.call,
    joined (opaque_text r.call) (opaque_text r.reply) (file_data_spelled r.call fits.1)
        (r.reply, last r (opaque_text r.reply) (file_data_spelled r.reply fits.2)),
  ),
)
