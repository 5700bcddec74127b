use Rattle.std.proofs.Common.{◌≡◌, ◌-◌, length, take, drop, sym, ap, ◌∙◌, arith}
use Rattle.std.proofs.lemmas.Slice.{between_to_end}
use Rattle.xdr_records.specs.Reading.{all_of, kinds}
use Rattle.history_file.proofs.FileLaws.{told_as_it_is, file_of-body}
use Rattle.history_file.specs.Kinds.{kind_of}
use Rattle.history_file.specs.HistoryFile.{recording}
use Rattle.history_file.specs.FileReading.{file_of_version}
use Rattle.history_file.specs.Owning.{recording_value}
use Rattle.history_file.proofs.file.recording_in.Goals as goal

pub returns-in-Err-Fault : goal.returns-in-Err-Fault
returns-in-Err-Fault c =
    let bytes = c.args.bytes.now in
    let body : take (length bytes - 8) (drop 8 bytes) ≡ drop 8 bytes = between_to_end bytes 8 (length bytes) (omega arith) in
    let read = rw c.in-Err-Fault.field-0-is at c.in-Err-Fault.ensures in
    told_as_it_is recording_value c.in-Err-Fault.fault (file_of_version c.args.version bytes)
    (file_of-body c.args.version bytes c.if-bytes-gt-HISTORY_LIMIT.false ∙ ap (λ xs. kinds (all_of kind_of (recording c.args.version) xs)) (sym body) ∙ ap kinds read)
