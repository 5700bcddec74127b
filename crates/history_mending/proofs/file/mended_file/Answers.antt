use Rattle.std.proofs.Common.{◌≡◌, ◌-◌, ◌++◌, length, take, drop, Some, arith}
use Rattle.std.proofs.lemmas.List.{length-map}
use Rattle.xdr_records.specs.Texts.{word_text}
use Rattle.history_file.specs.FileReading.{version_of}
use Rattle.history_file.specs.HistoryFile.{HistoryFile}
use Rattle.history_file.specs.Owning.{seen_event, all_seen}
use Rattle.history_mending.specs.Mending.{recording_of}
use Rattle.history_mending.proofs.Files.{parts_of_mended, file_spelled, file_version, on_ok}
use Rattle.history_mending.proofs.file.mended_file.Goals as goal

pub overflow_cast-count : goal.overflow_cast-count
overflow_cast-count c =
    let m = c.args.mended.now in
    omega (arith, (parts_of_mended c.args.bytes.now m c.requires).few, length-map m.events.items seen_event, c.len-count.ensures, m.events.ok.0)

pub with_number-requires-clause-early : goal.with_number-requires-clause-early
with_number-requires-clause-early c = (parts_of_mended c.args.bytes.now c.args.mended.now c.requires).early

pub with_number-requires-clause-rising : goal.with_number-requires-clause-rising
with_number-requires-clause-rising c = (parts_of_mended c.args.bytes.now c.args.mended.now c.requires).rising

pub with_number-requires-clause-within : goal.with_number-requires-clause-within
with_number-requires-clause-within c = (parts_of_mended c.args.bytes.now c.args.mended.now c.requires).within

pub returns-clause-spelled : goal.returns-clause-spelled
returns-clause-spelled c =
    let m = c.args.mended.now in
    let bytes = c.args.bytes.now in
    let count : c.len-count.result ≡ length (all_seen m.events.items) = omega (arith, length-map m.events.items seen_event, c.len-count.ensures, m.events.ok.0) in
    on_ok c.with_number.result (λ file. file.items ≡ take (m.head_end - 4) bytes ++ (word_text c.len-count.result ++ take (m.events_end - m.head_end) (drop m.head_end bytes))) (λ file. HistoryFile file.items (recording_of m))
    (λ file text. file_spelled bytes m file.items c.len-count.result c.requires count text) c.with_number.ensures

pub returns-clause-version : goal.returns-clause-version
returns-clause-version c =
    let m = c.args.mended.now in
    let bytes = c.args.bytes.now in
    let count : c.len-count.result ≡ length (all_seen m.events.items) = omega (arith, length-map m.events.items seen_event, c.len-count.ensures, m.events.ok.0) in
    on_ok c.with_number.result (λ file. file.items ≡ take (m.head_end - 4) bytes ++ (word_text c.len-count.result ++ take (m.events_end - m.head_end) (drop m.head_end bytes))) (λ file. version_of file.items ≡ Some m.version)
    (λ file text. file_version bytes m file.items c.len-count.result c.requires count text) c.with_number.ensures
