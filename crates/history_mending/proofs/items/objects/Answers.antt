use Rattle.std.proofs.Common.{inr, [], ap, ◌∙◌}
use Rattle.xdr_records.specs.Reading.{kinds}
use Rattle.xdr_records.proofs.KindLaws.{kind_reading-is}
use Rattle.history_file.specs.Kinds.{kind_of}
use Rattle.history_file.specs.Starting as starting
use Rattle.history_mending.proofs.items.objects.Goals as goal

pub returns-in-Ok : goal.returns-in-Ok
returns-in-Ok c = kind_reading-is kind_of (starting.objects c.args.number [] 1) c.args.reader.now ∙ ap kinds c.in-Ok.ensures

pub returns-in-Err-Fault : goal.returns-in-Err-Fault
returns-in-Err-Fault c =
    let read = rw c.in-Err-Fault.field-0-is at c.in-Err-Fault.ensures in
    inr (kind_reading-is kind_of (starting.objects c.args.number [] 1) c.args.reader.now ∙ ap kinds read)
