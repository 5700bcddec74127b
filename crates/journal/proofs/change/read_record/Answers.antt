use Rattle.journal.proofs.Meanings.{faulty_change, its_whole_change}
use Rattle.journal.proofs.change.read_record.Goals as goal

pub returns-in-Err : goal.returns-in-Err
returns-in-Err c =
    faulty_change c.args.bytes.now c.in_ok-written.written c.in_ok-written.ensures c.as_slice.result.now c.as_slice-2.result.now c.as_slice.ensures.value c.as_slice-2.ensures.value c.in-Err.fault
    c.change_of.result c.in-Err.is c.change_of.ensures

pub returns-in-Ok : goal.returns-in-Ok
returns-in-Ok c =
    its_whole_change c.args.bytes.now c.in_ok-written.written c.in_ok-written.ensures c.as_slice.result.now c.as_slice-2.result.now c.as_slice.ensures.value c.as_slice-2.ensures.value c.in-Ok.call
    c.in-Ok.reply c.in-Ok.ensures
