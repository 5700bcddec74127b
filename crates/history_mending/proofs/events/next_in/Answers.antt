use Rattle.history_file.specs.Owning.{seen_event}
use Rattle.history_mending.proofs.Reading.{next_begins, next_fails}
use Rattle.history_mending.proofs.events.next_in.Goals as goal

pub returns-in-Ok : goal.returns-in-Ok
returns-in-Ok c = λ seen knows is.
    c.taken.ensures seen c.args.rest.now knows is
    (next_begins c.args.number c.args.rest.now c.rest.result.now (seen_event c.in-Ok.next) c.new-reader.result c.event.new.reader c.new-reader.ensures c.rest.ensures c.in-Ok.ensures)

pub returns-in-Err : goal.returns-in-Err
returns-in-Err c = λ seen knows is.
    c.end_of.ensures c.args.beyond seen (next_fails c.args.number seen c.args.rest.now c.in-Err.fault c.new-reader.result c.new-reader.ensures is c.in-Err.ensures)
