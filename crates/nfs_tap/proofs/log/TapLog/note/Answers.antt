use Rattle.std.proofs.Common.{refl, subst}
use Rattle.history_file.specs.Event.{Event}
use Rattle.history_file.specs.Owning.{seen_event}
use Rattle.nfs_tap.specs.Noting.{Notes}
use Rattle.nfs_tap.proofs.NotedEvents.{out_of_memory}
use Rattle.nfs_tap.proofs.log.TapLog.note.Goals as goal

pub returns-in-Ok : goal.returns-in-Ok
returns-in-Ok c = subst (λ (e : Event). Notes c.args.self.now e c.note_event.result c.note_event.new.self) c.in-Ok.ensures c.note_event.ensures

pub returns-in-Err : goal.returns-in-Err
returns-in-Err c = rw c.from.ensures (out_of_memory c.args.self.now c.args.self.now (seen_event c.args.seen.now) refl)
