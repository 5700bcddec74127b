use Rattle.std.proofs.Common.{ℕ, List, subst}
use Rattle.std.specs.Io.KnownBytes.{prepend_known}
use Rattle.nfs_tap.specs.declared.pump.PumpEnd.TheVariants as ends
use Rattle.nfs_tap.specs.Whole.{Turns}
use Rattle.nfs_tap.proofs.Turning.{front_taken, ended_ahead}
use Rattle.nfs_tap.proofs.pump.make_turn.Goals as goal

pub read_on-requires : goal.read_on-requires
read_on-requires g c = c.in-Ok.ensures.room

pub returns-in-Ok-clause-turned : goal.returns-in-Ok-clause-turned
returns-in-Ok-clause-turned g c =
    let left = g.I.Read.remaining c.args.reader.now in
    let left' = g.I.Read.remaining c.read_on.new.reader in
    let held = g.W.Write.contents c.args.writer.now in
    let held' = g.W.Write.contents c.read_on.new.writer in
    subst (λ (l : List ℕ). Turns c.read_on.result (prepend_known l left) left' c.read_on.new.window.bytes held held') c.make_room.ensures.bytes c.read_on.ensures.turned

pub returns-in-Err-clause-turned : goal.returns-in-Err-clause-turned
returns-in-Err-clause-turned g c =
    let left = g.I.Read.remaining c.args.reader.now in
    let held = g.W.Write.contents c.args.writer.now in
    let waiting = c.args.window.now.bytes in
    (tt, ended_ahead ends.NoMemory (prepend_known waiting left) left held waiting (front_taken waiting left) tt)
