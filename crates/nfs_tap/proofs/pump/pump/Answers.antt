use Rattle.std.proofs.Common.{ℕ, List, sym, subst}
use Rattle.std.specs.Io.KnownBytes.{prepend_known}
use Rattle.xdr_records.specs.Feed.{fresh}
use Rattle.nfs_tap.specs.declared.pump.PumpEnd.{PumpEnd}
use Rattle.nfs_tap.specs.declared.pump.PumpEnd.TheVariants as ends
use Rattle.nfs_tap.specs.declared.pump.Turn.TheVariants as turns
use Rattle.nfs_tap.specs.Pumping.{Pumps}
use Rattle.nfs_tap.specs.Whole.{EndsAtEnd}
use Rattle.nfs_tap.proofs.Forwarding.{HasPumped}
use Rattle.nfs_tap.proofs.Turning.{begun, pumped_on, pumps_then, pumps_waiting}
use Rattle.nfs_tap.proofs.pump.pump.Goals as goal

pub loop-turn-init : goal.loop-turn-init
loop-turn-init g c =
    let left = g.I.Read.remaining c.args.reader.now in
    let held = g.W.Write.contents c.args.writer.now in
    subst (λ (l : List ℕ). HasPumped left (prepend_known l left) held held fresh) (sym c.new-window.ensures) (begun left held)

pub loop-turn-preserved : goal.loop-turn-preserved
loop-turn-preserved g c =
    let left = g.I.Read.remaining c.args.reader.now in
    let mid = prepend_known c.loop-turn.window.bytes (g.I.Read.remaining c.loop-turn.reader) in
    let left' = g.I.Read.remaining c.make_turn.new.reader in
    let held = g.W.Write.contents c.args.writer.now in
    let between = g.W.Write.contents c.loop-turn.writer in
    let held' = g.W.Write.contents c.make_turn.new.writer in
    pumped_on left mid left' held between held' c.make_turn.new.window.bytes c.loop-turn.invariant c.in-On.ensures.turned

pub returns-in-Odd-clause-forwarded : goal.returns-in-Odd-clause-forwarded
returns-in-Odd-clause-forwarded g c =
    let left = g.I.Read.remaining c.args.reader.now in
    let mid = prepend_known c.loop-turn.window.bytes (g.I.Read.remaining c.loop-turn.reader) in
    let left' = g.I.Read.remaining c.make_turn.new.reader in
    let left'' = g.I.Read.remaining c.pump_pieces.new.reader in
    let held = g.W.Write.contents c.args.writer.now in
    let between = g.W.Write.contents c.loop-turn.writer in
    let held' = g.W.Write.contents c.make_turn.new.writer in
    let held'' = g.W.Write.contents c.pump_pieces.new.writer in
    let so_far = pumped_on left mid left' held between held' c.make_turn.new.window.bytes c.loop-turn.invariant c.in-Odd.ensures.turned in
    let later = subst (λ (l : List ℕ). Pumps c.pump_pieces.result (prepend_known l left') left'' held' held'') c.as_slice.ensures c.pump_pieces.ensures.forwarded in
    pumps_then c.pump_pieces.result left (prepend_known c.make_turn.new.window.bytes left') left'' held held' held'' so_far later

pub returns-in-Over-clause-ended : goal.returns-in-Over-clause-ended
returns-in-Over-clause-ended g c same =
    subst (λ (end : PumpEnd). EndsAtEnd (turns.Over end) (g.I.Read.remaining c.make_turn.new.reader)) same c.in-Over.ensures.ended

pub returns-in-Over-clause-named : goal.returns-in-Over-clause-named
returns-in-Over-clause-named g c = c.in-Over.ensures.turned.0

pub returns-in-Over-clause-forwarded : goal.returns-in-Over-clause-forwarded
returns-in-Over-clause-forwarded g c =
    let left = g.I.Read.remaining c.args.reader.now in
    let mid = prepend_known c.loop-turn.window.bytes (g.I.Read.remaining c.loop-turn.reader) in
    let left' = g.I.Read.remaining c.make_turn.new.reader in
    let held = g.W.Write.contents c.args.writer.now in
    let between = g.W.Write.contents c.loop-turn.writer in
    let held' = g.W.Write.contents c.make_turn.new.writer in
    pumps_then c.in-Over.end left mid left' held between held' c.loop-turn.invariant c.in-Over.ensures.turned.1

pub returns-clause-forwarded : goal.returns-clause-forwarded
returns-clause-forwarded g c =
    let left = g.I.Read.remaining c.args.reader.now in
    let left' = g.I.Read.remaining c.loop-turn.reader in
    let held = g.W.Write.contents c.args.writer.now in
    let held' = g.W.Write.contents c.loop-turn.writer in
    pumps_waiting ends.Bound left left' held held' c.loop-turn.window.bytes c.loop-turn.invariant tt
