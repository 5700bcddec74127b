use Rattle.std.proofs.Common.{◌≡◌, length, take, sym, subst, arith, rules}
use Rattle.std.specs.Io.KnownBytes.{Consumes, Keeps, prepend_known}
use Rattle.nfs_tap.specs.declared.pump.PumpEnd.TheVariants as ends
use Rattle.nfs_tap.proofs.Fronts.{piece_read, unread}
use Rattle.nfs_tap.proofs.Forwarding.{pumped_still, pumped_more, pumps_within, pumps_behind}
use Rattle.nfs_tap.proofs.Turning.{begun_by, ended_behind, front_taken, last_stopped}
use Rattle.nfs_tap.proofs.pump.pump_pieces.Goals as goal
use Rattle.nfs_tap.proofs.pump.pump_pieces.Goals.{in-Ok-read+in-Ok-pass_on, in-Err+then-eq}

pub returns-in-Err-clause-forwarded : goal.returns-in-Err-clause-forwarded
returns-in-Err-clause-forwarded g c =
    let left = g.I.Read.remaining c.args.reader.now in
    let held = g.W.Write.contents c.args.writer.now in
    let held' = g.W.Write.contents c.pass_on.new.writer in
    let stopped = last_stopped c.in-Err.end held held' c.new-feed.result c.args.begun.now c.new-feed.ensures c.in-Err.ensures.err in
    ended_behind c.in-Err.end (prepend_known c.args.begun.now left) left held held' c.args.begun.now (front_taken c.args.begun.now left) stopped

pub returns-in-Err-empty_buffer-clause-forwarded : goal.returns-in-Err-empty_buffer-clause-forwarded
returns-in-Err-empty_buffer-clause-forwarded g c =
    let left = g.I.Read.remaining c.args.reader.now in
    let held = g.W.Write.contents c.args.writer.now in
    let held' = g.W.Write.contents c.pass_on.new.writer in
    let so_far = begun_by left held held' c.new-feed.result c.pass_on.new.feed c.args.begun.now c.new-feed.ensures c.in-Ok.ensures.ok in
    pumps_behind ends.NoMemory (prepend_known c.args.begun.now left) left held held' c.pass_on.new.feed so_far (λ _. tt)

pub loop-read-init : goal.loop-read-init
loop-read-init g c =
    let left = g.I.Read.remaining c.args.reader.now in
    let held = g.W.Write.contents c.args.writer.now in
    let held' = g.W.Write.contents c.pass_on.new.writer in
    record { room = c.in-Ok-empty_buffer.ensures; pumped = begun_by left held held' c.new-feed.result c.pass_on.new.feed c.args.begun.now c.new-feed.ensures c.in-Ok.ensures.ok }

pub returns-in-Err-pass_on-clause-forwarded : goal.returns-in-Err-pass_on-clause-forwarded
returns-in-Err-pass_on-clause-forwarded g c =
    let left = prepend_known c.args.begun.now (g.I.Read.remaining c.args.reader.now) in
    let mid = g.I.Read.remaining c.loop-read.reader in
    let left' = g.I.Read.remaining c.read.new.self in
    let held = g.W.Write.contents c.args.writer.now in
    let between = g.W.Write.contents c.loop-read.writer in
    let held' = g.W.Write.contents c.pass_on-in-Ok-read.new.writer in
    let count = c.in-Ok-read.count in
    let size : length c.read.new.buf ≡ c.loop-read.buffer.len = omega (arith, c.read.auto.buf, c.as_mut_slice.ensures.len) in
    let same : take count c.deref.result.now ≡ take count c.read.new.buf = piece_read c.read.new.buf c.loop-read.buffer.items c.deref.result.now c.loop-read.buffer.len count size c.deref.ensures.value in
    let gave : Consumes mid left' (take count c.deref.result.now) = subst (Consumes mid left') (sym same) c.in-Ok-read.ensures.bytes.0 in
    pumps_within c.in-Err-pass_on.end left mid left' held between held' c.loop-read.feed (take count c.deref.result.now) c.loop-read.invariant.pumped gave c.in-Err-pass_on.ensures.err

pub loop-read-preserved : goal.loop-read-preserved
loop-read-preserved g c =
    let left = prepend_known c.args.begun.now (g.I.Read.remaining c.args.reader.now) in
    let mid = g.I.Read.remaining c.loop-read.reader in
    let left' = g.I.Read.remaining c.read.new.self in
    let held = g.W.Write.contents c.args.writer.now in
    let between = g.W.Write.contents c.loop-read.writer in
    elim c.match-read.branch [
      | in-Ok-read+in-Ok-pass_on w ↦
          let held' = g.W.Write.contents w.pass_on-in-Ok-read.new.writer in
          let count = w.in-Ok-read.count in
          let size : length c.read.new.buf ≡ c.loop-read.buffer.len = omega (arith, c.read.auto.buf, c.as_mut_slice.ensures.len) in
          let same : take count w.deref.result.now ≡ take count c.read.new.buf = piece_read c.read.new.buf c.loop-read.buffer.items w.deref.result.now c.loop-read.buffer.len count size w.deref.ensures.value in
          let gave : Consumes mid left' (take count w.deref.result.now) = subst (Consumes mid left') (sym same) w.in-Ok-read.ensures.bytes.0 in
          let more = pumped_more left mid left' held between held' c.loop-read.feed w.pass_on-in-Ok-read.new.feed (take count w.deref.result.now) c.loop-read.invariant.pumped gave w.in-Ok-pass_on.ensures.ok in
          record { room = c.loop-read.invariant.room; pumped = rw (w.writer-is, w.feed-is) more }
      | in-Err+then-eq w ↦
          let keeps : Keeps mid left' = search rules in
          let still = pumped_still left mid left' held between c.loop-read.feed c.loop-read.invariant.pumped (λ bytes consumed. unread left mid left' bytes consumed keeps) in
          record { room = c.loop-read.invariant.room; pumped = rw (w.writer-is, w.feed-is) still }
    ]
