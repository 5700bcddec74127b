use Rattle.std.proofs.Common.{◌≡◌, ◌<◌, length, take, sym, subst, inl, inr, refl, arith, rules}
use Rattle.std.specs.Io.KnownBytes.{Consumes, Keeps}
use Rattle.xdr_records.proofs.Splitting.{unfinished_none}
use Rattle.nfs_tap.proofs.Fronts.{piece_read, unread}
use Rattle.server_connection.specs.declared.end.StreamEnd.TheVariants as ends
use Rattle.server_connection.proofs.Streams.{none_served, serves_none, served_still, served_more, serves_within}
use Rattle.server_connection.proofs.serving.serve_export.Goals as goal
use Rattle.server_connection.proofs.serving.serve_export.Goals.{in-Ok-read+in-Ok-serve_piece, in-Err-read}

pub returns-then-records-eq0-clause-served : goal.returns-then-records-eq0-clause-served
returns-then-records-eq0-clause-served g c =
    serves_none c.args.export ends.Bound c.args.allowance.records c.args.pass.now (g.I.Read.remaining c.args.reader.now) (g.W.Write.contents c.args.writer.now) (inr (0, 0, unfinished_none)) refl

pub loop-read-init : goal.loop-read-init
loop-read-init g c =
    let left = g.I.Read.remaining c.args.reader.now in
    let held = g.W.Write.contents c.args.writer.now in
    let more : 0 < c.args.allowance.records = search rules in
    record { room = c.in-Ok.ensures; served = none_served c.args.export c.args.pass.now left held _ c.new-feed.ensures more }

pub returns-in-Err-clause-served : goal.returns-in-Err-clause-served
returns-in-Err-clause-served g c =
    serves_none c.args.export ends.NoMemory c.args.allowance.records c.args.pass.now (g.I.Read.remaining c.args.reader.now) (g.W.Write.contents c.args.writer.now) tt (inl refl)

pub returns-in-Err-serve_piece-clause-served : goal.returns-in-Err-serve_piece-clause-served
returns-in-Err-serve_piece-clause-served g c =
    let left = g.I.Read.remaining c.args.reader.now in
    let mid = g.I.Read.remaining c.loop-read.reader in
    let left' = g.I.Read.remaining c.read.new.self in
    let held = g.W.Write.contents c.args.writer.now in
    let between = g.W.Write.contents c.loop-read.writer in
    let held' = g.W.Write.contents c.serve_piece.new.writer in
    let count = c.in-Ok-read.count in
    let size : length c.read.new.buf ≡ c.loop-read.buffer.len = omega (arith, c.read.auto.buf, c.as_mut_slice.ensures.len) in
    let same : take count c.deref.result.now ≡ take count c.read.new.buf = piece_read c.read.new.buf c.loop-read.buffer.items c.deref.result.now c.loop-read.buffer.len count size c.deref.ensures.value in
    let gave : Consumes mid left' (take count c.deref.result.now) = subst (Consumes mid left') (sym same) c.in-Ok-read.ensures.bytes.0 in
    serves_within c.args.export c.args.allowance.records c.args.pass.now c.loop-read.pass left mid held between c.loop-read.intake c.loop-read.invariant.served c.in-Err-serve_piece.end c.serve_piece.new.pass left' held'
    (take count c.deref.result.now) gave c.in-Err-serve_piece.ensures.err

pub loop-read-preserved : goal.loop-read-preserved
loop-read-preserved g c =
    let left = g.I.Read.remaining c.args.reader.now in
    let mid = g.I.Read.remaining c.loop-read.reader in
    let left' = g.I.Read.remaining c.read.new.self in
    let held = g.W.Write.contents c.args.writer.now in
    let between = g.W.Write.contents c.loop-read.writer in
    elim c.match-read.branch [
      | in-Ok-read+in-Ok-serve_piece w ↦
          let held' = g.W.Write.contents w.serve_piece.new.writer in
          let count = w.in-Ok-read.count in
          let size : length c.read.new.buf ≡ c.loop-read.buffer.len = omega (arith, c.read.auto.buf, c.as_mut_slice.ensures.len) in
          let same : take count w.deref.result.now ≡ take count c.read.new.buf = piece_read c.read.new.buf c.loop-read.buffer.items w.deref.result.now c.loop-read.buffer.len count size w.deref.ensures.value in
          let gave : Consumes mid left' (take count w.deref.result.now) = subst (Consumes mid left') (sym same) w.in-Ok-read.ensures.bytes.0 in
          let more = served_more c.args.export c.args.allowance.records c.args.pass.now c.loop-read.pass left mid held between c.loop-read.intake c.loop-read.invariant.served w.serve_piece.new.pass left' held' w.serve_piece.new.intake
          (take count w.deref.result.now) gave w.in-Ok-serve_piece.ensures.ok in
          record { room = c.loop-read.invariant.room; served = rw (w.writer-is, w.pass-is, w.intake-is) more }
      | in-Err-read w ↦
          let keeps : Keeps mid left' = search rules in
          let still = served_still c.args.export c.args.allowance.records c.args.pass.now c.loop-read.pass left mid held between c.loop-read.intake c.loop-read.invariant.served left' (λ bytes consumed. unread left mid left' bytes consumed keeps) in
          record { room = c.loop-read.invariant.room; served = rw (w.writer-is, w.pass-is, w.intake-is) still }
    ]
