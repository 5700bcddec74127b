use Rattle.std.proofs.Common.{◌∷◌, []}
use Rattle.std.proofs.lemmas.Result.{err_from_is_err_and}
use Rattle.nfs_tap.proofs.Forwarding.{stops_ahead, stops_within}
use Rattle.nfs_tap.proofs.pump.forward.Goals as goal

pub returns-in_err-note_shared-clause-err : goal.returns-in_err-note_shared-clause-err
returns-in_err-note_shared-clause-err g c =
    let held = g.W.Write.contents c.args.writer.now in
    let p = err_from_is_err_and c.from_residual.result c.from_residual.ensures.1 in
    rw (p.1, p.2) (stops_ahead _ held (c.args.content.now ∷ []) c.in_err-note_shared.ensures)

pub returns-in-Err-clause-err : goal.returns-in-Err-clause-err
returns-in-Err-clause-err g c =
    let held = g.W.Write.contents c.args.writer.now in
    let held' = g.W.Write.contents c.write_pieces.new.writer in
    stops_within held held' c.args.content.now c.args.text.now c.requires c.write_pieces.ensures.front
