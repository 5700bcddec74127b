use Rattle.std.proofs.lemmas.Result.{err_from_is_err_and}
use Rattle.nfs_tap.proofs.Forwarding.{no_memory_anywhere}
use Rattle.nfs_tap.proofs.pump.note_shared.Goals as goal

pub returns-in_err-event : goal.returns-in_err-event
returns-in_err-event g c =
    let p = err_from_is_err_and c.from_residual.result c.from_residual.ensures.1 in
    rw (p.1, p.2) no_memory_anywhere
