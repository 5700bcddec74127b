use Rattle.std.proofs.Common.{refl}
use Rattle.nfs_tap.proofs.Turning.{last_passed}
use Rattle.nfs_tap.proofs.pump.pass_last.Goals as goal

pub pass_on-requires : goal.pass_on-requires
pass_on-requires g c = rw c.new-feed.ensures (refl, refl)

pub returns-in-Ok-clause-forwarded : goal.returns-in-Ok-clause-forwarded
returns-in-Ok-clause-forwarded g c =
    let held = g.W.Write.contents c.args.writer.now in
    let held' = g.W.Write.contents c.pass_on.new.writer in
    last_passed held held' c.new-feed.result c.pass_on.new.feed c.args.bytes.now c.new-feed.ensures c.in-Ok.ensures.ok
