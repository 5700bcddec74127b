use Rattle.std.proofs.Common.{arith}
use Rattle.nfs_tap.proofs.Headers.{first_is}
use Rattle.nfs_tap.proofs.front.first_record.Goals as goal

pub returns : goal.returns
returns c =
    let whole = c.split_at.ensures in
    let parts = c.split_at-2.ensures in
    let count = c.in_ok-count.count in
    first_is c.args.bytes.now c.split_at.result.0.now c.split_at-2.result.1.now c.split_at.result.1.now count (omega (arith, c.if-bytes-count, c.in_ok-count.ensures.bound)) c.in_ok-count.ensures.limit c.in_ok-count.ensures.header whole.front whole.back parts.back
