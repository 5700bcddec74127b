use Rattle.std.proofs.Common.{sym}
use Rattle.nfs_history.specs.Matching.{seen_call}
use Rattle.nfs_history.proofs.Rereading.{known_again, never_found}
use Rattle.nfs_history.proofs.judging.read_again.Goals as goal

pub unreachable-requires : goal.unreachable-requires
unreachable-requires c =
    let found = rw (c.in-Err-Fault.is, c.in-Err-Fault.field-0-is) at c.judged_call.ensures.fault in
    never_found 1 (seen_call c.args.seen.now) c.in-Err-Fault.field-0-0 c.requires found

pub returns-in-Ok : goal.returns-in-Ok
returns-in-Ok c = sym (known_again (seen_call c.args.seen.now) c.in-Ok.call c.in-Ok.ensures.found)
