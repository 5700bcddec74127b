use Rattle.std.proofs.Common.{sym, ap, ◌∙◌}
use Rattle.nfs_history.specs.Matching.{seen_call}
use Rattle.nfs_history.specs.Reread.{call_kind}
use Rattle.nfs_history.proofs.Rereading.{known_again, recorded_again}
use Rattle.nfs_history.proofs.judging.checked_kind.Goals as goal

pub returns-clause-found : goal.returns-clause-found
returns-clause-found c =
    let event = seen_call c.args.seen.now in
    let recorded = c.in_ok-call.ensures.found in
    (recorded_again event c.in_ok-call.call recorded, c.kind.ensures ∙ ap call_kind (sym (known_again event c.in_ok-call.call recorded)))
