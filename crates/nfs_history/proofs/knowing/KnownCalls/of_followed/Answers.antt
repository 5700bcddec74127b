use Rattle.std.proofs.Common.{[], map, sym, subst}
use Rattle.history_file.specs.Owning.{all_seen}
use Rattle.nfs_history.specs.Matching.{seen_call}
use Rattle.nfs_history.specs.Judging.{AreReadable}
use Rattle.nfs_history.proofs.FirstFaultLaws.{calls_readable}
use Rattle.nfs_history.proofs.knowing.KnownCalls.of_followed.Goals as goal

pub kinds_of-requires : goal.kinds_of-requires
kinds_of-requires c =
    let events = all_seen c.args.events.items in
    let are = c.in_ok-seen.ensures in
    let readable : AreReadable (map seen_call c.in_ok-seen.seen.items) = rw are (calls_readable 1 1 [] events c.requires) in
    subst (λ s. AreReadable (map seen_call s)) (sym c.as_slice-2.ensures.value) readable
