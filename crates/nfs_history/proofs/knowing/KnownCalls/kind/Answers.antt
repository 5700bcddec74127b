use Rattle.std.proofs.Common.{◌≡◌, map, option_map, subst, ap, ◌∙◌}
use Rattle.nfs_history.specs.Matching.{seen_call}
use Rattle.nfs_history.specs.Precedence.{call_at}
use Rattle.nfs_history.specs.Reread.{item_at, known_call, call_kind}
use Rattle.nfs_history.proofs.Rereading.{kind_found}
use Rattle.nfs_history.proofs.knowing.KnownCalls.kind.Goals as goal

pub returns : goal.returns
returns c =
    let same = c.kind_at.ensures ∙ ap (λ s. item_at s c.args.number) c.as_slice.ensures.value in
    let found = kind_found (map known_call (map seen_call c.self.inside.seen.items)) c.self.inside.kinds.items c.args.number c.self.invariant.1 in
    subst (λ k. c.kind_at.result ≡ option_map call_kind (call_at k.calls c.args.number)) c.self.view_is (same ∙ found)
