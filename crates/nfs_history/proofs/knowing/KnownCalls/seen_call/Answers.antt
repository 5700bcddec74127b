use Rattle.std.proofs.Common.{◌≡◌, option_map, subst, ap, ◌∙◌}
use Rattle.std.specs.Option.{option_copied}
use Rattle.nfs_history.specs.Precedence.{call_at}
use Rattle.nfs_history.specs.Reread.{item_at, known_as}
use Rattle.nfs_history.proofs.Rereading.{found_as, recorded_as}
use Rattle.nfs_history.proofs.knowing.KnownCalls.seen_call.Goals as goal

pub returns-clause-value : goal.returns-clause-value
returns-clause-value c =
    let same = c.seen_at.ensures ∙ ap (λ s. item_at s c.args.number) c.as_slice.ensures.value in
    subst (λ k. option_map known_as (option_copied c.seen_at.result) ≡ call_at k.calls c.args.number) c.self.view_is (found_as c.self.inside.seen.items c.args.number (option_copied c.seen_at.result) same)

pub returns-clause-read : goal.returns-clause-read
returns-clause-read c =
    let same = c.seen_at.ensures ∙ ap (λ s. item_at s c.args.number) c.as_slice.ensures.value in
    recorded_as c.self.inside.seen.items c.args.number c.seen_at.result c.self.invariant.0 same
