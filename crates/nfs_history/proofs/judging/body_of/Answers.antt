use Rattle.std.proofs.Common.{option_map, subst}
use Rattle.nfs_history.specs.Matching.{seen_reply}
use Rattle.nfs_history.specs.Effects.{Says}
use Rattle.nfs_history.proofs.judging.body_of.Goals as goal

pub unreachable-requires : goal.unreachable-requires
unreachable-requires c =
    let said = subst (λ answer. Says (option_map seen_reply answer) c.requires.0) c.in-Some.is c.requires.1 in
    c.in-Err.ensures.only said.0 said.1
