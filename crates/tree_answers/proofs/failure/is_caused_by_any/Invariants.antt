use Rattle.std.proofs.Common.{◌≡◌, drop}
use Rattle.std.specs.List.{list_any}
use Rattle.tree_answers.specs.Failure.{is_caused_by}
use Rattle.tree_answers.proofs.failure.is_caused_by_any.Given as goal

-- none of the causes looked at permits the status
abbrev pub invariant-loop-cause : goal.invariant-loop-cause
invariant-loop-cause l =
    list_any (is_caused_by l.view.binds.now l.view.nodes.now l.call l.failure) l.causes ≡ list_any (is_caused_by l.view.binds.now l.view.nodes.now l.call l.failure) (drop l.cause-index l.causes)
