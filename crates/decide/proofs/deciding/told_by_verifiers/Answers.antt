use Rattle.std.proofs.Common.{rules}
use Rattle.nfs_history.specs.History.{recording_of}
use Rattle.decision_walk.specs.decision_law_specs.Laws.{ShowsTwoVerifiers}
use Rattle.decision_walk.specs.decision_law_specs.Times.{era_start}
use Rattle.decision_walk.proofs.decision_law_laws.Orders.{no_two_verifiers}
use Rattle.decide.specs.Verifiers.{IsShownIn}
use Rattle.decide.proofs.Named.{shown_at_end}
use Rattle.decide.proofs.deciding.told_by_verifiers.Goals as goal

pub returns-in_ok-open_calls-in-Some : goal.returns-in_ok-open_calls-in-Some
returns-in_ok-open_calls-in-Some c =
    let two : ShowsTwoVerifiers c.args.history.now.known × IsShownIn c.args.history.now.known c.in-Some.shown = search rules in (
      λ plan witness. no_two_verifiers c.args.history.now.known (era_start (recording_of c.args.history.now).events) c.requires plan two.0 witness,
      shown_at_end c.args.history.now.known c.in-Some.shown two.1,
    )
