use Rattle.std.proofs.Common.{subst}
use Rattle.decide.specs.Decision.{Says}
use Rattle.deciding_command.proofs.NoText.{no_text}
use Rattle.deciding_command.proofs.file_decision.decide_read.Goals as goal

pub returns-in-No : goal.returns-in-No
returns-in-No g c =
    let refusal = c.in-No.refusal in
    let said = subst (Says c.args.history.now.known) c.in-No.is c.decide_within-decision.ensures in
    no_text c.args.bytes.now c.args.history.now refusal.event refusal.call c.requires said.0 said.1
