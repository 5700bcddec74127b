use Rattle.std.proofs.Common.{refl}
use Rattle.decide.proofs.Walking.{answer_walks}
use Rattle.decide.proofs.deciding.walk.Goals as goal

pub returns : goal.returns
returns g c = answer_walks c.args.history.now c.args.machine.now.history.now c.args.machine.now.marks.items c.args.machine.now.marks.items c.args.events.now c.requires.history refl c.requires.marks
    c.requires.tells c.decide.result c.decide.ensures.answer c.decide.ensures.none
