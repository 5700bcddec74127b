use Rattle.fault_reasons.proofs.Told.{short_found}
use Rattle.fault_reasons.proofs.telling.short_cut.Goals as goal

pub returns-in-None : goal.returns-in-None
returns-in-None c = λ history plan same fault. absurd (short_found c.args.eras.now c.args.era c.args.needed c.lost_place.result c.in-None.is c.lost_place.ensures.finds history plan same fault)
