use Rattle.fault_reasons.proofs.Told.{is_spot}
use Rattle.fault_reasons.proofs.explaining.spot_of.Goals as goal

pub returns-clause-spot : goal.returns-clause-spot
returns-clause-spot c =
    is_spot c.args.eras.now c.in_ok-ahead.ahead.now c.in_ok-ahead.rest.now c.in_ok-era.field-0-1.now c.in_ok-era.era.now _ c.spot_in.result
    c.in_ok-ahead.ensures.cases c.in_ok-era.ensures.cases c.spot_in.ensures.ahead c.spot_in.ensures.stands
