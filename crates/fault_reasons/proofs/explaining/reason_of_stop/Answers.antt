use Rattle.fault_reasons.proofs.Told.{not_some, illegal_told}
use Rattle.fault_reasons.proofs.explaining.reason_of_stop.Goals as goal

pub returns-in-Some : goal.returns-in-Some
returns-in-Some c =
    illegal_told c.args.history.now c.args.certificate.now c.args.stop.number c.in_ok-place.field-0 c.in-Some.place c.in-Some.is c.requires.fault c.in_ok-place.ensures.told
    c.in_ok-place.ensures.named

pub returns-in-None : goal.returns-in-None
returns-in-None c = absurd (not_some c.in_ok-place.field-0 c.in-None.is c.in_ok-place.ensures.some)
