use Rattle.std.proofs.Common.{◌==◌, position, ap, ◌∙◌}
use Rattle.certificate.specs.declared.plan.Place.{Place}
use Rattle.certificate.specs.Plan.{call_of}
use Rattle.fault_reasons.proofs.Found.{named_at, one_found}
use Rattle.fault_reasons.proofs.explaining.spot_in.Goals as goal

pub returns-in_err-index-clause-finds : goal.returns-in_err-index-clause-finds
returns-in_err-index-clause-finds c = λ front back place parts named.
    absurd (one_found c.args.era.now.places front back place c.args.number c.index_of.result
    (c.index_of.ensures ∙ ap (position (λ (p : Place). call_of p == c.args.number)) c.as_slice-places.ensures) c.in_err-index.was parts named)

pub returns-clause-named : goal.returns-clause-named
returns-clause-named c =
    named_at c.as_slice-places.result.now c.in_ok-front.front.now c.in_ok-front.rest.now c.in_ok-place.field-0-1.now c.in_ok-place.place.now c.in_ok-index.index c.args.number
    c.index_of.result c.index_of.ensures c.in_ok-index.was c.in_ok-front.ensures.cases c.in_ok-place.ensures.cases
