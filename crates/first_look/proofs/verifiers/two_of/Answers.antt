use Rattle.std.proofs.Common.{◌≡◌, ◌≢◌, refl, rules}
use Rattle.first_look.proofs.Two.{are_two}
use Rattle.first_look.specs.TwoVerifiers.{IsShownIn}
use Rattle.first_look.proofs.verifiers.two_of.Goals as goal

pub returns : goal.returns
returns c =
    let one : IsShownIn c.args._known.now c.in-Some.one = search rules in
    let other : IsShownIn c.args._known.now c.in-Some-found.other = search rules in
    let era : c.in-Some.one.era ≡ c.in-Some-found.other.era = search rules in
    let differ : c.in-Some.one.verifier ≢ c.in-Some-found.other.verifier = search rules in
    are_two c.args._known.now c.in-Some.one c.in-Some-found.other _ one other era differ refl refl refl
