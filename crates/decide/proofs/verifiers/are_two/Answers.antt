use Rattle.std.proofs.Common.{◌≡◌, ◌≢◌, rules}
use Rattle.decide.proofs.ShownTwice.{two_shown}
use Rattle.decide.specs.Verifiers.{IsShownIn}
use Rattle.decide.proofs.verifiers.are_two.Goals as goal

pub returns : goal.returns
returns c = λ is.
    let one : IsShownIn c.args._history.now.known c.in-Some.one = search rules in
    let other : IsShownIn c.args._history.now.known c.in-Some-found.other = search rules in
    let era : c.in-Some.one.era ≡ c.in-Some-found.other.era = search rules in
    let differ : c.in-Some.one.verifier ≢ c.in-Some-found.other.verifier = search rules in
    two_shown c.args._history.now.known c.in-Some.one c.in-Some-found.other one other era differ
