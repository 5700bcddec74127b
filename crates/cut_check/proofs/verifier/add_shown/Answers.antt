-- By what the places show.
use Rattle.std.proofs.Common.{Some, subst}
use Rattle.std.proofs.lemmas.Result.{IfOk-weaker}
use Rattle.cut_check.specs.Shown.{IsShown, AddsSeen, AddsShown}
use Rattle.cut_check.specs.declared.verifier.Shown.TheVariants as shown
use Rattle.cut_check.proofs.ShownLaws.{adds_nothing, adds_one}
use Rattle.cut_check.proofs.verifier.add_shown.Goals as goal

pub returns-in-Nothing : goal.returns-in-Nothing
returns-in-Nothing c =
    let calls = c.args.history.now.calls in
    let places = c.args.places.now in
    adds_nothing calls places c.args.set.now (subst (IsShown calls places) c.in-Nothing.is c.requires)

pub returns-in-One : goal.returns-in-One
returns-in-One c =
    let calls = c.args.history.now.calls in
    let places = c.args.places.now in
    let old = c.args.set.now in
    let new = c.add_seen.new.set in
    let one = c.in-One.verifier in
    let shows : IsShown calls places (shown.One one) = subst (IsShown calls places) c.in-One.is c.requires in
    IfOk-weaker c.add_seen.result (λ _. AddsSeen (Some one) old new) (λ _. AddsShown calls places old new) (λ _ sees. adds_one calls places old new one shows sees) c.add_seen.ensures
