use Rattle.std.proofs.Common.{take, sym, subst}
use Rattle.std.proofs.lemmas.List.{take_more, take_all}
use Rattle.cut_check.specs.Shown.{IsShown}
use Rattle.cut_check.proofs.verifier.shown_of.Goals as goal

pub loop-place-preserved : goal.loop-place-preserved
loop-place-preserved c =
    let calls = c.args.history.now.calls in
    let places = c.args.places.now in
    let i = c.loop-place.place-index in
    let more = c.shown_with-shown.ensures calls (take i places) _ (sym c.in_ok-seen.ensures) c.loop-place.invariant in
    subst (λ ps. IsShown calls ps c.shown_with-shown.result) (sym (take_more places i _ c.loop-place-test.true)) more

pub returns : goal.returns
returns c =
    let places = c.args.places.now in
    subst (λ ps. IsShown c.args.history.now.calls ps c.loop-place.shown) (take_all c.loop-place.place-index places c.loop-place-test.false) c.loop-place.invariant
