use Rattle.std.proofs.Common.{take, sym, subst}
use Rattle.std.proofs.lemmas.List.{take_more}
use Rattle.cut_check.specs.Shown.{AddsSeen, AddsShown}
use Rattle.cut_check.proofs.ShownLaws.{adds_more}
use Rattle.cut_check.proofs.verifier.add_each.Goals as goal

pub loop-place-preserved : goal.loop-place-preserved
loop-place-preserved c =
    let calls = c.args.history.now.calls in
    let places = c.args.places.now in
    let i = c.loop-place.place-index in
    let sees = subst (λ seen. AddsSeen seen c.loop-place.set c.add_seen.new.set) c.in_ok-seen.ensures c.in_ok-add_seen.ensures in
    let more = adds_more calls (take i places) _ c.args.set.now c.loop-place.set c.add_seen.new.set c.loop-place.invariant sees in
    subst (λ ps. AddsShown calls ps c.args.set.now c.add_seen.new.set) (sym (take_more places i _ c.loop-place-test.true)) more
