-- From the last era to the first.
use Rattle.std.proofs.Common.{◌≡◌, ◌+◌, ◌-◌, Some, sym, subst, arith, ◌∙◌}
use Rattle.std.proofs.lemmas.Bool.{false≢true}
use Rattle.cut_check.specs.Places.{era_at}
use Rattle.cut_check.specs.Shown.{AddsShown, HasLater, IsFirstBehind}
use Rattle.cut_check.proofs.EraLaws.{era_there}
use Rattle.cut_check.proofs.ShownLaws.{has_later_more, first_here, first_later, found_first}
use Rattle.cut_check.proofs.verifier.first_at_fault.Goals as goal
use Rattle.cut_check.proofs.verifier.first_at_fault.Goals.{then-branch, else-branch}

pub loop-index-preserved : goal.loop-index-preserved
loop-index-preserved c =
    let calls = c.args.history.now.calls in
    let eras = c.args.eras.now in
    let e = c.loop-index.index - 1 in
    let era = c.index-eras-index.result in
    let set = c.loop-index.later in
    let fault = c.in_ok-is_at_fault in
    let here : era_at eras (e + 1) ≡ Some era = era_there eras e era (omega arith) c.index-eras-index.is in
    let back : c.loop-index.index ≡ e + 1 = omega arith in
    let has : HasLater calls eras (e + 1) set = subst (λ n. HasLater calls eras n set) back c.loop-index.invariant.0 in
    let first : IsFirstBehind calls eras (e + 1) c.loop-index.found = subst (λ n. IsFirstBehind calls eras n c.loop-index.found) back c.loop-index.invariant.1 in
    let adds = subst (λ places. AddsShown calls places set c.add_shown.new.set) c.as_slice-places.ensures c.in_ok-add_shown.ensures in (
      has_later_more calls eras e era here set c.add_shown.new.set has adds,
      elim c.if-branch.branch [
        | then-branch w ↦ subst (IsFirstBehind calls eras e) (sym w.found-is) (first_here calls eras e era here set has (fault.ensures.0 w.if-branch.true))
        | else-branch w ↦
            subst (IsFirstBehind calls eras e) (sym w.found-is)
            (first_later calls eras e era here set c.loop-index.found has (λ at_fault. false≢true (sym w.if-branch.false ∙ fault.ensures.1 at_fault)) first)
      ],
    )

pub returns : goal.returns
returns c =
    let none : c.loop-index.index ≡ 0 = omega arith in
    found_first c.args.history.now.calls c.args.eras.now c.loop-index.found
    (subst (λ n. IsFirstBehind c.args.history.now.calls c.args.eras.now n c.loop-index.found) none c.loop-index.invariant.1)
