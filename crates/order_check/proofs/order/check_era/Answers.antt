-- The running last begin finds the first early place.
use Rattle.std.proofs.Common.{◌≡◌, ℕ, Some, take, sym, subst, ◌∙◌}
use Rattle.std.proofs.lemmas.Bool.{false≢true}
use Rattle.nfs_history.specs.Precedence.{Precedes}
use Rattle.order_check.proofs.OrderLaws.{InOrderSoFar, one_more, early_here}
use Rattle.order_check.proofs.order.check_era.Goals as goal
use Rattle.order_check.proofs.order.check_era.Goals.{in_default-via-in-None-1, in_default-via-in-Some+else-precedes}

pub returns-in-loop-place-clause-early : goal.returns-in-loop-place-clause-early
returns-in-loop-place-clause-early c =
    let calls = c.args.history.now.calls in
    let places = c.args.places.now in
    let so_far = subst (InOrderSoFar calls (take c.loop-place.place-index places)) c.in-Some.is c.loop-place.invariant in
    early_here calls places c.loop-place.place-index _ c.number-number.result c.in-Some.other c.loop-place-test.true c.number-number.ensures so_far
    (c.precedes.ensures.0 c.if-precedes.true)

pub loop-place-preserved : goal.loop-place-preserved
loop-place-preserved c =
    let calls = c.args.history.now.calls in
    let places = c.args.places.now in
    let index = c.loop-place.place-index in
    let number = c.number-number.result in
    let latest = c.in_default.latest in
    elim c.in_default.branch [
      | in_default-via-in-None-1 w ↦
          let so_far = subst (InOrderSoFar calls (take index places)) (sym w.latest-is) c.loop-place.invariant in
          one_more calls places index _ latest number c.began_last.result c.loop-place-test.true c.number-number.ensures so_far (λ other is before. absurd (cc)) c.began_last.ensures
      | in_default-via-in-Some+else-precedes w ↦
          let same : c.loop-place.latest ≡ latest = w.in-Some.is ∙ sym w.latest-is in
          let so_far = subst (InOrderSoFar calls (take index places)) same c.loop-place.invariant in
          let not_before : (other : ℕ) → latest ≡ Some other → Precedes calls number other → ⊥ =
          λ other is before. let same_other : other ≡ w.in-Some.other = cc in
          false≢true (sym w.if-precedes.false ∙ w.precedes.ensures.1 (subst (Precedes calls number) same_other before)) in
          one_more calls places index _ latest number c.began_last.result c.loop-place-test.true c.number-number.ensures so_far not_before c.began_last.ensures
    ]
