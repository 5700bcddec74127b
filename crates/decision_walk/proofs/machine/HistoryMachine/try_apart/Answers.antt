use Rattle.std.proofs.Common.{◌≡◌, false, Ok, ap, subst, rules}
use Rattle.std.specs.Prelude.{is_some}
use Rattle.certificate.specs.Plan.{call_of}
use Rattle.decision_walk.specs.Placings.{CoversPlans, CoversPoints, IsApart, MakesNoneOpen}
use Rattle.decision_walk.proofs.CountingLaws.{none_is, apart_covers}
use Rattle.decision_walk.proofs.StepLaws.{if_ok}
use Rattle.decision_walk.proofs.machine.HistoryMachine.try_apart.Goals as goal

pub returns-clause-covers : goal.returns-clause-covers
returns-clause-covers c =
    let known = c.args.self.now.history.now.known in
    let marks = c.args.self.now.marks.items in
    let state = c.args.state.now in
    let n = call_of c.args.place in
    let call = c.args.call.now in
    let outcome = c.args.outcome.now in
    let is : is_some c.in_ok-write_touched.field-0 ≡ false = search rules in
    let apart : IsApart state call outcome = c.in_ok-write_touched.ensures.apart (ap (λ o. Ok o) (none_is c.in_ok-write_touched.field-0 is)) in
    let fresh : MakesNoneOpen known state n = subst (MakesNoneOpen known state) c.number-n.ensures (c.makes_open.ensures c.if-makes_open.false) in
    if_ok c.try_call.result (CoversPlans known state n call outcome) (CoversPoints known marks state n call outcome) (λ found covers. apart_covers known marks state n call outcome found apart fresh covers) c.try_call.ensures.covers
