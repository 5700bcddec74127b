use Rattle.std.proofs.Common.{ℕ, ◌+◌, Some, take, refl, sym, ap, subst, ◌∙◌}
use Rattle.std.proofs.lemmas.Bool.{false≢true}
use Rattle.std.proofs.lemmas.List.{take_all}
use Rattle.server_passes.specs.Lanes.{calls_on, exchanges_in}
use Rattle.server_passes.specs.Least.{IsLeast}
use Rattle.server_passes.specs.Telling.{IsToldOtherThan}
use Rattle.server_passes.proofs.LeastSteps.{other_before, other_keep}
use Rattle.server_passes.proofs.matching.least_other.Goals as goal
use Rattle.server_passes.proofs.matching.least_other.Goals.{then-not-tells_right, else-not-tells_right}

pub loop-pass-preserved : goal.loop-pass-preserved
loop-pass-preserved c =
    let passes = c.args.passes.now in
    let i = c.loop-pass.pass-index in
    let pass = c.pass-item.result in
    let within = c.loop-pass-test.true in
    let exchanges = λ (lane : ℕ). exchanges_in c.args.events.now (calls_on c.args.lanes.now lane) in
    let least = c.loop-pass.least in
    elim c.if-not-tells_right.branch [
      | then-not-tells_right w ↦
          other_before exchanges passes i pass within c.pass-item.is least c.if-not-tells_right.least w.lane.result w.lane.ensures
          (λ right. false≢true (w.if-not-tells_right.ensures.1 right))
          (w.least-is ∙ ap Some w.least_with.ensures) c.loop-pass.invariant
      | else-not-tells_right w ↦
          subst (IsLeast (IsToldOtherThan c.args.events.now c.args.lanes.now (take (i + 1) passes))) (sym w.least-is)
          (other_keep exchanges passes i pass within c.pass-item.is least (w.if-not-tells_right.ensures.0 refl) c.loop-pass.invariant)
    ]

pub returns : goal.returns
returns c =
    subst (λ passes. IsLeast (IsToldOtherThan c.args.events.now c.args.lanes.now passes) c.loop-pass.least) (take_all c.loop-pass.pass-index c.args.passes.now c.loop-pass-test.false) c.loop-pass.invariant
