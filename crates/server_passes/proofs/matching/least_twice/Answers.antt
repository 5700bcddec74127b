use Rattle.std.proofs.Common.{nat_eq, true, cond, Some, ap, subst, ◌∙◌}
use Rattle.std.proofs.lemmas.List.{take_all}
use Rattle.indexmap.specs.IndexSet.{contains}
use Rattle.server_passes.specs.Least.{IsLeast}
use Rattle.server_passes.specs.Matching.{IsToldTwice}
use Rattle.server_passes.proofs.LeastSteps.{met_more, met_before, unmet_before}
use Rattle.server_passes.proofs.matching.least_twice.Goals as goal
use Rattle.server_passes.proofs.matching.least_twice.Goals.{then-not-branch, else-not-branch}

pub loop-pass-preserved : goal.loop-pass-preserved
loop-pass-preserved c =
    let passes = c.args.passes.now in
    let i = c.loop-pass.pass-index in
    let pass = c.pass-item.result in
    let within = c.loop-pass-test.true in
    let has = contains nat_eq c.loop-pass.met in
    let lane = c.lane-lane.result in
    let least = c.loop-pass.least in
    record {
      met = met_more passes i pass within c.pass-item.is has (contains nat_eq c.insert.new.self)
          (λ q. c.in_ok-insert.ensures.updates.0 q ∙ ap (λ l. cond (nat_eq l q) true (has q)) c.lane-lane.ensures) c.loop-pass.invariant.met;
      least = elim c.if-not-branch.branch [
        | then-not-branch w ↦
            met_before passes i pass within c.pass-item.is has lane c.in_ok-insert.field-0 least c.if-not-branch.least c.lane-lane.ensures c.in_ok-insert.ensures.added c.loop-pass.invariant.met
            w.if-not-branch.true (w.least-is ∙ ap Some w.least_with.ensures) c.loop-pass.invariant.least
        | else-not-branch w ↦
            unmet_before passes i pass within c.pass-item.is has lane c.in_ok-insert.field-0 least c.if-not-branch.least c.lane-lane.ensures c.in_ok-insert.ensures.added c.loop-pass.invariant.met
            w.if-not-branch.false w.least-is c.loop-pass.invariant.least
      ];
    }

pub returns : goal.returns
returns c = subst (λ passes. IsLeast (IsToldTwice passes) c.loop-pass.least) (take_all c.loop-pass.pass-index c.args.passes.now c.loop-pass-test.false) c.loop-pass.invariant.least
