use Rattle.std.proofs.Common.{◌≡◌, map, take, refl, subst, arith}
use Rattle.replay_law.specs.Run.{IsFirstIllegal}
use Rattle.replay_law.specs.Steps.{taken_of}
use Rattle.replay_law.proofs.Within.{stuck_lost, more_lost}
use Rattle.replay_law.proofs.eras.run_lost.Goals as goal

pub returns-in-Err-NotAllowed-clause-illegal : goal.returns-in-Err-NotAllowed-clause-illegal
returns-in-Err-NotAllowed-clause-illegal g c = λ number is kept base reached s.
    let R = g.R.Replayable in
    let all = c.args.steps.now in
    let i = c.loop-step.step-index in
    let x = c.step-item.result in
    let stands = c.loop-step.invariant kept s in
    let stops = c.in-Err-NotAllowed.ensures.not_allowed (cc) (R.next c.args.setting.now) (R.start c.args.setting.now) x.number kept (map taken_of (take i all)) (λ state. refl) stands in
    let found = stuck_lost taken_of R.undoes (R.next c.args.setting.now) (R.start c.args.setting.now) all i x (omega arith) c.step-item.is c.loop-step.replay kept base reached stands stops in
    let same : x.number ≡ number = cc in
    subst (λ m. IsFirstIllegal (R.next c.args.setting.now) base (map taken_of all) m) same found

pub loop-step-preserved : goal.loop-step-preserved
loop-step-preserved g c = λ kept s.
    let R = g.R.Replayable in
    let all = c.args.steps.now in
    let i = c.loop-step.step-index in
    more_lost taken_of R.undoes (R.next c.args.setting.now) (R.start c.args.setting.now) all i c.step-item.result (omega arith) c.step-item.is c.step_lost.new.self kept
    (c.in-Ok.ensures.ok (R.next c.args.setting.now) (R.start c.args.setting.now) c.step-item.result.number kept (map taken_of (take i all)) (λ state. refl) (c.loop-step.invariant kept s))
