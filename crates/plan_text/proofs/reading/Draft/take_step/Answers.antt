use Rattle.std.proofs.Common.{◌≡◌, ◌+◌, ◌≤◌, true, false, sym, ◌∙◌, arith}
use Rattle.plan_text.specs.Line.{needed_behind_step, crashes}
use Rattle.plan_text.proofs.Pushed.{step_taken, needed_lane, needed_other}
use Rattle.plan_text.proofs.reading.Draft.take_step.Goals as goal
use Rattle.plan_text.proofs.reading.Draft.take_step.Goals.{then-lane, else-lane, then-self, else-self}

pub returns : goal.returns
returns c =
    let draft = c.args.self.now in
    let step = c.args.step in
    let behind : c.if-lane.behind ≡ needed_behind_step step =
    elim c.if-lane.branch [
      | then-lane w ↦ w.behind-is ∙ sym (needed_lane step (sym c.is_lane-lane.ensures ∙ w.if-lane.true))
      | else-lane w ↦ w.behind-is ∙ sym (needed_other step (sym c.is_lane-lane.ensures ∙ w.if-lane.false))
    ] in
    let idle : crashes step ≡ true → draft.waiting ≡ false =
    elim c.if-self.branch [
      | then-self w ↦ λ e. absurd (let both : true ≡ false = sym e ∙ sym w.is_crash.ensures ∙ sym w.value-is ∙ c.if-is_crash.false in cc)
      | else-self w ↦ λ e. w.if-self.false
    ] in
    let room : draft.lines + 1 + c.if-lane.behind ≤ 10000 = omega arith in
    step_taken draft.append_fault draft.barrier_fault draft.steps.items c.push.new.self.items draft.lines c.if-lane.behind draft.waiting c.is_lane-lane.result step c.requires.draft c.requires.numbers c.in_ok-push.ensures.items c.is_lane-lane.ensures behind idle room
