use Rattle.plan_text.proofs.Planned.{finished}
use Rattle.plan_text.proofs.reading.Draft.finish.Goals as goal

pub returns : goal.returns
returns c =
    let draft = c.args.self in
    finished draft.append_fault draft.barrier_fault draft.steps.items c.new.result draft.lines draft.waiting c.requires.draft c.requires.ran c.new.ensures
