use Rattle.std.proofs.Common.{◌∙◌, ap}
use Rattle.std.specs.Prelude.{Result, Ok, Err, OnOk, option_map}
use Rattle.file_tree.specs.Success.{changed}
use Rattle.file_tree.proofs.Profiles.{under_changes}
use Rattle.file_tree.proofs.tree.FileTree.step_under.Goals as goal

onto : {A E P Q : Type 0} (r : Result A E) → OnOk r P → (P → Q) → OnOk r Q
onto (Ok x) h f = f h
onto (Err e) h f = tt

pub returns-clause-next : goal.returns-clause-next
returns-clause-next c =
    onto c.step_planned.result c.step_planned.ensures.next (λ next. under_changes c.args.profile c.args.binds.now c.args.self.now c.args.number c.args.call.now c.args.outcome.now ∙ next)

pub returns-clause-not_allowed : goal.returns-clause-not_allowed
returns-clause-not_allowed c refused =
    under_changes c.args.profile c.args.binds.now c.args.self.now c.args.number c.args.call.now c.args.outcome.now
    ∙ ap (option_map (changed c.args.self.now)) (c.step_planned.ensures.not_allowed refused)
