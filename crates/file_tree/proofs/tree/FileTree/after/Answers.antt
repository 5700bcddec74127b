use Rattle.std.proofs.Common.{◌≡◌, Some, ◌∙◌, ap}
use Rattle.std.specs.Prelude.{Result, Ok, Err, IfOk, option_map, unwrap_or}
use Rattle.file_tree.specs.Success.{changed}
use Rattle.file_tree.specs.Judging.{change_under}
use Rattle.file_tree.specs.Setting.{under}
use Rattle.file_tree.proofs.Profiles.{under_changes}
use Rattle.file_tree.proofs.tree.FileTree.after.Goals as goal

onto : {A E : Type 0} {P Q : A → Type 0} (r : Result A E) → IfOk r P → ((x : A) → P x → Q x) → IfOk r Q
onto (Ok x) h f = f x h
onto (Err e) h f = tt

pub returns-clause-next : goal.returns-clause-next
returns-clause-next c =
    onto c.planned.result c.planned.ensures.next (λ next leads. under_changes c.args.profile c.args.binds.now c.args.self.now c.args.number c.args.call.now c.args.outcome.now ∙ leads)

pub returns-clause-not_allowed : goal.returns-clause-not_allowed
returns-clause-not_allowed c refused =
    under_changes c.args.profile c.args.binds.now c.args.self.now c.args.number c.args.call.now c.args.outcome.now
    ∙ ap (option_map (changed c.args.self.now)) (c.planned.ensures.not_allowed refused)
