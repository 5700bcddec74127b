use Rattle.std.proofs.Common.{sym, ◌∙◌}
use Rattle.file_tree.proofs.Profiles.{is_kept, isnt_kept}
use Rattle.file_tree.proofs.judged.change_strictly.Goals as goal

pub returns-then-is_let_be : goal.returns-then-is_let_be
returns-then-is_let_be c =
    let d = c.in_ok-plan.ensures in
    let told = sym (c.is_let_be.ensures c.args.number d.0 d.1 d.2) ∙ c.if-is_let_be.true in
    (d.0, is_kept c.args.view.now.binds.now c.args.view.now.nodes.now c.args.number c.args.call.now c.args.outcome.now d.0 d.1 told, d.2)

pub returns : goal.returns
returns c =
    let d = c.in_ok-plan.ensures in
    isnt_kept c.args.view.now.binds.now c.args.view.now.nodes.now c.args.number c.args.call.now c.args.outcome.now d.0 d.1
    (sym (c.is_let_be.ensures c.args.number d.0 d.1 d.2) ∙ c.if-is_let_be.false)
