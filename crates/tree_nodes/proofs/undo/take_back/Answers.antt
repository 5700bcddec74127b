use Rattle.std.proofs.Common.{subst}
use Rattle.std.proofs.lemmas.Result.{on_ok_weaker, on_err_weaker}
use Rattle.tree_nodes.specs.declared.undo.Step.{Step}
use Rattle.tree_nodes.specs.Shown.{IsTableOf}
use Rattle.tree_nodes.specs.Undo.{StepsBack}
use Rattle.tree_nodes.proofs.Backs.{unmake_stands, unmake_bare, unmake_good, restore_file, restore_good}
use Rattle.tree_nodes.proofs.Methods.{unchanged, on_err_always}
use Rattle.tree_nodes.proofs.undo.take_back.Goals as goal

pub cut-requires-clause-stands : goal.cut-requires-clause-stands
cut-requires-clause-stands c =
    let tree = c.requires.0 in
    let before = c.requires.1 in
    unmake_stands c.args.entries.now tree c.requires.2 before c.in-Made.object (subst (λ (s : Step). StepsBack s tree before) c.in-Made.is c.requires.3)

pub cut-requires-clause-bare : goal.cut-requires-clause-bare
cut-requires-clause-bare c =
    let tree = c.requires.0 in
    let before = c.requires.1 in
    unmake_bare c.args.entries.now tree c.requires.2 before c.in-Made.object (subst (λ (s : Step). StepsBack s tree before) c.in-Made.is c.requires.3)

pub put_back-requires : goal.put_back-requires
put_back-requires c =
    let tree = c.requires.0 in
    let before = c.requires.1 in
    (tree, before, c.requires.2, (subst (λ (s : Step). StepsBack s tree before) c.in-Removed.is c.requires.3))

pub restore_bytes-requires : goal.restore_bytes-requires
restore_bytes-requires c =
    let tree = c.requires.0 in
    let before = c.requires.1 in
    restore_file c.args.entries.now tree c.requires.2 before c.in-Edited.object c.in-Edited.bytes (subst (λ (s : Step). StepsBack s tree before) c.in-Edited.is c.requires.3)

pub move_back-requires : goal.move_back-requires
move_back-requires c =
    let tree = c.requires.0 in
    let before = c.requires.1 in
    (tree, before, c.requires.2, (subst (λ (s : Step). StepsBack s tree before) c.in-Moved.is c.requires.3))

pub returns-in-Nothing-clause-ok : goal.returns-in-Nothing-clause-ok
returns-in-Nothing-clause-ok c = λ tree before good back. subst (IsTableOf c.args.entries.now) (subst (λ (s : Step). StepsBack s tree before) c.in-Nothing.is back) good

pub returns-in_ok-cut-in-Made-clause-ok : goal.returns-in_ok-cut-in-Made-clause-ok
returns-in_ok-cut-in-Made-clause-ok c = λ tree before good back.
    unmake_good c.args.entries.now tree good before c.in-Made.object (subst (λ (s : Step). StepsBack s tree before) c.in-Made.is back) c.cut.new.entries c.in_ok-cut-in-Made.field-0
    c.in_ok-cut-in-Made.ensures.entry c.in_ok-cut-in-Made.ensures.ok c.in_ok-cut-in-Made.ensures.len

pub returns-in_err-cut-in-Made-clause-err : goal.returns-in_err-cut-in-Made-clause-err
returns-in_err-cut-in-Made-clause-err c =
    on_err_always c.from_residual.result _ (λ tree before good back. (tree, unchanged c.args.entries.now tree good c.cut.new.entries c.in_err-cut-in-Made.ensures.err))

pub returns-in-Removed-clause-ok : goal.returns-in-Removed-clause-ok
returns-in-Removed-clause-ok c = on_ok_weaker c.put_back.result (λ put tree before good back.
    put tree before good ((subst (λ (s : Step). StepsBack s tree before) c.in-Removed.is back))) c.put_back.ensures.ok

pub returns-in-Removed-clause-err : goal.returns-in-Removed-clause-err
returns-in-Removed-clause-err c = on_err_weaker c.put_back.result (λ same tree before good back. (tree, unchanged c.args.entries.now tree good c.put_back.new.entries same)) c.put_back.ensures.err

pub returns-in-Edited-clause-ok : goal.returns-in-Edited-clause-ok
returns-in-Edited-clause-ok c = on_ok_weaker c.restore_bytes.result (λ sets tree before good back.
    restore_good c.args.entries.now tree good before c.in-Edited.object c.in-Edited.bytes (subst (λ (s : Step). StepsBack s tree before) c.in-Edited.is back) c.restore_bytes.new.entries sets c.restore_bytes.ensures.len)
    c.restore_bytes.ensures.ok

pub returns-in-Edited-clause-err : goal.returns-in-Edited-clause-err
returns-in-Edited-clause-err c = on_err_weaker c.restore_bytes.result (λ same tree before good back. (tree, unchanged c.args.entries.now tree good c.restore_bytes.new.entries same)) c.restore_bytes.ensures.err

pub returns-in-Moved-clause-ok : goal.returns-in-Moved-clause-ok
returns-in-Moved-clause-ok c = on_ok_weaker c.move_back.result (λ put tree before good back.
    put tree before good ((subst (λ (s : Step). StepsBack s tree before) c.in-Moved.is back))) c.move_back.ensures.ok

pub returns-in-Moved-clause-err : goal.returns-in-Moved-clause-err
returns-in-Moved-clause-err c = on_err_weaker c.move_back.result (λ put tree before good back.
    put tree before good ((subst (λ (s : Step). StepsBack s tree before) c.in-Moved.is back))) c.move_back.ensures.err
