use Rattle.std.proofs.Common.{sym, subst}
use Rattle.std.proofs.lemmas.Result.{on_ok_weaker, on_err_weaker}
use Rattle.tree_nodes.specs.declared.table.Entry.{Entry}
use Rattle.tree_nodes.specs.Undo.{IsPutBack}
use Rattle.tree_nodes.proofs.Backs.{move_back_stands, move_back_directory, move_back_good, nothing_displaced, displaced_back}
use Rattle.tree_nodes.proofs.Methods.{unchanged, on_err_always}
use Rattle.tree_nodes.proofs.undo.move_back.Goals as goal

pub shift-requires-clause-stands : goal.shift-requires-clause-stands
shift-requires-clause-stands c = move_back_stands c.args.entries.now c.requires.0 c.requires.2 c.requires.1 c.args.step c.requires.3

pub shift-requires-clause-directory : goal.shift-requires-clause-directory
shift-requires-clause-directory c = move_back_directory c.args.entries.now c.requires.0 c.requires.2 c.requires.1 c.args.step c.requires.3

pub returns-in_err-shift-clause-err : goal.returns-in_err-shift-clause-err
returns-in_err-shift-clause-err c =
    on_err_always c.from_residual.result _ (λ tree before good back. (tree, unchanged c.args.entries.now tree good c.shift.new.entries c.in_err-shift.ensures.err))

pub put_back-requires : goal.put_back-requires
put_back-requires c =
    let tree = c.requires.0 in
    let before = c.requires.1 in
    let good = c.requires.2 in
    let back = c.requires.3 in (
      back.between,
      before,
      move_back_good c.args.entries.now tree good before c.args.step back c.shift.new.entries c.in_ok-shift.field-0 c.in_ok-shift.ensures.before c.in_ok-shift.ensures.ok c.in_ok-shift.ensures.len,
      subst (λ (e : Entry). IsPutBack e back.between before) (sym c.in-Some.entry-is) (displaced_back c.args.step.displaced c.in-Some.entry back.between before c.in-Some.is back.displaced),
    )

pub returns-in-Some-clause-ok : goal.returns-in-Some-clause-ok
returns-in-Some-clause-ok c = on_ok_weaker c.put_back.result (λ put tree before good back.
    put back.between before (move_back_good c.args.entries.now tree good before c.args.step back c.shift.new.entries c.in_ok-shift.field-0 c.in_ok-shift.ensures.before c.in_ok-shift.ensures.ok c.in_ok-shift.ensures.len)
    (subst (λ (e : Entry). IsPutBack e back.between before) (sym c.in-Some.entry-is) (displaced_back c.args.step.displaced c.in-Some.entry back.between before c.in-Some.is back.displaced))) c.put_back.ensures.ok

pub returns-in-Some-clause-err : goal.returns-in-Some-clause-err
returns-in-Some-clause-err c = on_err_weaker c.put_back.result (λ same tree before good back. (
  back.between,
  unchanged c.shift.new.entries back.between (move_back_good c.args.entries.now tree good before c.args.step back c.shift.new.entries c.in_ok-shift.field-0 c.in_ok-shift.ensures.before c.in_ok-shift.ensures.ok c.in_ok-shift.ensures.len) c.put_back.new.entries same,
)) c.put_back.ensures.err

pub returns-in-None-clause-ok : goal.returns-in-None-clause-ok
returns-in-None-clause-ok c = λ tree before good back. nothing_displaced c.shift.new.entries c.args.step.displaced back.between before c.in-None.is back.displaced
    (move_back_good c.args.entries.now tree good before c.args.step back c.shift.new.entries c.in_ok-shift.field-0 c.in_ok-shift.ensures.before c.in_ok-shift.ensures.ok c.in_ok-shift.ensures.len)
