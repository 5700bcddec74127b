use Rattle.std.proofs.Common.{sym}
use Rattle.std.proofs.lemmas.Result.{on_ok_weaker, on_err_weaker}
use Rattle.tree_nodes.proofs.Replacing.{body_same, name_taken_out}
use Rattle.tree_nodes.proofs.changes.drop_name.Goals as goal

pub returns-clause-ok : goal.returns-clause-ok
returns-clause-ok c = on_ok_weaker c.take_name-dropped.result
    (name_taken_out c.args.pages.now.map c.take.new.self.map c.put.new.self.map c.args.directory c.in-Some.entry c.take_name-dropped.new.body (sym c.in-Some.ensures.value) c.in-Some.ensures.updates c.put.ensures.updates
    c.args.name.now) c.take_name-dropped.ensures.ok

pub returns-clause-err : goal.returns-clause-err
returns-clause-err c = on_err_weaker c.take_name-dropped.result
    (body_same c.args.pages.now.map c.take.new.self.map c.put.new.self.map c.args.directory c.in-Some.entry c.take_name-dropped.new.body (sym c.in-Some.ensures.value) c.in-Some.ensures.updates c.put.ensures.updates)
    c.take_name-dropped.ensures.err
