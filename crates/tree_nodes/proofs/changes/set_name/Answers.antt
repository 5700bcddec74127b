use Rattle.std.proofs.Common.{sym}
use Rattle.std.proofs.lemmas.Result.{on_ok_weaker, on_err_weaker}
use Rattle.tree_nodes.proofs.Replacing.{body_same, name_put_in}
use Rattle.tree_nodes.proofs.changes.set_name.Goals as goal

pub returns-clause-ok : goal.returns-clause-ok
returns-clause-ok c = on_ok_weaker c.put_name-set.result
    (name_put_in c.args.pages.now.map c.take.new.self.map c.put.new.self.map c.args.directory c.in-Some.entry c.put_name-set.new.body (sym c.in-Some.ensures.value) c.in-Some.ensures.updates c.put.ensures.updates
    c.args.name.now c.args.object) c.put_name-set.ensures.ok

pub returns-clause-err : goal.returns-clause-err
returns-clause-err c = on_err_weaker c.put_name-set.result
    (body_same c.args.pages.now.map c.take.new.self.map c.put.new.self.map c.args.directory c.in-Some.entry c.put_name-set.new.body (sym c.in-Some.ensures.value) c.in-Some.ensures.updates c.put.ensures.updates)
    c.put_name-set.ensures.err
