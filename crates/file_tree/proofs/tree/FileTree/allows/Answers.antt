use Rattle.std.proofs.Common.{◌≡◌, Bool, subst}
use Rattle.std.specs.Prelude.{Result, Ok, Err, IfOk}
use Rattle.tree_nodes.specs.Tree.{Tree}
use Rattle.file_tree.specs.Allows.{may_succeed}
use Rattle.file_tree.proofs.SomeSuccess.{exactly}
use Rattle.file_tree.proofs.tree.FileTree.allows.Goals as goal

onto : {E : Type 0} {P Q : Bool → Type 0} (r : Result Bool E) → IfOk r P → ((b : Bool) → P b → Q b) → IfOk r Q
onto (Ok b) h f = f b h
onto (Err e) h f = tt

pub returns : goal.returns
returns c =
    let binds = c.args.binds.now in
    let number = c.args.number in
    let call = c.args.call.now in
    let told = subst (λ (t : Tree). IfOk c.may_succeed.result (λ allowed. allowed ≡ may_succeed binds t number call)) c.self.view_is c.may_succeed.ensures in
    onto c.may_succeed.result told (exactly binds c.args.self.now number call)
