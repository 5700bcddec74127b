use Rattle.std.proofs.Common.{ap, ◌∙◌}
use Rattle.std.proofs.lemmas.Result.{on_ok_weaker}
use Rattle.tree_nodes.proofs.Chains.{value_of}
use Rattle.book_ledger.specs.book_laws_specs.Book.{tree_of}
use Rattle.book_ledger.proofs.Explaining.{explained_so}
use Rattle.recorder.proofs.book.Book.print_tree.Goals as goal

pub print_tree-requires : goal.print_tree-requires
print_tree-requires g c = (g.D.JournalDevice.device c.self.inside.device, c.self.invariant)

pub returns-clause-ok : goal.returns-clause-ok
returns-clause-ok g c =
    let device = g.D.JournalDevice.device c.self.inside.device in
    let stands = value_of (tree_of c.args.self.now) (explained_so c.self.inside.ledger device c.self.invariant c.args.self.now c.self.view_is).tree in
    on_ok_weaker c.print_tree.result (λ holds. (stands.0, stands.1, holds device c.self.invariant stands.0 (ap tree_of c.self.view_is ∙ stands.1))) c.print_tree.ensures.ok
