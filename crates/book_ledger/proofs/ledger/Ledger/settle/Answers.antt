use Rattle.std.proofs.Common.{refl, ap, ◌∙◌}
use Rattle.std.specs.declared.vec.Vec.{Vec}
use Rattle.std.specs.declared.alloc.Global.{Global}
use Rattle.tree_nodes.specs.declared.undo.Undo.{Undo}
use Rattle.book_ledger.proofs.Conditions.{settled_tied}
use Rattle.book_ledger.proofs.ledger.Ledger.settle.Goals as goal

pub returns : goal.returns
returns c = λ device t. (settled_tied c.args.self.now _ device t c.requires refl (ap (λ (v : Vec Undo Global). v.items) c.replace.ensures.after ∙ c.new.ensures.items), refl)
