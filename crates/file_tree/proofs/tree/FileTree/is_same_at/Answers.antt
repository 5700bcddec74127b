use Rattle.std.proofs.Common.{◌≡◌, sym, ◌∙◌, subst}
use Rattle.tree_nodes.specs.Spots.{AreOthersSame}
use Rattle.file_tree.proofs.tree.FileTree.is_same_at.Goals as goal

pub returns-then-self-other : goal.returns-then-self-other
returns-then-self-other c = λ last same.
    let first = subst (λ t. AreOthersSame c.args.objects.now c.args.others.now t c.args.other.now) (sym c.self.view_is) same in
    let both = subst (λ t. AreOthersSame c.args.objects.now c.args.others.now c.self.inside.nodes t) (sym c.other.view_is) first in
    sym c.self.view_is ∙ c.is_same_at.ensures last both ∙ c.other.view_is
