use Rattle.std.proofs.Common.{List, sym, ap, subst, ◌∙◌}
use Rattle.tree_stores.specs.Pages.{Block}
use Rattle.tree_stores.specs.Books.{Book, AreCounted, values_of}
use Rattle.tree_stores.proofs.slots.pages.Pages.copy.Goals as goal

pub invariant_of-result : goal.invariant_of-result
invariant_of-result g c =
    subst (λ (z : List (Block g.row.V.Denot)). AreCounted z c.self.inside.filled) (sym (c.in_ok-blocks.ensures ∙ c.as_slice.ensures.value)) c.self.invariant

pub returns : goal.returns
returns g c = ap values_of (c.in_ok-blocks.ensures ∙ c.as_slice.ensures.value) ∙ ap (λ (b : Book g.row.V.Denot). b.map) c.self.view_is
