use Rattle.std.proofs.Common.{◌∙◌}
use Rattle.std.specs.Ordering.{nat_cmp}
use Rattle.std.specs.Cmp.Lexicographic.{slice_cmp}
use Rattle.tree_stores.proofs.PaddingLemmas.{as_names}
use Rattle.tree_stores.proofs.names.short_name.ShortNameOrd.cmp.Goals as goal

pub returns : goal.returns
returns c =
    c.order.ensures ∙ as_names c.self.inside.bytes c.other.inside.bytes c.self.invariant c.other.invariant ∙ (λ i. slice_cmp nat_cmp (c.self.view_is i) (c.other.view_is i))
