use Rattle.std.proofs.Common.{ℕ, subst, sym, ap, ◌∙◌}
use Rattle.tree_stores.specs.Paged.{listed, IsFile}
use Rattle.tree_stores.proofs.file_bytes.file.FileBytes.copy.Goals as goal

pub returns : goal.returns
returns c = ap (λ (f : ℕ → ℕ). listed f c.self.inside.size) c.in_ok-copy.ensures ∙ c.self.view_is

pub invariant_of-result : goal.invariant_of-result
invariant_of-result c = subst (λ (f : ℕ → ℕ). IsFile f c.self.inside.size) (sym c.in_ok-copy.ensures) c.self.invariant
