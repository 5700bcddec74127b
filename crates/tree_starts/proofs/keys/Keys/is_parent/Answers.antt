use Rattle.std.proofs.Common.{rules, ◌-◌, false, sym, ap, ◌∙◌, arith}
use Rattle.std.specs.Option.{option_map_or}
use Rattle.tree_starts.specs.Start.{is_parent}
use Rattle.tree_starts.proofs.KeySteps.{parent-root, parent-at}
use Rattle.tree_starts.proofs.keys.Keys.is_parent.Goals as goal

pub returns-then-parent-eq0 : goal.returns-then-parent-eq0
returns-then-parent-eq0 c = parent-root _ _ (search rules)

pub returns-in-Some : goal.returns-in-Some
returns-in-Some c = sym (ap (λ ks. is_parent ks c.args.parent) (sym c.self.view_is) ∙ parent-at _ _ _ (c.args.parent - 1) (omega arith) ∙ ap (λ o. option_map_or (λ e. e.1) o false) (sym c.in-Some.ensures.entry))

pub returns-in-None : goal.returns-in-None
returns-in-None c = sym (ap (λ ks. is_parent ks c.args.parent) (sym c.self.view_is) ∙ parent-at _ _ _ (c.args.parent - 1) (omega arith) ∙ ap (λ o. option_map_or (λ e. e.1) o false) (sym c.in-None.ensures.entry))
