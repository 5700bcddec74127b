use Rattle.std.proofs.Common.{◌≡◌, ◌||◌, ℕ, Bool, false, List, Vec, Global, sym, ap, ◌∙◌}
use Rattle.std.specs.List.{list_any}
use Rattle.tree_handles.specs.Binding.{is_bound}
use Rattle.tree_handles.proofs.HandleOf.{any_map}
use Rattle.tree_handles.proofs.binds.any_names_it.Goals as goal

pub returns-else-any_short_names_it : goal.returns-else-any_short_names_it
returns-else-any_short_names_it c =
    let bytes : Vec ℕ Global → List ℕ = λ key. key.items in
    let test : List ℕ → Bool = λ handle. is_bound c.args.binds.now handle c.args.object in
    let places = c.args.places.now in
    let none : list_any test places.short ≡ false = ap (list_any test) (sym c.short.ensures) ∙ sym c.any_short_names_it.ensures ∙ c.if-any_short_names_it.false in
    c.any_long_names_it.ensures ∙ any_map bytes test c.long.result.now.keys ∙ ap (list_any test) c.long.ensures ∙ ap (λ b. b || list_any test places.long) (sym none)
