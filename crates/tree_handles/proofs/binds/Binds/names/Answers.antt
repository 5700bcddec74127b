use Rattle.std.proofs.Common.{◌≡◌, ◌||◌, ℕ, Bool, List, false, sym, ap, ◌∙◌, subst, rules}
use Rattle.std.specs.Prelude.{◌==◌}
use Rattle.std.proofs.lemmas.Bool.{eq-eqb}
use Rattle.std.specs.Int.{w64, to_be_bytes}
use Rattle.tree_handles.specs.Binding.{Bindings, is_bound}
use Rattle.std.specs.List.{list_any}
use Rattle.tree_handles.specs.Places.{Handles}
use Rattle.tree_handles.specs.Finding.{GivesFirst}
use Rattle.tree_handles.proofs.HandleOf.{zero_is_named, is_among_names, other_is_named}
use Rattle.tree_handles.proofs.binds.Binds.names.Goals as goal

pub returns-then-object-eq0 : goal.returns-then-object-eq0
returns-then-object-eq0 c = sym (zero_is_named c.args.self.now c.args.object (eq-eqb c.args.object 0 c.if-object-eq0.true))

pub returns-then-names_it : goal.returns-then-names_it
returns-then-names_it c = sym (is_among_names c.args.self.now c.as_slice.result.now c.args.object (sym c.names_it.ensures ∙ c.if-names_it.true))

pub returns : goal.returns
returns c =
    let objects = c.self.inside.objects in
    let other : (c.args.object == 0) ≡ false = search rules in
    let gives = subst (λ (b : Bindings). GivesFirst objects b.pairs) c.self.view_is c.self.invariant in
    let unlike : is_bound c.args.self.now (to_be_bytes w64 c.args.object) c.args.object ≡ false =
    ap (λ (h : List ℕ). is_bound c.args.self.now h c.args.object) (sym (c.as_slice.ensures ∙ c.to_be_bytes.ensures)) ∙ sym c.names_it.ensures ∙ c.if-names_it.false in
    let any : Handles → Bool = λ handles. list_any (λ h. is_bound c.args.self.now h c.args.object) handles.short || list_any (λ h. is_bound c.args.self.now h c.args.object) handles.long in
    c.any_names_it.ensures ∙ ap any c.deref.ensures ∙ other_is_named c.args.self.now objects gives c.args.object other unlike
