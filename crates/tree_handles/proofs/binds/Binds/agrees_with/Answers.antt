use Rattle.std.proofs.Common.{◌≡◌, ℕ, List, Some, Vec, Global, true, map, sym, ap, ◌∙◌, subst}
use Rattle.std.specs.Arc.{arc_value}
use Rattle.tree_handles.specs.Binding.{Bindings, object_of}
use Rattle.tree_handles.specs.Places.{Handles}
use Rattle.tree_handles.specs.Finding.{GivesFirst}
use Rattle.tree_handles.specs.Agreement.{is_kept, OwnAgree, AllAgree}
use Rattle.tree_handles.proofs.Agreeing.{agreeing}
use Rattle.tree_handles.proofs.binds.Binds.agrees_with.Goals as goal

pub returns : goal.returns
returns c = λ all.
    let bytes : Vec ℕ Global → List ℕ = λ key. key.items in
    let binds = c.args.self.now in
    let other = c.args.other.now in
    let objects = c.self.inside.objects in
    let handles = arc_value objects.others.places in
    let gives = subst (λ (b : Bindings). GivesFirst objects b.pairs) c.self.view_is c.self.invariant in
    let root : is_kept (Some 0) (object_of other binds.root) ≡ true =
    ap (λ (b : Bindings). is_kept (Some 0) (object_of other b.root)) (sym c.self.view_is) ∙ ap (λ (h : List ℕ). is_kept (Some 0) (object_of other h)) (sym c.as_slice.ensures.value)
    ∙ ap (is_kept (Some 0)) (sym c.object.ensures) ∙ sym c.is_kept.ensures ∙ c.if-not-is_kept.false in
    let own : OwnAgree binds other objects.own = subst (OwnAgree binds other) c.as_slice-2.ensures (c.all_own_agree.ensures c.if-not-all_own_agree.false) in
    let short : AllAgree binds other handles.short objects.others.short.items =
    subst (AllAgree binds other handles.short) c.as_slice-4.ensures.value
    (subst (λ (hs : List (List ℕ)). AllAgree binds other hs c.as_slice-4.result.now) (c.as_slice-3.ensures.keys ∙ c.short.ensures ∙ ap (λ (h : Handles). h.short) c.deref.ensures) (c.all_short_agree.ensures c.if-not-all_short_agree.false)) in
    let long : AllAgree binds other handles.long objects.others.long.items =
    subst (AllAgree binds other handles.long) c.as_slice-6.ensures.value
    (subst (λ (hs : List (List ℕ)). AllAgree binds other hs c.as_slice-6.result.now) (ap (map bytes) c.as_slice-5.ensures.keys ∙ c.long.ensures ∙ ap (λ (h : Handles). h.long) c.deref-2.ensures) (c.all_long_agree.ensures all)) in
    agreeing binds other objects gives root own short long
