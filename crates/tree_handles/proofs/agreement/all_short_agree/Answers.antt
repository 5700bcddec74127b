use borrow.Author.Count.{below_more}
use Rattle.std.proofs.Common.{◌≡◌, ℕ, List, Some, None, get_or, slice_get, ◌∙◌, subst, arith}
use Rattle.std.proofs.lemmas.Option.{slice_get_within, get_or_from_slice_get}
use Rattle.tree_handles.specs.Agreement.{AgreesAt}
use Rattle.tree_handles.proofs.agreement.all_short_agree.Goals as goal

pub loop-place-preserved : goal.loop-place-preserved
loop-place-preserved c =
    let binds = c.args.binds.now in
    let other = c.args.other.now in
    let objects = c.args.objects.now in
    let place = c.loop-place.place in
    let agreed : AgreesAt binds other c.as_slice-handle.result.now (get_or objects place None) = subst (AgreesAt binds other c.as_slice-handle.result.now) c.at-object.ensures (c.agrees_at.ensures c.if-not-agrees_at.false) in
    below_more (λ k. (handle : List ℕ) → slice_get c.args.handles.now k ≡ Some handle → AgreesAt binds other handle (get_or objects k None)) place c.loop-place.invariant
    (λ handle at. subst (λ (h : List ℕ). AgreesAt binds other h (get_or objects place None))
    (c.as_slice-handle.ensures ∙ c.index-handles-place.is ∙ get_or_from_slice_get c.args.handles.now place handle c.index-handles-place.result at) agreed)

pub returns : goal.returns
returns c = λ _ place handle at. c.loop-place.invariant place (omega (arith, slice_get_within c.args.handles.now place handle at)) handle at
