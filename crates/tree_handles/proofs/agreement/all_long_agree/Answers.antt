use borrow.Author.Count.{below_more}
use Rattle.std.proofs.Common.{◌≡◌, ◌<◌, ℕ, List, Vec, Global, Some, None, get_or, slice_get, length, map, sym, ap, ◌∙◌, subst, arith}
use Rattle.std.specs.Prelude.{option_map}
use Rattle.std.proofs.lemmas.List.{length-map}
use Rattle.std.proofs.lemmas.Option.{slice_get_within, slice_get-map, slice_get-get_or}
use Rattle.tree_handles.specs.Agreement.{AgreesAt}
use Rattle.tree_handles.proofs.agreement.all_long_agree.Goals as goal

-- the item that is mapped to one that stands there
mapped : (f : Vec ℕ Global → List ℕ) (xs : List (Vec ℕ Global)) (i : ℕ) (d : Vec ℕ Global) (y : List ℕ) → i < length xs → slice_get (map f xs) i ≡ Some y → f (get_or xs i d) ≡ y
mapped f xs i d y within at =
    let one : Some (f (get_or xs i d)) ≡ Some y = sym (slice_get-map f xs i ∙ ap (option_map f) (slice_get-get_or xs i d within)) ∙ at in
    cc

pub loop-place-preserved : goal.loop-place-preserved
loop-place-preserved c =
    let bytes : Vec ℕ Global → List ℕ = λ h. h.items in
    let binds = c.args.binds.now in
    let other = c.args.other.now in
    let objects = c.args.objects.now in
    let place = c.loop-place.place in
    let agreed : AgreesAt binds other c.as_slice-handle.result.now (get_or objects place None) = subst (AgreesAt binds other c.as_slice-handle.result.now) c.at-object.ensures (c.agrees_at.ensures c.if-not-agrees_at.false) in
    below_more (λ k. (handle : List ℕ) → slice_get (map bytes c.args.handles.now) k ≡ Some handle → AgreesAt binds other handle (get_or objects k None)) place c.loop-place.invariant
    (λ handle at. subst (λ (h : List ℕ). AgreesAt binds other h (get_or objects place None))
    (c.as_slice-handle.ensures.value ∙ ap bytes c.index-handles-place.is ∙ mapped bytes c.args.handles.now place c.index-handles-place.result handle (omega arith) at) agreed)

pub returns : goal.returns
returns c = λ _ place handle at.
    let bytes : Vec ℕ Global → List ℕ = λ h. h.items in
    c.loop-place.invariant place (omega (arith, slice_get_within (map bytes c.args.handles.now) place handle at, length-map c.args.handles.now bytes)) handle at
