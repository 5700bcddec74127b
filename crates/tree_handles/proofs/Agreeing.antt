-- handles that name what they name in another binding
use Rattle.std.proofs.Common.{◌≡◌, ◌⊎◌, inl, inr, ℕ, true, cond, List, get_or, Option, Some, None, refl, sym, ap, ◌∙◌}
use Rattle.std.specs.Arc.{arc_value}
use Rattle.std.specs.Map.{lookup}
use Rattle.std.proofs.lemmas.Bool.{eqb-true}
use Rattle.tree_handles.specs.Binding.{Bindings, same_bytes, object_of}
use Rattle.tree_handles.specs.declared.objects.Objects.{Objects}
use Rattle.tree_handles.specs.Finding.{own_object, tabled, found, first_of, GivesFirst}
use Rattle.tree_handles.specs.Agreement.{is_kept, agrees, AgreesAt, OwnAgree, AllAgree}
use Rattle.tree_handles.proofs.Positions.{same_is}
use Rattle.tree_handles.proofs.OwnNumbers.{own_is}
use Rattle.tree_handles.proofs.HandleOf.{StandsAt, stored_stands, root_or_pair, object_is}

kept_is : (object : ℕ) (o : Option ℕ) → is_kept (Some object) o ≡ true → o ≡ Some object
kept_is object None e = absurd (cc)
kept_is object (Some named) e = ap Some (eqb-true named object e)

module _ (binds other : Bindings) (objects : Objects) (gives : GivesFirst objects binds.pairs) (root : is_kept (Some 0) (object_of other binds.root) ≡ true) (own : OwnAgree binds other objects.own)
    (short : AllAgree binds other (arc_value objects.others.places).short objects.others.short.items) (long : AllAgree binds other (arc_value objects.others.places).long objects.others.long.items) where
  -- what a handle has by its place, it has there
  by_place : (handle : List ℕ) (object : ℕ) (o : Option ℕ) → object_of binds handle ≡ Some object → o ≡ Some object → AgreesAt binds other handle o → object_of other handle ≡ Some object
  by_place handle object o names has (inl kept) = kept_is object (object_of other handle) (ap (λ x. is_kept x (object_of other handle)) (sym has) ∙ kept)
  by_place handle object o names has (inr agreed) = kept_is object (object_of other handle) (ap (λ x. is_kept x (object_of other handle)) (sym names) ∙ agreed)

  -- each handle that is found was looked at
  looked_at : (handle : List ℕ) (object : ℕ) → object_of binds handle ≡ Some object → found objects handle ≡ Some object → object_of other handle ≡ Some object
  looked_at handle object names is = go (own_object objects.own handle) refl where
    either : StandsAt (arc_value objects.others.places).short objects.others.short.items handle object ⊎ StandsAt (arc_value objects.others.places).long objects.others.long.items handle object
        → object_of other handle ≡ Some object
    either (inl at) = by_place handle object (get_or objects.others.short.items at.0 None) names at.2 (short at.0 handle at.1)
    either (inr at) = by_place handle object (get_or objects.others.long.items at.0 None) names at.2 (long at.0 handle at.1)

    go : (o : Option ℕ) → own_object objects.own handle ≡ o → object_of other handle ≡ Some object
    go None none =
        either (stored_stands (arc_value objects.others.places) objects.others.short.items objects.others.long.items handle object (ap (λ o. first_of o (tabled objects.others handle)) (sym none) ∙ is))
    go (Some n) its =
        let number = own_is objects.own handle object (its ∙ ap (λ o. first_of o (tabled objects.others handle)) (sym its) ∙ is) in
        kept_is object (object_of other handle) (ap (λ o. is_kept o (object_of other handle)) (sym names) ∙ ap (agrees binds other) number.0 ∙ own object number.1)

  pub agreeing : (handle : List ℕ) (object : ℕ) → object_of binds handle ≡ Some object → object_of other handle ≡ Some object
  agreeing handle object is = go (root_or_pair binds handle object (object_is binds handle object is)) where
    go : (same_bytes handle binds.root ≡ true) ⊎ (lookup (same_bytes handle) binds.pairs ≡ Some object) → object_of other handle ≡ Some object
    go (inl same) =
        ap (object_of other) (same_is handle binds.root same) ∙ kept_is 0 (object_of other binds.root) root
        ∙ ap (λ b. cond b (Some 0) (lookup (same_bytes handle) binds.pairs)) (sym same) ∙ is
    go (inr pair) = looked_at handle object is (gives handle ∙ pair)
