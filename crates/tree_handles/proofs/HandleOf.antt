-- objects that some handle names
use Rattle.std.proofs.Common.{◌≡◌, ◌⊎◌, inl, inr, ℕ, Bool, true, false, cond, List, [], ◌∷◌, map, get_or, position, slice_get, Option, Some, None, refl, sym, ap, ◌∙◌}
use Rattle.std.specs.Prelude.{◌==◌, ◌||◌}
use Rattle.std.specs.Arc.{arc_value}
use Rattle.std.specs.List.{list_any}
use Rattle.std.specs.Option.{option_map_or}
use Rattle.std.specs.Cmp.Lexicographic.{bytes_decides}
use Rattle.std.specs.Map.{lookup}
use Rattle.std.specs.Int.{w64, to_be_bytes}
use Rattle.std.proofs.lemmas.Bool.{eqb-true, eq-eqb}
use Rattle.std.proofs.lemmas.List.Quantifiers.{position-Some}
use Rattle.std.proofs.lemmas.Map.Keys.{any_passes_from_place}
use Rattle.std.proofs.lemmas.Option.{slice_get-get_or}
use Rattle.tree_handles.specs.Binding.{Bindings, same_bytes, object_of, is_bound, is_named}
use Rattle.tree_handles.specs.declared.objects.Objects.{Objects}
use Rattle.tree_handles.specs.Places.{Handles, is_short}
use Rattle.tree_handles.specs.Finding.{own_object, object_at, stored, tabled, found, first_of, GivesFirst}
use Rattle.tree_handles.proofs.Positions.{same_is, true_or_false}
use Rattle.tree_handles.proofs.Lookups.{placed, short_stored, long_stored}
use Rattle.tree_handles.proofs.OwnNumbers.{own_is}

either_of : (a b : Bool) → (a || b) ≡ true → (a ≡ true) ⊎ (b ≡ true)
either_of true b e = inl refl
either_of false b e = inr e

first_holds : (a b : Bool) → a ≡ true → (a || b) ≡ true
first_holds true b e = refl
first_holds false b e = absurd (cc)

second_holds : (a b : Bool) → b ≡ true → (a || b) ≡ true
second_holds true b e = refl
second_holds false b e = e

-- the item that passes
pub any_item : {X : Type 0} (test : X → Bool) (xs : List X) → list_any test xs ≡ true → (x : X) × (test x ≡ true)
any_item test [] e = absurd (cc)
any_item {X} test (x ∷ xs) e = go (either_of (test x) (list_any test xs) e) (any_item test xs) where
  go : (test x ≡ true) ⊎ (list_any test xs ≡ true) → (list_any test xs ≡ true → (y : X) × (test y ≡ true)) → (y : X) × (test y ≡ true)
  go (inl here) later = (x, here)
  go (inr there) later = later there

-- a test of the bytes of keys
pub any_map : {Key X : Type 0} (f : Key → X) (test : X → Bool) (ks : List Key) → list_any (λ k. test (f k)) ks ≡ list_any test (map f ks)
any_map f test [] = refl
any_map f test (k ∷ ks) = ap (λ b. test (f k) || b) (any_map f test ks)

-- a handle stands at a place that has this object
abbrev pub StandsAt : List (List ℕ) → List (Option ℕ) → List ℕ → ℕ → Type 0
StandsAt keys objects handle object = (p : ℕ) × (slice_get keys p ≡ Some handle) × (get_or objects p None ≡ Some object)

placed_stands : (keys : List (List ℕ)) (objects : List (Option ℕ)) (handle : List ℕ) (object : ℕ) → placed keys objects handle ≡ Some object → StandsAt keys objects handle object
placed_stands keys objects handle object is = go (position (same_bytes handle) keys) refl where
  nothing : None ≡ Some object → ⊥
  nothing e = absurd (cc)

  go : (o : Option ℕ) → position (same_bytes handle) keys ≡ o → StandsAt keys objects handle object
  go None none = absurd (nothing (sym (ap (object_at objects) none) ∙ is))
  go (Some p) at =
      let there = position-Some (same_bytes handle) keys p [] at in
      (p, slice_get-get_or keys p [] there.0 ∙ ap Some (sym (same_is handle (get_or keys p []) there.1)), sym (ap (object_at objects) at) ∙ is)

-- one that has an object stands among the short ones, or among the long ones
pub stored_stands : (handles : Handles) (short long : List (Option ℕ)) (handle : List ℕ) (object : ℕ) → stored handles short long handle ≡ Some object → StandsAt handles.short short handle object ⊎ StandsAt handles.long long handle object
stored_stands handles short long handle object is = go (true_or_false (is_short handle)) where
  go : (is_short handle ≡ true) ⊎ (is_short handle ≡ false) → StandsAt handles.short short handle object ⊎ StandsAt handles.long long handle object
  go (inl s) = inl (placed_stands handles.short short handle object (sym (short_stored handles short long handle s) ∙ is))
  go (inr l) = inr (placed_stands handles.long long handle object (sym (long_stored handles short long handle l) ∙ is))

-- what is found of a handle has an entry with its bytes
found_any : {Key : Type 0} (bytes : Key → List ℕ) (test : List ℕ → Bool) (handle : List ℕ) (object : ℕ) (es : List (Key × ℕ))
    → lookup (λ key. same_bytes handle (bytes key)) es ≡ Some object → test handle ≡ true → list_any (λ e. test (bytes e.0)) es ≡ true
found_any bytes test handle object [] e passes = absurd (cc)
found_any {Key} bytes test handle object (x ∷ es) e passes = go (same_bytes handle (bytes x.0)) refl e (λ is. found_any bytes test handle object es is passes) where
  go : (b : Bool) → same_bytes handle (bytes x.0) ≡ b → cond b (Some x.1) (lookup (λ key. same_bytes handle (bytes key)) es) ≡ Some object
      → (lookup (λ key. same_bytes handle (bytes key)) es ≡ Some object → list_any (λ e. test (bytes e.0)) es ≡ true)
      → (test (bytes x.0) || list_any (λ e. test (bytes e.0)) es) ≡ true
  go true same is later = first_holds _ _ (ap test (sym ((bytes_decides handle (bytes x.0)).0 same)) ∙ passes)
  go false apart is later = second_holds _ _ (later is)

-- a handle that names an object names the one that is found of it
bound_object : (o : Option ℕ) (object : ℕ) → option_map_or (λ named. named == object) o false ≡ true → o ≡ Some object
bound_object None object e = absurd (cc)
bound_object (Some named) object e = ap Some (eqb-true named object e)

pub is_object : (binds : Bindings) (handle : List ℕ) (object : ℕ) → is_bound binds handle object ≡ true → object_of binds handle ≡ Some object
is_object binds handle object e = bound_object (object_of binds handle) object e

pub object_is : (binds : Bindings) (handle : List ℕ) (object : ℕ) → object_of binds handle ≡ Some object → is_bound binds handle object ≡ true
object_is binds handle object e = ap (λ o. option_map_or (λ named. named == object) o false) e ∙ eq-eqb object object refl

-- some handle names an object exactly where the rule says so
pub handle_of : (binds : Bindings) (object : ℕ) → is_named binds object ≡ true → (handle : List ℕ) × (is_bound binds handle object ≡ true)
handle_of binds object e = go (either_of (is_bound binds binds.root object) (list_any (λ pair. is_bound binds pair.0 object) binds.pairs) e) where
  go : (is_bound binds binds.root object ≡ true) ⊎ (list_any (λ pair. is_bound binds pair.0 object) binds.pairs ≡ true) → (handle : List ℕ) × (is_bound binds handle object ≡ true)
  go (inl root) = (binds.root, root)
  go (inr pair) = let it = any_item (λ pair. is_bound binds pair.0 object) binds.pairs pair in (it.0.0, it.1)

-- the root, or what is found among the pairs
module _ (binds : Bindings) (handle : List ℕ) (object : ℕ) (bound : is_bound binds handle object ≡ true) where
  pub root_or_pair : (same_bytes handle binds.root ≡ true) ⊎ (lookup (same_bytes handle) binds.pairs ≡ Some object)
  root_or_pair = go (same_bytes handle binds.root) refl where
    go : (b : Bool) → same_bytes handle binds.root ≡ b → (same_bytes handle binds.root ≡ true) ⊎ (lookup (same_bytes handle) binds.pairs ≡ Some object)
    go true same = inl same
    go false apart = inr (ap (λ b. cond b (Some 0) (lookup (same_bytes handle) binds.pairs)) (sym apart) ∙ is_object binds handle object bound)

  pub is_among_names : is_named binds object ≡ true
  is_among_names = go root_or_pair where
    go : (same_bytes handle binds.root ≡ true) ⊎ (lookup (same_bytes handle) binds.pairs ≡ Some object) → is_named binds object ≡ true
    go (inl same) = first_holds _ _ (ap (λ h. is_bound binds h object) (sym ((bytes_decides handle binds.root).0 same)) ∙ bound)
    go (inr found) = second_holds _ _ (found_any (λ (h : List ℕ). h) (λ h. is_bound binds h object) handle object binds.pairs found bound)

  -- the root's object is 0
  root_is_first : same_bytes handle binds.root ≡ true → (object == 0) ≡ true
  root_is_first same =
      let is : Some 0 ≡ Some object = ap (λ b. cond b (Some 0) (lookup (same_bytes handle) binds.pairs)) (sym same) ∙ is_object binds handle object bound in
      let zero : object ≡ 0 = cc in
      eq-eqb object 0 zero

  -- whether one of these names the object
  abbrev pub any_of : List (List ℕ) → Bool
  any_of = list_any (λ h. is_bound binds h object)

  -- so it is found, as its number or by its place
  pub in_maps : (objects : Objects) → GivesFirst objects binds.pairs
      → ((object == 0) ≡ true) ⊎ ((handle ≡ to_be_bytes w64 object) ⊎ ((any_of (arc_value objects.others.places).short ≡ true) ⊎ (any_of (arc_value objects.others.places).long ≡ true)))
  in_maps objects gives = go root_or_pair where
    by_place : tabled objects.others handle ≡ Some object → (any_of (arc_value objects.others.places).short ≡ true) ⊎ (any_of (arc_value objects.others.places).long ≡ true)
    by_place is = either (stored_stands (arc_value objects.others.places) objects.others.short.items objects.others.long.items handle object is) where
      either : StandsAt (arc_value objects.others.places).short objects.others.short.items handle object ⊎ StandsAt (arc_value objects.others.places).long objects.others.long.items handle object
          → (any_of (arc_value objects.others.places).short ≡ true) ⊎ (any_of (arc_value objects.others.places).long ≡ true)
      either (inl there) = inl (any_passes_from_place (λ h. is_bound binds h object) (arc_value objects.others.places).short there.0 handle there.1 bound)
      either (inr there) = inr (any_passes_from_place (λ h. is_bound binds h object) (arc_value objects.others.places).long there.0 handle there.1 bound)

    by_kind : (own : Option ℕ) → own_object objects.own handle ≡ own → found objects handle ≡ Some object
        → (handle ≡ to_be_bytes w64 object) ⊎ ((any_of (arc_value objects.others.places).short ≡ true) ⊎ (any_of (arc_value objects.others.places).long ≡ true))
    by_kind None none is = inr (by_place (ap (λ o. first_of o (tabled objects.others handle)) (sym none) ∙ is))
    by_kind (Some n) its is = inl (own_is objects.own handle object (its ∙ ap (λ o. first_of o (tabled objects.others handle)) (sym its) ∙ is)).0

    go : (same_bytes handle binds.root ≡ true) ⊎ (lookup (same_bytes handle) binds.pairs ≡ Some object)
        → ((object == 0) ≡ true) ⊎ ((handle ≡ to_be_bytes w64 object) ⊎ ((any_of (arc_value objects.others.places).short ≡ true) ⊎ (any_of (arc_value objects.others.places).long ≡ true)))
    go (inl same) = inl (root_is_first same)
    go (inr pair) = inr (by_kind (own_object objects.own handle) refl (gives handle ∙ pair))

same_bools : (a b : Bool) → (a ≡ true → b ≡ true) → (b ≡ true → a ≡ true) → a ≡ b
same_bools true b f g = sym (f refl)
same_bools false true f g = g refl
same_bools false false f g = refl

-- the root names object 0
pub zero_is_named : (binds : Bindings) (object : ℕ) → (object == 0) ≡ true → is_named binds object ≡ true
zero_is_named binds object e = is_among_names binds binds.root object (object_is binds binds.root object at) where
  at : object_of binds binds.root ≡ Some object
  at = ap (λ b. cond b (Some 0) (lookup (same_bytes binds.root) binds.pairs)) ((bytes_decides binds.root binds.root).1 refl) ∙ ap Some (sym (eqb-true object 0 e))

-- another object that isn't named by its number is named by a short handle or by a long one
module _ (binds : Bindings) (objects : Objects) (gives : GivesFirst objects binds.pairs) (object : ℕ) (other : (object == 0) ≡ false) (unlike : is_bound binds (to_be_bytes w64 object) object ≡ false) where
  abbrev pub any_short : Bool
  any_short = list_any (λ h. is_bound binds h object) (arc_value objects.others.places).short

  abbrev pub any_long : Bool
  any_long = list_any (λ h. is_bound binds h object) (arc_value objects.others.places).long

  yes : (any_short || any_long) ≡ true → is_named binds object ≡ true
  yes e = go (either_of any_short any_long e) where
    go : (any_short ≡ true) ⊎ (any_long ≡ true) → is_named binds object ≡ true
    go (inl short) = let it = any_item (λ h. is_bound binds h object) (arc_value objects.others.places).short short in is_among_names binds it.0 object it.1
    go (inr long) = let it = any_item (λ h. is_bound binds h object) (arc_value objects.others.places).long long in is_among_names binds it.0 object it.1

  no : is_named binds object ≡ true → (any_short || any_long) ≡ true
  no e = go (in_maps binds it.0 object it.1 objects gives) where
    it : (handle : List ℕ) × (is_bound binds handle object ≡ true)
    it = handle_of binds object e

    clash : (b : Bool) → b ≡ true → b ≡ false → ⊥
    clash true e f = absurd (cc)
    clash false e f = absurd (cc)

    go : ((object == 0) ≡ true) ⊎ ((it.0 ≡ to_be_bytes w64 object) ⊎ ((any_short ≡ true) ⊎ (any_long ≡ true))) → (any_short || any_long) ≡ true
    go (inl zero) = absurd (clash (object == 0) zero other)
    go (inr (inl own)) = absurd (clash (is_bound binds (to_be_bytes w64 object) object) (ap (λ (h : List ℕ). is_bound binds h object) (sym own) ∙ it.1) unlike)
    go (inr (inr (inl short))) = first_holds any_short any_long short
    go (inr (inr (inr long))) = second_holds any_short any_long long

  pub other_is_named : (any_short || any_long) ≡ is_named binds object
  other_is_named = same_bools (any_short || any_long) (is_named binds object) yes no
