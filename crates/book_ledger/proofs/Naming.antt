-- what handles name, with the handle of an object bound or let go
use Rattle.std.proofs.Common.{◌≡◌, ◌≢◌, ◌⊎◌, inl, inr, ℕ, ◌<◌, ◌^◌, Bool, true, false, cond, List, [], ◌∷◌, ◌++◌, map, Option, Some, None, refl, sym, ap, ◌∙◌, eq-eqb, arith}
use Rattle.std.specs.Prelude.{◌==◌, not, if◌then◌else◌}
use Rattle.std.specs.Option.{option_map_or}
use Rattle.std.specs.List.{AllByRecursion}
use Rattle.std.specs.Map.{lookup}
use Rattle.std.specs.Cmp.Lexicographic.{bytes_decides}
use Rattle.std.specs.Int.{w64, to_be_bytes}
use Rattle.std.proofs.lemmas.Bool.{eqb-true}
use Rattle.xdr_records.specs.Texts.{long_text}
use Rattle.xdr_records.specs.Items.{long_of}
use Rattle.xdr_records.proofs.Written.{long_spelled}
use Rattle.tree_nodes.proofs.Chains.{decide}
use Rattle.tree_handles.specs.Binding.{Bindings, same_bytes, object_of, is_bound, pairs_without}
use Rattle.tree_handles.proofs.Positions.{same_is}
use Rattle.tree_starts.specs.declared.profile.Profile.{Profile}
use Rattle.file_tree.specs.Setting.{under}
use Rattle.file_tree.specs.Success.{next_tree}
use Rattle.book_laws.specs.Book.{handle_of, bindings_made}
use Rattle.book_laws.specs.Steps.{with_object}
use Rattle.book_laws.proofs.Handles.{pair, without_own as never_paired}
use Rattle.book_laws.proofs.Pushed.{SameNames, same_next, same_under, pushed}
use Rattle.book_ledger.specs.PlaceSteps.{with_own, without_own, NameAlike}

-- the bytes of a number are its handle
pub handle_is : (n : ℕ) → to_be_bytes w64 n ≡ handle_of n
unfolding long_text
handle_is n = refl

pub alike_same : (binds other : Bindings) → NameAlike binds other → (handle : List ℕ) (object : ℕ) → is_bound binds handle object ≡ is_bound other handle object
alike_same binds other alike handle object = ap (λ (o : Option ℕ). option_map_or (λ named. named == object) o false) (alike handle)

-- what is named so is this object
pub named_so : (o : Option ℕ) (object : ℕ) → option_map_or (λ named. named == object) o false ≡ true → o ≡ Some object
named_so None object e = absurd (cc)
named_so (Some n) object e = ap Some (eqb-true n object e)

-- what is named is known by whether each object is
pub by_names : (a b : Option ℕ) → ((object : ℕ) → option_map_or (λ named. named == object) a false ≡ option_map_or (λ named. named == object) b false) → a ≡ b
by_names None None same = refl
by_names (Some n) b same = sym (named_so b n (sym (same n) ∙ eq-eqb n n refl))
by_names None (Some m) same = named_so None m (same m ∙ eq-eqb m m refl)

pub same_handle : (n m : ℕ) → n < 2 ^ 64 → m < 2 ^ 64 → handle_of n ≡ handle_of m → n ≡ m
same_handle n m lt lt' same = sym (long_spelled n lt).value ∙ ap long_of same ∙ (long_spelled m lt').value

-- ---- a pair more

abbrev pub first_of : Option ℕ → Option ℕ → Option ℕ
first_of None other = other
first_of (Some n) other = Some n

behind : (test : List ℕ → Bool) (pairs : List (List ℕ × ℕ)) (last : List ℕ × ℕ) → lookup test (pairs ++ last ∷ []) ≡ first_of (lookup test pairs) (cond (test last.0) (Some last.1) None)
behind test [] last = refl
behind test (p ∷ pairs) last = go (test p.0) (behind test pairs last) where
  go : (b : Bool) → lookup test (pairs ++ last ∷ []) ≡ first_of (lookup test pairs) (cond (test last.0) (Some last.1) None)
      → cond b (Some p.1) (lookup test (pairs ++ last ∷ [])) ≡ first_of (cond b (Some p.1) (lookup test pairs)) (cond (test last.0) (Some last.1) None)
  go true later = refl
  go false later = later

-- what a handle names, with one handle more
pub own_is : (number : ℕ) (binds : Bindings) (handle : List ℕ) → object_of (with_own number binds) handle ≡ first_of (object_of binds handle) (cond (same_bytes handle (handle_of number)) (Some number) None)
own_is number binds handle = go (same_bytes handle binds.root) where
  go : (b : Bool) → (if b then Some 0 else lookup (same_bytes handle) (binds.pairs ++ (handle_of number, number) ∷ []))
      ≡ first_of (if b then Some 0 else lookup (same_bytes handle) binds.pairs) (cond (same_bytes handle (handle_of number)) (Some number) None)
  go true = refl
  go false = behind (same_bytes handle) binds.pairs (handle_of number, number)

pub alike_own : (number : ℕ) (binds other : Bindings) → NameAlike binds other → NameAlike (with_own number binds) (with_own number other)
alike_own number binds other alike handle =
    own_is number binds handle ∙ ap (λ (o : Option ℕ). first_of o (cond (same_bytes handle (handle_of number)) (Some number) None)) (alike handle) ∙ sym (own_is number other handle)

-- ---- a handle that is let go

module _ (own handle : List ℕ) where
  -- of another handle the same is found
  kept_apart : (pairs : List (List ℕ × ℕ)) → same_bytes handle own ≡ false → lookup (same_bytes handle) (pairs_without own pairs) ≡ lookup (same_bytes handle) pairs
  kept_apart [] apart = refl
  kept_apart (p ∷ pairs) apart = go (same_bytes own p.0) refl (kept_apart pairs apart) where
    go : (b : Bool) → same_bytes own p.0 ≡ b → lookup (same_bytes handle) (pairs_without own pairs) ≡ lookup (same_bytes handle) pairs
        → lookup (same_bytes handle) (cond (not b) (p ∷ pairs_without own pairs) (pairs_without own pairs)) ≡ cond (same_bytes handle p.0) (Some p.1) (lookup (same_bytes handle) pairs)
    go true is rest = rest ∙ sym (ap (λ (c : Bool). cond c (Some p.1) (lookup (same_bytes handle) pairs)) (ap (same_bytes handle) (sym (same_is own p.0 is)) ∙ apart))
    go false is rest = ap (cond (same_bytes handle p.0) (Some p.1)) rest

  -- of the handle itself nothing is
  gone : (pairs : List (List ℕ × ℕ)) → handle ≡ own → lookup (same_bytes handle) (pairs_without own pairs) ≡ None
  gone [] same = refl
  gone (p ∷ pairs) same = go (same_bytes own p.0) refl (gone pairs same) where
    go : (b : Bool) → same_bytes own p.0 ≡ b → lookup (same_bytes handle) (pairs_without own pairs) ≡ None
        → lookup (same_bytes handle) (cond (not b) (p ∷ pairs_without own pairs) (pairs_without own pairs)) ≡ None
    go true is rest = rest
    go false is rest = ap (λ (c : Bool). cond c (Some p.1) (lookup (same_bytes handle) (pairs_without own pairs))) (ap (λ (h : List ℕ). same_bytes h p.0) same ∙ is) ∙ rest

-- a handle that named nothing, once it is let go: all is as it was before it was bound
pub forgotten : (number : ℕ) (binds : Bindings) → object_of binds (handle_of number) ≡ None → NameAlike (without_own number (with_own number binds)) binds
forgotten number binds free handle = go (same_bytes handle binds.root) refl (decide (same_bytes handle (handle_of number))) where
  none : {n : ℕ} → Some n ≡ None → ⊥
  none e = cc

  here : handle ≡ handle_of number → (b : Bool) → same_bytes handle binds.root ≡ b → (if b then Some 0 else lookup (same_bytes handle) binds.pairs) ≡ None
  here same b is =
      sym (ap (λ (c : Bool). if c then Some 0 else lookup (same_bytes handle) binds.pairs) is) ∙ ap (object_of binds) same ∙ free

  go : (b : Bool) → same_bytes handle binds.root ≡ b → (same_bytes handle (handle_of number) ≡ true) ⊎ (same_bytes handle (handle_of number) ≡ false)
      → (if b then Some 0 else lookup (same_bytes handle) (pairs_without (handle_of number) (binds.pairs ++ (handle_of number, number) ∷ []))) ≡ (if b then Some 0 else lookup (same_bytes handle) binds.pairs)
  go true is either = refl
  go false is (inl own) =
      let same = same_is handle (handle_of number) own in
      gone (handle_of number) handle (binds.pairs ++ (handle_of number, number) ∷ []) same ∙ sym (here same false is)
  go false is (inr apart) =
      kept_apart (handle_of number) handle (binds.pairs ++ (handle_of number, number) ∷ []) apart ∙ behind (same_bytes handle) binds.pairs (handle_of number, number)
      ∙ ap (λ (c : Bool). first_of (lookup (same_bytes handle) binds.pairs) (cond c (Some number) None)) apart ∙ first_none (lookup (same_bytes handle) binds.pairs) where
        first_none : (o : Option ℕ) → first_of o None ≡ o
        first_none None = refl
        first_none (Some n) = refl

-- the same in any order
pub forgotten_so : (number : ℕ) (binds bound : Bindings) → object_of binds (handle_of number) ≡ None → NameAlike bound (with_own number binds) → number ≢ 0 → NameAlike (without_own number bound) binds
forgotten_so number binds bound free alike isnt_root handle = go (decide (same_bytes handle (handle_of number))) (same_bytes handle bound.root) refl where
  none_first : (o : Option ℕ) → first_of o None ≡ o
  none_first None = refl
  none_first (Some n) = refl

  zero_is : {n : ℕ} → Some 0 ≡ Some n → n ≡ 0
  zero_is e = cc

  go : (same_bytes handle (handle_of number) ≡ true) ⊎ (same_bytes handle (handle_of number) ≡ false) → (b : Bool) → same_bytes handle bound.root ≡ b
      → (if b then Some 0 else lookup (same_bytes handle) (pairs_without (handle_of number) bound.pairs)) ≡ object_of binds handle
  go (inl own) true is =
      let same = same_is handle (handle_of number) own in
      let named : object_of binds handle ≡ None = ap (object_of binds) same ∙ free in
      absurd (isnt_root (zero_is (sym (ap (λ (c : Bool). if c then Some 0 else lookup (same_bytes handle) bound.pairs) is) ∙ alike handle ∙ own_is number binds handle
      ∙ ap (λ (o : Option ℕ). first_of o (cond (same_bytes handle (handle_of number)) (Some number) None)) named ∙ ap (λ (c : Bool). cond c (Some number) None) own)))
  go (inl own) false is =
      let same = same_is handle (handle_of number) own in
      gone (handle_of number) handle bound.pairs same ∙ sym (ap (object_of binds) same ∙ free)
  go (inr apart) b is =
      ap (λ (o : Option ℕ). if b then Some 0 else o) (kept_apart (handle_of number) handle bound.pairs apart)
      ∙ ap (λ (c : Bool). if c then Some 0 else lookup (same_bytes handle) bound.pairs) (sym is) ∙ alike handle ∙ own_is number binds handle
      ∙ ap (λ (c : Bool). first_of (object_of binds handle) (cond c (Some number) None)) apart ∙ none_first (object_of binds handle)

-- ---- among the objects that were made

module _ (number : ℕ) (made : List ℕ) (lt : number < 2 ^ 64) (others : AllByRecursion (λ other. (other ≢ number) × (other < 2 ^ 64)) made) where
  -- the handle of an object that wasn't made names nothing
  pub own_free : number ≢ 0 → object_of (bindings_made made) (handle_of number) ≡ None
  own_free isnt_root = go (decide (same_bytes (handle_of number) (handle_of 0))) where
    nothing : lookup (same_bytes (handle_of number)) (map pair made) ≡ None
    nothing = by_names (lookup (same_bytes (handle_of number)) (map pair made)) None (λ object. never_paired (handle_of number) number object made lt others (itself (handle_of number))) where
      itself : (h : List ℕ) → same_bytes h h ≡ true
      itself h = (bytes_decides h h).1 refl

    go : (same_bytes (handle_of number) (handle_of 0) ≡ true) ⊎ (same_bytes (handle_of number) (handle_of 0) ≡ false) → object_of (bindings_made made) (handle_of number) ≡ None
    go (inl root) = absurd (isnt_root (same_handle number 0 lt (omega arith) (same_is (handle_of number) (handle_of 0) root)))
    go (inr other) = ap (λ (b : Bool). if b then Some 0 else lookup (same_bytes (handle_of number)) (map pair made)) other ∙ nothing

  -- with its own handle bound each handle names what it does with the object among those that were made
  pub own_made : (binds : Bindings) → NameAlike binds (bindings_made made) → SameNames (with_own number binds) (with_object number made)
  own_made binds alike handle object =
      alike_same (with_own number binds) (with_own number (bindings_made made)) (alike_own number binds (bindings_made made) alike) handle object
      ∙ pushed (bindings_made made) made number refl lt others (λ h o. refl) handle object

  pub own_next : (profile : Profile) (binds : Bindings) → NameAlike binds (bindings_made made) → under profile (with_own number binds) ≡ under profile (bindings_made (with_object number made))
  own_next profile binds alike = same_under profile (with_own number binds) (with_object number made) (own_made binds alike)

  pub own_alike : (binds : Bindings) → NameAlike binds (bindings_made made) → NameAlike (with_own number binds) (bindings_made (with_object number made))
  own_alike binds alike handle = by_names (object_of (with_own number binds) handle) (object_of (bindings_made (with_object number made)) handle) (own_made binds alike handle)

pub alike_next : (binds : Bindings) (made : List ℕ) → NameAlike binds (bindings_made made) → next_tree binds ≡ next_tree (bindings_made made)
alike_next binds made alike = same_next binds made (alike_same binds (bindings_made made) alike)

pub alike_under : (profile : Profile) (binds : Bindings) (made : List ℕ) → NameAlike binds (bindings_made made) → under profile binds ≡ under profile (bindings_made made)
alike_under profile binds made alike = same_under profile binds made (alike_same binds (bindings_made made) alike)
