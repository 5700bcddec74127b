-- handles that are the numbers of their objects
use Rattle.std.proofs.Common.{◌≡◌, ◌<◌, ◌^◌, ◌⊎◌, inl, inr, ℕ, Bool, true, false, cond, List, length, Option, Some, None, refl, sym, ap, ◌∙◌, true≢false, if◌then◌else◌}
use Rattle.std.specs.Prelude.{◌==◌, option_and_then, get_or}
use Rattle.std.specs.Int.{w64, to_be_bytes, from_be_bytes}
use Rattle.std.proofs.lemmas.Bool.{eqb-true, eq-eqb}
use Rattle.std.proofs.lemmas.Nat.{be_bytes_8, from_be_bytes-to_be_bytes_8}
use Rattle.tree_handles.specs.Binding.{same_bytes}
use Rattle.tree_handles.specs.Places.{Rewrites}
use Rattle.tree_handles.specs.Finding.{number_of, taken, own_object, first_of, Gains, Lacks}
use Rattle.tree_handles.proofs.Positions.{same_is, same_self, true_or_false}

-- eight bytes are the number that they spell
pub spelled : (handle : List ℕ) (n : ℕ) → length handle ≡ 8 → ((i : ℕ) → get_or handle i 0 < 256) → n ≡ from_be_bytes w64 handle → number_of handle ≡ Some n
unfolding number_of
spelled handle n len bytes is =
    let back : to_be_bytes w64 (from_be_bytes w64 handle) ≡ handle = be_bytes_8 handle (from_be_bytes w64 handle) len bytes refl in
    ap (λ (b : Bool). if b then Some (from_be_bytes w64 handle) else None) (ap (same_bytes handle) back ∙ same_self handle) ∙ ap Some (sym is)

-- bytes of another length are none
pub no_number : (handle : List ℕ) → (length handle ≡ 8 → ⊥) → number_of handle ≡ None
unfolding number_of
no_number handle other = go (true_or_false (same_bytes handle (to_be_bytes w64 (from_be_bytes w64 handle)))) where
  go : (same_bytes handle (to_be_bytes w64 (from_be_bytes w64 handle)) ≡ true) ⊎ (same_bytes handle (to_be_bytes w64 (from_be_bytes w64 handle)) ≡ false) → number_of handle ≡ None
  go (inl same) = absurd (other (ap length (same_is handle (to_be_bytes w64 (from_be_bytes w64 handle)) same)))
  go (inr apart) = ap (λ (b : Bool). if b then Some (from_be_bytes w64 handle) else None) apart

-- a handle is the bytes of its number
pub is_number : (handle : List ℕ) (n : ℕ) → number_of handle ≡ Some n → handle ≡ to_be_bytes w64 n
unfolding number_of
is_number handle n is = go (true_or_false (same_bytes handle (to_be_bytes w64 m))) where
  m : ℕ
  m = from_be_bytes w64 handle

  go : (same_bytes handle (to_be_bytes w64 m) ≡ true) ⊎ (same_bytes handle (to_be_bytes w64 m) ≡ false) → handle ≡ to_be_bytes w64 n
  go (inl same) =
      let one : Some m ≡ Some n = ap (λ (b : Bool). if b then Some m else None) (sym same) ∙ is in
      let number : m ≡ n = cc in
      same_is handle (to_be_bytes w64 m) same ∙ ap (to_be_bytes w64) number
  go (inr apart) =
      let none : None ≡ Some n = ap (λ (b : Bool). if b then Some m else None) (sym apart) ∙ is in
      absurd (cc)

-- the bytes of a number are that number
pub own_number : (n : ℕ) → n < 2 ^ 64 → number_of (to_be_bytes w64 n) ≡ Some n
unfolding number_of
own_number n fits =
    ap (λ (m : ℕ). if same_bytes (to_be_bytes w64 n) (to_be_bytes w64 m) then Some m else None) (from_be_bytes-to_be_bytes_8 n fits)
    ∙ ap (λ (b : Bool). if b then Some n else None) (same_self (to_be_bytes w64 n))

by_number : (own : List Bool) (other : List ℕ) (o : Option ℕ) → number_of other ≡ o → own_object own other ≡ option_and_then (taken own) o
by_number own other o is = ap (option_and_then (taken own)) is

-- other bytes than those of a number
other_bytes : (other : List ℕ) (n : ℕ) → n < 2 ^ 64 → (number_of other ≡ Some n → ⊥) → same_bytes other (to_be_bytes w64 n) ≡ false
other_bytes other n fits isnt = go (true_or_false (same_bytes other (to_be_bytes w64 n))) where
  go : (same_bytes other (to_be_bytes w64 n) ≡ true) ⊎ (same_bytes other (to_be_bytes w64 n) ≡ false) → same_bytes other (to_be_bytes w64 n) ≡ false
  go (inl same) = absurd (isnt (ap number_of (same_is other (to_be_bytes w64 n) same) ∙ own_number n fits))
  go (inr apart) = apart

-- what a write makes of each number
written : (before after : List Bool) (n : ℕ) (b : Bool) → Rewrites false before after n b → (m : ℕ) (same : Bool) → (m == n) ≡ same → taken after m ≡ (if (if same then b else get_or before m false) then Some m else None)
written before after n b writes m same is = ap (λ (c : Bool). if c then Some m else None) (writes m ∙ ap (λ (c : Bool). if c then b else get_or before m false) is)

-- another number than that of a handle
differs : (m n : ℕ) → (Some m ≡ Some n → ⊥) → (b : Bool) → (m == n) ≡ b → b ≡ false
differs m n apart false e = refl
differs m n apart true e = absurd (apart (ap Some (eqb-true m n e)))

module _ (before after : List Bool) where
  -- what a handle that isn't this number has stays
  stays : (n : ℕ) (b : Bool) → Rewrites false before after n b → (other : List ℕ) → (number_of other ≡ Some n → ⊥) → own_object after other ≡ own_object before other
  stays n b writes other apart = go (number_of other) refl where
    go : (o : Option ℕ) → number_of other ≡ o → own_object after other ≡ own_object before other
    go None its = by_number after other None its ∙ sym (by_number before other None its)
    go (Some m) its =
        by_number after other (Some m) its ∙ written before after n b writes m false (differs m n (λ e. apart (its ∙ e)) (m == n) refl) ∙ sym (by_number before other (Some m) its)

  pub noted : (n : ℕ) → n < 2 ^ 64 → Rewrites false before after n true → Gains (own_object before) (own_object after) (to_be_bytes w64 n) n
  noted n fits writes other = go (true_or_false (same_bytes other (to_be_bytes w64 n))) where
    first : (b : Bool) → Some n ≡ first_of (if b then Some n else None) (Some n)
    first true = refl
    first false = refl

    none_more : (o : Option ℕ) → first_of o None ≡ o
    none_more None = refl
    none_more (Some x) = refl

    more : Bool → Option ℕ
    more same = first_of (own_object before other) (cond same (Some n) None)

    go : (same_bytes other (to_be_bytes w64 n) ≡ true) ⊎ (same_bytes other (to_be_bytes w64 n) ≡ false) → own_object after other ≡ more (same_bytes other (to_be_bytes w64 n))
    go (inl same) =
        let its : number_of other ≡ Some n = ap number_of (same_is other (to_be_bytes w64 n) same) ∙ own_number n fits in
        by_number after other (Some n) its ∙ written before after n true writes n true (eq-eqb n n refl) ∙ first (get_or before n false)
        ∙ ap (λ o. first_of o (Some n)) (sym (by_number before other (Some n) its)) ∙ sym (ap more same)
    go (inr apart) =
        stays n true writes other (λ e. true≢false (sym (ap (λ (h : List ℕ). same_bytes h (to_be_bytes w64 n)) (is_number other n e) ∙ same_self (to_be_bytes w64 n)) ∙ apart))
        ∙ sym (none_more (own_object before other)) ∙ sym (ap more apart)

  pub lost_number : (handle : List ℕ) (n : ℕ) → number_of handle ≡ Some n → Rewrites false before after n false → Lacks (own_object before) (own_object after) handle
  lost_number handle n named writes other = go (true_or_false (same_bytes other handle)) where
    given : Bool → Option ℕ
    given same = if same then None else own_object before other

    go : (same_bytes other handle ≡ true) ⊎ (same_bytes other handle ≡ false) → own_object after other ≡ given (same_bytes other handle)
    go (inl same) =
        by_number after other (Some n) (ap number_of (same_is other handle same) ∙ named) ∙ written before after n false writes n true (eq-eqb n n refl) ∙ sym (ap given same)
    go (inr apart) =
        stays n false writes other (λ e. true≢false (sym (ap (λ (h : List ℕ). same_bytes h handle) (is_number other n e ∙ sym (is_number handle n named)) ∙ same_self handle) ∙ apart))
        ∙ sym (ap given apart)

-- one that has it already
pub noted_before : (own : List Bool) (n : ℕ) → n < 2 ^ 64 → get_or own n false ≡ true → Gains (own_object own) (own_object own) (to_be_bytes w64 n) n
noted_before own n fits has other = go (true_or_false (same_bytes other (to_be_bytes w64 n))) where
  none_more : (o : Option ℕ) → first_of o None ≡ o
  none_more None = refl
  none_more (Some x) = refl

  more : Option ℕ → Bool → Option ℕ
  more o same = first_of o (cond same (Some n) None)

  go : (same_bytes other (to_be_bytes w64 n) ≡ true) ⊎ (same_bytes other (to_be_bytes w64 n) ≡ false) → own_object own other ≡ more (own_object own other) (same_bytes other (to_be_bytes w64 n))
  go (inl same) =
      let its : number_of other ≡ Some n = ap number_of (same_is other (to_be_bytes w64 n) same) ∙ own_number n fits in
      let there : own_object own other ≡ Some n = by_number own other (Some n) its ∙ ap (λ (b : Bool). if b then Some n else None) has in
      there ∙ sym (ap (λ o. more o (same_bytes other (to_be_bytes w64 n))) there)
  go (inr apart) = sym (none_more (own_object own other)) ∙ sym (ap (more (own_object own other)) apart)

-- the bytes of an object that is found so, which is taken
pub own_is : (own : List Bool) (handle : List ℕ) (object : ℕ) → own_object own handle ≡ Some object → (handle ≡ to_be_bytes w64 object) × (get_or own object false ≡ true)
own_is own handle object is = go (number_of handle) refl where
  same : (n : ℕ) (b : Bool) → get_or own n false ≡ b → (if b then Some n else None) ≡ Some object → (n ≡ object) × (get_or own n false ≡ true)
  same n true has e = let its : n ≡ object = cc in (its, has)
  same n false has e = absurd (cc)

  go : (o : Option ℕ) → number_of handle ≡ o → (handle ≡ to_be_bytes w64 object) × (get_or own object false ≡ true)
  go None its = nothing (sym (by_number own handle None its) ∙ is) where
    nothing : None ≡ Some object → (handle ≡ to_be_bytes w64 object) × (get_or own object false ≡ true)
    nothing e = absurd (cc)
  go (Some n) its =
      let one = same n (get_or own n false) refl (sym (by_number own handle (Some n) its) ∙ is) in
      (is_number handle n its ∙ ap (to_be_bytes w64) one.0, ap (λ (m : ℕ). get_or own m false) (sym one.0) ∙ one.1)
