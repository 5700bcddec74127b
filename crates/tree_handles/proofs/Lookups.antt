-- what a table gives for its handles, once one more has a place or an object
use Rattle.std.proofs.Common.{◌≡◌, ◌⊎◌, inl, inr, ℕ, Bool, true, false, cond, List, [], ◌∷◌, ◌++◌, length, take, get_or, position, Option, Some, None, refl, sym, ap, ◌∙◌, true≢false, if◌then◌else◌, arith}
use Rattle.std.specs.Prelude.{◌==◌, is_some}
use Rattle.std.specs.Map.{lookup}
use Rattle.std.proofs.lemmas.Bool.{eqb-true, eq-eqb}
use Rattle.std.proofs.lemmas.List.{get_or-take, get_or_past, length-take}
use Rattle.std.proofs.lemmas.List.Quantifiers.{position-Some}
use Rattle.tree_handles.specs.Binding.{same_bytes}
use Rattle.tree_handles.specs.Places.{Handles, is_short, of_length, place_of, with_handle, Rewrites}
use Rattle.tree_handles.specs.declared.objects.Objects.{Objects}
use Rattle.tree_handles.specs.Finding.{own_object, object_at, stored, tabled, found, first_of, GivesFirst, Gains, Keeps}
pub use Rattle.tree_handles.proofs.Positions.{same_is}
use Rattle.tree_handles.proofs.Positions.{same_self, true_or_false, position_more}

-- what isn't there is nothing
pub absent : {X : Type 0} (o : Option X) → is_some o ≡ false → o ≡ None
absent None e = refl
absent (Some x) e = cc

first_or_none : {X : Type 0} (o : Option X) → first_of o None ≡ o
first_or_none None = refl
first_or_none (Some x) = refl

lookup-append : {Key X : Type 0} (test : Key → Bool) (xs ys : List (Key × X)) → lookup test (xs ++ ys) ≡ first_of (lookup test xs) (lookup test ys)
lookup-append test [] ys = refl
lookup-append {Key} {X} test (x ∷ xs) ys = go (test x.0) (lookup-append test xs ys) where
  go : (b : Bool) → lookup test (xs ++ ys) ≡ first_of (lookup test xs) (lookup test ys)
      → cond b (Some x.1) (lookup test (xs ++ ys)) ≡ first_of (cond b (Some x.1) (lookup test xs)) (lookup test ys)
  go true later = refl
  go false later = later

-- what a handle more gives another one
alone : (other handle : List ℕ) (v : ℕ) (o : Option ℕ) → same_bytes other handle ≡ false → first_of o (lookup (same_bytes other) ((handle, v) ∷ [])) ≡ o
alone other handle v o apart = ap (λ (b : Bool). first_of o (cond b (Some v) None)) apart ∙ first_or_none o

-- the object of a handle among those of its kind
abbrev pub placed : List (List ℕ) → List (Option ℕ) → List ℕ → Option ℕ
placed keys objects handle = object_at objects (position (same_bytes handle) keys)

-- two handles at one place are one
one_place : (keys : List (List ℕ)) (a b : List ℕ) (p : ℕ) → position (same_bytes a) keys ≡ Some p → position (same_bytes b) keys ≡ Some p → a ≡ b
one_place keys a b p x y =
    same_is a (get_or keys p []) (position-Some (same_bytes a) keys p [] x).1 ∙ sym (same_is b (get_or keys p []) (position-Some (same_bytes b) keys p [] y).1)

-- a write at the place of a handle
module _ (keys : List (List ℕ)) (before after : List (Option ℕ)) (handle : List ℕ) (p : ℕ) (item : Option ℕ) (here : position (same_bytes handle) keys ≡ Some p) (writes : Rewrites None before after p item) where
  pub rewritten : (other : List ℕ) → same_bytes other handle ≡ true → placed keys after other ≡ item
  rewritten other same =
      ap (λ (h : List ℕ). placed keys after h) (same_is other handle same) ∙ ap (object_at after) here ∙ writes p ∙ ap (λ (b : Bool). if b then item else get_or before p None) (eq-eqb p p refl)

  pub left : (other : List ℕ) → same_bytes other handle ≡ false → placed keys after other ≡ placed keys before other
  left other apart = go (position (same_bytes other) keys) refl where
    unlike : (q : ℕ) → position (same_bytes other) keys ≡ Some q → (b : Bool) → (q == p) ≡ b → b ≡ false
    unlike q at false e = refl
    unlike q at true e =
        absurd (true≢false (sym (ap (same_bytes other) (sym (one_place keys other handle p (at ∙ ap Some (eqb-true q p e)) here)) ∙ same_self other) ∙ apart))

    go : (o : Option ℕ) → position (same_bytes other) keys ≡ o → placed keys after other ≡ placed keys before other
    go None none = ap (object_at after) none ∙ sym (ap (object_at before) none)
    go (Some q) at =
        ap (object_at after) at ∙ writes q ∙ ap (λ (b : Bool). if b then item else get_or before q None) (unlike q at (q == p) refl) ∙ sym (ap (object_at before) at)

-- a handle with a place more
pub longer : (keys : List (List ℕ)) (objects : List (Option ℕ)) (handle other : List ℕ) → placed (keys ++ handle ∷ []) (take (length keys) objects) other ≡ placed keys objects other
longer keys objects handle other =
    ap (object_at (take (length keys) objects)) (position_more (same_bytes other) keys handle) ∙ go (position (same_bytes other) keys) refl where
      past : get_or (take (length keys) objects) (length keys) None ≡ None
      past = get_or_past (take (length keys) objects) (length keys) None (omega (arith, length-take (length keys) objects))

      last : (b : Bool) → object_at (take (length keys) objects) (cond b (Some (length keys)) None) ≡ None
      last true = past
      last false = refl

      go : (o : Option ℕ) → position (same_bytes other) keys ≡ o
          → object_at (take (length keys) objects) (first_of o (cond (same_bytes other handle) (Some (length keys)) None)) ≡ object_at objects o
      go None none = last (same_bytes other handle)
      go (Some q) at = get_or-take (length keys) objects q None (position-Some (same_bytes other) keys q [] at).0

-- a handle of another length is another handle
other_length : (other handle : List ℕ) (b c : Bool) → is_short other ≡ b → is_short handle ≡ c → (b ≡ c → ⊥) → same_bytes other handle ≡ false
other_length other handle b c x y apart = go (true_or_false (same_bytes other handle)) where
  go : (same_bytes other handle ≡ true) ⊎ (same_bytes other handle ≡ false) → same_bytes other handle ≡ false
  go (inl same) = absurd (apart (sym x ∙ ap is_short (same_is other handle same) ∙ y))
  go (inr other) = other

module _ (handles : Handles) (short long : List (Option ℕ)) where
  pub short_stored : (handle : List ℕ) → is_short handle ≡ true → stored handles short long handle ≡ placed handles.short short handle
  short_stored handle is = ap (λ (b : Bool). object_at (if b then short else long) (position (same_bytes handle) (if b then handles.short else handles.long))) is

  pub long_stored : (handle : List ℕ) → is_short handle ≡ false → stored handles short long handle ≡ placed handles.long long handle
  long_stored handle is = ap (λ (b : Bool). object_at (if b then short else long) (position (same_bytes handle) (if b then handles.short else handles.long))) is

-- the place of a handle among those of its kind
pub short_place : (handles : Handles) (handle : List ℕ) (o : Option ℕ) → is_short handle ≡ true → place_of handles handle ≡ o → position (same_bytes handle) handles.short ≡ o
short_place handles handle o is at = sym (ap (λ (b : Bool). position (same_bytes handle) (if b then handles.short else handles.long)) is) ∙ at

pub long_place : (handles : Handles) (handle : List ℕ) (o : Option ℕ) → is_short handle ≡ false → place_of handles handle ≡ o → position (same_bytes handle) handles.long ≡ o
long_place handles handle o is at = sym (ap (λ (b : Bool). position (same_bytes handle) (if b then handles.short else handles.long)) is) ∙ at

-- what a write among short handles, or among long ones, makes of a table
module _ (handles : Handles) (handle : List ℕ) (p : ℕ) (item : Option ℕ) (here : place_of handles handle ≡ Some p) where
  pub short_write : (short after long : List (Option ℕ)) → is_short handle ≡ true → Rewrites None short after p item
      → (other : List ℕ) → stored handles after long other ≡ (if same_bytes other handle then item else stored handles short long other)
  short_write short after long is writes other = go (true_or_false (is_short other)) where
    given : Bool → Option ℕ
    given b = if b then item else stored handles short long other

    go : (is_short other ≡ true) ⊎ (is_short other ≡ false) → stored handles after long other ≡ given (same_bytes other handle)
    go (inl kind) = short_stored handles after long other kind ∙ same (true_or_false (same_bytes other handle)) where
      at : position (same_bytes handle) handles.short ≡ Some p
      at = short_place handles handle (Some p) is here

      same : (same_bytes other handle ≡ true) ⊎ (same_bytes other handle ≡ false) → placed handles.short after other ≡ given (same_bytes other handle)
      same (inl one) = rewritten handles.short short after handle p item at writes other one ∙ sym (ap given one)
      same (inr apart) = left handles.short short after handle p item at writes other apart ∙ sym (short_stored handles short long other kind) ∙ sym (ap given apart)
    go (inr kind) =
        long_stored handles after long other kind ∙ sym (long_stored handles short long other kind)
        ∙ sym (ap given (other_length other handle false true kind is (λ e. true≢false (sym e))))

  pub long_write : (short long after : List (Option ℕ)) → is_short handle ≡ false → Rewrites None long after p item
      → (other : List ℕ) → stored handles short after other ≡ (if same_bytes other handle then item else stored handles short long other)
  long_write short long after is writes other = go (true_or_false (is_short other)) where
    given : Bool → Option ℕ
    given b = if b then item else stored handles short long other

    go : (is_short other ≡ true) ⊎ (is_short other ≡ false) → stored handles short after other ≡ given (same_bytes other handle)
    go (inl kind) =
        short_stored handles short after other kind ∙ sym (short_stored handles short long other kind)
        ∙ sym (ap given (other_length other handle true false kind is true≢false))
    go (inr kind) = long_stored handles short after other kind ∙ same (true_or_false (same_bytes other handle)) where
      at : position (same_bytes handle) handles.long ≡ Some p
      at = long_place handles handle (Some p) is here

      same : (same_bytes other handle ≡ true) ⊎ (same_bytes other handle ≡ false) → placed handles.long after other ≡ given (same_bytes other handle)
      same (inl one) = rewritten handles.long long after handle p item at writes other one ∙ sym (ap given one)
      same (inr apart) = left handles.long long after handle p item at writes other apart ∙ sym (long_stored handles short long other kind) ∙ sym (ap given apart)

  -- its object is there first
  gained : (before after : List ℕ → Option ℕ) (v : ℕ) → item ≡ first_of (before handle) (Some v) → ((other : List ℕ) → after other ≡ (if same_bytes other handle then item else before other)) → Gains before after handle v
  gained before after v is writes other = writes other ∙ go (true_or_false (same_bytes other handle)) where
    go : (same_bytes other handle ≡ true) ⊎ (same_bytes other handle ≡ false) → (if same_bytes other handle then item else before other) ≡ first_of (before other) (lookup (same_bytes other) ((handle, v) ∷ []))
    go (inl same) =
        ap (λ (b : Bool). if b then item else before other) same ∙ is ∙ ap (λ (h : List ℕ). first_of (before h) (Some v)) (sym (same_is other handle same))
        ∙ ap (λ (b : Bool). first_of (before other) (cond b (Some v) None)) (sym same)
    go (inr apart) = ap (λ (b : Bool). if b then item else before other) apart ∙ sym (alone other handle v (before other) apart)

-- a handle gets its object
module _ (handles : Handles) (handle : List ℕ) (p v : ℕ) (here : place_of handles handle ≡ Some p) where
  pub short_gains : (short after long : List (Option ℕ)) → is_short handle ≡ true → Rewrites None short after p (first_of (get_or short p None) (Some v)) → Gains (stored handles short long) (stored handles after long) handle v
  short_gains short after long is writes =
      let had : stored handles short long handle ≡ get_or short p None = short_stored handles short long handle is ∙ ap (object_at short) (short_place handles handle (Some p) is here) in
      gained handles handle p (first_of (get_or short p None) (Some v)) here (stored handles short long) (stored handles after long) v (ap (λ o. first_of o (Some v)) (sym had))
      (short_write handles handle p (first_of (get_or short p None) (Some v)) here short after long is writes)

  pub long_gains : (short long after : List (Option ℕ)) → is_short handle ≡ false → Rewrites None long after p (first_of (get_or long p None) (Some v)) → Gains (stored handles short long) (stored handles short after) handle v
  long_gains short long after is writes =
      let had : stored handles short long handle ≡ get_or long p None = long_stored handles short long handle is ∙ ap (object_at long) (long_place handles handle (Some p) is here) in
      gained handles handle p (first_of (get_or long p None) (Some v)) here (stored handles short long) (stored handles short after) v (ap (λ o. first_of o (Some v)) (sym had))
      (long_write handles handle p (first_of (get_or long p None) (Some v)) here short long after is writes)

-- a handle gets a place
module _ (handles : Handles) (short long : List (Option ℕ)) (handle : List ℕ) (after : Handles) (is : after ≡ with_handle handles handle) where
  pub short_known : is_short handle ≡ true → Keeps (stored handles short long) (stored after (take (length handles.short) short) long)
  short_known kind other =
      let now : after ≡ record { short = handles.short ++ handle ∷ []; long = handles.long } = is ∙ ap (λ (b : Bool). if b then record { short = handles.short ++ handle ∷ []; long = handles.long } else record { short = handles.short; long = handles.long ++ handle ∷ [] }) kind in
      ap (λ (h : Handles). stored h (take (length handles.short) short) long other) now ∙ go (true_or_false (is_short other)) where
        more : Handles
        more = record { short = handles.short ++ handle ∷ []; long = handles.long }

        go : (is_short other ≡ true) ⊎ (is_short other ≡ false) → stored more (take (length handles.short) short) long other ≡ stored handles short long other
        go (inl s) = short_stored more (take (length handles.short) short) long other s ∙ longer handles.short short handle other ∙ sym (short_stored handles short long other s)
        go (inr l) = long_stored more (take (length handles.short) short) long other l ∙ sym (long_stored handles short long other l)

  pub long_known : is_short handle ≡ false → Keeps (stored handles short long) (stored after short (take (length handles.long) long))
  long_known kind other =
      let now : after ≡ record { short = handles.short; long = handles.long ++ handle ∷ [] } = is ∙ ap (λ (b : Bool). if b then record { short = handles.short ++ handle ∷ []; long = handles.long } else record { short = handles.short; long = handles.long ++ handle ∷ [] }) kind in
      ap (λ (h : Handles). stored h short (take (length handles.long) long) other) now ∙ go (true_or_false (is_short other)) where
        more : Handles
        more = record { short = handles.short; long = handles.long ++ handle ∷ [] }

        go : (is_short other ≡ true) ⊎ (is_short other ≡ false) → stored more short (take (length handles.long) long) other ≡ stored handles short long other
        go (inl s) = short_stored more short (take (length handles.long) long) other s ∙ sym (short_stored handles short long other s)
        go (inr l) = long_stored more short (take (length handles.long) long) other l ∙ longer handles.long long handle other ∙ sym (long_stored handles short long other l)

-- and is there itself
pub taken_place : (handles after : Handles) (handle : List ℕ) (place : ℕ) → place_of handles handle ≡ None → after ≡ with_handle handles handle → place ≡ of_length handle (length handles.short) (length handles.long)
    → place_of after handle ≡ Some place
taken_place handles after handle place none is at = ap (λ (h : Handles). place_of h handle) is ∙ go (true_or_false (is_short handle)) where
  put : Bool → Handles
  put b = if b then record { short = handles.short ++ handle ∷ []; long = handles.long } else record { short = handles.short; long = handles.long ++ handle ∷ [] }

  last : (keys : List (List ℕ)) → position (same_bytes handle) keys ≡ None → position (same_bytes handle) (keys ++ handle ∷ []) ≡ Some (length keys)
  last keys free =
      position_more (same_bytes handle) keys handle ∙ ap (λ o. first_of o (cond (same_bytes handle handle) (Some (length keys)) None)) free
      ∙ ap (λ b. cond b (Some (length keys)) None) (same_self handle)

  go : (is_short handle ≡ true) ⊎ (is_short handle ≡ false) → position (same_bytes handle) (of_length handle (put (is_short handle)).short (put (is_short handle)).long) ≡ Some place
  go (inl s) =
      ap (λ (b : Bool). position (same_bytes handle) (if b then (put b).short else (put b).long)) s ∙ last handles.short (short_place handles handle None s none)
      ∙ ap Some (sym (at ∙ ap (λ (b : Bool). if b then length handles.short else length handles.long) s))
  go (inr l) =
      ap (λ (b : Bool). position (same_bytes handle) (if b then (put b).short else (put b).long)) l ∙ last handles.long (long_place handles handle None l none)
      ∙ ap Some (sym (at ∙ ap (λ (b : Bool). if b then length handles.short else length handles.long) l))

-- what was kept and then gained was gained
pub kept_then_gained : (a b c : List ℕ → Option ℕ) (handle : List ℕ) (v : ℕ) → Keeps a b → Gains b c handle v → Gains a c handle v
kept_then_gained a b c handle v keeps gains other = gains other ∙ ap (λ o. first_of o (lookup (same_bytes other) ((handle, v) ∷ []))) (keeps other)

-- what a handle more gives all of them
pub joined : (before after : Objects) (pairs : List (List ℕ × ℕ)) (handle : List ℕ) (v : ℕ) → GivesFirst before pairs → Gains (found before) (found after) handle v → GivesFirst after (pairs ++ (handle, v) ∷ [])
joined before after pairs handle v gives more other =
    more other ∙ ap (λ (o : Option ℕ). first_of o (lookup (same_bytes other) ((handle, v) ∷ []))) (gives other)
    ∙ sym (lookup-append (same_bytes other) pairs ((handle, v) ∷ []))

first_three : {X : Type 0} (a b c : Option X) → first_of a (first_of b c) ≡ first_of (first_of a b) c
first_three None b c = refl
first_three (Some x) b c = refl

-- one more among the others
pub others_gain : (before after : Objects) (handle : List ℕ) (v : ℕ) → after.own ≡ before.own → Gains (tabled before.others) (tabled after.others) handle v → Gains (found before) (found after) handle v
others_gain before after handle v same gains other =
    ap (λ o. first_of (own_object o other) (tabled after.others other)) same ∙ ap (first_of (own_object before.own other)) (gains other)
    ∙ first_three (own_object before.own other) (tabled before.others other) (lookup (same_bytes other) ((handle, v) ∷ []))

-- one more of those that are their own number, which the others don't have
pub own_gains : (before after : Objects) (handle : List ℕ) (v : ℕ) → after.others ≡ before.others → tabled before.others handle ≡ None
    → Gains (own_object before.own) (own_object after.own) handle v → Gains (found before) (found after) handle v
own_gains before after handle v same free gains other =
    ap (λ o. first_of (own_object after.own other) (tabled o other)) same ∙ ap (λ o. first_of o (tabled before.others other)) (gains other) ∙ go (true_or_false (same_bytes other handle)) where
      swapped : (a b c : Option ℕ) → b ≡ None → first_of (first_of a c) b ≡ first_of (first_of a b) c
      swapped a b c none = ap (first_of (first_of a c)) none ∙ first_or_none (first_of a c) ∙ sym (ap (λ o. first_of (first_of a o) c) none ∙ ap (λ o. first_of o c) (first_or_none a))

      bare : (a b c : Option ℕ) → c ≡ None → first_of (first_of a c) b ≡ first_of (first_of a b) c
      bare a b c none = ap (λ o. first_of (first_of a o) b) none ∙ ap (λ o. first_of o b) (first_or_none a) ∙ sym (ap (first_of (first_of a b)) none ∙ first_or_none (first_of a b))

      go : (same_bytes other handle ≡ true) ⊎ (same_bytes other handle ≡ false)
          → first_of (first_of (own_object before.own other) (lookup (same_bytes other) ((handle, v) ∷ []))) (tabled before.others other)
          ≡ first_of (first_of (own_object before.own other) (tabled before.others other)) (lookup (same_bytes other) ((handle, v) ∷ []))
      go (inl is) = swapped (own_object before.own other) (tabled before.others other) (lookup (same_bytes other) ((handle, v) ∷ [])) (ap (tabled before.others) (same_is other handle is) ∙ free)
      go (inr apart) = bare (own_object before.own other) (tabled before.others other) (lookup (same_bytes other) ((handle, v) ∷ [])) (ap (λ (b : Bool). cond b (Some v) None) apart)
