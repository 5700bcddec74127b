-- names in a tree, which are the bytes of its keys
use Rattle.std.proofs.Common.{◌≡◌, ℕ, suc, ◌<◌, ◌≤◌, Bool, true, false, cond, T, List, [], ◌∷◌, length, Some, None, refl, sym, ap, subst, ◌∙◌, arith}
use Rattle.std.specs.Prelude.{not}
use Rattle.std.specs.declared.cmp.Ordering.{Ordering}
use Rattle.std.specs.declared.cmp.Ordering.TheVariants.{Less, Equal, Greater}
use Rattle.std.specs.Ordering.{is_eq, match_ordering}
use Rattle.std.specs.FinMap.Entries as es
use Rattle.std.specs.List.{AllByRecursion}
use Rattle.std.specs.List.Sorted.{IsStrictlySortedBy}
use Rattle.std.specs.Map.{lookup, keys_of, set_value, remove_entry}
use Rattle.std.specs.BTreeMap.{insert_entry, is_at}
use Rattle.tree_stores.specs.Names.{name_cmp, entered}
use Rattle.tree_stores.specs.Places.{AreShort, without}
use Rattle.tree_stores.proofs.Orders.{total, ties, first, second, less}

-- names that are all above one stay without it
all_stay : (k : List ℕ) (pairs : List (List ℕ × ℕ)) → T (es.below_all name_cmp k pairs) → pairs ≡ without k pairs
all_stay k [] below = refl
all_stay k (e ∷ pairs) below =
    ap (λ (z : List (List ℕ × ℕ)). e ∷ z) (all_stay k pairs (second _ _ below)) ∙ sym (ap (λ o. cond (not (is_eq o)) (e ∷ without k pairs) (without k pairs)) (less _ (first _ _ below)))

is_equal : (o : Ordering) → is_eq o ≡ true → o ≡ Equal
is_equal Less e = absurd (cc)
is_equal Equal e = refl
is_equal Greater e = absurd (cc)

module _ {Key : Type 0} (bytes : Key → List ℕ) where
  abbrev pub Entries : Type 0
  Entries = List (Key × ℕ)

  abbrev pub by_bytes : Key → Key → Ordering
  by_bytes a b = name_cmp (bytes a) (bytes b)

  abbrev pub query : List ℕ → Key → Ordering
  query k key = name_cmp k (bytes key)

  pub looked_up : (k : List ℕ) (many : Entries) → lookup (is_at (query k)) many ≡ es.find name_cmp k (entered bytes many)
  looked_up k [] = refl
  looked_up k (e ∷ many) = ap (cond (is_eq (name_cmp k (bytes e.0))) (Some e.1)) (looked_up k many)

  pub put_entered : (k : Key) (v : ℕ) (many : Entries) → entered bytes (insert_entry by_bytes many k v) ≡ es.put name_cmp (bytes k) v (entered bytes many)
  put_entered k v [] = refl
  put_entered k v (e ∷ many) =
      elim (name_cmp (bytes k) (bytes e.0)) as (λ o. entered bytes (match_ordering o ((k, v) ∷ e ∷ many) ((e.0, v) ∷ many) (e ∷ insert_entry by_bytes many k v))
      ≡ es.by_order o ((bytes k, v) ∷ (bytes e.0, e.1) ∷ entered bytes many) ((bytes e.0, v) ∷ entered bytes many) ((bytes e.0, e.1) ∷ es.put name_cmp (bytes k) v (entered bytes many))) [
        | Less ↦ refl
        | Equal ↦ refl
        | Greater ↦ ap (λ (z : List (List ℕ × ℕ)). (bytes e.0, e.1) ∷ z) (put_entered k v many)
      ]

  pub removed_entered : (k : List ℕ) (many : Entries) → T (es.is_sorted name_cmp (entered bytes many)) → entered bytes (remove_entry (is_at (query k)) many) ≡ without k (entered bytes many)
  removed_entered k [] sorted = refl
  removed_entered k (e ∷ many) sorted = go (removed_entered k many (second _ _ sorted)) (is_eq (name_cmp k (bytes e.0))) refl where
    go : entered bytes (remove_entry (is_at (query k)) many) ≡ without k (entered bytes many) → (b : Bool) → is_eq (name_cmp k (bytes e.0)) ≡ b
        → entered bytes (cond (is_eq (name_cmp k (bytes e.0))) many (e ∷ remove_entry (is_at (query k)) many))
        ≡ cond (not (is_eq (name_cmp k (bytes e.0)))) ((bytes e.0, e.1) ∷ without k (entered bytes many)) (without k (entered bytes many))
    go rest true is =
        ap (λ b. entered bytes (cond b many (e ∷ remove_entry (is_at (query k)) many))) is
        ∙ subst (λ (z : List ℕ). entered bytes many ≡ without z (entered bytes many)) (sym (ties k (bytes e.0) (is_equal (name_cmp k (bytes e.0)) is))) (all_stay (bytes e.0) (entered bytes many) (first _ _ sorted))
        ∙ sym (ap (λ b. cond (not b) ((bytes e.0, e.1) ∷ without k (entered bytes many)) (without k (entered bytes many))) is)
    go rest false is =
        ap (λ b. entered bytes (cond b many (e ∷ remove_entry (is_at (query k)) many))) is ∙ ap (λ (z : List (List ℕ × ℕ)). (bytes e.0, e.1) ∷ z) rest
        ∙ sym (ap (λ b. cond (not b) ((bytes e.0, e.1) ∷ without k (entered bytes many)) (without k (entered bytes many))) is)

  -- a name below a key is at none of the keys above that one

  none_above : (k : List ℕ) (key : Key) (many : Entries) → name_cmp k (bytes key) ≡ Less → AllByRecursion (λ other. by_bytes key other ≡ Less) (keys_of many) → lookup (is_at (query k)) many ≡ None
  none_above k key [] under above = refl
  none_above k key (e ∷ many) under above =
      ap (λ o. cond (is_eq o) (Some e.1) (lookup (is_at (query k)) many)) (total.trans k (bytes key) (bytes e.0) under above.0) ∙ none_above k key many under above.1

  -- another object for a name that is there

  pub replaced_entered : (k : List ℕ) (v old : ℕ) (many : Entries) → IsStrictlySortedBy by_bytes (keys_of many) → lookup (is_at (query k)) many ≡ Some old
      → entered bytes (set_value (is_at (query k)) many v) ≡ es.put name_cmp k v (entered bytes many)
  unfolding IsStrictlySortedBy
  replaced_entered k v old [] sorted is = absurd (cc)
  replaced_entered k v old (e ∷ many) sorted is = go (replaced_entered k v old many sorted.1) (name_cmp k (bytes e.0)) refl where
    go : (lookup (is_at (query k)) many ≡ Some old → entered bytes (set_value (is_at (query k)) many v) ≡ es.put name_cmp k v (entered bytes many))
        → (o : Ordering) → name_cmp k (bytes e.0) ≡ o
        → entered bytes (cond (is_eq (name_cmp k (bytes e.0))) ((e.0, v) ∷ many) (e ∷ set_value (is_at (query k)) many v))
        ≡ es.by_order (name_cmp k (bytes e.0)) ((k, v) ∷ entered bytes (e ∷ many)) ((bytes e.0, v) ∷ entered bytes many) ((bytes e.0, e.1) ∷ es.put name_cmp k v (entered bytes many))
    go rest Less at =
        let none = sym (none_above k e.0 many at sorted.0) ∙ sym (ap (λ o. cond (is_eq o) (Some e.1) (lookup (is_at (query k)) many)) at) ∙ is in
        absurd (cc)
    go rest Equal at =
        ap (λ o. entered bytes (cond (is_eq o) ((e.0, v) ∷ many) (e ∷ set_value (is_at (query k)) many v))) at
        ∙ sym (ap (λ o. es.by_order o ((k, v) ∷ entered bytes (e ∷ many)) ((bytes e.0, v) ∷ entered bytes many) ((bytes e.0, e.1) ∷ es.put name_cmp k v (entered bytes many))) at)
    go rest Greater at =
        let later = sym (ap (λ o. cond (is_eq o) (Some e.1) (lookup (is_at (query k)) many)) at) ∙ is in
        ap (λ o. entered bytes (cond (is_eq o) ((e.0, v) ∷ many) (e ∷ set_value (is_at (query k)) many v))) at
        ∙ ap (λ (z : List (List ℕ × ℕ)). (bytes e.0, e.1) ∷ z) (rest later)
        ∙ sym (ap (λ o. es.by_order o ((k, v) ∷ entered bytes (e ∷ many)) ((bytes e.0, v) ∷ entered bytes many) ((bytes e.0, e.1) ∷ es.put name_cmp k v (entered bytes many))) at)

  pub length-entered : (many : Entries) → length (entered bytes many) ≡ length many
  length-entered [] = refl
  length-entered (e ∷ many) = ap suc (length-entered many)

-- no long name is among short ones
is_other : (k other : List ℕ) → length other ≤ 23 → 23 < length k → is_eq (name_cmp k other) ≡ false
is_other k other short long = go (name_cmp k other) refl where
  go : (o : Ordering) → name_cmp k other ≡ o → is_eq o ≡ false
  go Less e = refl
  go Equal e = let same : length k ≡ length other = ap length (ties k other e) in absurd (omega (arith, same, short, long))
  go Greater e = refl

module _ (k : List ℕ) (long : 23 < length k) where
  pub long_none : (pairs : List (List ℕ × ℕ)) → AreShort pairs → None ≡ es.find name_cmp k pairs
  long_none [] short = refl
  long_none (e ∷ pairs) short = long_none pairs short.1 ∙ sym (ap (λ b. cond b (Some e.1) (es.find name_cmp k pairs)) (is_other k e.0 short.0 long))

  pub long_stays : (pairs : List (List ℕ × ℕ)) → AreShort pairs → pairs ≡ without k pairs
  long_stays [] short = refl
  long_stays (e ∷ pairs) short =
      ap (λ (z : List (List ℕ × ℕ)). e ∷ z) (long_stays pairs short.1) ∙ sym (ap (λ b. cond (not b) (e ∷ without k pairs) (without k pairs)) (is_other k e.0 short.0 long))

-- short names stay short
pub put_short : (k : List ℕ) (v : ℕ) (pairs : List (List ℕ × ℕ)) → length k ≤ 23 → AreShort pairs → AreShort (es.put name_cmp k v pairs)
put_short k v [] room short = (room, tt)
put_short k v (e ∷ pairs) room short =
    elim (name_cmp k e.0) as (λ o. AreShort (es.by_order o ((k, v) ∷ e ∷ pairs) ((e.0, v) ∷ pairs) (e ∷ es.put name_cmp k v pairs))) [
      | Less ↦ (room, short)
      | Equal ↦ (short.0, short.1)
      | Greater ↦ (short.0, put_short k v pairs room short.1)
    ]

pub without_short : (k : List ℕ) (pairs : List (List ℕ × ℕ)) → AreShort pairs → AreShort (without k pairs)
without_short k [] short = tt
without_short k (e ∷ pairs) short =
    elim (not (is_eq (name_cmp k e.0))) as (λ b. AreShort (cond b (e ∷ without k pairs) (without k pairs))) [
      | true ↦ (short.0, without_short k pairs short.1)
      | false ↦ without_short k pairs short.1
    ]
