-- slots by pages, and pages by blocks, as one list
use Rattle.std.proofs.Common.{◌≡◌, ℕ, zero, suc, ◌+◌, ◌*◌, ◌/◌, ◌%◌, ◌^◌, ◌<◌, ◌≤◌, ◌⊎◌, inl, inr, Bool, true, false, List, [], ◌∷◌, ◌++◌, length, get_or, set, map, None, refl, sym, ap, ◌∙◌, arith}
use Rattle.std.specs.Ordering.{nat_cmp}
use Rattle.std.specs.Cmp.{nat_cmp_total}
use Rattle.std.specs.FinMap as finite
use Rattle.std.proofs.lemmas.Bool.{cases_lt}
use Rattle.std.proofs.lemmas.List.{get_or_past, get_or_read, get_or-set_same}
use Rattle.tree_stores.specs.declared.slots.slot.Slot.{Slot}
use Rattle.tree_stores.specs.declared.slots.slot.Slot.TheVariants.{Empty}
use Rattle.tree_stores.specs.Slots.{value_of, entries_from, map_of}
use Rattle.tree_stores.specs.Pages.{Page, Block, row_in, absent, Alike, padded, joined, slots_of, slots_in, all_slots, is_own, owns_in, owns, is_set, page_entries, block_entries}
use Rattle.tree_stores.specs.Books.{values_of}
use Rattle.tree_stores.proofs.SlotLemmas.{get-map_of, map_of_none}
use Rattle.tree_stores.proofs.Rows.{read-map, get-push, joined_none, entries-padded, entries-joined, by_items, length-grid, read_grid, put_grid, stood_grid}

module _ {V : Type 0} where
  -- ---- the slots of pages

  slots_of_none : slots_of {V = V} [] ≡ []
  unfolding slots_of
  slots_of_none = joined_none 64

  length-slots_of : (ps : List (Page V)) → length (slots_of ps) ≡ 64 * length ps
  unfolding slots_of
  length-slots_of ps = length-grid 64 row_in ps

  pub read_pages : (ps : List (Page V)) (k : ℕ) → get_or (slots_of ps) k Empty ≡ get_or (row_in (get_or ps (k / 64) absent)) (k % 64) Empty
  unfolding slots_of
  read_pages ps k =
      let at : k ≡ 64 * (k / 64) + k % 64 = omega arith in
      ap (λ m. get_or (joined 64 (map row_in ps)) m Empty) at ∙ read_grid 64 row_in absent refl ps (k / 64) (k % 64) (omega arith)

  module _ (ps : List (Page V)) (k : ℕ) (p : Page V) (within : k / 64 < length ps) (e : p ≡ get_or ps (k / 64) p) where
    pub in_pages : k < length (slots_of ps)
    in_pages = omega (arith, length-slots_of ps)

    pub stood_pages : (s : Slot V) → k % 64 < length (row_in p) → s ≡ get_or (row_in p) (k % 64) s → s ≡ get_or (slots_of ps) k s
    unfolding slots_of
    stood_pages s in_row is =
        let at : 64 * (k / 64) + k % 64 ≡ k = omega arith in
        stood_grid 64 row_in ps (k / 64) (k % 64) p (omega arith) within e s in_row is (omega (arith, in_pages))
        ∙ ap (λ m. get_or (joined 64 (map row_in ps)) m s) at

    pub put_pages : (p' : Page V) (s : Slot V) → k % 64 < length (row_in p) → row_in p' ≡ set (row_in p) (k % 64) s → slots_of (set ps (k / 64) p') ≡ set (slots_of ps) k s
    unfolding slots_of
    put_pages p' s in_row is =
        let at : 64 * (k / 64) + k % 64 ≡ k = omega arith in
        put_grid 64 row_in ps (k / 64) (k % 64) p (omega arith) within e p' s in_row is ∙ ap (λ m. set (joined 64 (map row_in ps)) m s) at

    pub past_page : length (row_in p) ≤ k % 64 → get_or (slots_of ps) k Empty ≡ Empty
    past_page le =
        read_pages ps k ∙ ap (λ (z : Page V). get_or (row_in z) (k % 64) Empty) (sym (get_or_read ps (k / 64) p within e absent)) ∙ get_or_past (row_in p) (k % 64) Empty le

    pub found_pages : (s : Slot V) → k % 64 < length (row_in p) → s ≡ get_or (row_in p) (k % 64) s → get_or (slots_of ps) k Empty ≡ s
    found_pages s in_row is =
        read_pages ps k ∙ ap (λ (z : Page V). get_or (row_in z) (k % 64) Empty) (sym (get_or_read ps (k / 64) p within e absent))
        ∙ sym (get_or_read (row_in p) (k % 64) s in_row is Empty)

  pub past_pages : (ps : List (Page V)) (k : ℕ) → length ps ≤ k / 64 → get_or (slots_of ps) k Empty ≡ Empty
  past_pages ps k le = read_pages ps k ∙ ap (λ (z : Page V). get_or (row_in z) (k % 64) Empty) (get_or_past ps (k / 64) absent le)

  pub alike_pages : (rs ps : List (Page V)) → ((q : ℕ) → Alike (row_in (get_or rs q absent)) (row_in (get_or ps q absent))) → Alike (slots_of rs) (slots_of ps)
  alike_pages rs ps same = λ k. read_pages rs k ∙ same (k / 64) (k % 64) ∙ sym (read_pages ps k)

  pub alike_same : (rs ps : List (Page V)) → ((q : ℕ) → get_or rs q absent ≡ get_or ps q absent) → Alike (slots_of rs) (slots_of ps)
  alike_same rs ps same = alike_pages rs ps (λ q k. ap (λ (z : Page V). get_or (row_in z) k Empty) (same q))

  pub alike_set : (ps : List (Page V)) (q : ℕ) (p p' : Page V) → q < length ps → p ≡ get_or ps q p → Alike (row_in p') (row_in p) → Alike (slots_of (set ps q p')) (slots_of ps)
  alike_set ps q p p' lt e same =
      alike_pages (set ps q p') ps (by_items (λ (x y : Page V). Alike (row_in y) (row_in x)) (λ _ _. refl) ps q p p' absent lt e same)

  -- ---- which pages have their slots to themselves

  pub own_kept : (ps : List (Page V)) (q : ℕ) (p p' : Page V) → q < length ps → p ≡ get_or ps q p → (is_own p ≡ true → is_own p' ≡ true)
      → (i : ℕ) → get_or (map is_own ps) i false ≡ true → get_or (map is_own (set ps q p')) i false ≡ true
  own_kept ps q p p' lt e more i h =
      read-map is_own (set ps q p') i absent
      ∙ by_items (λ (x y : Page V). is_own x ≡ true → is_own y ≡ true) (λ _ g. g) ps q p p' absent lt e more i (sym (read-map is_own ps i absent) ∙ h)

  pub own_alike : (rs ps : List (Page V)) → ((q : ℕ) → get_or rs q absent ≡ get_or ps q absent) → (i : ℕ) → get_or (map is_own ps) i false ≡ true → get_or (map is_own rs) i false ≡ true
  own_alike rs ps same i h = read-map is_own rs i absent ∙ ap is_own (same i) ∙ sym (read-map is_own ps i absent) ∙ h

  pub own_within : (ps : List (Page V)) (q : ℕ) → get_or (map is_own ps) q false ≡ true → q < length ps
  own_within [] q h = absurd (cc)
  own_within (p ∷ ps) zero h = omega arith
  own_within (p ∷ ps) (suc q) h = omega (arith, own_within ps q h)

  pub own_read : (ps : List (Page V)) (q : ℕ) (p : Page V) → get_or (map is_own ps) q false ≡ true → p ≡ get_or ps q p → is_own p ≡ true
  own_read ps q p h e = ap is_own (get_or_read ps q p (own_within ps q h) e absent) ∙ sym (read-map is_own ps q absent) ∙ h

  pub own_here : (ps : List (Page V)) (q : ℕ) (p : Page V) → q < length ps → is_own p ≡ true → get_or (map is_own (set ps q p)) q false ≡ true
  own_here [] q p lt h = absurd (omega arith)
  own_here (r ∷ ps) zero p lt h = h
  own_here (r ∷ ps) (suc q) p lt h = own_here ps q p (omega arith) h

  -- ---- the slots of blocks

  length-all_slots : (bs : List (Block V)) → length (all_slots bs) ≡ 4096 * length bs
  unfolding all_slots
  length-all_slots bs = length-grid 4096 slots_in bs

  read_blocks : (bs : List (Block V)) (k : ℕ) → get_or (all_slots bs) k Empty ≡ get_or (slots_in (get_or bs (k / 4096) absent)) (k % 4096) Empty
  unfolding all_slots
  read_blocks bs k =
      let at : k ≡ 4096 * (k / 4096) + k % 4096 = omega arith in
      ap (λ m. get_or (joined 4096 (map slots_in bs)) m Empty) at ∙ read_grid 4096 slots_in absent slots_of_none bs (k / 4096) (k % 4096) (omega arith)

  module _ (bs : List (Block V)) (k : ℕ) (b : Block V) (within : k / 4096 < length bs) (e : b ≡ get_or bs (k / 4096) b) where
    pub in_blocks : k < length (all_slots bs)
    in_blocks = omega (arith, length-all_slots bs)

    pub stood_blocks : (s : Slot V) → k % 4096 < length (slots_in b) → s ≡ get_or (slots_in b) (k % 4096) s → s ≡ get_or (all_slots bs) k s
    unfolding all_slots
    stood_blocks s in_row is =
        let at : 4096 * (k / 4096) + k % 4096 ≡ k = omega arith in
        stood_grid 4096 slots_in bs (k / 4096) (k % 4096) b (omega arith) within e s in_row is (omega (arith, in_blocks))
        ∙ ap (λ m. get_or (joined 4096 (map slots_in bs)) m s) at

    pub put_blocks : (b' : Block V) (s : Slot V) → k % 4096 < length (slots_in b) → slots_in b' ≡ set (slots_in b) (k % 4096) s
        → all_slots (set bs (k / 4096) b') ≡ set (all_slots bs) k s
    unfolding all_slots
    put_blocks b' s in_row is =
        let at : 4096 * (k / 4096) + k % 4096 ≡ k = omega arith in
        put_grid 4096 slots_in bs (k / 4096) (k % 4096) b (omega arith) within e b' s in_row is ∙ ap (λ m. set (joined 4096 (map slots_in bs)) m s) at

    pub value_in_block : finite.get (values_of bs) k ≡ value_of (get_or (slots_in b) (k % 4096) Empty)
    value_in_block =
        get-map_of (all_slots bs) k
        ∙ ap value_of (read_blocks bs k ∙ ap (λ (z : Block V). get_or (slots_in z) (k % 4096) Empty) (sym (get_or_read bs (k / 4096) b within e absent)))

  pub value_past : (bs : List (Block V)) (k : ℕ) → length bs ≤ k / 4096 → finite.get (values_of bs) k ≡ None
  value_past bs k le =
      get-map_of (all_slots bs) k ∙ ap value_of (get_or_past (all_slots bs) k Empty (omega (arith, length-all_slots bs)))

  pub bound_all : (bs : List (Block V)) → length bs ≤ 2 ^ 51 → length (all_slots bs) < 2 ^ 64
  bound_all bs few = omega (arith, length-all_slots bs)

  values_alike : (rs bs : List (Block V)) → ((q : ℕ) → Alike (slots_in (get_or rs q absent)) (slots_in (get_or bs q absent))) → values_of rs ≡ values_of bs
  values_alike rs bs same =
      finite.same_map nat_cmp_total finite.nat_cmp-IsAntisymmetric _ _
      (λ k. get-map_of (all_slots rs) k ∙ ap value_of (read_blocks rs k ∙ same (k / 4096) (k % 4096) ∙ sym (read_blocks bs k)) ∙ sym (get-map_of (all_slots bs) k))

  pub values_set : (bs : List (Block V)) (q : ℕ) (b b' : Block V) → q < length bs → b ≡ get_or bs q b → Alike (slots_in b') (slots_in b)
      → values_of (set bs q b') ≡ values_of bs
  values_set bs q b b' lt e same =
      values_alike (set bs q b') bs (by_items (λ (x y : Block V). Alike (slots_in y) (slots_in x)) (λ _ _. refl) bs q b b' absent lt e same)

  -- one block more, with no pages
  pub values_push : (bs : List (Block V)) → values_of (bs ++ absent ∷ []) ≡ values_of bs
  values_push bs = values_alike (bs ++ absent ∷ []) bs (λ q k. ap (λ (z : Block V). get_or (slots_in z) k Empty) (get-push bs q absent))

  pub no_values : values_of {V = V} [] ≡ finite.empty
  unfolding all_slots
  no_values = ap map_of (joined_none 4096) ∙ map_of_none

  -- ---- which pages of blocks have their slots to themselves

  own_blocks : (rs bs : List (Block V)) (k : ℕ)
      → (get_or (owns_in (get_or bs (k / 4096) absent)) (k % 4096 / 64) false ≡ true → get_or (owns_in (get_or rs (k / 4096) absent)) (k % 4096 / 64) false ≡ true)
      → is_set (owns bs) k ≡ true → is_set (owns rs) k ≡ true
  own_blocks rs bs k more h =
      ap (λ (z : List Bool). get_or z (k % 4096 / 64) false) (read-map owns_in rs (k / 4096) absent)
      ∙ more (sym (ap (λ (z : List Bool). get_or z (k % 4096 / 64) false) (read-map owns_in bs (k / 4096) absent)) ∙ h)

  pub own_push : (bs : List (Block V)) (k : ℕ) → is_set (owns bs) k ≡ true → is_set (owns (bs ++ absent ∷ [])) k ≡ true
  own_push bs k = own_blocks (bs ++ absent ∷ []) bs k
      (λ h. ap (λ (z : Block V). get_or (owns_in z) (k % 4096 / 64) false) (get-push bs (k / 4096) absent) ∙ h)

  pub own_set : (bs : List (Block V)) (q : ℕ) (b b' : Block V) → q < length bs → b ≡ get_or bs q b
      → ((i : ℕ) → get_or (owns_in b) i false ≡ true → get_or (owns_in b') i false ≡ true) → (k : ℕ) → is_set (owns bs) k ≡ true → is_set (owns (set bs q b')) k ≡ true
  own_set bs q b b' lt e more k = own_blocks (set bs q b') bs k
      (by_items (λ (x y : Block V). (i : ℕ) → get_or (owns_in x) i false ≡ true → get_or (owns_in y) i false ≡ true) (λ _ _ h. h) bs q b b' absent lt e more (k / 4096) (k % 4096 / 64))

  pub own_within_blocks : (bs : List (Block V)) (k : ℕ) → is_set (owns bs) k ≡ true → k / 4096 < length bs
  own_within_blocks bs k h = go (cases_lt (k / 4096) (length bs)) where
    go : (k / 4096 < length bs) ⊎ (length bs ≤ k / 4096) → k / 4096 < length bs
    go (inl lt) = lt
    go (inr le) =
        absurd (cc (sym h ∙ ap (λ (z : List Bool). get_or z (k % 4096 / 64) false) (read-map owns_in bs (k / 4096) absent)
        ∙ ap (λ (z : Block V). get_or (owns_in z) (k % 4096 / 64) false) (get_or_past bs (k / 4096) absent le)))

  pub own_read_blocks : (bs : List (Block V)) (k : ℕ) (b : Block V) → is_set (owns bs) k ≡ true → b ≡ get_or bs (k / 4096) b
      → get_or (owns_in b) (k % 4096 / 64) false ≡ true
  own_read_blocks bs k b h e =
      ap (λ (z : Block V). get_or (owns_in z) (k % 4096 / 64) false) (get_or_read bs (k / 4096) b (own_within_blocks bs k h) e absent)
      ∙ sym (ap (λ (z : List Bool). get_or z (k % 4096 / 64) false) (read-map owns_in bs (k / 4096) absent)) ∙ h

  pub own_here_blocks : (bs : List (Block V)) (k : ℕ) (b : Block V) → k / 4096 < length bs → get_or (owns_in b) (k % 4096 / 64) false ≡ true
      → is_set (owns (set bs (k / 4096) b)) k ≡ true
  own_here_blocks bs k b lt h =
      ap (λ (z : List Bool). get_or z (k % 4096 / 64) false) (read-map owns_in (set bs (k / 4096) b) (k / 4096) absent)
      ∙ ap (λ (z : Block V). get_or (owns_in z) (k % 4096 / 64) false) (get_or-set_same bs (k / 4096) b absent lt) ∙ h

  -- ---- the values with their numbers

  entries_of_pages : (n : ℕ) (ps : List (Page V)) → page_entries n ps ≡ entries_from n (slots_of ps)
  unfolding slots_of
  entries_of_pages n [] = sym (ap (entries_from n) (joined_none 64))
  entries_of_pages n (p ∷ ps) =
      ap (λ z. entries_from n (padded 64 (row_in p)) ++ z) (entries_of_pages (n + 64) ps) ∙ sym (entries-joined 64 n (row_in p) (map row_in ps))

  pub entries_of_block : (n : ℕ) (ps : List (Page V)) → length ps ≤ 64 → page_entries n ps ≡ entries_from n (padded 4096 (slots_of ps))
  entries_of_block n ps le = entries_of_pages n ps ∙ sym (entries-padded 4096 n (slots_of ps) (omega (arith, length-slots_of ps)))

  pub entries_of_all : (n : ℕ) (bs : List (Block V)) → block_entries n bs ≡ entries_from n (all_slots bs)
  unfolding all_slots
  entries_of_all n [] = sym (ap (entries_from n) (joined_none 4096))
  entries_of_all n (b ∷ bs) =
      ap (λ z. entries_from n (padded 4096 (slots_in b)) ++ z) (entries_of_all (n + 4096) bs) ∙ sym (entries-joined 4096 n (slots_in b) (map slots_in bs))

pub no_value_counts : (V : Type 0) → 0 ≡ finite.len (values_of {V = V} [])
no_value_counts V = sym (ap finite.len (no_values {V = V}) ∙ finite.len-empty nat_cmp V)
