-- rows of slots one after the other
use Rattle.std.proofs.Common.{◌≡◌, ℕ, zero, suc, ◌+◌, ◌-◌, ◌*◌, ◌<◌, ◌≤◌, List, [], ◌∷◌, ◌++◌, length, get_or, set, map, refl, sym, ap, subst, ◌∙◌, arith}
use Rattle.std.proofs.lemmas.List.{length-append, length-map, map-set, get_or_append_left, get_or-append_right, get_or_default, get_or_read, set-append_left, set-append_right}
use Rattle.tree_stores.specs.declared.slots.slot.Slot.{Slot}
use Rattle.tree_stores.specs.declared.slots.slot.Slot.TheVariants.{Empty, Filled}
use Rattle.tree_stores.specs.Slots.{entries_from}
use Rattle.tree_stores.specs.Pages.{padded, joined}

-- what stands at a place, by a function of what does
pub read-map : {X Y : Type 0} (f : X → Y) (xs : List X) (q : ℕ) (d : X) → get_or (map f xs) q (f d) ≡ f (get_or xs q d)
read-map f [] q d = refl
read-map f (x ∷ xs) zero d = refl
read-map f (x ∷ xs) (suc q) d = read-map f xs q d

-- where one item is replaced by one that is related to it, so is each
pub by_items : {X : Type 0} (R : X → X → Type 0) → ((y : X) → R y y) → (xs : List X) (q : ℕ) (x x' d : X) → q < length xs → x ≡ get_or xs q x → R x x'
    → (i : ℕ) → R (get_or xs i d) (get_or (set xs q x') i d)
by_items R same [] q x x' d lt e h i = absurd (omega arith)
by_items R same (y ∷ xs) zero x x' d lt e h zero = subst (λ z. R z x') e h
by_items R same (y ∷ xs) zero x x' d lt e h (suc i) = same (get_or xs i d)
by_items R same (y ∷ xs) (suc q) x x' d lt e h zero = same y
by_items R same (y ∷ xs) (suc q) x x' d lt e h (suc i) = by_items R same xs q x x' d (omega arith) e h i

-- where one item is replaced by one of which a function is the same, so it is of all
pub map_stays : {X Y : Type 0} (f : X → Y) (xs : List X) (q : ℕ) (x x' : X) → x ≡ get_or xs q x → f x' ≡ f x → map f (set xs q x') ≡ map f xs
map_stays f [] q x x' e h = refl
map_stays f (y ∷ xs) zero x x' e h = ap (λ z. z ∷ map f xs) (h ∙ ap f e)
map_stays f (y ∷ xs) (suc q) x x' e h = ap (λ zs. f y ∷ zs) (map_stays f xs q x x' e h)

-- one more that stands behind the end anyway
pub get-push : {X : Type 0} (xs : List X) (q : ℕ) (d : X) → get_or (xs ++ d ∷ []) q d ≡ get_or xs q d
get-push [] zero d = refl
get-push [] (suc q) d = refl
get-push (x ∷ xs) zero d = refl
get-push (x ∷ xs) (suc q) d = get-push xs q d

module _ {V : Type 0} where
  length-padded : (n : ℕ) (xs : List (Slot V)) → length (padded n xs) ≡ n
  unfolding padded
  length-padded zero xs = refl
  length-padded (suc n) [] = ap suc (length-padded n [])
  length-padded (suc n) (x ∷ xs) = ap suc (length-padded n xs)

  get-padded : (n k : ℕ) (xs : List (Slot V)) → k < n → get_or (padded n xs) k Empty ≡ get_or xs k Empty
  unfolding padded
  get-padded zero k xs lt = absurd (omega arith)
  get-padded (suc n) zero [] lt = refl
  get-padded (suc n) zero (x ∷ xs) lt = refl
  get-padded (suc n) (suc k) [] lt = get-padded n k [] (omega arith)
  get-padded (suc n) (suc k) (x ∷ xs) lt = get-padded n k xs (omega arith)

  set-padded : (n k : ℕ) (xs : List (Slot V)) (s : Slot V) → k < n → k < length xs → padded n (set xs k s) ≡ set (padded n xs) k s
  unfolding padded
  set-padded zero k xs s lt in_xs = absurd (omega arith)
  set-padded (suc n) k [] s lt in_xs = absurd (omega arith)
  set-padded (suc n) zero (x ∷ xs) s lt in_xs = refl
  set-padded (suc n) (suc k) (x ∷ xs) s lt in_xs = ap (λ z. x ∷ z) (set-padded n k xs s (omega arith) (omega arith))

  pub length-joined : (n : ℕ) (rows : List (List (Slot V))) → length (joined n rows) ≡ n * length rows
  unfolding joined
  length-joined n [] = omega arith
  length-joined n (row ∷ rows) = omega (arith, length-append (padded n row) (joined n rows), length-padded n row, length-joined n rows)

  pub get-joined : (n q k : ℕ) (rows : List (List (Slot V))) → k < n → get_or (joined n rows) (n * q + k) Empty ≡ get_or (get_or rows q []) k Empty
  unfolding joined
  get-joined n q k [] lt = refl
  get-joined n zero k (row ∷ rows) lt =
      let at : n * 0 + k ≡ k = omega arith in
      ap (λ m. get_or (padded n row ++ joined n rows) m Empty) at
      ∙ get_or_append_left (padded n row) (joined n rows) Empty k (omega (arith, length-padded n row)) ∙ get-padded n k row lt
  get-joined n (suc q) k (row ∷ rows) lt =
      let at : n * suc q + k - n ≡ n * q + k = omega arith in
      get_or-append_right (padded n row) (joined n rows) n (n * suc q + k) Empty (length-padded n row) (omega arith)
      ∙ ap (λ m. get_or (joined n rows) m Empty) at ∙ get-joined n q k rows lt

  pub set-joined : (n q k : ℕ) (rows : List (List (Slot V))) (row : List (Slot V)) (s : Slot V) → k < n → q < length rows → k < length row
      → row ≡ get_or rows q row → joined n (set rows q (set row k s)) ≡ set (joined n rows) (n * q + k) s
  unfolding joined
  set-joined n q k [] row s lt in_rows in_row e = absurd (omega arith)
  set-joined n zero k (r ∷ rows) row s lt in_rows in_row e =
      let at : k ≡ n * 0 + k = omega arith in
      ap (λ z. padded n (set z k s) ++ joined n rows) e
      ∙ ap (λ z. z ++ joined n rows) (set-padded n k r s lt (omega (arith, ap length e)))
      ∙ sym (set-append_left (padded n r) (joined n rows) k s (omega (arith, length-padded n r)))
      ∙ ap (λ m. set (padded n r ++ joined n rows) m s) at
  set-joined n (suc q) k (r ∷ rows) row s lt in_rows in_row e =
      let at : n * q + k ≡ n * suc q + k - n = omega arith in
      ap (λ z. padded n r ++ z) (set-joined n q k rows row s lt (omega arith) in_row e ∙ ap (λ m. set (joined n rows) m s) at)
      ∙ sym (set-append_right (padded n r) (joined n rows) n (n * suc q + k) s (length-padded n r) (omega arith))

  -- ---- the values with their numbers

  entries-append : (n : ℕ) (xs ys : List (Slot V)) → entries_from n (xs ++ ys) ≡ entries_from n xs ++ entries_from (n + length xs) ys
  entries-append n [] ys = ap (λ m. entries_from m ys) (omega arith)
  entries-append n (Empty ∷ xs) ys =
      let at : n + 1 + length xs ≡ n + suc (length xs) = omega arith in
      entries-append (n + 1) xs ys ∙ ap (λ m. entries_from (n + 1) xs ++ entries_from m ys) at
  entries-append n (Filled b ∷ xs) ys =
      let at : n + 1 + length xs ≡ n + suc (length xs) = omega arith in
      ap (λ z. (n, b) ∷ z) (entries-append (n + 1) xs ys ∙ ap (λ m. entries_from (n + 1) xs ++ entries_from m ys) at)

  -- those of the slots that are there
  pub entries-padded : (w n : ℕ) (xs : List (Slot V)) → length xs ≤ w → entries_from n (padded w xs) ≡ entries_from n xs
  unfolding padded
  entries-padded zero n [] le = refl
  entries-padded zero n (x ∷ xs) le = absurd (omega arith)
  entries-padded (suc w) n [] le = entries-padded w (n + 1) [] (omega arith)
  entries-padded (suc w) n (Empty ∷ xs) le = entries-padded w (n + 1) xs (omega arith)
  entries-padded (suc w) n (Filled b ∷ xs) le = ap (λ z. (n, b) ∷ z) (entries-padded w (n + 1) xs (omega arith))

  -- those of one row, and then of the others
  pub entries-joined : (w n : ℕ) (row : List (Slot V)) (rows : List (List (Slot V)))
      → entries_from n (joined w (row ∷ rows)) ≡ entries_from n (padded w row) ++ entries_from (n + w) (joined w rows)
  unfolding joined
  entries-joined w n row rows =
      entries-append n (padded w row) (joined w rows) ∙ ap (λ m. entries_from n (padded w row) ++ entries_from (n + m) (joined w rows)) (length-padded w row)

  pub joined_none : (w : ℕ) → joined {V = V} w [] ≡ []
  unfolding joined
  joined_none w = refl

-- ---- what stands one row after the other, by the items that have the rows

module _ {X V : Type 0} (w : ℕ) (f : X → List (Slot V)) where
  pub length-grid : (xs : List X) → length (joined w (map f xs)) ≡ w * length xs
  length-grid xs = length-joined w (map f xs) ∙ ap (λ n. w * n) (length-map xs f)

  pub read_grid : (d : X) → f d ≡ [] → (xs : List X) (q k : ℕ) → k < w → get_or (joined w (map f xs)) (w * q + k) Empty ≡ get_or (f (get_or xs q d)) k Empty
  read_grid d none xs q k lt =
      get-joined w q k (map f xs) lt ∙ ap (λ z. get_or z k Empty) (ap (get_or (map f xs) q) (sym none) ∙ read-map f xs q d)

  module _ (xs : List X) (q k : ℕ) (x : X) (lt : k < w) (within : q < length xs) (e : x ≡ get_or xs q x) where
    pub put_grid : (x' : X) (s : Slot V) → k < length (f x) → f x' ≡ set (f x) k s → joined w (map f (set xs q x')) ≡ set (joined w (map f xs)) (w * q + k) s
    put_grid x' s in_row is =
        ap (joined w) (map-set f xs q x' ∙ ap (set (map f xs) q) is)
        ∙ set-joined w q k (map f xs) (f x) s lt (omega (arith, length-map xs f)) in_row (ap f e ∙ sym (read-map f xs q x))

    pub stood_grid : (s : Slot V) → k < length (f x) → s ≡ get_or (f x) k s → k + w * q < length (joined w (map f xs)) → s ≡ get_or (joined w (map f xs)) (w * q + k) s
    stood_grid s in_row is in_all =
        get_or_read (f x) k s in_row is Empty ∙ ap (λ z. get_or (f z) k Empty) e
        ∙ sym (get-joined w q k (map f xs) lt ∙ ap (λ z. get_or z k Empty) (get_or_default (map f xs) q [] (f x) (omega (arith, length-map xs f)) ∙ read-map f xs q x))
        ∙ get_or_default (joined w (map f xs)) (w * q + k) Empty s (omega arith)
