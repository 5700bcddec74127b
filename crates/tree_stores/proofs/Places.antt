-- lists of bytes as functions of their places: what is cut, written and listed
use Rattle.std.proofs.Common.{◌≡◌, ℕ, ◌+◌, ◌-◌, ◌<◌, ◌≤◌, ◌⊎◌, inl, inr, ⊎_elim, cond, ltb, leb, List, [], ◌++◌, length, get_or, take, drop, replicate, refl, sym, ap, ◌∙◌, arith}
use Rattle.std.specs.Prelude.{max, slice_index}
use Rattle.std.proofs.lemmas.Bool.{cases_lt, cond-true, cond-false, lt-ltb, le-ltb, le-leb, lt-leb, and_from, and_left, and_right}
use Rattle.std.proofs.lemmas.List.{length-take, length-drop, length-append, length-replicate, get_or-replicate, get_or-take, get_or-drop, get_or_append_left, get_or-append_right, get_or_past, drop_all, append-nil}
use Rattle.std.proofs.lemmas.List.FromFn.{length-map-range_with_len, get_or-map-range_with_len, fill_by_all}
use Rattle.tree_stores.specs.Files.{resized, written}
use Rattle.nfs3_types.specs.Limits.{file_limit}
use Rattle.tree_stores.specs.Paged.{listed, overwritten, cut, IsFile}

-- functions that are equal at each place are equal
pub by_places : (f g : ℕ → ℕ) → ((i : ℕ) → f i ≡ g i) → f ≡ g
by_places f g h = λ k i. h i k

pub at_place : (f g : ℕ → ℕ) → f ≡ g → (i : ℕ) → f i ≡ g i
at_place f g e i = λ k. e k i

-- ---- tests

pub below : (i n a b : ℕ) → i < n → cond (ltb i n) a b ≡ a
below i n a b h = cond-true (ltb i n) a b (lt-ltb i n h)

pub above : (i n a b : ℕ) → n ≤ i → cond (ltb i n) a b ≡ b
above i n a b h = cond-false (ltb i n) a b (le-ltb i n h)

-- ---- bytes cut or filled to a size

pub length-resized : (xs : List ℕ) (n : ℕ) → length (resized xs n) ≡ n
length-resized xs n = simp (length-append, length-take, length-replicate) (omega arith)

pub zeros : (n i : ℕ) → ◌≡◌ {A = ℕ} (get_or (replicate n 0) i 0) 0
zeros n i = ⊎_elim (λ h. get_or-replicate n i 0 0 h) (λ h. get_or_past (replicate n 0) i 0 (omega (arith, length-replicate {A = ℕ} n 0))) (cases_lt i n)

pub resized_below : (xs : List ℕ) (n i : ℕ) → i < n → get_or (resized xs n) i 0 ≡ get_or xs i 0
resized_below xs n i h = go (cases_lt i (length xs)) where
  go : (i < length xs) ⊎ (length xs ≤ i) → get_or (resized xs n) i 0 ≡ get_or xs i 0
  go (inl k) = get_or_append_left (take n xs) (replicate (n - length xs) 0) 0 i (omega (arith, length-take n xs)) ∙ get_or-take n xs i 0 h
  go (inr k) = get_or-append_right (take n xs) (replicate (n - length xs) 0) (length xs) i 0 (omega (arith, length-take n xs)) k ∙ zeros (n - length xs) (i - length xs) ∙ sym (get_or_past xs i 0 k)

-- ---- bytes at an offset

pub length-written : (xs : List ℕ) (offset : ℕ) (added : List ℕ) → length (written xs offset added) ≡ max (length xs) (offset + length added)
length-written xs offset added = simp (length-append, length-drop, length-take, length-replicate) (omega arith)

-- the bytes written, with those ahead of them
length_until : (xs : List ℕ) (offset : ℕ) (added : List ℕ) → length (resized xs offset ++ added) ≡ offset + length added
length_until xs offset added = length-append (resized xs offset) added ∙ ap (λ (n : ℕ). n + length added) (length-resized xs offset)

pub written_ahead : (xs : List ℕ) (offset : ℕ) (added : List ℕ) (i : ℕ) → i < offset → get_or (written xs offset added) i 0 ≡ get_or xs i 0
written_ahead xs offset added i h =
    get_or_append_left (resized xs offset ++ added) (drop (offset + length added) xs) 0 i (omega (arith, length_until xs offset added))
    ∙ get_or_append_left (resized xs offset) added 0 i (omega (arith, length-resized xs offset)) ∙ resized_below xs offset i h

pub written_added : (xs : List ℕ) (offset : ℕ) (added : List ℕ) (i : ℕ) → offset ≤ i → i < offset + length added → get_or (written xs offset added) i 0 ≡ get_or added (i - offset) 0
written_added xs offset added i h k =
    get_or_append_left (resized xs offset ++ added) (drop (offset + length added) xs) 0 i (omega (arith, length_until xs offset added))
    ∙ get_or-append_right (resized xs offset) added offset i 0 (length-resized xs offset) h

pub written_behind : (xs : List ℕ) (offset : ℕ) (added : List ℕ) (i : ℕ) → offset + length added ≤ i → get_or (written xs offset added) i 0 ≡ get_or xs i 0
written_behind xs offset added i h =
    let end = offset + length added in
    get_or-append_right (resized xs offset ++ added) (drop end xs) end i 0 (length_until xs offset added) h
    ∙ get_or-drop end xs (i - end) 0 ∙ ap (λ (j : ℕ). get_or xs j 0) (omega arith)

-- bytes written to an empty file
pub written_alone : (added : List ℕ) → written [] 0 added ≡ added
written_alone added = ap (λ (xs : List ℕ). added ++ xs) (drop_all (0 + length added) [] (omega arith)) ∙ append-nil added

-- ---- the same as functions

pub over_ahead : (f : ℕ → ℕ) (offset : ℕ) (added : List ℕ) (i : ℕ) → i < offset → overwritten f offset added i ≡ f i
unfolding overwritten
over_ahead f offset added i h = cond-false _ _ (f i) (and_left (leb offset i) (ltb i (offset + length added)) (lt-leb offset i h))

pub over_added : (f : ℕ → ℕ) (offset : ℕ) (added : List ℕ) (i : ℕ) → offset ≤ i → i < offset + length added → overwritten f offset added i ≡ get_or added (i - offset) 0
unfolding overwritten
over_added f offset added i h k = cond-true _ (get_or added (i - offset) 0) _ (and_from (leb offset i) (ltb i (offset + length added)) (le-leb offset i h) (lt-ltb i (offset + length added) k))

pub over_behind : (f : ℕ → ℕ) (offset : ℕ) (added : List ℕ) (i : ℕ) → offset + length added ≤ i → overwritten f offset added i ≡ f i
unfolding overwritten
over_behind f offset added i h = cond-false _ _ (f i) (and_right (leb offset i) (ltb i (offset + length added)) (le-ltb i (offset + length added) h))

pub cut_below : (f : ℕ → ℕ) (size i : ℕ) → i < size → cut f size i ≡ f i
unfolding cut
cut_below f size i h = below i size (f i) 0 h

pub cut_above : (f : ℕ → ℕ) (size i : ℕ) → size ≤ i → cut f size i ≡ 0
unfolding cut
cut_above f size i h = above i size (f i) 0 h

pub read_resized : (xs : List ℕ) (n : ℕ) → slice_index (resized xs n) ≡ cut (slice_index xs) n
read_resized xs n = by_places (slice_index (resized xs n)) (cut (slice_index xs) n) (λ i. go i (cases_lt i n)) where
  go : (i : ℕ) → (i < n) ⊎ (n ≤ i) → get_or (resized xs n) i 0 ≡ cut (slice_index xs) n i
  go i (inl h) = resized_below xs n i h ∙ sym (cut_below (slice_index xs) n i h)
  go i (inr h) = get_or_past (resized xs n) i 0 (omega (arith, length-resized xs n)) ∙ sym (cut_above (slice_index xs) n i h)

pub read_written : (xs : List ℕ) (offset : ℕ) (added : List ℕ) → slice_index (written xs offset added) ≡ overwritten (slice_index xs) offset added
read_written xs offset added =
    by_places (slice_index (written xs offset added)) (overwritten (slice_index xs) offset added) (λ i. go i (cases_lt i offset) (cases_lt i (offset + length added))) where
      go : (i : ℕ) → (i < offset) ⊎ (offset ≤ i) → (i < offset + length added) ⊎ (offset + length added ≤ i) → get_or (written xs offset added) i 0 ≡ overwritten (slice_index xs) offset added i
      go i (inl h) _ = written_ahead xs offset added i h ∙ sym (over_ahead (slice_index xs) offset added i h)
      go i (inr h) (inl k) = written_added xs offset added i h k ∙ sym (over_added (slice_index xs) offset added i h k)
      go i (inr h) (inr k) = written_behind xs offset added i k ∙ sym (over_behind (slice_index xs) offset added i k)

-- ---- bytes listed

pub length-listed : (f : ℕ → ℕ) (n : ℕ) → length (listed f n) ≡ n
unfolding listed
length-listed f n = length-map-range_with_len f 0 n

pub read_listed : (f : ℕ → ℕ) (n i : ℕ) → i < n → get_or (listed f n) i 0 ≡ f i
unfolding listed
read_listed f n i h = get_or-map-range_with_len f 0 n i i 0 h (omega arith)

-- a list is listed by its places
pub listed_again : (xs : List ℕ) (n : ℕ) → length xs ≡ n → listed (slice_index xs) n ≡ xs
unfolding listed
listed_again xs n e = sym (fill_by_all (λ i. get_or xs i 0) xs n 0 e (λ k h. refl))

-- ---- a file: its bytes below the size, and zeros behind it

pub read_file : (f : ℕ → ℕ) (size : ℕ) → IsFile f size → slice_index (listed f size) ≡ f
read_file f size file = by_places (slice_index (listed f size)) f (λ i. go i (cases_lt i size)) where
  go : (i : ℕ) → (i < size) ⊎ (size ≤ i) → get_or (listed f size) i 0 ≡ f i
  go i (inl h) = read_listed f size i h
  go i (inr h) = get_or_past (listed f size) i 0 (omega (arith, length-listed f size)) ∙ sym (file.ended i h)

-- what stands in a list is a file of its length
pub file_of : (f : ℕ → ℕ) (size : ℕ) (xs : List ℕ) → length xs ≡ size → size ≤ file_limit → f ≡ slice_index xs → IsFile f size
file_of f size xs n fits e = record { limit = fits; ended = λ i h. at_place f (slice_index xs) e i ∙ get_or_past xs i 0 (omega arith) }

pub list_of : (f : ℕ → ℕ) (size : ℕ) (xs : List ℕ) → length xs ≡ size → f ≡ slice_index xs → listed f size ≡ xs
list_of f size xs n e = ap (λ (g : ℕ → ℕ). listed g size) e ∙ listed_again xs size n
