-- a write and a cut, page by page
use Rattle.std.proofs.Common.{◌≡◌, ℕ, ◌+◌, ◌-◌, ◌*◌, ◌/◌, ◌%◌, ◌<◌, ◌≤◌, ◌⊎◌, inl, inr, Bool, true, false, cond, eqb, ltb, leb, List, [], ◌∷◌, ◌++◌, length, get_or, take, drop, map, Option, Some, None, refl, sym, ap, ◌∙◌, arith, min}
use Rattle.std.specs.Prelude.{◌&&◌, unwrap_or}
use Rattle.std.specs.Ordering.{is_eq, nat_cmp}
use Rattle.std.specs.BTreeMap as tree
use Rattle.std.specs.BTreeMap.{BTreeMap, is_at}
use Rattle.std.specs.BTreeMap.Range.{range_contains, entries_between}
use Rattle.std.specs.declared.ops.Bound.TheVariants.{Included, Unbounded}
use Rattle.std.specs.Map.{lookup}
use Rattle.std.proofs.lemmas.Bool.{cases_lt, cases_eq, cases_Bool, cond-true, cond-false, eq-eqb, ne_eqb, eqb-true, le-leb, lt-leb, lt-ltb, le-ltb, and_from, and_left, and_right}
use Rattle.std.proofs.lemmas.Bool.Decides.{nat_tests}
use Rattle.std.proofs.lemmas.List.{length-take, length-drop, get_or-take, get_or-drop, get_or_past, take_min, drop_all}
use Rattle.std.proofs.lemmas.Slice.{between_is}
use Rattle.std.proofs.lemmas.Map.Entries.{lookup-filter-keys}
use Rattle.tree_stores.specs.declared.file_bytes.page.TheConstants.{PAGE}
use Rattle.tree_stores.specs.declared.file_bytes.pages.Pages.{Pages}
use Rattle.tree_stores.specs.declared.file_bytes.changes.Change.{Change}
use Rattle.tree_stores.specs.Files.{written}
use Rattle.tree_stores.specs.Paged.{page_of, byte_of, changed, overwritten, first_cut, cut}
use Rattle.tree_stores.proofs.Places.{by_places, written_ahead, written_added, written_behind, over_ahead, over_added, over_behind, cut_below, cut_above}
use Rattle.tree_stores.proofs.Paging.{at_number, changed_append}

-- ---- one page

on_page : (g : ℕ → ℕ) (number : ℕ) (page : List ℕ) (i : ℕ) → number ≡ i / PAGE → changed (at_number number page) g i ≡ get_or page (i % PAGE) 0
on_page g number page i e = cond-true (eqb number (i / PAGE)) (get_or page (i % PAGE) 0) (g i) (eq-eqb number (i / PAGE) e)

off_page : (g : ℕ → ℕ) (number : ℕ) (page : List ℕ) (i : ℕ) → (number ≡ i / PAGE → ⊥) → changed (at_number number page) g i ≡ g i
off_page g number page i ne = cond-false (eqb number (i / PAGE)) (get_or page (i % PAGE) 0) (g i) (ne_eqb number (i / PAGE) ne)

pub byte_at : (pages : Pages) (i number : ℕ) → number ≡ i / PAGE → get_or (page_of pages number) (i % PAGE) 0 ≡ byte_of pages i
unfolding byte_of
byte_at pages i number e = ap (λ (n : ℕ). get_or (page_of pages n) (i % PAGE) 0) e

-- ---- one function in the place of another, from one place up to another

unfoldable pub between : ℕ → ℕ → (ℕ → ℕ) → (ℕ → ℕ) → ℕ → ℕ
between lo hi h g i = cond (leb lo i && ltb i hi) (h i) (g i)

between_in : (lo hi : ℕ) (h g : ℕ → ℕ) (i : ℕ) → lo ≤ i → i < hi → between lo hi h g i ≡ h i
unfolding between
between_in lo hi h g i p q = cond-true (leb lo i && ltb i hi) (h i) (g i) (and_from (leb lo i) (ltb i hi) (le-leb lo i p) (lt-ltb i hi q))

between_below : (lo hi : ℕ) (h g : ℕ → ℕ) (i : ℕ) → i < lo → between lo hi h g i ≡ g i
unfolding between
between_below lo hi h g i p = cond-false (leb lo i && ltb i hi) (h i) (g i) (and_left (leb lo i) (ltb i hi) (lt-leb lo i p))

between_above : (lo hi : ℕ) (h g : ℕ → ℕ) (i : ℕ) → hi ≤ i → between lo hi h g i ≡ g i
unfolding between
between_above lo hi h g i p = cond-false (leb lo i && ltb i hi) (h i) (g i) (and_right (leb lo i) (ltb i hi) (le-ltb i hi p))

-- ---- a write

-- the bytes that fall on the page that begins at `start`
abbrev pub piece_of : List ℕ → ℕ → ℕ → List ℕ
piece_of bytes offset start = drop (start - offset) (take (start + PAGE - offset) bytes)

-- what a slice within the bytes gives
pub piece_is : (bytes : List ℕ) (a b : ℕ) → take (min b (length bytes) - min a (length bytes)) (drop (min a (length bytes)) bytes) ≡ drop a (take b bytes)
piece_is bytes a b =
    between_is bytes (min a (length bytes)) (min b (length bytes)) ∙ ap (λ (xs : List ℕ). drop (min a (length bytes)) xs) (take_min b bytes) ∙ go (cases_lt a (length bytes)) where
      go : (a < length bytes) ⊎ (length bytes ≤ a) → drop (min a (length bytes)) (take b bytes) ≡ drop a (take b bytes)
      go (inl h) = ap (λ (n : ℕ). drop n (take b bytes)) (omega arith)
      go (inr h) = drop_all (min a (length bytes)) (take b bytes) (omega (arith, length-take b bytes)) ∙ sym (drop_all a (take b bytes) (omega (arith, length-take b bytes)))

-- a place of a page that is written
page_read : (f : ℕ → ℕ) (stored added : List ℕ) (offset start j : ℕ) → j < PAGE → get_or stored j 0 ≡ f (start + j)
    → get_or (written stored (offset - start) (piece_of added offset start)) j 0 ≡ overwritten f offset added (start + j)
page_read f stored added offset start j within same = go (cases_lt (start + j) offset) (cases_lt (start + j) (offset + length added)) where
  go : (start + j < offset) ⊎ (offset ≤ start + j) → (start + j < offset + length added) ⊎ (offset + length added ≤ start + j)
      → get_or (written stored (offset - start) (piece_of added offset start)) j 0 ≡ overwritten f offset added (start + j)
  go (inl h) _ = written_ahead stored (offset - start) (piece_of added offset start) j (omega arith) ∙ same ∙ sym (over_ahead f offset added (start + j) h)
  go (inr h) (inl k) =
      written_added stored (offset - start) (piece_of added offset start) j (omega arith)
      (omega (arith, length-drop (start - offset) (take (start + PAGE - offset) added), length-take (start + PAGE - offset) added))
      ∙ get_or-drop (start - offset) (take (start + PAGE - offset) added) (j - (offset - start)) 0
      ∙ get_or-take (start + PAGE - offset) added (start - offset + (j - (offset - start))) 0 (omega arith)
      ∙ ap (λ (n : ℕ). get_or added n 0) (omega arith)
      ∙ sym (over_added f offset added (start + j) h k)
  go (inr h) (inr k) =
      written_behind stored (offset - start) (piece_of added offset start) j
      (omega (arith, length-drop (start - offset) (take (start + PAGE - offset) added), length-take (start + PAGE - offset) added))
      ∙ same ∙ sym (over_behind f offset added (start + j) k)

pub written_none : (lo : ℕ) (h g : ℕ → ℕ) → changed [] g ≡ between lo lo h g
written_none lo h g = by_places (changed [] g) (between lo lo h g) (λ i. go i (cases_lt i lo)) where
  go : (i : ℕ) → (i < lo) ⊎ (lo ≤ i) → g i ≡ between lo lo h g i
  go i (inl p) = sym (between_below lo lo h g i p)
  go i (inr p) = sym (between_above lo lo h g i p)

-- one function more up to a later place
between_more : (lo mid hi : ℕ) (h k g : ℕ → ℕ) → lo ≤ mid → mid ≤ hi → ((i : ℕ) → i < mid → k i ≡ g i) → ((i : ℕ) → mid ≤ i → i < hi → k i ≡ h i) → ((i : ℕ) → hi ≤ i → k i ≡ g i)
    → between lo mid h k ≡ between lo hi h g
between_more lo mid hi h k g low high ahead within behind = by_places (between lo mid h k) (between lo hi h g) (λ i. go i (cases_lt i lo) (cases_lt i mid) (cases_lt i hi)) where
  go : (i : ℕ) → (i < lo) ⊎ (lo ≤ i) → (i < mid) ⊎ (mid ≤ i) → (i < hi) ⊎ (hi ≤ i) → between lo mid h k i ≡ between lo hi h g i
  go i (inl p) _ _ = between_below lo mid h k i p ∙ ahead i (omega arith) ∙ sym (between_below lo hi h g i p)
  go i (inr p) (inl q) _ = between_in lo mid h k i p q ∙ sym (between_in lo hi h g i p (omega arith))
  go i (inr p) (inr q) (inl r) = between_above lo mid h k i q ∙ within i q r ∙ sym (between_in lo hi h g i p r)
  go i (inr p) (inr q) (inr r) = between_above lo mid h k i q ∙ behind i r ∙ sym (between_above lo hi h g i r)

-- the page at hand
page_written : (pages : Pages) (offset : ℕ) (added stored : List ℕ) (number : ℕ) (g : ℕ → ℕ) → stored ≡ page_of pages number
    → (i : ℕ) → number * PAGE ≤ i → i < (number + 1) * PAGE
    → changed (at_number number (written stored (offset - number * PAGE) (piece_of added offset (number * PAGE)))) g i ≡ overwritten (byte_of pages) offset added i
page_written pages offset added stored number g e i p q =
    let here : number ≡ i / PAGE = omega arith in
    let within : i % PAGE < PAGE = omega arith in
    let place : number * PAGE + i % PAGE ≡ i = omega arith in
    on_page g number (written stored (offset - number * PAGE) (piece_of added offset (number * PAGE))) i here
    ∙ page_read (byte_of pages) stored added offset (number * PAGE) (i % PAGE) within
    (ap (λ (s : List ℕ). get_or s (i % PAGE) 0) e ∙ byte_at pages i number here ∙ ap (byte_of pages) (sym place))
    ∙ ap (overwritten (byte_of pages) offset added) place

-- the pages so far are the write's up to the page at hand, and with that page up to the next
pub written_more : (pages : Pages) (offset : ℕ) (added stored : List ℕ) (number lo : ℕ) (cs : List Change) → stored ≡ page_of pages number → lo ≤ number * PAGE
    → ((g : ℕ → ℕ) → changed cs g ≡ between lo (number * PAGE) (overwritten (byte_of pages) offset added) g)
    → (g : ℕ → ℕ) → changed (cs ++ at_number number (written stored (offset - number * PAGE) (piece_of added offset (number * PAGE)))) g
    ≡ between lo ((number + 1) * PAGE) (overwritten (byte_of pages) offset added) g
written_more pages offset added stored number lo cs e low so_far g =
    let page = written stored (offset - number * PAGE) (piece_of added offset (number * PAGE)) in
    changed_append cs (at_number number page) g ∙ so_far (changed (at_number number page) g)
    ∙ between_more lo (number * PAGE) ((number + 1) * PAGE) (overwritten (byte_of pages) offset added) (changed (at_number number page) g) g low (omega arith)
    (λ i p. off_page g number page i (λ here. omega arith))
    (page_written pages offset added stored number g e)
    (λ i p. off_page g number page i (λ here. omega arith))

pub written_all : (pages : Pages) (offset : ℕ) (added : List ℕ) (lo hi : ℕ) (cs : List Change) → lo ≤ offset → offset + length added ≤ hi
    → ((g : ℕ → ℕ) → changed cs g ≡ between lo hi (overwritten (byte_of pages) offset added) g)
    → changed cs (byte_of pages) ≡ overwritten (byte_of pages) offset added
written_all pages offset added lo hi cs low high all =
    all (byte_of pages) ∙ by_places (between lo hi (overwritten (byte_of pages) offset added) (byte_of pages)) (overwritten (byte_of pages) offset added) (λ i. go i (cases_lt i lo) (cases_lt i hi)) where
      go : (i : ℕ) → (i < lo) ⊎ (lo ≤ i) → (i < hi) ⊎ (hi ≤ i) → between lo hi (overwritten (byte_of pages) offset added) (byte_of pages) i ≡ overwritten (byte_of pages) offset added i
      go i (inl p) _ = between_below lo hi (overwritten (byte_of pages) offset added) (byte_of pages) i p ∙ sym (over_ahead (byte_of pages) offset added i (omega arith))
      go i (inr p) (inl q) = between_in lo hi (overwritten (byte_of pages) offset added) (byte_of pages) i p q
      go i (inr p) (inr q) = between_above lo hi (overwritten (byte_of pages) offset added) (byte_of pages) i q ∙ sym (over_behind (byte_of pages) offset added i (omega arith))

-- ---- a cut

-- an entry whose page is cut
abbrev pub cut_entry : ℕ → ℕ × List ℕ → Change
cut_entry size e = record { number = e.0; page = take (size - e.0 * PAGE) e.1 }

-- what a place of a cut page reads, where the page is there
abbrev read_cut : ℕ → ℕ → Option (List ℕ) → ℕ → ℕ
read_cut size i None b = b
read_cut size i (Some page) b = get_or (take (size - i / PAGE * PAGE) page) (i % PAGE) 0

same_test : (a b : ℕ) → is_eq (nat_cmp a b) ≡ eqb b a
same_test a b = grind (arith, nat_tests)

changed_cut : (size : ℕ) (es : List (ℕ × List ℕ)) (f : ℕ → ℕ) (i : ℕ) → changed (map (cut_entry size) es) f i ≡ read_cut size i (lookup (is_at (nat_cmp (i / PAGE))) es) (f i)
changed_cut size [] f i = refl
changed_cut size (e ∷ es) f i = go (changed_cut size es f i) (cases_Bool (eqb e.0 (i / PAGE))) where
  go : changed (map (cut_entry size) es) f i ≡ read_cut size i (lookup (is_at (nat_cmp (i / PAGE))) es) (f i)
      → (eqb e.0 (i / PAGE) ≡ true) ⊎ (eqb e.0 (i / PAGE) ≡ false)
      → cond (eqb e.0 (i / PAGE)) (get_or (take (size - e.0 * PAGE) e.1) (i % PAGE) 0) (changed (map (cut_entry size) es) f i)
      ≡ read_cut size i (cond (is_eq (nat_cmp (i / PAGE) e.0)) (Some e.1) (lookup (is_at (nat_cmp (i / PAGE))) es)) (f i)
  go rest (inl h) = rw (same_test (i / PAGE) e.0) (rw h (ap (λ (n : ℕ). get_or (take (size - n * PAGE) e.1) (i % PAGE) 0) (eqb-true e.0 (i / PAGE) h)))
  go rest (inr h) = rw (same_test (i / PAGE) e.0) (rw h rest)

-- the pages from the one that the cut goes through
abbrev pub pages_from : ℕ → List (ℕ × List ℕ) → List (ℕ × List ℕ)
pages_from size es = entries_between nat_cmp (Included (size / PAGE)) Unbounded es

same_key : (q k : ℕ) → is_eq (nat_cmp q k) ≡ true → q ≡ k
same_key q k h = grind (arith, nat_tests)

ahead_of : (size i : ℕ) → range_contains nat_cmp (Included (size / PAGE)) Unbounded (i / PAGE) ≡ false → i < size
ahead_of size i h = grind (arith, nat_tests)

lookup_from : (rest : BTreeMap ℕ (List ℕ)) (size q : ℕ)
    → lookup (is_at (nat_cmp q)) (pages_from size rest.entries) ≡ cond (range_contains nat_cmp (Included (size / PAGE)) Unbounded q) (tree.get nat_cmp rest q) None
lookup_from rest size q =
    lookup-filter-keys (is_at (nat_cmp q)) (range_contains nat_cmp (Included (size / PAGE)) Unbounded) (range_contains nat_cmp (Included (size / PAGE)) Unbounded q)
    (λ k h. ap (range_contains nat_cmp (Included (size / PAGE)) Unbounded) (sym (same_key q k h))) rest.entries

both_zero : (b : Bool) → ◌≡◌ {A = ℕ} 0 (cond b 0 0)
both_zero true = refl
both_zero false = refl

read_page : (size i : ℕ) (o : Option (List ℕ)) → read_cut size i o (get_or (unwrap_or o []) (i % PAGE) 0) ≡ cond (ltb i size) (get_or (unwrap_or o []) (i % PAGE) 0) 0
read_page size i None = both_zero (ltb i size)
read_page size i (Some page) = go (cases_lt i size) where
  go : (i < size) ⊎ (size ≤ i) → get_or (take (size - i / PAGE * PAGE) page) (i % PAGE) 0 ≡ cond (ltb i size) (get_or page (i % PAGE) 0) 0
  go (inl h) = get_or-take (size - i / PAGE * PAGE) page (i % PAGE) 0 (omega arith) ∙ sym (cond-true (ltb i size) (get_or page (i % PAGE) 0) 0 (lt-ltb i size h))
  go (inr h) =
      get_or_past (take (size - i / PAGE * PAGE) page) (i % PAGE) 0 (omega (arith, length-take (size - i / PAGE * PAGE) page))
      ∙ sym (cond-false (ltb i size) (get_or page (i % PAGE) 0) 0 (le-ltb i size h))

-- the pages behind the first, from the one that the cut goes through, at one place
module _ (rest : BTreeMap ℕ (List ℕ)) (size : ℕ) (f : ℕ → ℕ) (i : ℕ) where
  abbrev rest_cut : List Change
  rest_cut = map (cut_entry size) (pages_from size rest.entries)

  abbrev is_reached : Bool
  is_reached = range_contains nat_cmp (Included (size / PAGE)) Unbounded (i / PAGE)

  read_rest : changed rest_cut f i ≡ read_cut size i (cond is_reached (tree.get nat_cmp rest (i / PAGE)) None) (f i)
  read_rest = changed_cut size (pages_from size rest.entries) f i ∙ ap (λ (o : Option (List ℕ)). read_cut size i o (f i)) (lookup_from rest size (i / PAGE))

  not_reached : is_reached ≡ false → changed rest_cut f i ≡ cut f size i
  not_reached h = read_rest ∙ ap (λ (b : Bool). read_cut size i (cond b (tree.get nat_cmp rest (i / PAGE)) None) (f i)) h ∙ sym (cut_below f size i (ahead_of size i h))

  reached : is_reached ≡ true → f i ≡ get_or (unwrap_or (tree.get nat_cmp rest (i / PAGE)) []) (i % PAGE) 0 → changed rest_cut f i ≡ cut f size i
  unfolding cut
  reached h e =
      let page = tree.get nat_cmp rest (i / PAGE) in
      read_rest ∙ ap (λ (b : Bool). read_cut size i (cond b page None) (f i)) h
      ∙ ap (λ (n : ℕ). read_cut size i page n) e ∙ read_page size i page
      ∙ ap (λ (n : ℕ). cond (ltb i size) n 0) (sym e)

-- the first page at one place
first_read : (pages : Pages) (i : ℕ) → i / PAGE ≡ 0 → byte_of pages i ≡ get_or pages.first (i % PAGE) 0
unfolding byte_of
first_read pages i here =
    ap (λ (page : List ℕ). get_or page (i % PAGE) 0) (cond-true (eqb (i / PAGE) 0) pages.first (unwrap_or (tree.get nat_cmp pages.rest (i / PAGE)) []) (eq-eqb (i / PAGE) 0 here))

rest_read : (pages : Pages) (i : ℕ) → (i / PAGE ≡ 0 → ⊥) → byte_of pages i ≡ get_or (unwrap_or (tree.get nat_cmp pages.rest (i / PAGE)) []) (i % PAGE) 0
unfolding byte_of
rest_read pages i ne =
    ap (λ (page : List ℕ). get_or page (i % PAGE) 0) (cond-false (eqb (i / PAGE) 0) pages.first (unwrap_or (tree.get nat_cmp pages.rest (i / PAGE)) []) (ne_eqb (i / PAGE) 0 ne))

cut_within : (pages : Pages) (size i : ℕ) → i / PAGE ≡ 0 → get_or (take size pages.first) (i % PAGE) 0 ≡ cut (byte_of pages) size i
cut_within pages size i here = go (cases_lt i size) where
  go : (i < size) ⊎ (size ≤ i) → get_or (take size pages.first) (i % PAGE) 0 ≡ cut (byte_of pages) size i
  go (inl h) = get_or-take size pages.first (i % PAGE) 0 (omega arith) ∙ sym (first_read pages i here) ∙ sym (cut_below (byte_of pages) size i h)
  go (inr h) = get_or_past (take size pages.first) (i % PAGE) 0 (omega (arith, length-take size pages.first)) ∙ sym (cut_above (byte_of pages) size i h)

from_number : (size q : ℕ) → range_contains nat_cmp (Included (size / PAGE)) Unbounded q ≡ true → size / PAGE ≤ q
from_number size q h = grind (arith, nat_tests)

-- a cut behind the first page changes nothing of it
first_stays : (pages : Pages) (size i : ℕ) → PAGE ≤ size → i / PAGE ≡ 0
    → changed (map (cut_entry size) (pages_from size pages.rest.entries)) (byte_of pages) i ≡ cut (byte_of pages) size i
first_stays pages size i far here = go (cases_Bool (range_contains nat_cmp (Included (size / PAGE)) Unbounded (i / PAGE))) where
  go : (range_contains nat_cmp (Included (size / PAGE)) Unbounded (i / PAGE) ≡ true) ⊎ (range_contains nat_cmp (Included (size / PAGE)) Unbounded (i / PAGE) ≡ false)
      → changed (map (cut_entry size) (pages_from size pages.rest.entries)) (byte_of pages) i ≡ cut (byte_of pages) size i
  go (inl h) = absurd (let low = from_number size (i / PAGE) h in omega arith)
  go (inr h) = not_reached pages.rest size (byte_of pages) i h

rest_changes : (pages : Pages) (size i : ℕ) → (i / PAGE ≡ 0 → ⊥)
    → changed (map (cut_entry size) (pages_from size pages.rest.entries)) (byte_of pages) i ≡ cut (byte_of pages) size i
rest_changes pages size i ne = go (cases_Bool (range_contains nat_cmp (Included (size / PAGE)) Unbounded (i / PAGE))) where
  go : (range_contains nat_cmp (Included (size / PAGE)) Unbounded (i / PAGE) ≡ true) ⊎ (range_contains nat_cmp (Included (size / PAGE)) Unbounded (i / PAGE) ≡ false)
      → changed (map (cut_entry size) (pages_from size pages.rest.entries)) (byte_of pages) i ≡ cut (byte_of pages) size i
  go (inl h) = reached pages.rest size (byte_of pages) i h (rest_read pages i ne)
  go (inr h) = not_reached pages.rest size (byte_of pages) i h

-- the first page, and those behind it from the one that the cut goes through, each cut, are all that a cut changes
pub cut_all : (pages : Pages) (size : ℕ)
    → changed (first_cut size pages.first ++ map (cut_entry size) (pages_from size pages.rest.entries)) (byte_of pages) ≡ cut (byte_of pages) size
cut_all pages size =
    changed_append (first_cut size pages.first) (map (cut_entry size) (pages_from size pages.rest.entries)) (byte_of pages)
    ∙ by_places (changed (first_cut size pages.first) (changed (map (cut_entry size) (pages_from size pages.rest.entries)) (byte_of pages))) (cut (byte_of pages) size)
    (λ i. go i (cases_lt size PAGE) (cases_eq (i / PAGE) 0)) where
      rest : ℕ → ℕ
      rest = changed (map (cut_entry size) (pages_from size pages.rest.entries)) (byte_of pages)

      near : size < PAGE → first_cut size pages.first ≡ at_number 0 (take size pages.first)
      near h = cond-true (ltb size PAGE) (at_number 0 (take size pages.first)) [] (lt-ltb size PAGE h)

      far : PAGE ≤ size → first_cut size pages.first ≡ []
      far h = cond-false (ltb size PAGE) (at_number 0 (take size pages.first)) [] (le-ltb size PAGE h)

      go : (i : ℕ) → (size < PAGE) ⊎ (PAGE ≤ size) → (i / PAGE ≡ 0) ⊎ (i / PAGE ≡ 0 → ⊥)
          → changed (first_cut size pages.first) (changed (map (cut_entry size) (pages_from size pages.rest.entries)) (byte_of pages)) i ≡ cut (byte_of pages) size i
      go i (inl h) (inl here) =
          ap (λ (cs : List Change). changed cs rest i) (near h) ∙ on_page rest 0 (take size pages.first) i (sym here) ∙ cut_within pages size i here
      go i (inl h) (inr ne) =
          ap (λ (cs : List Change). changed cs rest i) (near h) ∙ off_page rest 0 (take size pages.first) i (λ here. ne (sym here)) ∙ rest_changes pages size i ne
      go i (inr h) (inl here) = ap (λ (cs : List Change). changed cs rest i) (far h) ∙ first_stays pages size i h here
      go i (inr h) (inr ne) = ap (λ (cs : List Change). changed cs rest i) (far h) ∙ rest_changes pages size i ne
