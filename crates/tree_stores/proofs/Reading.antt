-- a file read piece by piece
use Rattle.std.proofs.Common.{◌≡◌, ℕ, ◌+◌, ◌-◌, ◌*◌, ◌/◌, ◌%◌, ◌<◌, ◌≤◌, ◌⊎◌, inl, inr, Bool, true, false, List, ◌++◌, length, get_or, take, drop, sym, ap, ◌∙◌, arith, min}
use Rattle.std.specs.Prelude.{slice_index, nat_eq, ◌↔◌}
use Rattle.std.specs.Cmp.Lexicographic.{pointwise}
use Rattle.std.proofs.lemmas.Bool.{cases_lt, false_from_ne_true, false≢true}
use Rattle.std.proofs.lemmas.List.{length-take, length-drop, get_or-take, get_or-drop, get_or_past, take_all, take_rest, drop_min, ext_get_or}
use Rattle.std.proofs.Math.Seq.{take-add}
use Rattle.std.proofs.lemmas.Bool.Decides.{same_from_decides}
use Rattle.std.proofs.lemmas.Slice.Eq.{bytes_eq-Decides}
use Rattle.tree_stores.specs.declared.file_bytes.page.TheConstants.{PAGE}
use Rattle.tree_stores.specs.declared.file_bytes.pages.Pages.{Pages}
use Rattle.tree_stores.specs.Files.{resized}
use Rattle.tree_stores.specs.Paged.{page_of, byte_of, listed, IsFile}
use Rattle.tree_stores.proofs.Places.{at_place, length-resized, resized_below, length-listed, read_file}
use Rattle.tree_stores.proofs.Windows.{piece_of, byte_at}

-- these bytes stand in f from an offset up to an end
abbrev pub AgreesTo : (ℕ → ℕ) → ℕ → List ℕ → ℕ → Type 0
AgreesTo f offset bytes end = (j : ℕ) → j < length bytes → offset + j < end → get_or bytes j 0 ≡ f (offset + j)

pub equal_bytes : (xs ys : List ℕ) → pointwise nat_eq xs ys ≡ true → xs ≡ ys
equal_bytes xs ys h = (bytes_eq-Decides xs ys).0 h

bytes_equal : (xs ys : List ℕ) → xs ≡ ys → pointwise nat_eq xs ys ≡ true
bytes_equal xs ys h = (bytes_eq-Decides xs ys).1 h

-- ---- a piece of the bytes against a page

-- what a page shows from a place on
abbrev pub shown : List ℕ → ℕ → ℕ → List ℕ
shown stored at count = resized (drop at stored) count

read_shown : (stored : List ℕ) (at count j : ℕ) → j < count → get_or (shown stored at count) j 0 ≡ get_or stored (at + j) 0
read_shown stored at count j h = resized_below (drop at stored) count j h ∙ get_or-drop at stored j 0

read_piece : (bytes : List ℕ) (offset start j : ℕ) → start - offset + j < start + PAGE - offset → get_or (piece_of bytes offset start) j 0 ≡ get_or bytes (start - offset + j) 0
read_piece bytes offset start j h = get_or-drop (start - offset) (take (start + PAGE - offset) bytes) j 0 ∙ get_or-take (start + PAGE - offset) bytes (start - offset + j) 0 h

length-piece : (bytes : List ℕ) (offset start : ℕ) → length (piece_of bytes offset start) ≡ min (start + PAGE - offset) (length bytes) - (start - offset)
length-piece bytes offset start = length-drop (start - offset) (take (start + PAGE - offset) bytes) ∙ ap (λ (n : ℕ). n - (start - offset)) (length-take (start + PAGE - offset) bytes)

-- a place of the page at hand
stored_at : (pages : Pages) (stored : List ℕ) (number j : ℕ) → stored ≡ page_of pages number → j < PAGE → get_or stored j 0 ≡ byte_of pages (number * PAGE + j)
stored_at pages stored number j e h =
    let here : number ≡ (number * PAGE + j) / PAGE = omega arith in
    let place : (number * PAGE + j) % PAGE ≡ j = omega arith in
    ap (λ (s : List ℕ). get_or s j 0) e ∙ ap (λ (n : ℕ). get_or (page_of pages number) n 0) (sym place) ∙ byte_at pages (number * PAGE + j) number here

-- the page at hand agrees, and so the bytes do up to the next
pub agrees_more : (pages : Pages) (stored bytes : List ℕ) (offset number : ℕ) → stored ≡ page_of pages number
    → pointwise nat_eq (piece_of bytes offset (number * PAGE)) (shown stored (offset - number * PAGE) (length (piece_of bytes offset (number * PAGE)))) ≡ true
    → AgreesTo (byte_of pages) offset bytes (number * PAGE) → AgreesTo (byte_of pages) offset bytes ((number + 1) * PAGE)
agrees_more pages stored bytes offset number e same so_far = λ j h k. go j h k (cases_lt (offset + j) (number * PAGE)) where
  go : (j : ℕ) → j < length bytes → offset + j < (number + 1) * PAGE → (offset + j < number * PAGE) ⊎ (number * PAGE ≤ offset + j) → get_or bytes j 0 ≡ byte_of pages (offset + j)
  go j h k (inl p) = so_far j h p
  go j h k (inr p) =
      let start = number * PAGE in
      let piece = piece_of bytes offset (number * PAGE) in
      let n = j - (number * PAGE - offset) in
      let behind : number * PAGE - offset + n ≡ j = omega arith in
      let place : number * PAGE + (offset - number * PAGE + n) ≡ offset + j = omega arith in
      let within : n < length piece = omega (arith, length-piece bytes offset (number * PAGE)) in
      ap (λ (m : ℕ). get_or bytes m 0) (sym behind) ∙ sym (read_piece bytes offset (number * PAGE) n (omega arith))
      ∙ ap (λ (xs : List ℕ). get_or xs n 0) (equal_bytes piece (shown stored (offset - number * PAGE) (length piece)) same)
      ∙ read_shown stored (offset - number * PAGE) (length piece) n within
      ∙ stored_at pages stored number (offset - number * PAGE + n) e (omega arith)
      ∙ ap (byte_of pages) place

-- ---- bytes against one page: the front that is kept, and the zeros behind it

pub slice_from : (xs : List ℕ) (n : ℕ) → take (length xs - min n (length xs)) (drop (min n (length xs)) xs) ≡ drop n xs
slice_from xs n = take_rest xs (min n (length xs)) ∙ drop_min n xs

-- y is what is kept from the place on, and z are the bytes behind as many
module _ (bytes stored y z : List ℕ) (at count : ℕ) (is_y : y ≡ drop at stored) (is_z : z ≡ drop count bytes) (shorter : count ≡ min (length bytes) (length y)) where
  read_kept : (k : ℕ) → k < length bytes → get_or (resized (drop at stored) (length bytes)) k 0 ≡ get_or y k 0
  read_kept k h = resized_below (drop at stored) (length bytes) k h ∙ ap (λ (xs : List ℕ). get_or xs k 0) (sym is_y)

  read_behind : (k : ℕ) → get_or z k 0 ≡ get_or bytes (count + k) 0
  read_behind k = ap (λ (xs : List ℕ). get_or xs k 0) is_z ∙ get_or-drop count bytes k 0

  length-behind : length z ≡ length bytes - count
  length-behind = ap length is_z ∙ length-drop count bytes

  parts_equal : take count bytes ≡ take count y → ((k : ℕ) → k < length z → get_or z k 0 ≡ 0) → bytes ≡ resized (drop at stored) (length bytes)
  parts_equal front behind = ext_get_or 0 bytes (resized (drop at stored) (length bytes)) (sym (length-resized (drop at stored) (length bytes))) (λ k h. go k h (cases_lt k count)) where
    go : (k : ℕ) → k < length bytes → (k < count) ⊎ (count ≤ k) → get_or bytes k 0 ≡ get_or (resized (drop at stored) (length bytes)) k 0
    go k h (inl p) =
        sym (get_or-take count bytes k 0 p) ∙ ap (λ (xs : List ℕ). get_or xs k 0) front ∙ get_or-take count y k 0 p ∙ sym (read_kept k h)
    go k h (inr p) =
        ap (λ (n : ℕ). get_or bytes n 0) (omega arith) ∙ sym (read_behind (k - count)) ∙ behind (k - count) (omega (arith, length-behind))
        ∙ sym (get_or_past y k 0 (omega arith)) ∙ sym (read_kept k h)

  front_equal : bytes ≡ resized (drop at stored) (length bytes) → take count bytes ≡ take count y
  front_equal e = ext_get_or 0 (take count bytes) (take count y) (omega (arith, length-take count bytes, length-take count y)) (λ k h. go k (omega (arith, length-take count bytes))) where
    go : (k : ℕ) → k < count → get_or (take count bytes) k 0 ≡ get_or (take count y) k 0
    go k h = get_or-take count bytes k 0 h ∙ ap (λ (xs : List ℕ). get_or xs k 0) e ∙ read_kept k (omega arith) ∙ sym (get_or-take count y k 0 h)

  behind_zero : bytes ≡ resized (drop at stored) (length bytes) → (k : ℕ) → k < length z → get_or z k 0 ≡ 0
  behind_zero e k h =
      read_behind k ∙ ap (λ (xs : List ℕ). get_or xs (count + k) 0) e ∙ read_kept (count + k) (omega (arith, length-behind)) ∙ get_or_past y (count + k) 0 (omega (arith, length-behind))

  pub page_then : (r : Bool) → pointwise nat_eq (take count bytes) (take count y) ≡ true → (r ≡ true) ↔ ((k : ℕ) → k < length z → get_or z k 0 ≡ 0)
      → r ≡ pointwise nat_eq bytes (shown stored at (length bytes))
  page_then r front behind =
      same_from_decides r (pointwise nat_eq bytes (shown stored at (length bytes)))
      (λ t. parts_equal (equal_bytes (take count bytes) (take count y) front) (behind.0 t), λ e. behind.1 (behind_zero e))
      (bytes_eq-Decides bytes (shown stored at (length bytes)))

  pub page_else : pointwise nat_eq (take count bytes) (take count y) ≡ false → false ≡ pointwise nat_eq bytes (shown stored at (length bytes))
  page_else front =
      sym (false_from_ne_true (pointwise nat_eq bytes (shown stored at (length bytes)))
      (λ same. false≢true (sym front ∙ bytes_equal (take count bytes) (take count y) (front_equal (equal_bytes bytes (shown stored at (length bytes)) same)))))

-- ---- the bytes against the file

module _ (f : ℕ → ℕ) (size : ℕ) (xs : List ℕ) (file : IsFile f size) (view : listed f size ≡ xs) where
  pub view_length : length xs ≡ size
  view_length = ap length (sym view) ∙ length-listed f size

  view_read : (i : ℕ) → get_or xs i 0 ≡ f i
  view_read i = ap (λ (ys : List ℕ). get_or ys i 0) (sym view) ∙ at_place (slice_index (listed f size)) f (read_file f size file) i

  read_part : (offset n j : ℕ) → j < n → get_or (take n (drop offset xs)) j 0 ≡ f (offset + j)
  read_part offset n j h = get_or-take n (drop offset xs) j 0 h ∙ get_or-drop offset xs j 0 ∙ view_read (offset + j)

  length-part : (offset n : ℕ) → length (take n (drop offset xs)) ≡ min n (size - offset)
  length-part offset n = length-take n (drop offset xs) ∙ ap (λ (m : ℕ). min n m) (length-drop offset xs ∙ ap (λ (m : ℕ). m - offset) view_length)

  -- all agree
  pub found_all : (offset : ℕ) (bytes : List ℕ) (end : ℕ) → length bytes ≤ size - offset → offset + length bytes ≤ end → AgreesTo f offset bytes end
      → pointwise nat_eq bytes (take (length bytes) (drop offset xs)) ≡ true
  found_all offset bytes end fits reach agrees =
      bytes_equal bytes (take (length bytes) (drop offset xs))
      (ext_get_or 0 bytes (take (length bytes) (drop offset xs)) (omega (arith, length-part offset (length bytes)))
      (λ j h. agrees j h (omega arith) ∙ sym (read_part offset (length bytes) j h)))

  -- the file ends ahead of them
  pub too_long : (offset : ℕ) (bytes : List ℕ) → size - offset < length bytes → pointwise nat_eq bytes (take (length bytes) (drop offset xs)) ≡ false
  too_long offset bytes h =
      false_from_ne_true (pointwise nat_eq bytes (take (length bytes) (drop offset xs)))
      (λ same. let n = ap length (equal_bytes bytes (take (length bytes) (drop offset xs)) same) in omega (arith, n, length-part offset (length bytes)))

-- a page disagrees
pub missed : (pages : Pages) (size : ℕ) (xs : List ℕ) → IsFile (byte_of pages) size → listed (byte_of pages) size ≡ xs
    → (stored bytes : List ℕ) (offset number : ℕ) → stored ≡ page_of pages number
    → pointwise nat_eq (piece_of bytes offset (number * PAGE)) (shown stored (offset - number * PAGE) (length (piece_of bytes offset (number * PAGE)))) ≡ false
    → pointwise nat_eq bytes (take (length bytes) (drop offset xs)) ≡ false
missed pages size xs file view stored bytes offset number e differ =
    false_from_ne_true (pointwise nat_eq bytes (take (length bytes) (drop offset xs)))
    (λ same. false≢true (sym differ ∙ bytes_equal (piece_of bytes offset (number * PAGE)) (shown stored (offset - number * PAGE) (length (piece_of bytes offset (number * PAGE))))
    (ext_get_or 0 (piece_of bytes offset (number * PAGE)) (shown stored (offset - number * PAGE) (length (piece_of bytes offset (number * PAGE))))
    (sym (length-resized (drop (offset - number * PAGE) stored) (length (piece_of bytes offset (number * PAGE)))))
    (λ n h. go same n h)))) where
      go : pointwise nat_eq bytes (take (length bytes) (drop offset xs)) ≡ true → (n : ℕ) → n < length (piece_of bytes offset (number * PAGE))
          → get_or (piece_of bytes offset (number * PAGE)) n 0 ≡ get_or (shown stored (offset - number * PAGE) (length (piece_of bytes offset (number * PAGE)))) n 0
      go same n h =
          let long : n < min (number * PAGE + PAGE - offset) (length bytes) - (number * PAGE - offset) = omega (arith, length-piece bytes offset (number * PAGE)) in
          let place : offset + (number * PAGE - offset + n) ≡ number * PAGE + (offset - number * PAGE + n) = omega arith in
          read_piece bytes offset (number * PAGE) n (omega arith)
          ∙ ap (λ (ys : List ℕ). get_or ys (number * PAGE - offset + n) 0) (equal_bytes bytes (take (length bytes) (drop offset xs)) same)
          ∙ read_part (byte_of pages) size xs file view offset (length bytes) (number * PAGE - offset + n) (omega arith)
          ∙ ap (byte_of pages) place
          ∙ sym (stored_at pages stored number (offset - number * PAGE + n) e (omega arith))
          ∙ sym (read_shown stored (offset - number * PAGE) (length (piece_of bytes offset (number * PAGE))) n h)

-- ---- all bytes in turn

-- the bytes so far with those of the page at hand
pub put_more : (pages : Pages) (size : ℕ) (xs : List ℕ) → IsFile (byte_of pages) size → listed (byte_of pages) size ≡ xs
    → (stored : List ℕ) (number count : ℕ) → stored ≡ page_of pages number → count ≡ min (size - number * PAGE) PAGE → number * PAGE ≤ size
    → take (number * PAGE) xs ++ resized stored count ≡ take ((number + 1) * PAGE) xs
put_more pages size xs file view stored number count e is low =
    ap (λ (ys : List ℕ). take (number * PAGE) xs ++ ys) page ∙ sym (take-add (number * PAGE) count xs) ∙ upto (cases_lt size ((number + 1) * PAGE)) where
      page : resized stored count ≡ take count (drop (number * PAGE) xs)
      page =
          ext_get_or 0 (resized stored count) (take count (drop (number * PAGE) xs))
          (omega (arith, length-resized stored count, length-part (byte_of pages) size xs file view (number * PAGE) count))
          (λ n h. let k : n < count = omega (arith, length-resized stored count) in
          resized_below stored count n k ∙ stored_at pages stored number n e (omega arith) ∙ sym (read_part (byte_of pages) size xs file view (number * PAGE) count n k))

      upto : (size < (number + 1) * PAGE) ⊎ ((number + 1) * PAGE ≤ size) → take (number * PAGE + count) xs ≡ take ((number + 1) * PAGE) xs
      upto (inl h) =
          take_all (number * PAGE + count) xs (omega (arith, view_length (byte_of pages) size xs file view))
          ∙ sym (take_all ((number + 1) * PAGE) xs (omega (arith, view_length (byte_of pages) size xs file view)))
      upto (inr h) = ap (λ (n : ℕ). take n xs) (omega arith)
