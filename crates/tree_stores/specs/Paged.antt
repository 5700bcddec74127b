-- For the prover, and for callers.
-- The bytes of a file by pages, as a function of their places, and the list of those below the file's size.
use Rattle.std.specs.Prelude.{ℕ, ◌+◌, ◌-◌, ◌/◌, ◌%◌, ◌≡◌, ◌≤◌, ◌==◌, ◌&&◌, nat_le, nat_lt, cond, List, [], ◌∷◌, map, take, length, slice_index, unwrap_or}
use Rattle.std.specs.List.{range_with_len}
use Rattle.std.specs.Ordering.{nat_cmp}
use Rattle.std.specs.BTreeMap as tree
use Rattle.nfs3_types.specs.Limits.{file_limit}
use Rattle.tree_stores.specs.declared.file_bytes.page.TheConstants.{PAGE}
use Rattle.tree_stores.specs.declared.file_bytes.changes.Change.{Change}
use Rattle.tree_stores.specs.declared.file_bytes.pages.Pages.{Pages}

-- what is kept of a page
abbrev pub page_of : Pages → ℕ → List ℕ
page_of pages number = cond (number == 0) pages.first (unwrap_or (tree.get nat_cmp pages.rest number) [])

-- a page can be put at a number without more memory: the first always, any other where one stands
abbrev pub HasRoom : Pages → ℕ → Type 0
HasRoom pages number = (number ≡ 0 → ⊥) → tree.ContainsKey nat_cmp pages.rest number

-- the byte at a place: zero where nothing is kept
unfoldable pub byte_of : Pages → ℕ → ℕ
byte_of pages i = slice_index (page_of pages (i / PAGE)) (i % PAGE)

-- the bytes below a size
unfoldable pub listed : (ℕ → ℕ) → ℕ → List ℕ
listed f size = map f (range_with_len 0 size)

-- what every file keeps: behind its size stand zeros, so that they show when it grows
pub record IsFile (f : ℕ → ℕ) (size : ℕ) : Type 0 where
  pub limit : size ≤ file_limit
  pub ended : (i : ℕ) → size ≤ i → f i ≡ 0

-- the byte at a place once pages are in the place of others: the first that has it
abbrev pub changed : List Change → (ℕ → ℕ) → ℕ → ℕ
changed [] f i = f i
changed (c ∷ cs) f i = cond (c.number == i / PAGE) (slice_index c.page (i % PAGE)) (changed cs f i)

-- the byte at a place once others stand from an offset on
unfoldable pub overwritten : (ℕ → ℕ) → ℕ → List ℕ → ℕ → ℕ
overwritten f offset added i = cond (nat_le offset i && nat_lt i (offset + length added)) (slice_index added (i - offset)) (f i)

-- what a cut changes of the first page
abbrev pub first_cut : ℕ → List ℕ → List Change
first_cut size first = cond (nat_lt size PAGE) (record { number = 0; page = take size first } ∷ []) []

-- the byte at a place once zeros stand from a size on
unfoldable pub cut : (ℕ → ℕ) → ℕ → ℕ → ℕ
cut f size i = cond (nat_lt i size) (f i) 0
