-- For the prover, and for callers.
-- slots by pages, and pages by blocks
use Rattle.std.specs.Prelude.{◌≡◌, ℕ, zero, suc, ◌+◌, ◌/◌, ◌%◌, Bool, false, leb, List, [], ◌∷◌, ◌++◌, length, map, get_or, Option, Some, None}
use Rattle.tree_stores.specs.declared.slots.slot.Slot.{Slot}
use Rattle.tree_stores.specs.declared.slots.slot.Slot.TheVariants.{Empty}
use Rattle.tree_stores.specs.declared.slots.held.Held.{Held}
use Rattle.tree_stores.specs.Slots.{entries_from}

module _ {X : Type 0} where
  -- the row that was moved out, or else the one that is shared
  abbrev pub row_of : Option (List X) → Option (List X) → List X
  row_of None None = []
  row_of None (Some shared) = shared
  row_of (Some own) shared = own

  abbrev pub row_in : Held X → List X
  row_in held = row_of held.own held.shared

  -- no row
  abbrev pub absent : Held X
  absent = record { shared = None; own = None }

-- the slots of a page
abbrev pub Page : Type 0 → Type 0
Page V = Held (Slot V)

-- the pages of a block
abbrev pub Block : Type 0 → Type 0
Block V = Held (Page V)

module _ {V : Type 0} where
  -- two lists read the same, where there are empty slots behind their ends
  abbrev pub Alike : List (Slot V) → List (Slot V) → Type 0
  Alike xs ys = (place : ℕ) → get_or xs place Empty ≡ get_or ys place Empty

  -- so many slots of a list, with empty ones behind its end
  unfoldable pub padded : ℕ → List (Slot V) → List (Slot V)
  padded zero slots = []
  padded (suc n) [] = Empty ∷ padded n []
  padded (suc n) (slot ∷ slots) = slot ∷ padded n slots

  -- so many of each list, one list after the other
  unfoldable pub joined : ℕ → List (List (Slot V)) → List (Slot V)
  joined n [] = []
  joined n (row ∷ rows) = padded n row ++ joined n rows

  -- the slots of pages
  unfoldable pub slots_of : List (Page V) → List (Slot V)
  slots_of pages = joined 64 (map row_in pages)

  -- the slots of a block
  abbrev pub slots_in : Block V → List (Slot V)
  slots_in block = slots_of (row_in block)

  -- those of one block after the other
  unfoldable pub all_slots : List (Block V) → List (Slot V)
  all_slots blocks = joined 4096 (map slots_in blocks)

  -- whether there are 64 slots that were moved out
  abbrev pub is_full : Option (List (Slot V)) → Bool
  is_full None = false
  is_full (Some slots) = leb 64 (length slots)

  abbrev pub is_own : Page V → Bool
  is_own page = is_full page.own

  -- whether each page of pages that were moved out has its slots to itself
  abbrev pub owns_of : Option (List (Page V)) → List Bool
  owns_of None = []
  owns_of (Some pages) = map is_own pages

  abbrev pub owns_in : Block V → List Bool
  owns_in block = owns_of block.own

  abbrev pub owns : List (Block V) → List (List Bool)
  owns blocks = map owns_in blocks

  -- the values of pages with their numbers, where the first slot of the first page has this number
  abbrev pub page_entries : ℕ → List (Page V) → List (ℕ × V)
  page_entries number [] = []
  page_entries number (page ∷ pages) = entries_from number (padded 64 (row_in page)) ++ page_entries (number + 64) pages

  -- the values of blocks
  abbrev pub block_entries : ℕ → List (Block V) → List (ℕ × V)
  block_entries number [] = []
  block_entries number (block ∷ blocks) = entries_from number (padded 4096 (slots_in block)) ++ block_entries (number + 4096) blocks

-- whether there is a `true` for the page of a number
abbrev pub is_set : List (List Bool) → ℕ → Bool
is_set own number = get_or (get_or own (number / 4096) []) (number % 4096 / 64) false
