-- For the prover.
-- pages that show the same as others
use Rattle.std.specs.Prelude.{◌≡◌, ℕ, List, [], ◌∷◌, slice_index}
use Rattle.tree_stores.specs.declared.file_bytes.pages.Pages.{Pages}
use Rattle.tree_stores.specs.Paged.{page_of}

-- a page shows what stands there at its number
abbrev pub IsShown : Pages → ℕ × List ℕ → Type 0
IsShown others page = (k : ℕ) → slice_index page.1 k ≡ slice_index (page_of others page.0) k

abbrev pub AllShown : Pages → List (ℕ × List ℕ) → Type 0
AllShown others [] = Unit {0}
AllShown others (page ∷ rest) = IsShown others page × AllShown others rest
