-- For the prover, and for callers.
-- what a contract sees of slots that stand by pages
use Rattle.std.specs.Prelude.{◌≡◌, ◌≤◌, ◌^◌, ℕ, Bool, true, List, length, refl}
use Rattle.std.specs.Coded.{Coded, code_by, coded_ℕ, coded_bool, coded_list, coded×}
use Rattle.std.specs.Ordering.{nat_cmp}
use Rattle.std.specs.FinMap as map
use Rattle.tree_stores.specs.Slots.{map_of}
use Rattle.tree_stores.specs.Pages.{Block, all_slots, owns, is_set}

-- the values by their numbers, and which pages of each block can be changed by steps that are known to succeed
pub record Book (V : Type 0) : Type 0 where
  pub map : map.FinMap nat_cmp V
  pub own : List (List Bool)

abbrev pub book_code : {V : Type 0} → Coded V → Coded (Book V)
book_code {V} code =
    code_by (map.FinMap nat_cmp V × List (List Bool)) (coded× (map.code coded_ℕ code) (coded_list (coded_list coded_bool)))
    (λ b. (b.map, b.own)) (λ p. record { map = p.0; own = p.1 }) (λ _. refl)

module _ {V : Type 0} where
  abbrev pub values_of : List (Block V) → map.FinMap nat_cmp V
  values_of blocks = map_of (all_slots blocks)

  abbrev pub book_of : List (Block V) → Book V
  book_of blocks = record { map = values_of blocks; own = owns blocks }

  -- the value of a number can be taken out and put with no failure
  abbrev pub IsOwn : Book V → ℕ → Type 0
  IsOwn book number = is_set book.own number ≡ true

  -- there are no more blocks than numbers reach, and it is known how many slots have a value
  pub record AreCounted (blocks : List (Block V)) (filled : ℕ) : Type 0 where
    pub few : length blocks ≤ 2 ^ 51
    pub counted : filled ≡ map.len (values_of blocks)
