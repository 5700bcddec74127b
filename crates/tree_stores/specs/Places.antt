-- For the prover.
-- where names stand among others
use Rattle.std.specs.Prelude.{◌≡◌, ◌<◌, ◌≤◌, ℕ, not, IsTrue, List, [], ◌∷◌, length, slice_index_or}
use Rattle.std.specs.declared.cmp.Ordering.TheVariants.{Less, Equal, Greater}
use Rattle.std.specs.Ordering.{eq_by_cmp}
use Rattle.std.specs.FinMap.Entries.{is_sorted, where_key}
use Rattle.tree_stores.specs.declared.names.few.Named.{Named}
use Rattle.tree_stores.specs.declared.names.Store.{Store}
use Rattle.tree_stores.specs.declared.names.Store.TheVariants.{Few, Short, Long}
use Rattle.tree_stores.specs.Names.{name_cmp, entered, pairs_of}

-- the names rise
abbrev pub IsInOrder : List (List ℕ × ℕ) → Type 0
IsInOrder pairs = IsTrue (is_sorted name_cmp pairs)

-- no name is long
abbrev pub AreShort : List (List ℕ × ℕ) → Type 0
AreShort [] = Unit {0}
AreShort (pair ∷ pairs) = (length pair.0 ≤ 23) × AreShort pairs

-- no name is long where long ones have no room
abbrev pub IsFit : Store → Type 0
IsFit (Few _) = Unit {0}
IsFit (Short many) = AreShort (entered (λ key. key) many.entries)
IsFit (Long _) = Unit {0}

-- the names rise, and have room where they stand
abbrev pub IsKept : Store → Type 0
IsKept store = IsInOrder (pairs_of store) × IsFit store

-- a name isn't long where long ones have no room
abbrev pub HasRoom : Store → List ℕ → Type 0
HasRoom (Few _) name = Unit {0}
HasRoom (Short _) name = length name ≤ 23
HasRoom (Long _) name = Unit {0}

-- the pairs without those of a name
abbrev pub without : List ℕ → List (List ℕ × ℕ) → List (List ℕ × ℕ)
without name = where_key name_cmp (λ other. not (eq_by_cmp name_cmp name other))

-- the name stands at this index
pub record IsAt (few : List Named) (name : List ℕ) (index : ℕ) : Type 0 where
  pub within : index < length few
  pub same : (d : Named) → name_cmp (slice_index_or few index d).name name ≡ Equal

-- the name stands nowhere, and belongs at this index
pub record IsGap (few : List Named) (name : List ℕ) (index : ℕ) : Type 0 where
  pub within : index ≤ length few
  pub before : (i : ℕ) (d : Named) → i < index → name_cmp (slice_index_or few i d).name name ≡ Less
  pub behind : (i : ℕ) (d : Named) → index ≤ i → i < length few → name_cmp (slice_index_or few i d).name name ≡ Greater
