-- For the prover.
-- The bytes of a string that stands in its value where it is short
use Rattle.std.specs.Prelude.{◌≤◌, List, ℕ, take}
use Rattle.nfs3_types.specs.declared.short.Store.{Store}
use Rattle.nfs3_types.specs.declared.short.Store.TheVariants.{Inline, Heap}

-- the bytes, wherever they stand
abbrev pub bytes_of : Store → List ℕ
bytes_of (Inline count bytes) = take count bytes
bytes_of (Heap bytes) = bytes.items

-- no more bytes count than the value has room for
abbrev pub IsStored : Store → Type 0
IsStored (Inline count _) = count ≤ 23
IsStored (Heap _) = Unit {0}
