-- For the prover.
-- how the bytes of a short name stand in its value
use Rattle.std.specs.Prelude.{◌≡◌, ◌≤◌, ℕ, zero, suc, List, [], ◌∷◌, length, take, slice_index}

-- a name's bytes, zeros as far as there is more room, and a last byte
abbrev pub padded : ℕ → List ℕ → ℕ → List ℕ
padded zero name last = last ∷ []
padded (suc room) [] last = 0 ∷ padded room [] last
padded (suc room) (byte ∷ name) last = byte ∷ padded room name last

-- the name of 24 bytes whose last tells how many count
abbrev pub name_in : List ℕ → List ℕ
name_in bytes = take (slice_index bytes 23) bytes

-- behind the name stand zeros, and its length
abbrev pub IsPadded : List ℕ → Type 0
IsPadded bytes = (length (name_in bytes) ≤ 23) × (bytes ≡ padded 23 (name_in bytes) (length (name_in bytes)))
