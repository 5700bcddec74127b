-- For the prover.
-- bytes that may be absent
use Rattle.std.specs.Prelude.{ℕ, List, [], Option, Some, None}

-- the bytes of what holds them, and none where it is absent
abbrev pub stored_in : {A : Type 0} → (A → List ℕ) → Option A → List ℕ
stored_in bytes None = []
stored_in bytes (Some held) = bytes held
