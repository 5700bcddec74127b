-- For the prover, and for callers.
-- What a terminal shows as it stands: lines of printable bytes (RFC 20, section 5: SP to ~ are graphics, LF ends a line; all
-- other bytes are controls, or no ASCII).
use Rattle.std.specs.Prelude.{◌≡◌, ℕ, ◌≤◌, List, [], ◌∷◌, ◌++◌, All}

-- from the space to the tilde
abbrev pub IsPrintable : ℕ → Type 0
IsPrintable byte = (32 ≤ byte) × (byte ≤ 126)

-- printable bytes and one line feed, at the end
pub record IsLine (bytes : List ℕ) : Type 0 where
  pub text : List ℕ
  pub printable : All IsPrintable text
  pub parts : bytes ≡ text ++ 10 ∷ []
