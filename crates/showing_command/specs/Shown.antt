-- For the prover, and for callers.
-- What is shown of a history: lines that a terminal shows as they stand (words of this project's own).
use Rattle.std.specs.Prelude.{◌≡◌, ℕ, List, All}
use Rattle.std.specs.List.{concat}
use Rattle.history_lines.specs.Printable.{IsLine}

-- lines one behind the other
abbrev pub AreLines : List ℕ → Type 0
AreLines text = (lines : List (List ℕ)) × All IsLine lines × (text ≡ concat lines)
