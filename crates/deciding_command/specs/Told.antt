-- Believed.
-- What is told where there is no witness (words of this project's own).
use Rattle.std.specs.Prelude.{◌≡◌, ℕ, List, [], ◌∷◌, ◌++◌, codes, decimal, Option}
use Rattle.std.specs.Io.KnownBytes.{Appends}
use Rattle.deciding_command.specs.declared.file_decision.FileDecision.{FileDecision}
use Rattle.deciding_command.specs.declared.file_decision.FileDecision.TheVariants.{NoWitness}

-- the line that names an event and a call
abbrev pub no_line : ℕ → ℕ → List ℕ
no_line event call = codes "no witness: event " ++ (decimal event ++ (codes " call " ++ (decimal call ++ 10 ∷ [])))

-- the line of a yes
abbrev pub yes_line : List ℕ
yes_line = codes "yes" ++ 10 ∷ []

-- this line was written, and behind it hints; nothing, where none are asked for
abbrev pub IsToldWithHints : Option (List ℕ) → Option (List ℕ) → List ℕ → ℕ → Type 0
IsToldWithHints old new line hints = (rest : List ℕ) × Appends old new (line ++ rest) × (hints ≡ 0 → rest ≡ [])

-- ---- for the prover and private functions

-- the line of a no
abbrev pub line_of_no : FileDecision → List ℕ
line_of_no (NoWitness event call) = no_line event call
line_of_no decision = []

-- some bytes were written, or none
abbrev pub Grows : Option (List ℕ) → Option (List ℕ) → Type 0
Grows old new = (text : List ℕ) × Appends old new text
