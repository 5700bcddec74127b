-- Believed.
-- What is said of two files and why (words of this project's own).
use Rattle.std.specs.Prelude.{◌≡◌, ◌++◌, ℕ, List, Option}
use Rattle.judging_commands.specs.Report.{IsSaidOfRead}

-- what check says of two files as they were read comes first, with its status
abbrev pub IsExplained : Option (List ℕ) → Option (List ℕ) → ℕ → List ℕ → Type 0
IsExplained history certificate status lines =
    (line words : List ℕ) × IsSaidOfRead history certificate status line × (lines ≡ line ++ words)
