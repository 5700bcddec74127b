-- Believed.
-- What the exit status is where a verdict is said as a JSON object: that of its line (words of this project's own).
use Rattle.std.specs.Prelude.{◌≡◌, ℕ, List, Option, Some, None}
use Rattle.witness_check.specs.declared.verdict.FileVerdict.{FileVerdict}
use Rattle.witness_check.specs.Verdict.{IsFileVerdict}
use Rattle.judging_commands.specs.Report.{status_of}

-- the verdict on a history file and a certificate's text has this status
abbrev pub HasStatus : List ℕ → List ℕ → ℕ → Type 0
HasStatus history certificate status = (verdict : FileVerdict) × IsFileVerdict history certificate verdict × (status ≡ status_of verdict)

-- the same of two files as they were read, where one that couldn't be read has no bytes
abbrev pub HasStatusOfRead : Option (List ℕ) → Option (List ℕ) → ℕ → Type 0
HasStatusOfRead None certificate status = status ≡ 2
HasStatusOfRead (Some history) None status = status ≡ 2
HasStatusOfRead (Some history) (Some certificate) status = HasStatus history certificate status
