-- Believed.
-- What is said of a history and a certificate: an exit status and a line (words of this project's own).
use Rattle.std.specs.Prelude.{◌≡◌, ◌⊎◌, ℕ, List, [], ◌∷◌, ◌++◌, codes, Option, Some, None, IfSome}
use Rattle.nfs_history.specs.FaultText.{history_fault_words}
use Rattle.certificate.specs.FaultText.{text_fault_words}
use Rattle.witness_check.specs.declared.fault.Fault.{Fault}
use Rattle.witness_check.specs.FaultText.{fault_words}
use Rattle.witness_check.specs.declared.verdict.FileVerdict.{FileVerdict}
use Rattle.witness_check.specs.declared.verdict.FileVerdict.TheVariants.{Yes, No, BadHistory, BadText}
use Rattle.witness_check.specs.Verdict.{IsFileVerdict}
use Rattle.program_streams.specs.Told.{IsRefusal, memory_line, refused_line}
use Rattle.judging_commands.specs.Bundle.{IsBundle, IsSomeBundle}

-- the line that tells a fault of a plan
abbrev pub no_line : Fault → List ℕ
no_line fault = codes "no: " ++ fault_words fault ++ 10 ∷ []

-- the exit status of a verdict
abbrev pub status_of : FileVerdict → ℕ
status_of Yes = 0
status_of (No fault) = 1
status_of (BadHistory fault) = 2
status_of (BadText fault) = 2

-- the line of a verdict, with the words of its fault
abbrev pub line_of : FileVerdict → List ℕ
line_of Yes = codes "yes" ++ 10 ∷ []
line_of (No fault) = no_line fault
line_of (BadHistory fault) = refused_line (history_fault_words fault)
line_of (BadText fault) = refused_line (text_fault_words fault)

-- what is said of a history file and a certificate's text: the verdict on them
abbrev pub IsSaidOfFiles : List ℕ → List ℕ → ℕ → List ℕ → Type 0
IsSaidOfFiles history certificate status line =
    (verdict : FileVerdict) × IsFileVerdict history certificate verdict × (status ≡ status_of verdict) × (line ≡ line_of verdict)

-- what is said of bytes: the verdict on the bundle that they are, or that they are none
abbrev pub IsSaid : List ℕ → ℕ → List ℕ → Type 0
IsSaid bytes status line =
    ((history : List ℕ) × (certificate : List ℕ) × IsBundle bytes history certificate × IsSaidOfFiles history certificate status line)
    ⊎ (¬ (IsSomeBundle bytes) × IsRefusal (codes "bad bundle") status line)

-- what is said of two files as they were read, where one that couldn't be read has no bytes: the first such one is named
abbrev pub IsSaidOfRead : Option (List ℕ) → Option (List ℕ) → ℕ → List ℕ → Type 0
IsSaidOfRead None certificate status line = IsRefusal (codes "unreadable history") status line
IsSaidOfRead (Some history) None status line = IsRefusal (codes "unreadable certificate") status line
IsSaidOfRead (Some history) (Some certificate) status line = IsSaidOfFiles history certificate status line

-- what may be said of an input, whose bytes are known or not: as above, or that it couldn't be read, which says no more
-- than that it is no bundle
abbrev pub MaySay : Option (List ℕ) → ℕ → List ℕ → Type 0
MaySay known status line =
    ((verdict : FileVerdict) × IfSome known (λ bytes. (history : List ℕ) × (certificate : List ℕ) × IsBundle bytes history certificate × IsFileVerdict history certificate verdict)
    × (status ≡ status_of verdict) × (line ≡ line_of verdict))
    ⊎ IsRefusal (codes "bad bundle") status line

-- the line that may be told of an input, at any status
abbrev pub MayTell : Option (List ℕ) → List ℕ → Type 0
MayTell known line = ((status : ℕ) × MaySay known status line) ⊎ (line ≡ memory_line)
