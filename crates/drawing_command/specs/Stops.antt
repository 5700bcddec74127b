-- For the prover, and for callers.
-- What is said where no page is drawn (words of this project's own).
use Rattle.std.specs.Prelude.{◌≡◌, ◌⊎◌, ◌<◌, ℕ, List, Option}
use Rattle.std.specs.Option.{IsSomeAnd}
use Rattle.nfs_history.specs.FirstFault.{FirstFault}
use Rattle.judging_commands.specs.Report.{line_of, status_of}
use Rattle.program_streams.specs.Told.{Answer, Tells, memory_line}
use Rattle.witness_check.specs.declared.verdict.FileVerdict.{FileVerdict}
use Rattle.witness_check.specs.declared.verdict.FileVerdict.TheVariants as verdicts
use Rattle.witness_check.specs.Verdict.{IsFileVerdict}
use Rattle.drawing_command.specs.declared.pages.Stop.{Stop}
use Rattle.drawing_command.specs.declared.pages.Stop.TheVariants as stops

-- the verdict on a history file, and on a certificate's text if there is one: without one that the file has this first fault
abbrev pub IsVerdictOn : List ℕ → Option (List ℕ) → FileVerdict → Type 0
IsVerdictOn history text (verdicts.BadHistory fault) = FirstFault history fault
IsVerdictOn history text (verdicts.BadText fault) = IsSomeAnd text (λ t. IsFileVerdict history t (verdicts.BadText fault))
IsVerdictOn history text (verdicts.No fault) = IsSomeAnd text (λ t. IsFileVerdict history t (verdicts.No fault))
IsVerdictOn history text verdicts.Yes = IsSomeAnd text (λ t. IsFileVerdict history t verdicts.Yes)

-- no page is drawn for that verdict, which is no yes, or for what isn't there
abbrev pub IsStopOf : List ℕ → Option (List ℕ) → Stop → Type 0
IsStopOf history text (stops.Verdict verdict) = IsVerdictOn history text verdict × (0 < status_of verdict)
IsStopOf history text (stops.Absent absent) = Unit {0}

-- a file is refused, or something isn't there
abbrev pub IsRefusal : Stop → Type 0
IsRefusal (stops.Verdict verdict) = status_of verdict ≡ 2
IsRefusal (stops.Absent absent) = Unit {0}

-- what is said of it
abbrev pub IsReportOf : Stop → Answer → Type 0
IsReportOf (stops.Verdict verdict) report = (report.status ≡ status_of verdict) × (report.line ≡ line_of verdict)
IsReportOf (stops.Absent absent) report = report.status ≡ 2

-- that was told, or that memory ran out, or a write failed
abbrev pub IsTold : Stop → ℕ → Option (List ℕ) → Option (List ℕ) → Type 0
IsTold (stops.Verdict verdict) given old new =
    (given ≡ 2) ⊎ (Tells given old new 3 memory_line ⊎ Tells given old new (status_of verdict) (line_of verdict))
IsTold (stops.Absent absent) given old new = (given ≡ 2) ⊎ Tells given old new 3 memory_line
