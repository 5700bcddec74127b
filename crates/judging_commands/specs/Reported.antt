-- For the prover, and for callers.
-- What is reported of a history and a certificate: what the history comes to in numbers, and the verdict (words of this
-- project's own).
use Rattle.std.specs.Prelude.{◌≡◌, ◌⊎◌, ℕ, List, [], ◌∷◌, ◌++◌, codes, decimal, Option, Some, None}
use Rattle.nfs_history.specs.declared.fault.HistoryFault.{HistoryFault}
use Rattle.nfs_history.specs.declared.knowing.KnownCalls.{KnownCalls}
use Rattle.nfs_history.specs.History.{IsCallsFile}
use Rattle.certificate.specs.declared.plan.Certificate.{Certificate}
use Rattle.certificate.specs.CertificateText.{CertificateText}
use Rattle.history_report.specs.declared.counting.HistoryNumbers.{HistoryNumbers}
use Rattle.history_report.specs.Counted.{report_of}
use Rattle.history_report.specs.Lost.{lost}
use Rattle.witness_check.specs.declared.verdict.FileVerdict.{FileVerdict}
use Rattle.witness_check.specs.declared.verdict.FileVerdict.TheVariants.{Yes, BadHistory}
use Rattle.witness_check.specs.Verdict.{IsFileVerdict}
use Rattle.program_streams.specs.Told.{IsRefusal}
use Rattle.judging_commands.specs.Report.{line_of, status_of}

-- a line of a word and a number
abbrev pub number_line : List ℕ → ℕ → List ℕ
number_line word number = word ++ 32 ∷ (decimal number ++ 10 ∷ [])

-- the lines of what is counted of a history
abbrev pub count_lines : HistoryNumbers → List ℕ
count_lines counts =
    number_line (codes "calls") counts.calls ++ number_line (codes "judged") counts.judged ++ number_line (codes "answered") counts.answered
    ++ number_line (codes "unjudged") counts.unjudged ++ number_line (codes "excused") counts.excused ++ number_line (codes "eras") counts.eras

-- the line of how many places were lost, where that is told
abbrev pub lost_lines : Option ℕ → List ℕ
lost_lines (Some n) = number_line (codes "lost") n
lost_lines None = []

-- with a yes it is told how many places of the certificate were lost, and else it isn't
abbrev pub IsLost : KnownCalls → List ℕ → FileVerdict → Option ℕ → Type 0
IsLost known certificate Yes told =
    (plan : Certificate) × CertificateText certificate plan × (told ≡ Some (lost known.calls plan.eras))
IsLost known certificate verdict told = told ≡ None

-- the lines ahead of the verdict's: none of a file of no history
abbrev pub AreLinesOf : List ℕ → List ℕ → FileVerdict → List ℕ → Type 0
AreLinesOf history certificate verdict lines =
    ((fault : HistoryFault) × (verdict ≡ BadHistory fault) × (lines ≡ []))
    ⊎ ((known : KnownCalls) × (told : Option ℕ) × IsCallsFile history known × IsLost known certificate verdict told
    × (lines ≡ count_lines (report_of known.eras known.calls) ++ lost_lines told))

-- what is reported of a history file and a certificate's text
abbrev pub IsReported : List ℕ → List ℕ → ℕ → List ℕ → Type 0
IsReported history certificate status line =
    (verdict : FileVerdict) × (lines : List ℕ) × IsFileVerdict history certificate verdict × AreLinesOf history certificate verdict lines
    × (status ≡ status_of verdict) × (line ≡ lines ++ line_of verdict)

-- what is reported of two files as they were read, where one that couldn't be read has no bytes: the first such one is named
abbrev pub IsReportedOfRead : Option (List ℕ) → Option (List ℕ) → ℕ → List ℕ → Type 0
IsReportedOfRead None certificate status line = IsRefusal (codes "unreadable history") status line
IsReportedOfRead (Some history) None status line = IsRefusal (codes "unreadable certificate") status line
IsReportedOfRead (Some history) (Some certificate) status line = IsReported history certificate status line
