-- What is reported of a file, from what was found of it.
use Rattle.std.proofs.Common.{◌≡◌, ◌⊎◌, ℕ, List, [], ◌++◌, Option, Result, Ok, Err, inl, inr, refl, ap, ◌∙◌}
use Rattle.std.specs.Prelude.{IfOk}
use Rattle.nfs_history.specs.declared.fault.HistoryFault.{HistoryFault}
use Rattle.nfs_history.specs.HistoryValue.{CallsValue}
use Rattle.nfs_history.specs.History.{IsCallsFile}
use Rattle.nfs_history.specs.FirstFault.{FirstFault}
use Rattle.history_report.specs.declared.counting.HistoryNumbers.{HistoryNumbers}
use Rattle.history_report.specs.Counted.{report_of}
use Rattle.witness_check.specs.declared.verdict.FileVerdict.{FileVerdict}
use Rattle.witness_check.specs.declared.verdict.FileVerdict.TheVariants.{BadHistory}
use Rattle.witness_check.specs.Verdict.{IsFileVerdict}
use Rattle.program_streams.specs.Told.{Answer}
use Rattle.judging_commands.specs.Report.{line_of, status_of}
use Rattle.judging_commands.specs.Reported.{IsLost, IsReported, count_lines, lost_lines}
use Rattle.judging_commands.specs.Objects.{HasStatus}

-- of two, the one that is left
pub left : {P Q : Type 0} → P ⊎ Q → (P → ⊥) → Q
left (inl p) none = absurd (none p)
left (inr q) none = q

-- of a history, its numbers and what was found of it
pub of_history : (file certificate line : List ℕ) (known : CallsValue) (verdict : FileVerdict) (told : Option ℕ) (status : ℕ)
    → IsCallsFile file known → IsFileVerdict file certificate verdict → IsLost known certificate verdict told
    → status ≡ status_of verdict
    → line ≡ (count_lines (report_of known.eras known.calls) ++ lost_lines told) ++ line_of verdict
    → IsReported file certificate status line
of_history file certificate line known verdict told status is found lost s l = (
  verdict,
  count_lines (report_of known.eras known.calls) ++ lost_lines told,
  found,
  inr (known, told, is, lost, refl),
  s,
  l,
)

-- of no history, its fault
pub of_no_history : (file certificate line : List ℕ) (fault : HistoryFault) (status : ℕ) → FirstFault file fault
    → status ≡ status_of (BadHistory fault) → line ≡ line_of (BadHistory fault) → IsReported file certificate status line
of_no_history file certificate line fault status first s l = (BadHistory fault, [], first, inl (fault, refl, refl), s, l)

-- what is given of a history is reported of it
pub history_reported : (file certificate : List ℕ) (known : CallsValue) (counts : HistoryNumbers) (verdict : FileVerdict) (told : Option ℕ)
    → IsCallsFile file known → IsFileVerdict file certificate verdict → IsLost known certificate verdict told
    → counts ≡ report_of known.eras known.calls
    → {E : Type 0} (given : Result Answer E) → IfOk given (λ report. report.status ≡ status_of verdict)
    → IfOk given (λ report. report.line ≡ (count_lines counts ++ lost_lines told) ++ line_of verdict)
    → IfOk given (λ report. IsReported file certificate report.status report.line)
history_reported file certificate known counts verdict told is found lost counted (Ok report) s l =
    of_history file certificate report.line known verdict told report.status is found lost s (l ∙ ap (λ (c : HistoryNumbers). (count_lines c ++ lost_lines told) ++ line_of verdict) counted)
history_reported file certificate known counts verdict told is found lost counted (Err e) s l = tt

-- what is given of no history is reported of it
pub fault_reported : (file certificate : List ℕ) (fault : HistoryFault) → FirstFault file fault
    → {E : Type 0} (given : Result Answer E) → IfOk given (λ report. report.status ≡ status_of (BadHistory fault))
    → IfOk given (λ report. report.line ≡ line_of (BadHistory fault))
    → IfOk given (λ report. IsReported file certificate report.status report.line)
fault_reported file certificate fault first (Ok report) s l = of_no_history file certificate report.line fault report.status first s l
fault_reported file certificate fault first (Err e) s l = tt

-- what is given with a verdict's status has the status of the two texts
pub verdict_has_status : (file certificate : List ℕ) (verdict : FileVerdict) → IsFileVerdict file certificate verdict
    → {E : Type 0} (given : Result Answer E) → IfOk given (λ report. report.status ≡ status_of verdict)
    → IfOk given (λ report. HasStatus file certificate report.status)
verdict_has_status file certificate verdict found (Ok report) s = (verdict, found, s)
verdict_has_status file certificate verdict found (Err e) s = tt

pub fault_has_status : (file certificate : List ℕ) (fault : HistoryFault) → FirstFault file fault
    → {E : Type 0} (given : Result Answer E) → IfOk given (λ report. report.status ≡ status_of (BadHistory fault))
    → IfOk given (λ report. HasStatus file certificate report.status)
fault_has_status file certificate fault first given s = verdict_has_status file certificate (BadHistory fault) first given s
