-- The statuses of what is said of files that were read.
use Rattle.std.proofs.Common.{◌≡◌, ◌<◌, ℕ, List, Option, Some, None, Result, Ok, Err, sym, subst, arith}
use Rattle.std.specs.Prelude.{IfOk}
use Rattle.program_streams.specs.Told.{Answer}
use Rattle.witness_check.specs.declared.verdict.FileVerdict.{FileVerdict}
use Rattle.witness_check.specs.declared.verdict.FileVerdict.TheVariants.{Yes, No, BadHistory, BadText}
use Rattle.showing_command.specs.judging_commands_specs.Report.{status_of, IsSaidOfRead}
use Rattle.showing_command.specs.judging_commands_specs.Reported.{IsReportedOfRead}
use Rattle.showing_command.specs.judging_commands_specs.Objects.{HasStatusOfRead}

verdict_below : (verdict : FileVerdict) → status_of verdict < 3
verdict_below Yes = omega arith
verdict_below (No fault) = omega arith
verdict_below (BadHistory fault) = omega arith
verdict_below (BadText fault) = omega arith

below : (status other : ℕ) → status ≡ other → other < 3 → status < 3
below status other is less = subst (λ n. n < 3) (sym is) less

two_below : (status : ℕ) → status ≡ 2 → status < 3
two_below status is = below status 2 is (omega arith)

status_below : (history certificate : Option (List ℕ)) (status : ℕ) → HasStatusOfRead history certificate status → status < 3
status_below None certificate status is = two_below status is
status_below (Some history) None status is = two_below status is
status_below (Some history) (Some certificate) status is = below status (status_of is.0) is.2 (verdict_below is.0)

said_below : (history certificate : Option (List ℕ)) (status : ℕ) (line : List ℕ) → IsSaidOfRead history certificate status line → status < 3
said_below None certificate status line is = two_below status is.0
said_below (Some history) None status line is = two_below status is.0
said_below (Some history) (Some certificate) status line is = below status (status_of is.0) is.2 (verdict_below is.0)

reported_below : (history certificate : Option (List ℕ)) (status : ℕ) (line : List ℕ) → IsReportedOfRead history certificate status line → status < 3
reported_below None certificate status line is = two_below status is.0
reported_below (Some history) None status line is = two_below status is.0
reported_below (Some history) (Some certificate) status line is = below status (status_of is.0) is.4 (verdict_below is.0)

-- so what is said of files that were read has a status below 3
pub known_object : {E : Type 0} (r : Result Answer E) → IfOk r (λ report. (history_read : Option (List ℕ)) × (certificate_read : Option (List ℕ)) × HasStatusOfRead history_read certificate_read report.status)
    → IfOk r (λ report. report.status < 3)
known_object (Ok report) is = status_below is.0 is.1 report.status is.2
known_object (Err e) is = tt

pub known_line : {E : Type 0} (r : Result Answer E) → IfOk r (λ report. (history_read : Option (List ℕ)) × (certificate_read : Option (List ℕ)) × IsSaidOfRead history_read certificate_read report.status report.line)
    → IfOk r (λ report. report.status < 3)
known_line (Ok report) is = said_below is.0 is.1 report.status report.line is.2
known_line (Err e) is = tt

pub known_report : {E : Type 0} (r : Result Answer E) → IfOk r (λ report. (history_read : Option (List ℕ)) × (certificate_read : Option (List ℕ)) × IsReportedOfRead history_read certificate_read report.status report.line)
    → IfOk r (λ report. report.status < 3)
known_report (Ok report) is = reported_below is.0 is.1 report.status report.line is.2
known_report (Err e) is = tt

pub known_explained : {E : Type 0} (r : Result Answer E) → IfOk r (λ report. (history_read : Option (List ℕ)) × (certificate_read : Option (List ℕ)) × (line : List ℕ) × IsSaidOfRead history_read certificate_read report.status line)
    → IfOk r (λ report. report.status < 3)
known_explained (Ok report) is = said_below is.0 is.1 report.status is.2 is.3
known_explained (Err e) is = tt
