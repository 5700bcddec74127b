-- What is said with words behind it.
use Rattle.std.proofs.Common.{◌≡◌, ◌++◌, ◌<◌, ℕ, List, Option, Result, Ok, Err, sym, ◌∙◌, subst}
use Rattle.std.specs.Prelude.{IfOk}
use Rattle.witness_check.specs.Witness.{AreAccepted}
use Rattle.program_streams.specs.Told.{Answer}
use Rattle.judging_commands.specs.Report.{IsSaidOfRead}
use Rattle.deciding_command.specs.declared.file_decision.FileDecision.{FileDecision}
use Rattle.deciding_command.specs.FileDecision.{IsWithoutWitness, IsNeverAccepted, Decides, IsYes, IsNo}
use Rattle.deciding_command.proofs.NoText.{text_of_yes, never_of_no}
use Rattle.nfs_history.specs.declared.knowing.KnownCalls.{KnownCalls}
use Rattle.nfs_history.specs.History.{IsCallsFile}
use Rattle.certificate.specs.declared.plan.Certificate.{Certificate}
use Rattle.certificate.specs.CertificateText.{CertificateText}
use Rattle.witness_check.specs.declared.verdict.Verdict.{Verdict}
use Rattle.witness_check.specs.declared.verdict.Verdict.TheVariants as plans
use Rattle.witness_check.specs.Verdict.{IsVerdict, IsFileVerdict}
use Rattle.explaining_command.specs.Explained.{IsExplained}
use Rattle.explaining_command.specs.Found.{of_plan}

-- the verdict on a plan is that on the files that it was read from
pub of_files : (file text : List ℕ) (history : KnownCalls) (plan : Certificate) (verdict : Verdict) → IsCallsFile file history → CertificateText text plan → IsVerdict history plan verdict
    → IsFileVerdict file text (of_plan verdict)
of_files file text history plan plans.Yes calls spelled witness = record { history = history; plan = plan; file = calls; text = spelled; witness = witness }
of_files file text history plan (plans.No fault) calls spelled first = record { history = history; plan = plan; file = calls; text = spelled; first = first }

-- a verdict
pub explained : {E : Type 0} (history certificate : Option (List ℕ)) (told : Answer) (r : Result Answer E) → IsSaidOfRead history certificate told.status told.line
    → IfOk r (λ report. report.status ≡ told.status) → IfOk r (λ report. (words : List ℕ) × (report.line ≡ told.line ++ words))
    → IfOk r (λ report. IsExplained history certificate report.status report.line)
explained history certificate told (Ok report) said status line =
    (told.line, line.0, subst (λ s. IsSaidOfRead history certificate s told.line) (sym status) said, line.1)
explained history certificate told (Err e) said status line = tt

pub object : {E : Type 0} (history certificate : Option (List ℕ)) (told : Answer) (r : Result Answer E) → IsSaidOfRead history certificate told.status told.line
    → IfOk r (λ report. report.status ≡ told.status) → IfOk r (λ report. (line : List ℕ) × IsSaidOfRead history certificate report.status line)
object history certificate told (Ok report) said status = (told.line, subst (λ s. IsSaidOfRead history certificate s told.line) (sym status) said)
object history certificate told (Err e) said status = tt

-- a decision, of which this status was told
pub yes_behind : {E : Type 0} (bytes : List ℕ) (decision : FileDecision) (told : ℕ) (r : Result Answer E) → Decides bytes decision → (told ≡ 0 → IsYes decision)
    → IfOk r (λ report. report.status ≡ told) → IfOk r (λ report. report.status ≡ 0 → (text : List ℕ) × AreAccepted bytes text)
yes_behind bytes decision told (Ok report) decides says same = λ is. text_of_yes bytes decision decides (says (sym same ∙ is))
yes_behind bytes decision told (Err e) decides says same = tt

pub no_behind : {E : Type 0} (bytes : List ℕ) (decision : FileDecision) (told : ℕ) (r : Result Answer E) → Decides bytes decision → (told ≡ 1 → IsNo decision)
    → IfOk r (λ report. report.status ≡ told) → IfOk r (λ report. report.status ≡ 1 → IsWithoutWitness bytes × IsNeverAccepted bytes)
no_behind bytes decision told (Ok report) decides says same = λ is. never_of_no bytes decision decides (says (sym same ∙ is))
no_behind bytes decision told (Err e) decides says same = tt

pub known_behind : {E : Type 0} (told : Answer) (r : Result Answer E) → told.status < 3 → IfOk r (λ report. report.status ≡ told.status) → IfOk r (λ report. report.status < 3)
known_behind told (Ok report) known same = subst (λ s. s < 3) (sym same) known
known_behind told (Err e) known same = tt
