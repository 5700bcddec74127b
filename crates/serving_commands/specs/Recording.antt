-- For the prover, and for callers.
-- What a run of the bundled server gives: the texts of a history and of a certificate that is a witness of it, and what they come to in
-- numbers (this project's own).
use Rattle.std.specs.Prelude.{◌≡◌}
use Rattle.nfs_history.specs.declared.knowing.KnownCalls.{KnownCalls}
use Rattle.nfs_history.specs.History.{IsCallsFile}
use Rattle.certificate.specs.declared.plan.Certificate.{Certificate}
use Rattle.certificate.specs.CertificateText.{CertificateText}
use Rattle.witness_check.specs.Witness.{IsWitness}
use Rattle.history_report.specs.Counted.{report_of}
use Rattle.history_report.specs.Lost.{lost}
use Rattle.serving_commands.specs.declared.recorded.Counts.{Counts}
use Rattle.serving_commands.specs.declared.recorded.RunTexts.{RunTexts}

-- what a history and a certificate come to in numbers
pub record AreCountsOf (known : KnownCalls) (plan : Certificate) (counts : Counts) : Type 0 where
  pub eras : counts.eras ≡ known.eras
  pub calls : counts.calls ≡ (report_of known.eras known.calls).calls
  pub answered : counts.answered ≡ (report_of known.eras known.calls).answered
  pub lost : counts.lost ≡ lost known.calls plan.eras

-- the texts of a history and of a certificate that is a witness of it
pub record IsRecordingOf (known : KnownCalls) (plan : Certificate) (recorded : RunTexts) : Type 0 where
  pub file : IsCallsFile recorded.history.items known
  pub text : CertificateText recorded.certificate.items plan
  pub witness : IsWitness known plan
  pub counts : AreCountsOf known plan recorded.counts

-- the texts of some history and of a witness of it
abbrev pub IsRecording : RunTexts → Type 0
IsRecording recorded = (known : KnownCalls) × (plan : Certificate) × IsRecordingOf known plan recorded
