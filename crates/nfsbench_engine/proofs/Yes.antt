-- Of the texts of a history and of a witness of it a yes is said.
use Rattle.std.proofs.Common.{◌≡◌, ℕ, List, [], ◌++◌, Result, Ok, Err, refl, sym, subst, ap, ◌∙◌}
use Rattle.std.specs.Prelude.{IfOk}
use Rattle.witness_check.specs.declared.verdict.FileVerdict.TheVariants.{Yes}
use Rattle.program_streams.specs.Told.{Answer}
use Rattle.serving_commands.specs.declared.fault.RunFault.{RunFault}
use Rattle.serving_commands.specs.declared.recorded.RunTexts.{RunTexts}
use Rattle.serving_commands.specs.Recording.{IsRecording}
use Rattle.showing_command.specs.judging_commands_specs.Report.{IsSaidOfFiles, line_of}
use Rattle.nfsbench_engine.specs.Ran.{IsSaidOfRan, IsSaidOfServed, IsYesBehind, run_lines}

pub yes_said : (recorded : RunTexts) → IsRecording recorded → IsSaidOfFiles recorded.history.items recorded.certificate.items 0 (line_of Yes)
yes_said recorded r = (Yes, record { history = r.0; plan = r.1; file = r.2.file; text = r.2.text; witness = r.2.witness }, refl, refl)

-- the same behind other lines
pub yes_behind : {E : Type 0} (r : Result Answer E) (lines words : List ℕ) (said : Answer) → said.status ≡ 0 → said.line ≡ line_of Yes → lines ≡ words
    → IfOk r (λ report. report.status ≡ said.status) → IfOk r (λ report. report.line ≡ lines ++ said.line)
    → IfOk r (λ report. IsYesBehind words report.status report.line)
yes_behind (Ok report) lines words said zero accepted same status line =
    (status ∙ zero, line ∙ ap (λ (l : List ℕ). l ++ said.line) same ∙ ap (λ (l : List ℕ). words ++ l) accepted)
yes_behind (Err e) lines words said zero accepted same status line = tt

-- of a run that gave such texts
pub ran_yes : {E : Type 0} (ran : Result RunTexts RunFault) (recorded : RunTexts) → ran ≡ Ok recorded → (r : Result Answer E)
    → (IsRecording recorded → IfOk r (λ report. IsYesBehind (run_lines recorded.counts) report.status report.line)) → IfOk ran IsRecording
    → IfOk r (λ report. IsSaidOfRan ran report.status report.line)
ran_yes ran recorded is r said recording =
    subst (λ (end : Result RunTexts RunFault). IfOk r (λ report. IsSaidOfRan end report.status report.line)) (sym is)
    (said (subst (λ (end : Result RunTexts RunFault). IfOk end IsRecording) is recording))

-- of connections that gave such texts
pub served_yes : {E : Type 0} (served : Result RunTexts RunFault) (recorded : RunTexts) → served ≡ Ok recorded → (r : Result Answer E)
    → (IsRecording recorded → IfOk r (λ report. (report.status ≡ 0) × (report.line ≡ line_of Yes))) → IfOk served IsRecording
    → IfOk r (λ report. IsSaidOfServed served report.status report.line)
served_yes served recorded is r said recording =
    subst (λ (end : Result RunTexts RunFault). IfOk r (λ report. IsSaidOfServed end report.status report.line)) (sym is)
    (said (subst (λ (end : Result RunTexts RunFault). IfOk end IsRecording) is recording))
