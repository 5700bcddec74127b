-- where a history has no witness its file is accepted with no text; what is told of it
use Rattle.std.proofs.Common.{ℕ, List, Option, subst}
use Rattle.nfs_history.specs.HistoryValue.{HistoryValue}
use Rattle.nfs_history.specs.History.{IsHistoryFile}
use Rattle.nfs_history.proofs.FirstFaultLaws.{calls_in}
use Rattle.nfs_history.proofs.OneHistory.{one_calls}
use Rattle.witness_check.specs.Witness.{IsWitness, AreAccepted}
use Rattle.decide.specs.Decision.{HasNoWitness, IsAnsweredAt}
use Rattle.deciding_command.specs.declared.file_decision.FileDecision.{FileDecision}
use Rattle.deciding_command.specs.declared.file_decision.FileDecision.TheVariants as decisions
use Rattle.deciding_command.specs.FileDecision.{IsWithoutWitness, IsWithoutWitnessAt, IsNeverAccepted, Decides, IsYes, IsNo}
use Rattle.deciding_command.specs.Told.{IsToldWithHints, no_line, line_of_no}

pub no_text : (bytes : List ℕ) (history : HistoryValue) (event call : ℕ) → IsHistoryFile bytes history → HasNoWitness history.known → IsAnsweredAt history.known call event
    → IsWithoutWitnessAt bytes event call × IsNeverAccepted bytes
no_text bytes history event call file none answered =
    let known = calls_in bytes history file in
    ((history.known, known, none, answered), λ text accepted. none accepted.plan (subst (λ k. IsWitness k accepted.plan) (one_calls bytes accepted.history history.known accepted.file known) accepted.witness))

pub text_of_yes : (bytes : List ℕ) (decision : FileDecision) → Decides bytes decision → IsYes decision → (text : List ℕ) × AreAccepted bytes text
text_of_yes bytes (decisions.Yes text) decides is = (text.items, decides)
text_of_yes bytes (decisions.NoWitness event call) decides is = absurd is
text_of_yes bytes (decisions.Undecided reason) decides is = absurd is
text_of_yes bytes (decisions.BadHistory fault) decides is = absurd is

pub never_of_no : (bytes : List ℕ) (decision : FileDecision) → Decides bytes decision → IsNo decision → IsWithoutWitness bytes × IsNeverAccepted bytes
never_of_no bytes (decisions.Yes text) decides is = absurd is
never_of_no bytes (decisions.NoWitness event call) decides is = ((decides.0.0, decides.0.1, decides.0.2), decides.1)
never_of_no bytes (decisions.Undecided reason) decides is = absurd is
never_of_no bytes (decisions.BadHistory fault) decides is = absurd is

-- what is told of a no names its event and its call
pub told_of_no : (bytes : List ℕ) (decision : FileDecision) (old new : Option (List ℕ)) (hints : ℕ) → Decides bytes decision → IsNo decision → IsToldWithHints old new (line_of_no decision) hints
    → (event : ℕ) × (call : ℕ) × IsWithoutWitnessAt bytes event call × IsToldWithHints old new (no_line event call) hints
told_of_no bytes (decisions.Yes text) old new hints decides is told = absurd is
told_of_no bytes (decisions.NoWitness event call) old new hints decides is told = (event, call, decides.0, told)
told_of_no bytes (decisions.Undecided reason) old new hints decides is told = absurd is
told_of_no bytes (decisions.BadHistory fault) old new hints decides is told = absurd is
