-- Believed.
-- What a decision says of the bytes of a history file, by the definitions of `witness_check`.
use Rattle.std.specs.Prelude.{ℕ, List}
use Rattle.nfs_history.specs.declared.knowing.KnownCalls.{KnownCalls}
use Rattle.nfs_history.specs.FirstFault.{FirstFault}
use Rattle.nfs_history.specs.History.{IsCallsFile}
use Rattle.witness_check.specs.Witness.{AreAccepted}
use Rattle.decide.specs.Decision.{HasNoWitness, IsAnsweredAt}
use Rattle.deciding_command.specs.declared.file_decision.FileDecision.{FileDecision}
use Rattle.deciding_command.specs.declared.file_decision.FileDecision.TheVariants.{Yes, NoWitness, Undecided, BadHistory}

-- the bytes are the file of a history of which no certificate is a witness
abbrev pub IsWithoutWitness : List ℕ → Type 0
IsWithoutWitness bytes = (history : KnownCalls) × IsCallsFile bytes history × HasNoWitness history

-- they are so, and this call of that history was answered at this event; or it is no call, and an era's end is named by it
abbrev pub IsWithoutWitnessAt : List ℕ → ℕ → ℕ → Type 0
IsWithoutWitnessAt bytes event call = (history : KnownCalls) × IsCallsFile bytes history × HasNoWitness history × IsAnsweredAt history call event

-- so no certificate's text is accepted with them
abbrev pub IsNeverAccepted : List ℕ → Type 0
IsNeverAccepted bytes = (text : List ℕ) → ¬ AreAccepted bytes text

-- a yes has a certificate's text; where the answer is that there is no witness, none is one, and the call that is named was answered at the
-- event that is named; undecided claims nothing
abbrev pub Decides : List ℕ → FileDecision → Type 0
Decides bytes (Yes text) = AreAccepted bytes text.items
Decides bytes (NoWitness event call) = IsWithoutWitnessAt bytes event call × IsNeverAccepted bytes
Decides bytes (Undecided reason) = Unit {0}
Decides bytes (BadHistory fault) = FirstFault bytes fault

abbrev pub IsRefused : FileDecision → Type 0
IsRefused (Yes text) = ⊥
IsRefused (NoWitness event call) = ⊥
IsRefused (Undecided reason) = ⊥
IsRefused (BadHistory fault) = Unit {0}

-- ---- for the prover and private functions

abbrev pub IsYes : FileDecision → Type 0
IsYes (Yes text) = Unit {0}
IsYes (NoWitness event call) = ⊥
IsYes (Undecided reason) = ⊥
IsYes (BadHistory fault) = ⊥

abbrev pub IsNo : FileDecision → Type 0
IsNo (Yes text) = ⊥
IsNo (NoWitness event call) = Unit {0}
IsNo (Undecided reason) = ⊥
IsNo (BadHistory fault) = ⊥
