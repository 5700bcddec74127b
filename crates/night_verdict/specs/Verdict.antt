-- For the prover, and for callers.
-- What is said of a night (words of this project's own).
use Rattle.std.specs.Prelude.{◌≡◌, ◌⊎◌, ℕ, ◌<◌, ◌/◌, ◌&&◌, not, nat_lt, Bool, true, false, IsTrue, List, [], ◌∷◌, Option, Some, None, is_some}
use Rattle.std.specs.List.{list_any}
use Rattle.nfs_history.specs.declared.knowing.KnownCalls.{KnownCalls}
use Rattle.nfs_history.specs.History.{IsCallsFile}
use Rattle.nfs_history.specs.declared.fault.HistoryFault.{HistoryFault}
use Rattle.nfs_history.specs.FirstFault.{FirstFault}
use Rattle.history_report.specs.Counted.{report_of}
use Rattle.night_answers.specs.declared.answers.Idleness.{Idleness}
use Rattle.night_answers.specs.Answers.{idle_answers, idle_procedure, is_idle}
use Rattle.deciding_command.specs.declared.file_decision.FileDecision.{FileDecision}
use Rattle.deciding_command.specs.declared.file_decision.FileDecision.TheVariants as decisions
use Rattle.deciding_command.specs.FileDecision.{IsWithoutWitnessAt, IsNeverAccepted}
use Rattle.night_lanes.specs.declared.troubles.Trouble.{Trouble}
use Rattle.night_lanes.specs.declared.troubles.TroubleKind.{TroubleKind}
use Rattle.night_lanes.specs.declared.troubles.TroubleKind.TheVariants as kinds
use Rattle.night_lanes.specs.declared.troubles.Troubles.{Troubles}
use Rattle.night_verdict.specs.declared.judging.Answered.{Answered}
use Rattle.night_verdict.specs.declared.facts.NightEnd.{NightEnd}
use Rattle.night_verdict.specs.declared.facts.NightFacts.{NightFacts}
use Rattle.night_verdict.specs.declared.facts.NightEnd.TheVariants as ends
use Rattle.night_verdict.specs.declared.verdict.Cause.{Cause}
use Rattle.night_verdict.specs.declared.verdict.Cause.TheVariants as causes
use Rattle.night_verdict.specs.declared.verdict.Doubt.{Doubt}
use Rattle.night_verdict.specs.declared.verdict.Doubt.TheVariants as doubts
use Rattle.night_verdict.specs.declared.verdict.NightVerdict.{NightVerdict}
use Rattle.night_verdict.specs.declared.verdict.NightVerdict.TheVariants.{Yes, No, Doubt as IsDoubt}

-- whether the server made a trouble: the log and the memory are this side's
abbrev pub is_of_server : TroubleKind → Bool
is_of_server (kinds.LogRefuses fault) = false
is_of_server kinds.LogFull = false
is_of_server kinds.NoSocket = false
is_of_server kinds.NoMemory = false
is_of_server kind = true

-- the orders went astray: the server may have been killed and nothing told of it, or it wasn't and they told of it
abbrev pub is_astray : NightEnd → Bool
is_astray (ends.NotDown crash) = true
is_astray (ends.OrdersEnded crash) = true
is_astray (ends.NoOrder crash seconds) = true
is_astray (ends.OtherOrder crash) = true
is_astray (ends.Unreadable crash) = true
is_astray (ends.MoreOrders crash) = true
is_astray end = false

-- what the clients of a server that was killed see
abbrev pub is_of_crash : TroubleKind → Bool
is_of_crash kinds.CannotConnect = true
is_of_crash kinds.Ended = true
is_of_crash kinds.NoReply = true
is_of_crash kind = false

-- a trouble that the server is blamed for: one that it made, and not one that a crash explains which may have come
abbrev pub is_blamed : NightEnd → TroubleKind → Bool
is_blamed end kind = is_of_server kind && not (is_astray end && is_of_crash kind)

abbrev pub has_trouble_of_server : NightEnd → List Trouble → Bool
has_trouble_of_server end troubles = list_any (λ (trouble : Trouble). is_blamed end trouble.kind) troubles

-- so many judged calls of the history in these bytes were answered; none, where the bytes are no history
abbrev pub IsAnswered : List ℕ → ℕ → Type 0
IsAnswered bytes count =
    ((known : KnownCalls) × IsCallsFile bytes known × (count ≡ (report_of known.eras known.calls).answered))
    ⊎ ((fault : HistoryFault) × FirstFault bytes fault × (count ≡ 0))

-- so many of them by a status which may answer any call
abbrev pub IsExcused : List ℕ → ℕ → Type 0
IsExcused bytes count =
    ((known : KnownCalls) × IsCallsFile bytes known × (count ≡ (report_of known.eras known.calls).excused))
    ⊎ ((fault : HistoryFault) × FirstFault bytes fault × (count ≡ 0))

-- so much did the answers do nothing
abbrev pub IsIdleness : List ℕ → Idleness → Type 0
IsIdleness bytes found =
    ((known : KnownCalls) × IsCallsFile bytes known × (found.idle ≡ idle_answers known.calls) × (found.procedure ≡ idle_procedure known.calls))
    ⊎ ((fault : HistoryFault) × FirstFault bytes fault × (found.idle ≡ 0) × (found.procedure ≡ None))

-- all that is counted of a history
abbrev pub AreAnswered : List ℕ → Answered → Type 0
AreAnswered bytes count = IsAnswered bytes count.all × IsExcused bytes count.excused × IsIdleness bytes count.idleness

-- those are over a quarter: the server may have done nothing that was asked of it
abbrev pub is_mostly_excused : ℕ → ℕ → Bool
is_mostly_excused answered excused = nat_lt (answered / 4) excused

-- it didn't come up in time after a crash; each era and each crash came about
abbrev pub is_not_up : NightEnd → Bool
is_not_up (ends.NotUp crash seconds) = true
is_not_up end = false

abbrev pub is_whole : NightEnd → Bool
is_whole ends.Whole = true
is_whole end = false

-- why the server is at fault, and what is so then: it made a trouble; it didn't come up in time; too few calls of the history were
-- answered; or no certificate explains the history
abbrev pub IsCause : Troubles → NightEnd → ℕ → ℕ → List ℕ → Cause → Type 0
IsCause troubles end at_least answered history causes.Trouble = IsTrue (has_trouble_of_server end troubles.kept.items)
IsCause troubles end at_least answered history causes.NotUp = IsTrue (is_not_up end)
IsCause troubles end at_least answered history causes.TooFew = answered < at_least
IsCause troubles end at_least answered history causes.NoWitness =
    (event : ℕ) × (call : ℕ) × IsWithoutWitnessAt history event call × IsNeverAccepted history

-- the order in which it is looked at: the server's health, the number of answered calls, the history, and this side
abbrev pub health_by : Bool → Bool → Option Cause
health_by true not_up = Some causes.Trouble
health_by false true = Some causes.NotUp
health_by false false = None

abbrev pub health_of : Troubles → NightEnd → Option Cause
health_of troubles end = health_by (has_trouble_of_server end troubles.kept.items) (is_not_up end)

abbrev pub doubt_by : Bool → List Trouble → Bool → Option Doubt
doubt_by true troubles whole = Some doubts.Ended
doubt_by false [] true = None
doubt_by false [] false = Some doubts.Ended
doubt_by false (trouble ∷ more) whole = Some doubts.Trouble

abbrev pub doubt_of : Troubles → NightEnd → Option Doubt
doubt_of troubles end = doubt_by (is_astray end) troubles.kept.items (is_whole end)

abbrev pub unless_doubt : Option Doubt → NightVerdict
unless_doubt (Some doubt) = IsDoubt doubt
unless_doubt None = Yes

abbrev pub unless_few : Bool → NightVerdict → NightVerdict
unless_few true verdict = No causes.TooFew
unless_few false verdict = verdict

-- too few calls are the server's fault only where the orders didn't go astray
abbrev pub is_few : Bool → Bool → Bool
is_few astray few = not astray && few

-- a night in which too little was done gets no yes: too many failures that may answer any call, too many answers that did nothing, calls that were
-- left aside, objects that weren't looked at behind the last crash, or fewer calls than a night is wanted to have
abbrev pub little_by : Bool → Bool → Bool → Bool → Bool → Option Doubt
little_by true idle aside unread short = Some doubts.Excused
little_by false true aside unread short = Some doubts.Idle
little_by false false true unread short = Some doubts.LeftAside
little_by false false false true short = Some doubts.Unread
little_by false false false false true = Some doubts.Few
little_by false false false false false = None

abbrev pub little_of : NightFacts → Answered → Option Doubt
little_of facts count =
    little_by (is_mostly_excused count.all count.excused) (is_idle count.all count.idleness) (is_some facts.left_aside) (nat_lt 0 facts.unread)
    (nat_lt count.all facts.wanted)

abbrev pub first_doubt : Option Doubt → Option Doubt → Option Doubt
first_doubt (Some doubt) other = Some doubt
first_doubt None other = other

abbrev pub verdict_in_health : Troubles → NightEnd → Bool → Option Doubt → FileDecision → NightVerdict
verdict_in_health troubles end few little (decisions.BadHistory fault) = IsDoubt doubts.BadHistory
verdict_in_health troubles end few little (decisions.NoWitness event call) = unless_few few (No causes.NoWitness)
verdict_in_health troubles end few little (decisions.Undecided reason) = unless_few few (IsDoubt doubts.Undecided)
verdict_in_health troubles end few little (decisions.Yes text) = unless_few few (unless_doubt (first_doubt little (doubt_of troubles end)))

abbrev pub unless_cause : Option Cause → NightVerdict → NightVerdict
unless_cause (Some cause) verdict = No cause
unless_cause None verdict = verdict

abbrev pub verdict_of : NightFacts → Answered → FileDecision → NightVerdict
verdict_of facts count decision =
    unless_cause (health_of facts.troubles.now facts.end)
    (verdict_in_health facts.troubles.now facts.end (is_few (is_astray facts.end) (nat_lt count.all facts.at_least)) (little_of facts count) decision)
