-- A no has its cause.
use Rattle.std.proofs.Common.{◌≡◌, ◌<◌, ℕ, Bool, true, false, refl, List, Option, Some, None, sym, subst, IsTrue, ltb-true, rules, inl, inr, ◌≢◌, ◌⊎◌, Result, Ok, Err, IfOk}
use Rattle.std.specs.Prelude.{nat_lt}
use Rattle.nfs_history.specs.declared.fault.HistoryFault.{HistoryFault}
use Rattle.nfs_history.specs.declared.fault.HistoryFault.TheVariants as history_faults
use Rattle.nfs_history.specs.FirstFault.{FirstFault}
use Rattle.deciding_command.specs.declared.file_decision.FileDecision.{FileDecision}
use Rattle.deciding_command.specs.declared.file_decision.FileDecision.TheVariants as decisions
use Rattle.deciding_command.specs.FileDecision.{Decides}
use Rattle.witness_check.specs.Witness.{AreAccepted}
use Rattle.night_lanes.specs.declared.troubles.Troubles.{Troubles}
use Rattle.night_verdict.specs.declared.facts.NightEnd.{NightEnd}
use Rattle.night_verdict.specs.declared.verdict.Cause.{Cause}
use Rattle.night_verdict.specs.declared.verdict.Cause.TheVariants as causes
use Rattle.night_verdict.specs.declared.verdict.Doubt.{Doubt}
use Rattle.night_verdict.specs.declared.verdict.Doubt.TheVariants as doubts
use Rattle.night_verdict.specs.declared.verdict.NightVerdict.{NightVerdict}
use Rattle.night_verdict.specs.declared.verdict.NightVerdict.TheVariants.{Yes, No, Doubt as IsDoubt}
use Rattle.night_verdict.specs.declared.judging.Answered.{Answered}
use Rattle.night_verdict.specs.Verdict.{AreAnswered, has_trouble_of_server, is_not_up, IsCause, health_by, doubt_of, unless_doubt, unless_few, first_doubt, is_few, verdict_in_health, unless_cause}

true_is : (b : Bool) → b ≡ true → IsTrue b
true_is b is = subst IsTrue (sym is) (search rules)

no_doubt : (doubt : Option Doubt) (cause : Cause) → unless_doubt doubt ≡ No cause → ⊥
no_doubt (Some doubt) cause same = absurd cc
no_doubt None cause same = absurd cc

pub few_is : (astray : Bool) (answered at_least : ℕ) → is_few astray (nat_lt answered at_least) ≡ true → answered < at_least
few_is true answered at_least is = absurd cc
few_is false answered at_least is = ltb-true answered at_least is

-- a yes has a certificate
pub yes_accepted : (troubles : Troubles) (end : NightEnd) (few : Bool) (little : Option Doubt) (history : List ℕ) (decision : FileDecision) → Decides history decision → (why : Option Cause)
    → unless_cause why (verdict_in_health troubles end few little decision) ≡ Yes → (text : List ℕ) × AreAccepted history text
yes_accepted troubles end few little history decision decides (Some cause) same = absurd cc
yes_accepted troubles end few little history (decisions.BadHistory fault) decides None same = absurd cc
yes_accepted troubles end true little history (decisions.NoWitness event call) decides None same = absurd cc
yes_accepted troubles end false little history (decisions.NoWitness event call) decides None same = absurd cc
yes_accepted troubles end true little history (decisions.Undecided reason) decides None same = absurd cc
yes_accepted troubles end false little history (decisions.Undecided reason) decides None same = absurd cc
yes_accepted troubles end few little history (decisions.Yes text) decides None same = (text.items, decides)

module _ (troubles : Troubles) (end : NightEnd) (at_least answered : ℕ) (history : List ℕ) where
  abbrev pub Holds : Cause → Type 0
  Holds cause = IsCause troubles end at_least answered history cause

  of_few : (few : Bool) → (few ≡ true → answered < at_least) → (verdict : NightVerdict) (cause : Cause) → (verdict ≡ No cause → Holds cause) → unless_few few verdict ≡ No cause → Holds cause
  of_few true is verdict cause other same =
      let e : causes.TooFew ≡ cause = cc in
      subst Holds e (is refl)
  of_few false is verdict cause other same = other same

  in_health : (decision : FileDecision) → Decides history decision → (few : Bool) (little : Option Doubt) → (few ≡ true → answered < at_least) → (cause : Cause) → verdict_in_health troubles end few little decision ≡ No cause → Holds cause
  in_health (decisions.BadHistory fault) decides few little is cause same = absurd cc
  in_health (decisions.NoWitness event call) decides few little is cause same =
      of_few few is (No causes.NoWitness) cause (λ other. let e : causes.NoWitness ≡ cause = cc in subst Holds e (event, call, decides.0, decides.1)) same
  in_health (decisions.Undecided reason) decides few little is cause same = of_few few is (IsDoubt doubts.Undecided) cause (λ other. absurd cc) same
  in_health (decisions.Yes text) decides few little is cause same =
      of_few few is (unless_doubt (first_doubt little (doubt_of troubles end))) cause (λ other. absurd (no_doubt (first_doubt little (doubt_of troubles end)) cause other)) same

  pub cause_holds : (decision : FileDecision) → Decides history decision → (cause : Cause) → (trouble : Bool) → has_trouble_of_server end troubles.kept.items ≡ trouble → (not_up : Bool) → is_not_up end ≡ not_up
      → (few : Bool) (little : Option Doubt) → (few ≡ true → answered < at_least) → unless_cause (health_by trouble not_up) (verdict_in_health troubles end few little decision) ≡ No cause → Holds cause
  cause_holds decision decides cause true et not_up eu few little ef same =
      let e : causes.Trouble ≡ cause = cc in
      subst Holds e (true_is (has_trouble_of_server end troubles.kept.items) et)
  cause_holds decision decides cause false et true eu few little ef same =
      let e : causes.NotUp ≡ cause = cc in
      subst Holds e (true_is (is_not_up end) eu)
  cause_holds decision decides cause false et false eu few little ef same = in_health decision decides few little ef cause same

either_fault : (bytes : List ℕ) (fault : HistoryFault) → fault ≢ history_faults.NoMemory → (fault ≡ history_faults.NoMemory) ⊎ FirstFault bytes fault → FirstFault bytes fault
either_fault bytes fault isnt (inl same) = absurd (isnt same)
either_fault bytes fault isnt (inr first) = first

pub none_there : {E : Type 0} (bytes : List ℕ) (fault : HistoryFault) (told : Result Answered E) → (fault ≡ history_faults.NoMemory) ⊎ FirstFault bytes fault
    → IfOk told (λ count. (count.all ≡ 0) × (count.excused ≡ 0) × (count.idleness.idle ≡ 0) × (count.idleness.procedure ≡ None)) → IfOk told (λ _. fault ≢ history_faults.NoMemory)
    → IfOk told (AreAnswered bytes)
none_there bytes fault (Ok count) either is isnt =
    let first = either_fault bytes fault isnt either in
    (inr (fault, first, is.0), inr (fault, first, is.1), inr (fault, first, is.2, is.3))
none_there bytes fault (Err e) either is isnt = tt
