-- For the prover, and for callers.
-- What the status of a night says: it is that of the verdict on the bytes of its history, of what the log of troubles has and of how the night
-- ended; but no yes is said where a file of its folder can't be written (words of this project's own).
use Rattle.std.specs.Prelude.{◌≡◌, ◌⊎◌, ℕ, List, Bool, true, false}
use Rattle.tree_starts.specs.Head.{Head}
use Rattle.tree_starts.specs.declared.profile.Profile.{Profile}
use Rattle.tree_starts.specs.declared.profile.Profile.TheVariants.{Plain, Strict}
use Rattle.history_file.specs.Event.{Event}
use Rattle.history_file.specs.Writing.{file_text_from}
use Rattle.night_lanes.specs.declared.troubles.Troubles.{Troubles}
use Rattle.explaining_command.specs.deciding_command_specs.declared.file_decision.FileDecision.{FileDecision}
use Rattle.explaining_command.specs.deciding_command_specs.FileDecision.{Decides}
use Rattle.night_eras.specs.night_verdict_specs.declared.judging.Answered.{Answered}
use Rattle.night_eras.specs.night_verdict_specs.declared.facts.NightEnd.{NightEnd}
use Rattle.night_eras.specs.night_verdict_specs.declared.facts.NightFacts.{NightFacts}
use Rattle.night_eras.specs.night_verdict_specs.declared.verdict.NightVerdict.{NightVerdict}
use Rattle.night_eras.specs.night_verdict_specs.Verdict.{AreAnswered, verdict_of}
use Rattle.night_command.specs.Status.{told_status}

abbrev pub profile_asked : Bool → Profile
profile_asked true = Strict
profile_asked false = Plain

-- what is said of a history's bytes after a night that ended so, whose clients met these troubles
pub record IsJudged (end : NightEnd) (troubles : Troubles) (history : List ℕ) (verdict : NightVerdict) : Type 0 where
  pub facts : NightFacts
  pub hindered : facts.troubles.now ≡ troubles
  pub ended : facts.end ≡ end
  pub answered : Answered
  pub counted : AreAnswered history answered
  pub decision : FileDecision
  pub decided : Decides history decision
  pub exact : verdict ≡ verdict_of facts answered decision

-- the status of a verdict on these bytes
pub record IsStatusOf (end : NightEnd) (history : List ℕ) (status : ℕ) : Type 0 where
  pub troubles : Troubles
  pub verdict : NightVerdict
  pub judged : IsJudged end troubles history verdict
  pub is_written : Bool
  pub said : status ≡ told_status is_written verdict

-- the status of a night whose history begins so, and whose clients noted some events
pub record IsNight (end : NightEnd) (head : Head) (status : ℕ) : Type 0 where
  pub events : List Event
  pub history : List ℕ
  pub file : history ≡ file_text_from head events
  pub is : IsStatusOf end history status

-- the status of some night under this profile
pub record IsNightUnder (profile : Profile) (status : ℕ) : Type 0 where
  pub end : NightEnd
  pub head : Head
  pub asked : head.profile ≡ profile
  pub night : IsNight end head status

-- or there was none, or its history is too large: it is refused
abbrev pub IsNightOrRefused : Profile → ℕ → Type 0
IsNightOrRefused profile status = (status ≡ 2) ⊎ IsNightUnder profile status
