-- For the prover, and for callers.
-- Which points of a plan a state of the walk stands for (a form of this project's own; points are those of a plan of eras).
use Rattle.std.specs.Prelude.{◌≡◌, ◌==◌, ◌||◌, ℕ, zero, suc, ◌<◌, ◌≤◌, nat_lt, Bool, true, false, List, Some}
use Rattle.std.specs.List.{list_any, slice_index_or}
use Rattle.nfs_history.specs.declared.recorded.RecordedCall.{RecordedCall}
use Rattle.nfs_history.specs.declared.knowing.KnownCalls.{KnownCalls}
use Rattle.nfs_history.specs.Precedence.{call_at}
use Rattle.certificate.specs.declared.plan.Certificate.{Certificate}
use Rattle.decision_core.specs.Eras.{Numbering, is_placed}
use Rattle.decision_steps.specs.Known.{AgreesWith}
use Rattle.decision_law.specs.Laws.{binds_of}
use Rattle.decision_law.specs.Machine.{Point}
use Rattle.decision_law.specs.NeverLost.{Hints}
use Rattle.decision_law.specs.Times.{numbering_of, era_of_number}
use Rattle.decision_walk.specs.View.{WalkView}
use Rattle.decision_walk.specs.Opening.{HasWritten, HasWrittenBase}
use Rattle.decision_walk.specs.Bars.{AreBarred}

-- whether call n is one of those that are marked
abbrev pub is_marked : List Bool → ℕ → Bool
is_marked marks zero = false
is_marked marks (suc n) = slice_index_or marks n false

-- the marked calls are told to be lost in no crash, and nothing else is told
abbrev pub hints_of : List Bool → Hints
hints_of marks = record { never_lost = is_marked marks; saves = λ _ _. false }

abbrev pub numbers_of : KnownCalls → List Bool → Numbering
numbers_of known marks = numbering_of known (hints_of marks)

-- whether a call is one of these
abbrev pub has_call : List ℕ → ℕ → Bool
has_call calls n = list_any (λ m. m == n) calls

-- whether a number is that of a call, or of a crash, of an earlier era
abbrev pub is_of_earlier : KnownCalls → ℕ → ℕ → Bool
is_of_earlier known era n = nat_lt (era_of_number known n) era

-- whether a state tells of a call, or of a crash, that it is placed
abbrev pub is_told : KnownCalls → WalkView → ℕ → Bool
is_told known state n = is_of_earlier known state.past n || has_call state.placed n

-- the reply to call n, if one came, came by this event
abbrev pub EndsBy : KnownCalls → ℕ → ℕ → Type 0
EndsBy known n event = (recorded : RecordedCall) (at : ℕ) → call_at known.calls n ≡ Some recorded → recorded.«end» ≡ Some at → at ≤ event

-- the reply to call n came after this event
pub record EndsAfter (known : KnownCalls) (n event : ℕ) : Type 0 where
  pub recorded : RecordedCall
  pub at : ℕ
  pub stands : call_at known.calls n ≡ Some recorded
  pub ended : recorded.«end» ≡ Some at
  pub later : event < at

-- the state stands for the plan's point, where it may have forgotten of these calls whether they are placed: the open WRITEs have counts with
-- which its trees are the point's. In the last era no cut is asked for, since no call comes after the crash that ends it; after the last one no
-- tree
pub record IsAt (known : KnownCalls) (marks : List Bool) (plan : Certificate) (gone : ℕ → Bool) (point : Point known) (state : WalkView) : Type 0 where
  pub counts : ℕ → ℕ
  pub binds : AgreesWith state.binds (binds_of known plan)
  pub era : state.era ≡ point.era
  pub past : state.past ≤ state.era
  pub tree : point.era ≤ known.eras → HasWritten known (binds_of known plan) counts state.writes state.tree point.tree
  pub base : point.era < known.eras → HasWrittenBase known (binds_of known plan) counts state.base point.base
  pub placed : (n : ℕ) → gone n ≡ false → is_told known state n ≡ is_placed point n
  pub answered : (n : ℕ) → gone n ≡ true → EndsBy known n state.answered_to
  pub barred : AreBarred known (binds_of known plan) state.barred
