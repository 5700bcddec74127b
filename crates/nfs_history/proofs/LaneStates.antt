-- How a lane stands, by what is known of it.
use Rattle.std.proofs.Common.{◌≡◌, inl, inr, ◌==◌, ℕ, Bool, true, false, not, if◌then◌else◌, nat_eq, List, Option, Some, None, sym, ◌∙◌, Contains}
use Rattle.std.specs.HashMap.{get}
use Rattle.std.proofs.lemmas.Bool.{false≢true}
use Rattle.history_file.specs.Event.{Event}
use Rattle.history_file.specs.Event.Event.{close}
use Rattle.nfs_history.specs.declared.checking.LaneState.TheVariants as states
use Rattle.nfs_history.specs.declared.checking.LaneUse.{LaneUse}
use Rattle.nfs_history.specs.declared.checking.LaneUse.TheVariants as uses
use Rattle.nfs_history.specs.declared.checking.OpenCalls.{OpenCalls}
use Rattle.nfs_history.specs.Standing.{IsCutOff, IsLaneState}
use Rattle.nfs_history.specs.Checking.{was_cut_off, was_closed, is_shut, is_over, state_in, known_state, Knows}
use Rattle.nfs_history.proofs.Lanes.{cut_off_is, is_cut_off, closed_is, open_is}

-- a lane that is closed, and isn't cut off, has its close
only_closed : (lane : ℕ) (before : List Event) → was_cut_off lane before ≡ false → was_closed lane before ≡ true → (¬ IsCutOff lane before) × Contains before (close lane)
only_closed lane before uncut closed = (no_cut, elim (closed_is lane before closed) [ inl there ↦ there | inr cut ↦ absurd (no_cut cut) ]) where
  no_cut : ¬ IsCutOff lane before
  no_cut = λ cut. absurd (false≢true (sym uncut ∙ is_cut_off lane before cut))

pub lane_stands : (before : List Event) (known : OpenCalls) (lane : ℕ) → Knows known before → IsLaneState lane before (known_state known lane)
lane_stands before known lane knows = go (get nat_eq known.lanes lane) (knows.closed lane) (knows.cut_off lane) where
  closed : (b : Bool) → true ≡ was_closed lane before → not b ≡ was_cut_off lane before → IsLaneState lane before (if b then states.Closed else states.EraOver)
  closed true shut over = only_closed lane before (sym over) (sym shut)
  closed false shut over = cut_off_is lane before (sym over)

  used : (b : Bool) → not b ≡ was_closed lane before → not b ≡ was_cut_off lane before → IsLaneState lane before (if b then states.Open else states.EraOver)
  used true shut over = open_is lane before (sym shut)
  used false shut over = cut_off_is lane before (sym over)

  go : (o : Option LaneUse) → is_shut known.era o ≡ was_closed lane before → is_over known.era o ≡ was_cut_off lane before → IsLaneState lane before (state_in known.era o)
  go None shut over = open_is lane before (sym shut)
  go (Some (uses.Closed last)) shut over = closed (last == known.era) shut over
  go (Some (uses.InEra last)) shut over = used (last == known.era) shut over
