-- For the prover.
-- What passes tell, beside the answered calls of each lane as a table holds them.
use Rattle.std.specs.Prelude.{ℕ, List}
use Rattle.history_file.specs.declared.event.Event.{Event}
use Rattle.server_passes.specs.PassValue.{PassValue}
use Rattle.server_passes.specs.Matching.{IsToldOther}
use Rattle.server_passes.specs.Lanes.{calls_on, exchanges_in}
use Rattle.server_passes.specs.declared.lanes.LaneCalls.{LaneCalls}

-- some pass of the lane tells of other exchanges than those of the lane's calls
abbrev pub IsToldOtherThan : List Event → LaneCalls → List PassValue → ℕ → Type 0
IsToldOtherThan events lanes passes lane = IsToldOther (exchanges_in events (calls_on lanes lane)) passes lane
