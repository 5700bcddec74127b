-- For the prover.
-- The answered calls of each lane as a table holds them, each by the numbers of its two events.
use Rattle.std.specs.Prelude.{◌==◌, nat_eq, ℕ, if◌then◌else◌, List, [], ◌∷◌, map, Option, None, option_map}
use Rattle.std.specs.HashMap.{get}
use Rattle.std.specs.Option.{option_map_or}
use Rattle.history_file.specs.declared.event.Event.{Event}
use Rattle.nfs_history.specs.declared.recorded.RecordedCall.{RecordedCall}
use Rattle.server_passes.specs.PassValue.{ExchangeValue}
use Rattle.server_passes.specs.Matching.{message_at}
use Rattle.server_passes.specs.declared.lanes.AnsweredCall.{AnsweredCall}
use Rattle.server_passes.specs.declared.lanes.LaneCalls.{LaneCalls}

-- the events of a call, where it is one of the lane and was answered
abbrev pub answered_on : ℕ → RecordedCall → Option AnsweredCall
answered_on lane call = if call.lane == lane then option_map (λ number. record { begin = call.begin; «end» = number }) call.«end» else None

abbrev pub calls_on : LaneCalls → ℕ → List AnsweredCall
calls_on lanes lane = option_map_or (λ calls. calls.items) (get nat_eq lanes.calls lane) []

-- what a call of one lane adds to another
abbrev pub put_on : ℕ → AnsweredCall → ℕ → List AnsweredCall
put_on lane call other = if lane == other then call ∷ [] else []

-- what was exchanged in a call
abbrev pub exchange_in : List Event → AnsweredCall → ExchangeValue
exchange_in events call = record { message = message_at events call.begin; reply = message_at events call.«end» }

abbrev pub exchanges_in : List Event → List AnsweredCall → List ExchangeValue
exchanges_in events calls = map (exchange_in events) calls
