-- For the prover, and for callers.
-- What a transaction number is to a lane, whose calls have the numbers 1, 2, 3, .. in the order in which they were sent.
use Rattle.std.specs.Prelude.{ℕ, Option, Some, None, List, position, ◌==◌, ◌||◌, nat_lt, if◌then◌else◌}
use Rattle.night_lanes.specs.declared.open_calls.OpenCall.{OpenCall}
use Rattle.night_lanes.specs.declared.open_calls.OpenCalls.{OpenCalls}
use Rattle.night_lanes.specs.declared.open_calls.Standing.{Standing}
use Rattle.night_lanes.specs.declared.open_calls.Standing.TheVariants as standings

-- the place of the open call with a transaction number, the oldest first
abbrev pub place_of : List OpenCall → ℕ → Option ℕ
place_of calls xid = position (λ (sent : OpenCall). sent.xid == xid) calls

-- a number that no open call has, where this is the last number that was given
abbrev pub stray : ℕ → ℕ → Standing
stray last xid = if xid == 0 || nat_lt last xid then standings.Unknown else standings.Answered

abbrev pub standing_at : ℕ → ℕ → Option ℕ → Standing
standing_at last xid (Some place) = standings.Open place
standing_at last xid None = stray last xid

abbrev pub standing_of : OpenCalls → ℕ → Standing
standing_of pending xid = standing_at pending.last xid (place_of pending.calls.items xid)
