-- For the prover, and for callers.
-- How long a turn of a lane counts (words of this project's own).
use Rattle.std.specs.Prelude.{ℕ, ◌+◌, ◌-◌, ◌^◌, min, max, Option, Some, None}
use Rattle.std.specs.Time.{instant_nanos}
use Rattle.std.specs.declared.time.Instant.{Instant}
use Rattle.night_lanes.specs.declared.waiting.Waiting.{Waiting}

-- by the clock: a second at most, and nothing where it can't be read
abbrev pub clock_nanos : Option Instant → Option Instant → ℕ
clock_nanos (Some begun) (Some now) = min (instant_nanos now - instant_nanos begun) 1000000000
clock_nanos begun now = 0

-- a turn counts at least as long as a read of it waited that found nothing, since a clock may stand
abbrev pub next_turn : Waiting → Option Instant → Waiting
next_turn waiting now = record {
  passed = min (waiting.passed + max (clock_nanos waiting.begun now) waiting.waited) (2 ^ 64 - 1);
  begun = now;
  waited = 0;
}
