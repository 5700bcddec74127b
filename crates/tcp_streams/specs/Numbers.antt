-- For the prover, and for callers.
-- Full numbers of a TCP stream's bytes. A sequence number (RFC 9293, section 3.4) is a full number's last 32 bits; of a segment's full
-- number more isn't known than that it is near the first byte that is missing, as a receiver's window is far smaller than 2^31 bytes.
use Rattle.std.specs.Prelude.{◌≡◌, ◌<◌, ◌≤◌, ℕ, ◌+◌, ◌^◌, ◌%◌}

-- the full number nearest to `next` that has this sequence number
pub record IsNearest (next sequence full : ℕ) : Type 0 where
  pub low : full % 2 ^ 32 ≡ sequence
  pub above : next ≤ full + 2 ^ 31
  pub below : full < next + 2 ^ 31

-- the full number of a stream's first byte: so large that what stands ahead of it has a full number too
abbrev pub start_of : ℕ → ℕ
start_of sequence = sequence + 2 ^ 32
