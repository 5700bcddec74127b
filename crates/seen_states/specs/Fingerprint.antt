-- For the prover, and for callers.
-- A fingerprint of bytes.
use Rattle.std.specs.Prelude.{ℕ, List, take, ◌==◌, if◌then◌else◌}
use Rattle.std.specs.Int.{w64, from_be_bytes}
use Rattle.sha2.specs.Sha256.{sha256}

-- 1 for 0, which is no fingerprint
abbrev pub one_for_zero : ℕ → ℕ
one_for_zero n = if n == 0 then 1 else n

-- the first eight bytes of the SHA-256 digest (FIPS 180-4), in big-endian order; 1 where that is 0
abbrev pub fingerprint_of : List ℕ → ℕ
fingerprint_of bytes = one_for_zero (from_be_bytes w64 (take 8 (sha256 bytes)))
