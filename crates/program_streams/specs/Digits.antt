-- For the prover.
-- The digits of lower case hex (RFC 4648, section 8).
use Rattle.std.specs.Prelude.{ℕ, Bool, ◌&&◌, ◌||◌, nat_le}

-- whether a byte is one of the sixteen digits, 48 to 57 and 97 to 102
abbrev pub is_lower_digit : ℕ → Bool
is_lower_digit c = (nat_le 48 c && nat_le c 57) || (nat_le 97 c && nat_le c 102)
