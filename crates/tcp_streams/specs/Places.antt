-- For the prover, and for callers.
-- Where a byte of a stream stands: in which segment, and at which place in it. Of segments that hold the same byte (RFC 9293, section
-- 3.10.7.4, of retransmitted and overlapping segments) the first counts.
use Rattle.std.specs.Prelude.{ℕ, ◌-◌, ◌&&◌, nat_le, nat_lt, if◌then◌else◌, List, [], ◌∷◌, Option, Some, None}
use Rattle.std.specs.Option.{option_or}
use Rattle.tcp_streams.specs.declared.span.Span.{Span}

-- where the byte of a full number stands: the segment, and how many bytes of it stand ahead
abbrev pub Place : Type 0
Place = ℕ × ℕ

abbrev pub place_of : Span → ℕ → Option Place
place_of s n = if nat_le s.at n && nat_lt n s.«end» then Some (s.source, n - s.begin) else None

-- in the first of the runs that holds it
abbrev pub place_in : List Span → ℕ → Option Place
place_in [] n = None
place_in (s ∷ ss) n = option_or (place_of s n) (place_in ss n)
