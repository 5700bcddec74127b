-- For the prover, and for callers.
-- The stream of segments that were seen (RFC 9293, sections 3.4 and 3.10.7.4): its known front is the longest run without a gap from its
-- first byte on, and each byte of it is that of the first segment that holds it.
use Rattle.std.specs.Prelude.{◌≡◌, ◌<◌, ◌≤◌, ◌⊎◌, ℕ, ◌+◌, ◌^◌, List, [], ◌∷◌, ◌++◌, length, take, IsSome, None}
use Rattle.tcp_streams.specs.declared.span.Segment.{Segment}
use Rattle.tcp_streams.specs.declared.span.Span.{Span}
use Rattle.tcp_streams.specs.declared.assembly.Assembly.{Assembly}
use Rattle.tcp_streams.specs.Numbers.{IsNearest, start_of}
use Rattle.tcp_streams.specs.Places.{place_in}

-- `next` is the first number from `first` on whose byte was not seen
pub record IsFirstMissing (first : ℕ) (seen : List Span) (next : ℕ) : Type 0 where
  pub behind : first ≤ next
  pub known : (n : ℕ) → first ≤ n → n < next → IsSome (place_in seen n)
  pub missing : place_in seen next ≡ None

-- the bytes of a segment whose first has this full number
abbrev pub whole_span : Segment → ℕ → Span
whole_span segment begin = record { at = begin; «end» = begin + segment.count; source = segment.source; begin = begin }

-- segments in the order in which they were seen, with their full numbers: each is near the first byte that was missing when it came
pub data AreNumbered (first : ℕ) : List Segment → List Span → Type 0 where
  none : AreNumbered first [] []
  more : {segments : List Segment} {seen : List Span} (segment : Segment) (next begin : ℕ) → AreNumbered first segments seen → IsFirstMissing first seen next → IsNearest next segment.sequence begin → AreNumbered first (segments ++ segment ∷ []) (seen ++ whole_span segment begin ∷ [])

-- runs one behind the other, from a number on up to another, none of them empty
abbrev pub IsChain : ℕ → ℕ → List Span → Type 0
IsChain first next [] = first ≡ next
IsChain first next (s ∷ ss) = (s.at ≡ first) × (first < s.«end») × IsChain s.«end» next ss

-- so many runs wait, or the stream is so long, that no segment more is taken
abbrev pub IsFull : Assembly → Type 0
IsFull stream = (16384 < length stream.waiting.items) ⊎ (2 ^ 62 ≤ stream.next)

-- the stream of the segments that were taken: all of them, unless it was full before
pub record IsAssemblyOf (sequence : ℕ) (segments : List Segment) (stream : Assembly) : Type 0 where
  pub seen : List Span
  pub numbered : AreNumbered (start_of sequence) (take stream.taken segments) seen
  pub first : stream.first ≡ start_of sequence
  pub chain : IsChain stream.first stream.next stream.front.items
  pub front : (n : ℕ) → stream.first ≤ n → n < stream.next → place_in stream.front.items n ≡ place_in seen n
  pub longest : IsFirstMissing stream.first seen stream.next
  -- what waits is what was seen behind the gap
  pub waiting : (n : ℕ) → stream.next ≤ n → place_in stream.waiting.items n ≡ place_in seen n
  pub taken : (stream.taken ≡ length segments) ⊎ ((stream.taken < length segments) × IsFull stream)
