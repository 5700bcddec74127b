-- For the prover, and for callers.
-- Runs in order, and what one segment more makes of a stream.
use Rattle.std.specs.Prelude.{◌≡◌, ◌<◌, ◌≤◌, ℕ, ◌+◌, nat_lt, if◌then◌else◌, List, [], ◌∷◌, ◌++◌}
use Rattle.tcp_streams.specs.declared.span.Segment.{Segment}
use Rattle.tcp_streams.specs.declared.span.Span.{Span}
use Rattle.tcp_streams.specs.declared.assembly.Assembly.{Assembly}
use Rattle.tcp_streams.specs.Numbers.{IsNearest}
use Rattle.tcp_streams.specs.Places.{place_in}
use Rattle.tcp_streams.specs.Streams.{AreNumbered, IsChain, whole_span}

-- runs in order from a number on, none of them empty
abbrev pub IsBehind : ℕ → List Span → Type 0
IsBehind low [] = Unit {0}
IsBehind low (s ∷ ss) = (low ≤ s.at) × (s.at < s.«end») × IsBehind s.«end» ss

-- and none of them holds the number itself
abbrev pub Stops : ℕ → List Span → Type 0
Stops next runs = IsBehind (next + 1) runs

-- a run, if it has a byte
abbrev pub or_none : Span → List Span
or_none s = if nat_lt s.at s.«end» then s ∷ [] else []

-- the segments that were taken, each at its number, and what is known by them
pub record IsPut (start : ℕ) (segments : List Segment) (stream : Assembly) : Type 0 where
  pub seen : List Span
  pub numbered : AreNumbered start segments seen
  pub first : stream.first ≡ start
  pub chain : IsChain start stream.next stream.front.items
  pub gap : Stops stream.next stream.waiting.items
  pub same : (n : ℕ) → start ≤ n → place_in (stream.front.items ++ stream.waiting.items) n ≡ place_in seen n

-- one segment more
pub record Puts (old : Assembly) (segment : Segment) (new : Assembly) : Type 0 where
  pub begin : ℕ
  pub near : IsNearest old.next segment.sequence begin
  pub first : new.first ≡ old.first
  pub taken : new.taken ≡ old.taken + 1
  pub more : List Span
  pub front : new.front.items ≡ old.front.items ++ more
  pub chain : Stops old.next old.waiting.items → IsChain old.next new.next more
  pub gap : Stops old.next old.waiting.items → Stops new.next new.waiting.items
  pub same : (n : ℕ) → Stops old.next old.waiting.items → old.next ≤ n → place_in (more ++ new.waiting.items) n ≡ place_in (old.waiting.items ++ whole_span segment begin ∷ []) n
