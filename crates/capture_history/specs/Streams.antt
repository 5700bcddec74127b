-- For the prover, and for callers.
-- What one way of a connection says. Its bytes are those of the segments that were seen of it, in the order of their sequence numbers, up to
-- the first that was not seen (RFC 9293, section 3.4; `tcp_streams`). Its messages are the whole records of these bytes (RFC 5531, section
-- 11; `xdr_records`), up to one that is not whole or too long.
use Rattle.std.specs.Prelude.{◌≡◌, ◌⊎◌, ◌-◌, ℕ, List, [], ◌∷◌, ◌++◌, take, drop, Option, Some, None}
use Rattle.std.specs.List.{slice_get}
use Rattle.tcp_streams.specs.declared.span.Span.{Span}
use Rattle.tcp_streams.specs.declared.assembly.Assembly.{Assembly}
use Rattle.tcp_streams.specs.Streams.{IsAssemblyOf}
use Rattle.xdr_records.specs.Record.{IsSplit, IsUnfinished, IsTooLong}
use Rattle.capture_history.specs.declared.direction.Payload.{Payload}
use Rattle.capture_history.specs.declared.direction.Direction.{Direction}

-- the bytes of a segment
abbrev pub payload_bytes : Option Payload → List ℕ
payload_bytes None = []
payload_bytes (Some payload) = payload.bytes.now

-- the bytes of a run, which stand in one segment
abbrev pub run_bytes : List Payload → Span → List ℕ
run_bytes payloads run = take (run.«end» - run.at) (drop (run.at - run.begin) (payload_bytes (slice_get payloads run.source)))

-- the bytes of runs, one behind the other
abbrev pub joined_bytes : List Payload → List Span → List ℕ
joined_bytes payloads [] = []
joined_bytes payloads (run ∷ runs) = run_bytes payloads run ++ joined_bytes payloads runs

-- the bytes of one way, up to the first that was not seen
pub record IsStream (way : Direction) (bytes : List ℕ) : Type 0 where
  pub assembly : Assembly
  pub put : IsAssemblyOf way.first way.segments.items assembly
  pub is : bytes ≡ joined_bytes way.payloads.items assembly.front.items

-- all whole records at the front of some bytes
abbrev pub AreRecordsOf : List ℕ → List (List ℕ) → Type 0
AreRecordsOf bytes messages = (rest : List ℕ) × (IsSplit IsUnfinished bytes messages rest ⊎ IsSplit IsTooLong bytes messages rest)

-- the messages of one way
pub record AreMessages (way : Direction) (messages : List (List ℕ)) : Type 0 where
  pub bytes : List ℕ
  pub stream : IsStream way bytes
  pub records : AreRecordsOf bytes messages
