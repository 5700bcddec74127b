-- For the prover, and for callers.
-- Reading a packet from its front, as functions of its bytes, with the first reason to pass it over.
use Rattle.std.specs.Prelude.{◌≡◌, ℕ, zero, suc, ◌+◌, ◌-◌, ◌*◌, ◌/◌, ◌%◌, ◌==◌, ◌&&◌, ◌||◌, Bool, true, false, if◌then◌else◌, nat_lt, nat_le, List, [], ◌∷◌, length, take, drop, Option, Some, None, Result, Ok, Err}
use Rattle.packet_capture.specs.declared.packet.LinkType.{LinkType}
use Rattle.packet_capture.specs.declared.packet.LinkType.TheVariants as links
use Rattle.packet_layers.specs.declared.link.Version.{Version}
use Rattle.packet_layers.specs.declared.link.Version.TheVariants.{V4, V6}
use Rattle.packet_layers.specs.declared.link.Datagram.{Datagram}
use Rattle.packet_layers.specs.declared.network.Within.{Within}
use Rattle.packet_layers.specs.declared.segment.Address.{Address}
use Rattle.packet_layers.specs.declared.segment.Segment.{Segment}
use Rattle.packet_layers.specs.declared.passed.PassedOver.{PassedOver}
use Rattle.packet_layers.specs.declared.passed.PassedOver.TheVariants.{NotIp, Fragment, NotTcp, Malformed, CutHeader}
use Rattle.packet_layers.specs.Packets.{byte, short, word, long, is_tag, is_family, is_option, told_or, mapped, Carried, Told}

-- ---- what a function gives

infixl 10 ◌>>=◌
abbrev pub ◌>>=◌ : {A B : Type 0} → Result A PassedOver → (A → Result B PassedOver) → Result B PassedOver
(Ok x) >>= f = f x
(Err e) >>= f = Err e

abbrev pub given : {A : Type 0} → A → Result A PassedOver
given x = Ok x

abbrev pub refused : {A : Type 0} → PassedOver → Result A PassedOver
refused reason = Err reason

-- the reason of the first test that fails, or else what comes next
abbrev pub tested : {A : Type 0} → List (Bool × PassedOver) → Result A PassedOver → Result A PassedOver
tested [] next = next
tested (test ∷ tests) next = if test.0 then tested tests next else Err test.1

-- what a function returned, seen by view, is what reading gives
abbrev pub Gives : {X Y : Type 0} → (X → Y) → Result X PassedOver → Result Y PassedOver → Type 0
Gives view (Ok x) read = read ≡ Ok (view x)
Gives view (Err e) read = read ≡ Err e

abbrev pub datagram_view : Datagram → Version × List ℕ
datagram_view d = (d.version, d.bytes.now)

abbrev pub carried_view : Within → Carried
carried_view c = record { source = c.source; destination = c.destination; bytes = c.bytes.now; size = c.length }

abbrev pub told : Segment → Told
told s = record { source = s.source; destination = s.destination; sequence = s.sequence; fin = s.fin; syn = s.syn; reset = s.reset; payload = s.payload.now; size = s.length }

-- ---- headers that are passed

-- past at most so many headers, to the first of a kind that isn't passed; none where bytes of a header are missing
abbrev pub walk : (ℕ → Bool) → (List ℕ → ℕ) → (List ℕ → ℕ) → ℕ → ℕ → List ℕ → Option (ℕ × List ℕ)
walk passes size next zero kind bytes = None
walk passes size next (suc n) kind bytes = if passes kind then (if nat_lt (length bytes) (size bytes) then None else walk passes size next n (next bytes) (drop (size bytes) bytes)) else Some (kind, bytes)

abbrev pub tag_size : List ℕ → ℕ
tag_size bytes = 4

abbrev pub tag_next : List ℕ → ℕ
tag_next bytes = short 2 bytes

abbrev pub option_size : List ℕ → ℕ
option_size bytes = byte 1 bytes * 8 + 8

abbrev pub option_next : List ℕ → ℕ
option_next bytes = byte 0 bytes

unfoldable pub past_tags : ℕ → ℕ → List ℕ → Option (ℕ × List ℕ)
past_tags most kind bytes = walk is_tag tag_size tag_next most kind bytes

unfoldable pub past_options : ℕ → ℕ → List ℕ → Option (ℕ × List ℕ)
past_options most kind bytes = walk is_option option_size option_next most kind bytes

-- ---- the link

abbrev pub Lower : Type 0
Lower = Version × List ℕ

unfoldable pub version_of : Option (ℕ × List ℕ) → Result Lower PassedOver
version_of None = Err CutHeader
version_of (Some x) = if x.0 == 0x0800 then Ok (V4, x.1) else (if x.0 == 0x86DD then Ok (V6, x.1) else Err NotIp)

unfoldable pub protocol_at : ℕ → ℕ → List ℕ → Result Lower PassedOver
protocol_at all place bytes = if nat_le all (length bytes) then version_of (past_tags (length bytes + 1) (short place bytes) (drop all bytes)) else Err CutHeader

-- the family of addresses in four bytes, in either order
unfoldable pub family_number : List ℕ → ℕ
family_number bytes = if byte 1 bytes == 0 && byte 2 bytes == 0 then (if byte 0 bytes == 0 then byte 3 bytes else (if byte 3 bytes == 0 then byte 0 bytes else 0)) else 0

abbrev pub family_in : ℕ → List ℕ → Result Lower PassedOver
family_in n inner = if is_family V4 n then Ok (V4, inner) else (if is_family V6 n then Ok (V6, inner) else Err NotIp)

unfoldable pub family_at : List ℕ → Result Lower PassedOver
family_at bytes = if nat_le 4 (length bytes) then family_in (family_number bytes) (drop 4 bytes) else Err CutHeader

unfoldable pub raw_at : List ℕ → Result Lower PassedOver
raw_at bytes = if nat_le 1 (length bytes) then (if byte 0 bytes / 16 == 4 then Ok (V4, bytes) else (if byte 0 bytes / 16 == 6 then Ok (V6, bytes) else Err NotIp)) else Err CutHeader

unfoldable pub datagram_at : LinkType → List ℕ → Result Lower PassedOver
datagram_at links.Ethernet bytes = protocol_at 14 12 bytes
datagram_at links.Cooked bytes = protocol_at 16 14 bytes
datagram_at links.Cooked2 bytes = protocol_at 20 0 bytes
datagram_at links.Null bytes = family_at bytes
datagram_at links.Loop bytes = family_at bytes
datagram_at links.Raw bytes = raw_at bytes
datagram_at links.Ipv4 bytes = Ok (V4, bytes)
datagram_at links.Ipv6 bytes = Ok (V6, bytes)

-- ---- IP

abbrev pub v4_header : List ℕ → ℕ
v4_header bytes = byte 0 bytes % 16 * 4

abbrev pub v4_all : List ℕ → ℕ
v4_all bytes = told_or (short 2 bytes) (length bytes)

abbrev pub v4_tests : List ℕ → List (Bool × PassedOver)
v4_tests bytes =
    (nat_le 20 (length bytes), CutHeader) ∷ (byte 0 bytes / 16 == 4, Malformed) ∷ (nat_le 20 (v4_header bytes), Malformed) ∷ (short 6 bytes % 16384 == 0, Fragment)
    ∷ (byte 9 bytes == 6, NotTcp) ∷ (nat_le (v4_header bytes) (v4_all bytes), Malformed) ∷ (nat_le (v4_header bytes) (length bytes), CutHeader) ∷ []

abbrev pub v4_carried : List ℕ → Carried
v4_carried bytes = record {
  source = mapped (word 12 bytes);
  destination = mapped (word 16 bytes);
  bytes = take (v4_all bytes - v4_header bytes) (drop (v4_header bytes) bytes);
  size = v4_all bytes - v4_header bytes;
}

unfoldable pub v4_at : List ℕ → Result Carried PassedOver
v4_at bytes = tested (v4_tests bytes) (Ok (v4_carried bytes))

-- the address of eight bytes and eight more
unfoldable pub address_at : ℕ → List ℕ → Address
address_at place bytes = record { high = long place bytes; low = long (place + 8) bytes }

abbrev pub v6_all : List ℕ → ℕ
v6_all bytes = told_or (short 4 bytes) (length bytes - 40)

-- what was captured of what stands behind the header
abbrev pub v6_behind : List ℕ → List ℕ
v6_behind bytes = take (v6_all bytes) (drop 40 bytes)

abbrev pub v6_carried : List ℕ → List ℕ → Carried
v6_carried bytes segment = record {
  source = address_at 8 bytes;
  destination = address_at 24 bytes;
  bytes = segment;
  size = v6_all bytes - (length (v6_behind bytes) - length segment);
}

unfoldable pub v6_reached : List ℕ → Option (ℕ × List ℕ) → Result Carried PassedOver
v6_reached bytes None = Err CutHeader
v6_reached bytes (Some x) = if x.0 == 6 then Ok (v6_carried bytes x.1) else (if x.0 == 44 then Err Fragment else Err NotTcp)

abbrev pub v6_tests : List ℕ → List (Bool × PassedOver)
v6_tests bytes = (nat_le 40 (length bytes), CutHeader) ∷ (byte 0 bytes / 16 == 6, Malformed) ∷ []

unfoldable pub v6_at : List ℕ → Result Carried PassedOver
v6_at bytes = tested (v6_tests bytes) (v6_reached bytes (past_options (length (v6_behind bytes) + 1) (byte 6 bytes) (v6_behind bytes)))

abbrev pub carried_at : Version → List ℕ → Result Carried PassedOver
carried_at V4 bytes = v4_at bytes
carried_at V6 bytes = v6_at bytes

-- ---- TCP

abbrev pub tcp_header : Carried → ℕ
tcp_header c = byte 12 c.bytes / 16 * 4

abbrev pub tcp_tests : Carried → List (Bool × PassedOver)
tcp_tests c =
    (nat_le 14 (length c.bytes), CutHeader) ∷ (nat_le 20 (tcp_header c), Malformed) ∷ (nat_le (tcp_header c) c.size, Malformed)
    ∷ (nat_le (tcp_header c) (length c.bytes), CutHeader) ∷ []

abbrev pub tcp_told : Carried → Told
tcp_told c = record {
  source = record { address = c.source; port = short 0 c.bytes };
  destination = record { address = c.destination; port = short 2 c.bytes };
  sequence = word 4 c.bytes;
  fin = byte 13 c.bytes % 2 == 1;
  syn = byte 13 c.bytes / 2 % 2 == 1;
  reset = byte 13 c.bytes / 4 % 2 == 1;
  payload = drop (tcp_header c) c.bytes;
  size = c.size - tcp_header c;
}

unfoldable pub tcp_at : Carried → Result Told PassedOver
tcp_at c = tested (tcp_tests c) (Ok (tcp_told c))

unfoldable pub segment_at : LinkType → List ℕ → Result Told PassedOver
segment_at link bytes = datagram_at link bytes >>= λ d. carried_at d.0 d.1 >>= tcp_at
