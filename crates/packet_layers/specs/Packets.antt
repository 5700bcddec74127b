-- For the prover, and for callers.
-- What a captured packet is: a link header (tcpdump.org's list of link-layer header types) with VLAN tags (IEEE 802.1Q), a header of IPv4
-- (RFC 791, section 3.1) or IPv6 (RFC 8200, sections 3 and 4), one of TCP (RFC 9293, section 3.1), and what the segment carries.
use Rattle.std.specs.Prelude.{◌≡◌, ◌<◌, ◌≤◌, ◌⊎◌, ℕ, ◌+◌, ◌*◌, ◌/◌, ◌%◌, ◌==◌, ◌||◌, Bool, true, if◌then◌else◌, List, [], ◌∷◌, ◌++◌, length, slice_index}
use Rattle.std.specs.List.{concat}
use Rattle.packet_capture.specs.declared.packet.LinkType.{LinkType}
use Rattle.packet_capture.specs.declared.packet.LinkType.TheVariants as links
use Rattle.packet_layers.specs.declared.link.Version.{Version}
use Rattle.packet_layers.specs.declared.link.Version.TheVariants.{V4, V6}
use Rattle.packet_layers.specs.declared.segment.Address.{Address}
use Rattle.packet_layers.specs.declared.segment.Endpoint.{Endpoint}

-- the numbers in a header by their place, of one, two, four and eight bytes, the highest byte first (RFC 791, appendix B)
abbrev pub byte : ℕ → List ℕ → ℕ
byte place header = slice_index header place

unfoldable pub short : ℕ → List ℕ → ℕ
short place header = byte place header * 256 + byte (place + 1) header

unfoldable pub word : ℕ → List ℕ → ℕ
word place header = short place header * 65536 + short (place + 2) header

unfoldable pub long : ℕ → List ℕ → ℕ
long place header = word place header * 4294967296 + word (place + 4) header

-- headers from one kind on up to a last one: each is of a kind that is passed, is as long as it says, and says the kind of what follows
abbrev pub IsChain : (ℕ → Bool) → (List ℕ → ℕ) → (List ℕ → ℕ) → ℕ → List (List ℕ) → ℕ → Type 0
IsChain passes size next kind [] last = kind ≡ last
IsChain passes size next kind (h ∷ hs) last = (passes kind ≡ true) × (length h ≡ size h) × IsChain passes size next (next h) hs last

-- the numbers of the protocols, those that say that a tag comes first, which has four bytes and says in the last two what follows, and
-- those of families of addresses, as systems have them
abbrev pub protocol : Version → ℕ
protocol V4 = 0x0800
protocol V6 = 0x86DD

abbrev pub is_tag : ℕ → Bool
is_tag kind = kind == 0x8100 || kind == 0x88A8 || kind == 0x9100

abbrev pub is_family : Version → ℕ → Bool
is_family V4 n = n == 2
is_family V6 n = n == 10 || n == 24 || n == 28 || n == 30

-- behind a header of so many bytes, with the protocol at a place in it, and tags; or behind four bytes for the family, in either order
pub record IsBehindProtocol (all place : ℕ) (bytes : List ℕ) (version : Version) (inner : List ℕ) : Type 0 where
  pub header : List ℕ
  pub tags : List (List ℕ)
  pub parts : bytes ≡ header ++ (concat tags ++ inner)
  pub all_is : length header ≡ all
  pub tagged : IsChain is_tag (λ tag. 4) (λ tag. short 2 tag) (short place header) tags (protocol version)

abbrev pub IsBehindFamily : List ℕ → Version → List ℕ → Type 0
IsBehindFamily bytes version inner = (n : ℕ) × (is_family version n ≡ true) × ((bytes ≡ 0 ∷ 0 ∷ 0 ∷ n ∷ inner) ⊎ (bytes ≡ n ∷ 0 ∷ 0 ∷ 0 ∷ inner))

abbrev pub IsBehindLink : LinkType → List ℕ → Version → List ℕ → Type 0
IsBehindLink links.Ethernet bytes version inner = IsBehindProtocol 14 12 bytes version inner
IsBehindLink links.Cooked bytes version inner = IsBehindProtocol 16 14 bytes version inner
IsBehindLink links.Cooked2 bytes version inner = IsBehindProtocol 20 0 bytes version inner
IsBehindLink links.Null bytes version inner = IsBehindFamily bytes version inner
IsBehindLink links.Loop bytes version inner = IsBehindFamily bytes version inner
IsBehindLink links.Raw bytes version inner = inner ≡ bytes
IsBehindLink links.Ipv4 bytes version inner = (version ≡ V4) × (inner ≡ bytes)
IsBehindLink links.Ipv6 bytes version inner = (version ≡ V6) × (inner ≡ bytes)

-- what IP carries: how many bytes, and those of them that were captured: all, and padding behind them, or fewer, where the capture cut them
pub record Carried : Type 0 where
  pub source : Address
  pub destination : Address
  pub bytes : List ℕ
  pub size : ℕ

pub record AreCaptured (count : ℕ) (bytes captured : List ℕ) : Type 0 where
  pub padding : List ℕ
  pub parts : bytes ≡ captured ++ padding
  pub either : (length captured ≡ count) ⊎ ((length captured < count) × (padding ≡ []))

-- a length of 0 stands in packets that the sender's hardware is yet to cut: all that was captured counts
abbrev pub told_or : ℕ → ℕ → ℕ
told_or told all = if told == 0 then all else told

-- RFC 4291, section 2.5.5.2: an IPv4 address as one of IPv6
abbrev pub mapped : ℕ → Address
mapped n = record { high = 0; low = 0xFFFF_0000_0000 + n }

-- no fragment; behind the header with its options TCP, whose protocol is 6
pub record IsV4 (bytes : List ℕ) (carried : Carried) : Type 0 where
  pub header : List ℕ
  pub behind : List ℕ
  pub parts : bytes ≡ header ++ behind
  pub header_is : length header ≡ byte 0 header % 16 * 4
  pub least : 20 ≤ length header
  pub version : byte 0 header / 16 ≡ 4
  pub unbroken : short 6 header % 16384 ≡ 0
  pub tcp : byte 9 header ≡ 6
  pub ends : (carried.source ≡ mapped (word 12 header)) × (carried.destination ≡ mapped (word 16 header))
  pub told : length header + carried.size ≡ told_or (short 2 header) (length bytes)
  pub captured : AreCaptured carried.size behind carried.bytes

-- behind the header of 40 bytes hop-by-hop options, routing and destination options, and then TCP
abbrev pub is_option : ℕ → Bool
is_option kind = kind == 0 || kind == 43 || kind == 60

pub record IsV6 (bytes : List ℕ) (carried : Carried) : Type 0 where
  pub header : List ℕ
  pub behind : List ℕ
  pub options : List (List ℕ)
  pub parts : bytes ≡ header ++ behind
  pub header_is : length header ≡ 40
  pub version : byte 0 header / 16 ≡ 6
  pub chain : IsChain is_option (λ option. byte 1 option * 8 + 8) (λ option. byte 0 option) (byte 6 header) options 6
  pub source : carried.source ≡ record { high = long 8 header; low = long 16 header }
  pub destination : carried.destination ≡ record { high = long 24 header; low = long 32 header }
  pub told : length (concat options) + carried.size ≡ told_or (short 4 header) (length behind)
  pub captured : AreCaptured (length (concat options) + carried.size) behind (concat options ++ carried.bytes)

-- a segment, without where it lies in memory: `size` is how many bytes it had, of which `payload` are those that were captured
pub record Told : Type 0 where
  pub source : Endpoint
  pub destination : Endpoint
  pub sequence : ℕ
  pub fin : Bool
  pub syn : Bool
  pub reset : Bool
  pub payload : List ℕ
  pub size : ℕ

pub record IsTcp (carried : Carried) (segment : Told) : Type 0 where
  pub header : List ℕ
  pub parts : carried.bytes ≡ header ++ segment.payload
  pub header_is : length header ≡ byte 12 header / 16 * 4
  pub least : 20 ≤ length header
  pub source : segment.source ≡ record { address = carried.source; port = short 0 header }
  pub destination : segment.destination ≡ record { address = carried.destination; port = short 2 header }
  pub sequence : segment.sequence ≡ word 4 header
  pub flags : (segment.fin ≡ (byte 13 header % 2 == 1)) × (segment.syn ≡ (byte 13 header / 2 % 2 == 1)) × (segment.reset ≡ (byte 13 header / 4 % 2 == 1))
  pub rest : length header + segment.size ≡ carried.size

abbrev pub IsIp : Version → List ℕ → Carried → Type 0
IsIp V4 bytes carried = IsV4 bytes carried
IsIp V6 bytes carried = IsV6 bytes carried

pub record IsPacket (link : LinkType) (bytes : List ℕ) (segment : Told) : Type 0 where
  pub version : Version
  pub inner : List ℕ
  pub carried : Carried
  pub linked : IsBehindLink link bytes version inner
  pub network : IsIp version inner carried
  pub transport : IsTcp carried segment
