-- Segments: what is read of a packet stands in it, and what stands in it is read.
use Rattle.std.proofs.Common.{◌≡◌, ◌<◌, ◌≤◌, ℕ, ◌+◌, ◌-◌, ◌*◌, ◌/◌, ◌%◌, Bool, eqb, List, ◌++◌, length, take, drop, refl, sym, ap, subst, ◌∙◌, arith}
use Rattle.std.specs.Prelude.{Result, Ok, Err, IfOk}
use Rattle.std.proofs.lemmas.Bool.{leb-true, le-leb}
use Rattle.std.proofs.lemmas.List.{drop_at, take-append-drop, length-append, length-take-le}
use Rattle.packet_capture.specs.declared.packet.LinkType.{LinkType}
use Rattle.packet_layers.specs.declared.segment.Endpoint.{Endpoint}
use Rattle.packet_layers.specs.declared.segment.Address.{Address}
use Rattle.packet_layers.specs.declared.segment.Segment.{Segment}
use Rattle.packet_layers.specs.declared.passed.PassedOver.{PassedOver}
use Rattle.packet_layers.specs.Packets.{byte, short, word, Carried, Told, IsTcp, IsPacket}
use Rattle.packet_layers.specs.Reading.{◌>>=◌, Gives, given, told, Lower, datagram_at, carried_at, tcp_header, tcp_tests, tcp_told, tcp_at, segment_at}
use Rattle.packet_layers.proofs.Numbers.{same_byte, same_short, same_word}
use Rattle.packet_layers.proofs.Results.{AllPass, all_passed, passed_again, given_is, bind_ok}
use Rattle.packet_layers.proofs.Links.{datagram_found, datagram_again}
use Rattle.packet_layers.proofs.Networks.{carried_found, carried_again, ip_begins}

-- ---- TCP

abbrev end_of : Address → ℕ → Endpoint
end_of address port = record { address = address; port = port }

tcp_stands : (c : Carried) → AllPass (tcp_tests c) → IsTcp c (tcp_told c)
tcp_stands c pass =
    let n = tcp_header c in
    let h = take n c.bytes in
    let d = drop n c.bytes in
    let least : 20 ≤ n = leb-true _ _ pass.1.0 in
    let within : n ≤ c.size = leb-true _ _ pass.1.1.0 in
    let fits : n ≤ length c.bytes = leb-true _ _ pass.1.1.1.0 in
    let whole : c.bytes ≡ h ++ d = sym (take-append-drop n c.bytes) in
    let h_is : length h ≡ n = length-take-le n c.bytes fits in
    let long : 20 ≤ length h = omega arith in
    let flags : byte 13 c.bytes ≡ byte 13 h = same_byte c.bytes h d whole 13 (omega arith) in
    record {
      header = h;
      parts = whole;
      header_is = h_is ∙ ap (λ (k : ℕ). k / 16 * 4) (same_byte c.bytes h d whole 12 (omega arith));
      least = long;
      source = ap (λ (k : ℕ). end_of c.source k) (same_short c.bytes h d whole 0 (omega arith));
      destination = ap (λ (k : ℕ). end_of c.destination k) (same_short c.bytes h d whole 2 (omega arith));
      sequence = same_word c.bytes h d whole 4 (omega arith);
      flags = (ap (λ (k : ℕ). eqb (k % 2) 1) flags, ap (λ (k : ℕ). eqb (k / 2 % 2) 1) flags, ap (λ (k : ℕ). eqb (k / 4 % 2) 1) flags);
      rest = sum n (length h) c.size h_is within;
    }
  where
    sum : (n k size : ℕ) → k ≡ n → n ≤ size → k + (size - n) ≡ size
    sum n k size is le = omega arith

tcp_found : (c : Carried) (segment : Told) → tcp_at c ≡ given segment → IsTcp c segment
unfolding tcp_at
tcp_found c segment e =
    let g = all_passed (tcp_tests c) (given (tcp_told c)) segment e in
    subst (λ (x : Told). IsTcp c x) (given_is (tcp_told c) segment g.1) (tcp_stands c g.0)

told_is : (a b : Told) → a.source ≡ b.source → a.destination ≡ b.destination → a.sequence ≡ b.sequence → a.fin ≡ b.fin → a.syn ≡ b.syn → a.reset ≡ b.reset → a.payload ≡ b.payload → a.size ≡ b.size → a ≡ b
told_is a b source destination sequence fin syn reset payload size =
    λ i. record { source = source i; destination = destination i; sequence = sequence i; fin = fin i; syn = syn i; reset = reset i; payload = payload i; size = size i }

tcp_again : (c : Carried) (segment : Told) → IsTcp c segment → tcp_at c ≡ given segment
unfolding tcp_at
tcp_again c segment t =
    let count : length c.bytes ≡ length t.header + length segment.payload = ap length t.parts ∙ length-append t.header segment.payload in
    let n_is : tcp_header c ≡ length t.header = ap (λ (k : ℕ). k / 16 * 4) (same_byte c.bytes t.header segment.payload t.parts 12 (omega (arith, t.least))) ∙ sym t.header_is in
    let pass : AllPass (tcp_tests c) = (
      le-leb _ _ (at_least (length c.bytes) (length t.header) (length segment.payload) count t.least),
      (
        le-leb _ _ (subst (λ (k : ℕ). 20 ≤ k) (sym n_is) t.least),
        (
          le-leb _ _ (no_more (tcp_header c) c.size (length t.header) segment.size n_is (sym t.rest)),
          (
            le-leb _ _ (no_more (tcp_header c) (length c.bytes) (length t.header) (length segment.payload) n_is count),
            tt,
          ),
        ),
      ),
    ) in
    let flags : byte 13 c.bytes ≡ byte 13 t.header = same_byte c.bytes t.header segment.payload t.parts 13 (omega (arith, t.least)) in
    passed_again (tcp_tests c) (given (tcp_told c)) pass
    ∙ ap (λ (x : Told). given x) (told_is (tcp_told c) segment
    (ap (λ (k : ℕ). end_of c.source k) (same_short c.bytes t.header segment.payload t.parts 0 (omega (arith, t.least))) ∙ sym t.source)
    (ap (λ (k : ℕ). end_of c.destination k) (same_short c.bytes t.header segment.payload t.parts 2 (omega (arith, t.least))) ∙ sym t.destination)
    (same_word c.bytes t.header segment.payload t.parts 4 (omega (arith, t.least)) ∙ sym t.sequence)
    (ap (λ (k : ℕ). eqb (k % 2) 1) flags ∙ sym t.flags.0)
    (ap (λ (k : ℕ). eqb (k / 2 % 2) 1) flags ∙ sym t.flags.1)
    (ap (λ (k : ℕ). eqb (k / 4 % 2) 1) flags ∙ sym t.flags.2)
    (ap (λ (k : ℕ). drop k c.bytes) n_is ∙ ap (drop (length t.header)) t.parts ∙ drop_at t.header segment.payload (length t.header) refl)
    (left_over (tcp_header c) c.size (length t.header) segment.size n_is (sym t.rest)))
  where
    at_least : (a b k : ℕ) → a ≡ b + k → 20 ≤ b → 14 ≤ a
    at_least a b k e h = omega arith

    no_more : (n all h k : ℕ) → n ≡ h → all ≡ h + k → n ≤ all
    no_more n all h k e f = omega arith

    left_over : (n all h k : ℕ) → n ≡ h → all ≡ h + k → all - n ≡ k
    left_over n all h k e f = omega arith

-- ---- a packet

segment_found : (link : LinkType) (bytes : List ℕ) (segment : Told) → segment_at link bytes ≡ given segment → IsPacket link bytes segment
unfolding segment_at
segment_found link bytes segment e =
    let a = bind_ok (datagram_at link bytes) (λ d. carried_at d.0 d.1 >>= tcp_at) segment e in
    let b = bind_ok (carried_at a.0.0 a.0.1) tcp_at segment a.2 in
    record {
      version = a.0.0;
      inner = a.0.1;
      carried = b.0;
      linked = datagram_found link bytes a.0 a.1;
      network = carried_found a.0.0 a.0.1 b.0 b.1;
      transport = tcp_found b.0 segment b.2;
    }

pub segment_again : (link : LinkType) (bytes : List ℕ) (segment : Told) → IsPacket link bytes segment → segment_at link bytes ≡ given segment
unfolding segment_at
segment_again link bytes segment p =
    let begins = ip_begins p.version p.inner p.carried p.network in
    ap (λ (r : Result Lower PassedOver). r >>= λ d. carried_at d.0 d.1 >>= tcp_at) (datagram_again link bytes p.version p.inner begins.0 begins.1 p.linked)
    ∙ ap (λ (r : Result Carried PassedOver). r >>= tcp_at) (carried_again p.version p.inner p.carried p.network)
    ∙ tcp_again p.carried segment p.transport

pub is_found : (link : LinkType) (bytes : List ℕ) (r : Result Segment PassedOver) → Gives told r (segment_at link bytes) → IfOk r (λ segment. IsPacket link bytes (told segment))
is_found link bytes (Ok segment) gives = segment_found link bytes (told segment) gives
is_found link bytes (Err reason) gives = tt
