-- Headers of IP: what is read behind one stands there, and what stands there is read.
use Rattle.std.proofs.Common.{◌≡◌, ◌<◌, ◌≤◌, ℕ, ◌+◌, ◌-◌, ◌*◌, ◌/◌, ◌%◌, min, Bool, true, false, cond, eqb, leb, inl, inr, List, [], ◌∷◌, ◌++◌, length, take, drop, refl, sym, ap, subst, ◌∙◌, arith}
use Rattle.std.specs.Prelude.{Option, Some, None, Result, Ok, Err}
use Rattle.std.specs.List.{concat}
use Rattle.std.proofs.lemmas.Bool.{cases_lt, leb-true, le-leb, eqb-true, eq-eqb}
use Rattle.std.proofs.lemmas.List.{append-nil, take_at, take_all, drop_at, drop_all, take-append-drop, length-append, length-take, length-take-le, length-drop}
use Rattle.packet_layers.specs.declared.link.Version.{Version}
use Rattle.packet_layers.specs.declared.link.Version.TheVariants.{V4, V6}
use Rattle.packet_layers.specs.declared.segment.Address.{Address}
use Rattle.packet_layers.specs.declared.passed.PassedOver.{PassedOver}
use Rattle.packet_layers.specs.declared.passed.PassedOver.TheVariants.{Fragment, NotTcp}
use Rattle.packet_layers.specs.Packets.{byte, short, word, long, is_option, IsChain, told_or, mapped, Carried, AreCaptured, IsV4, IsV6, IsIp}
use Rattle.packet_layers.specs.Reading.{given, refused, tested, walk, option_size, option_next, past_options, v4_header, v4_all, v4_tests, v4_carried, v4_at, address_at, v6_all, v6_behind, v6_carried, v6_reached, v6_tests, v6_at, carried_at}
use Rattle.packet_layers.proofs.Numbers.{same_byte, same_short, same_word, same_long}
use Rattle.packet_layers.proofs.Chains.{options_told, walk_found, walk_again, few}
use Rattle.packet_layers.proofs.Results.{AllPass, all_passed, passed_again, given_is}
use Rattle.packet_layers.proofs.Links.{digit}

-- ---- what was captured

pub captured_front : (count : ℕ) (bytes : List ℕ) → AreCaptured count bytes (take count bytes)
captured_front count bytes = record {
  padding = drop count bytes;
  parts = sym (take-append-drop count bytes);
  either = elim (cases_lt (length bytes) count) [
    | inl lt ↦ inr (omega (arith, length-take count bytes), drop_all count bytes (omega arith))
    | inr le ↦ inl (length-take-le count bytes le)
  ];
}

pub captured_is : (count : ℕ) (bytes captured : List ℕ) → AreCaptured count bytes captured → take count bytes ≡ captured
captured_is count bytes captured a = elim a.either [
  | inl full ↦ ap (take count) a.parts ∙ take_at captured a.padding count full
  | inr cut ↦ ap (take count) (a.parts ∙ ap (λ (x : List ℕ). captured ++ x) cut.1 ∙ append-nil captured) ∙ take_all count captured (omega (arith, cut.0))
]

pub carried_is : (a b : Carried) → a.source ≡ b.source → a.destination ≡ b.destination → a.bytes ≡ b.bytes → a.size ≡ b.size → a ≡ b
carried_is a b source destination bytes size = λ i. record { source = source i; destination = destination i; bytes = bytes i; size = size i }

-- ---- version 4

module _ (bytes h rest : List ℕ) (parts : bytes ≡ h ++ rest) (least : 20 ≤ length h) where
  v4_first : byte 0 bytes ≡ byte 0 h
  v4_first = same_byte bytes h rest parts 0 (omega arith)

  v4_protocol : byte 9 bytes ≡ byte 9 h
  v4_protocol = same_byte bytes h rest parts 9 (omega arith)

  v4_total : short 2 bytes ≡ short 2 h
  v4_total = same_short bytes h rest parts 2 (omega arith)

  v4_fragment : short 6 bytes ≡ short 6 h
  v4_fragment = same_short bytes h rest parts 6 (omega arith)

  v4_source : word 12 bytes ≡ word 12 h
  v4_source = same_word bytes h rest parts 12 (omega arith)

  v4_destination : word 16 bytes ≡ word 16 h
  v4_destination = same_word bytes h rest parts 16 (omega arith)

v4_stands : (bytes : List ℕ) → AllPass (v4_tests bytes) → IsV4 bytes (v4_carried bytes)
v4_stands bytes pass =
    let n = v4_header bytes in
    let h = take n bytes in
    let d = drop n bytes in
    let version : byte 0 bytes / 16 ≡ 4 = eqb-true _ _ pass.1.0 in
    let least : 20 ≤ n = leb-true _ _ pass.1.1.0 in
    let unbroken : short 6 bytes % 16384 ≡ 0 = eqb-true _ _ pass.1.1.1.0 in
    let tcp : byte 9 bytes ≡ 6 = eqb-true _ _ pass.1.1.1.1.0 in
    let within : n ≤ v4_all bytes = leb-true _ _ pass.1.1.1.1.1.0 in
    let fits : n ≤ length bytes = leb-true _ _ pass.1.1.1.1.1.1.0 in
    let whole : bytes ≡ h ++ d = sym (take-append-drop n bytes) in
    let h_is : length h ≡ n = length-take-le n bytes fits in
    let long : 20 ≤ length h = omega arith in
    record {
      header = h;
      behind = d;
      parts = whole;
      header_is = h_is ∙ ap (λ (k : ℕ). k % 16 * 4) (v4_first bytes h d whole long);
      least = long;
      version = ap (λ (k : ℕ). k / 16) (sym (v4_first bytes h d whole long)) ∙ version;
      unbroken = ap (λ (k : ℕ). k % 16384) (sym (v4_fragment bytes h d whole long)) ∙ unbroken;
      tcp = sym (v4_protocol bytes h d whole long) ∙ tcp;
      ends = (ap mapped (v4_source bytes h d whole long), ap mapped (v4_destination bytes h d whole long));
      told = v4_told n (length h) (v4_all bytes) h_is within ∙ ap (λ (k : ℕ). told_or k (length bytes)) (v4_total bytes h d whole long);
      captured = captured_front (v4_all bytes - n) d;
    }
  where
    v4_told : (n k all : ℕ) → k ≡ n → n ≤ all → k + (all - n) ≡ all
    v4_told n k all is le = omega arith

pub v4_found : (bytes : List ℕ) (c : Carried) → v4_at bytes ≡ given c → IsV4 bytes c
unfolding v4_at
v4_found bytes c e =
    let g = all_passed (v4_tests bytes) (given (v4_carried bytes)) c e in
    subst (λ (x : Carried). IsV4 bytes x) (given_is (v4_carried bytes) c g.1) (v4_stands bytes g.0)

pub v4_again : (bytes : List ℕ) (c : Carried) → IsV4 bytes c → v4_at bytes ≡ given c
unfolding v4_at
v4_again bytes c v =
    let first : byte 0 bytes ≡ byte 0 v.header = v4_first bytes v.header v.behind v.parts v.least in
    let n_is : v4_header bytes ≡ length v.header = ap (λ (k : ℕ). k % 16 * 4) first ∙ sym v.header_is in
    let all_is : v4_all bytes ≡ length v.header + c.size = ap (λ (k : ℕ). told_or k (length bytes)) (v4_total bytes v.header v.behind v.parts v.least) ∙ sym v.told in
    let count : length bytes ≡ length v.header + length v.behind = ap length v.parts ∙ length-append v.header v.behind in
    let pass : AllPass (v4_tests bytes) = (
      le-leb _ _ (at_least (length bytes) (length v.header) (length v.behind) count v.least),
      (
        eq-eqb _ _ (ap (λ (k : ℕ). k / 16) first ∙ v.version),
        (
          le-leb _ _ (subst (λ (k : ℕ). 20 ≤ k) (sym n_is) v.least),
          (
            eq-eqb _ _ (ap (λ (k : ℕ). k % 16384) (v4_fragment bytes v.header v.behind v.parts v.least) ∙ v.unbroken),
            (
              eq-eqb _ _ (v4_protocol bytes v.header v.behind v.parts v.least ∙ v.tcp),
              (
                le-leb _ _ (no_more (v4_header bytes) (v4_all bytes) (length v.header) c.size n_is all_is),
                (
                  le-leb _ _ (no_more (v4_header bytes) (length bytes) (length v.header) (length v.behind) n_is count),
                  tt,
                ),
              ),
            ),
          ),
        ),
      ),
    ) in
    let size_is : v4_all bytes - v4_header bytes ≡ c.size = left_over (v4_header bytes) (v4_all bytes) (length v.header) c.size n_is all_is in
    let behind : drop (v4_header bytes) bytes ≡ v.behind = ap (λ (k : ℕ). drop k bytes) n_is ∙ ap (drop (length v.header)) v.parts ∙ drop_at v.header v.behind (length v.header) refl in
    let bytes_is : take (v4_all bytes - v4_header bytes) (drop (v4_header bytes) bytes) ≡ c.bytes =
    ap (λ (k : ℕ). take k (drop (v4_header bytes) bytes)) size_is ∙ ap (take c.size) behind ∙ captured_is c.size v.behind c.bytes v.captured in
    let source : mapped (word 12 bytes) ≡ c.source = ap mapped (v4_source bytes v.header v.behind v.parts v.least) ∙ sym v.ends.0 in
    let destination : mapped (word 16 bytes) ≡ c.destination = ap mapped (v4_destination bytes v.header v.behind v.parts v.least) ∙ sym v.ends.1 in
    passed_again (v4_tests bytes) (given (v4_carried bytes)) pass ∙ ap (λ (x : Carried). given x) (carried_is (v4_carried bytes) c source destination bytes_is size_is)
  where
    at_least : (a b k : ℕ) → a ≡ b + k → 20 ≤ b → 20 ≤ a
    at_least a b k e h = omega arith

    no_more : (n all h k : ℕ) → n ≡ h → all ≡ h + k → n ≤ all
    no_more n all h k e f = omega arith

    left_over : (n all h k : ℕ) → n ≡ h → all ≡ h + k → all - n ≡ k
    left_over n all h k e f = omega arith

-- ---- version 6

reached_found : (bytes : List ℕ) (o : Option (ℕ × List ℕ)) (c : Carried) → v6_reached bytes o ≡ given c → (segment : List ℕ) × (o ≡ Some (6, segment)) × (v6_carried bytes segment ≡ c)
unfolding v6_reached
reached_found bytes None c e = absurd cc
reached_found bytes (Some x) c e = by_kind (eqb x.0 6) (eqb x.0 44) refl e
  where
    by_kind : (b t : Bool) → eqb x.0 6 ≡ b → cond b (given (v6_carried bytes x.1)) (cond t (refused Fragment) (refused NotTcp)) ≡ given c → (segment : List ℕ) × (Some x ≡ Some (6, segment)) × (v6_carried bytes segment ≡ c)
    by_kind true t p e = (x.1, ap (λ (k : ℕ). Some (k, x.1)) (eqb-true _ _ p), given_is (v6_carried bytes x.1) c e)
    by_kind false true p e = absurd cc
    by_kind false false p e = absurd cc

reached_again : (bytes segment : List ℕ) → v6_reached bytes (Some (6, segment)) ≡ given (v6_carried bytes segment)
unfolding v6_reached
reached_again bytes segment = refl

address_is : (place : ℕ) (bytes h rest : List ℕ) → bytes ≡ h ++ rest → place + 15 < length h → address_at place bytes ≡ record { high = long place h; low = long (place + 8) h }
unfolding address_at
address_is place bytes h rest parts lt =
    let high : long place bytes ≡ long place h = same_long bytes h rest parts place (omega arith) in
    let low : long (place + 8) bytes ≡ long (place + 8) h = same_long bytes h rest parts (place + 8) (omega arith) in
    λ i. record { high = high i; low = low i }

v6_stands : (bytes : List ℕ) (segment : List ℕ) → AllPass (v6_tests bytes) → past_options (length (v6_behind bytes) + 1) (byte 6 bytes) (v6_behind bytes) ≡ Some (6, segment) → IsV6 bytes (v6_carried bytes segment)
unfolding past_options
v6_stands bytes segment pass walked =
    let h = take 40 bytes in
    let d = drop 40 bytes in
    let fits : 40 ≤ length bytes = leb-true _ _ pass.0 in
    let version : byte 0 bytes / 16 ≡ 6 = eqb-true _ _ pass.1.0 in
    let whole : bytes ≡ h ++ d = sym (take-append-drop 40 bytes) in
    let h_is : length h ≡ 40 = length-take-le 40 bytes fits in
    let reached = walk_found is_option option_size option_next options_told (length (v6_behind bytes) + 1) (byte 6 bytes) (v6_behind bytes) (6, segment) walked in
    let all_is : v6_all bytes ≡ told_or (short 4 h) (length d) =
    ap (λ (k : ℕ). told_or k (length bytes - 40)) (same_short bytes h d whole 4 (omega arith)) ∙ ap (told_or (short 4 h)) (sym (length-drop 40 bytes)) in
    let behind_is : length (v6_behind bytes) ≡ length (concat reached.headers) + length segment = ap length reached.parts ∙ length-append (concat reached.headers) segment in
    let within : length (v6_behind bytes) ≤ v6_all bytes = not_over (v6_all bytes) (length (v6_behind bytes)) (length d) (length-take (v6_all bytes) d) in
    let sum : length (concat reached.headers) + (v6_all bytes - (length (v6_behind bytes) - length segment)) ≡ v6_all bytes =
    left_over (length (concat reached.headers)) (v6_all bytes) (length (v6_behind bytes)) (length segment) behind_is within in
    record {
      header = h;
      behind = d;
      options = reached.headers;
      parts = whole;
      header_is = h_is;
      version = ap (λ (k : ℕ). k / 16) (sym (same_byte bytes h d whole 0 (omega arith))) ∙ version;
      chain = subst (λ (k : ℕ). IsChain is_option option_size option_next k reached.headers 6) (same_byte bytes h d whole 6 (omega arith)) reached.chain;
      source = address_is 8 bytes h d whole (omega arith);
      destination = address_is 24 bytes h d whole (omega arith);
      told = sum ∙ all_is;
      captured = subst (λ (x : List ℕ). AreCaptured (length (concat reached.headers) + (v6_all bytes - (length (v6_behind bytes) - length segment))) d x) reached.parts
          (subst (λ (k : ℕ). AreCaptured k d (v6_behind bytes)) (sym sum) (captured_front (v6_all bytes) d));
    }
  where
    not_over : (all k d : ℕ) → k ≡ min all d → k ≤ all
    not_over all k d e = omega arith

    left_over : (o all b s : ℕ) → b ≡ o + s → b ≤ all → o + (all - (b - s)) ≡ all
    left_over o all b s e le = omega arith

pub v6_found : (bytes : List ℕ) (c : Carried) → v6_at bytes ≡ given c → IsV6 bytes c
unfolding v6_at
v6_found bytes c e =
    let o = past_options (length (v6_behind bytes) + 1) (byte 6 bytes) (v6_behind bytes) in
    let g = all_passed (v6_tests bytes) (v6_reached bytes o) c e in
    let r = reached_found bytes o c g.1 in
    subst (λ (x : Carried). IsV6 bytes x) r.2 (v6_stands bytes r.0 g.0 r.1)

pub v6_again : (bytes : List ℕ) (c : Carried) → IsV6 bytes c → v6_at bytes ≡ given c
unfolding v6_at past_options
v6_again bytes c v =
    let options = concat v.options in
    let count : length bytes ≡ 40 + length v.behind = ap length v.parts ∙ length-append v.header v.behind ∙ ap (λ (k : ℕ). k + length v.behind) v.header_is in
    let d_is : drop 40 bytes ≡ v.behind = ap (drop 40) v.parts ∙ drop_at v.header v.behind 40 v.header_is in
    let rest_is : length bytes - 40 ≡ length v.behind = omega arith in
    let all_is : v6_all bytes ≡ length options + c.size =
    ap (λ (k : ℕ). told_or k (length bytes - 40)) (same_short bytes v.header v.behind v.parts 4 (omega (arith, v.header_is))) ∙ ap (told_or (short 4 v.header)) rest_is ∙ sym v.told in
    let behind_is : v6_behind bytes ≡ options ++ c.bytes =
    ap (λ (x : List ℕ). take (v6_all bytes) x) d_is ∙ ap (λ (k : ℕ). take k v.behind) all_is ∙ captured_is (length options + c.size) v.behind (options ++ c.bytes) v.captured in
    let length_is : length (v6_behind bytes) ≡ length options + length c.bytes = ap length behind_is ∙ length-append options c.bytes in
    let few_options : length v.options ≤ length options = few is_option option_size option_next options_told (byte 6 v.header) v.options 6 v.chain in
    let walked : walk is_option option_size option_next (length (v6_behind bytes) + 1) (byte 6 v.header) (options ++ c.bytes) ≡ Some (6, c.bytes) =
    walk_again is_option option_size option_next options_told (length (v6_behind bytes) + 1) (byte 6 v.header) v.options 6 c.bytes (omega arith) refl v.chain in
    let kind : byte 6 bytes ≡ byte 6 v.header = same_byte bytes v.header v.behind v.parts 6 (omega (arith, v.header_is)) in
    let reached : past_options (length (v6_behind bytes) + 1) (byte 6 bytes) (v6_behind bytes) ≡ Some (6, c.bytes) =
    ap (λ (k : ℕ). past_options (length (v6_behind bytes) + 1) k (v6_behind bytes)) kind ∙ ap (λ (x : List ℕ). past_options (length (v6_behind bytes) + 1) (byte 6 v.header) x) behind_is ∙ walked in
    let pass : AllPass (v6_tests bytes) = (
      le-leb _ _ (omega arith),
      (
        eq-eqb _ _ (ap (λ (k : ℕ). k / 16) (same_byte bytes v.header v.behind v.parts 0 (omega (arith, v.header_is))) ∙ v.version),
        tt,
      ),
    ) in
    let size_is : v6_all bytes - (length (v6_behind bytes) - length c.bytes) ≡ c.size = left_over (length options) (v6_all bytes) (length (v6_behind bytes)) (length c.bytes) c.size length_is all_is in
    passed_again (v6_tests bytes) (v6_reached bytes (past_options (length (v6_behind bytes) + 1) (byte 6 bytes) (v6_behind bytes))) pass
    ∙ ap (v6_reached bytes) reached ∙ reached_again bytes c.bytes
    ∙ ap (λ (x : Carried). given x) (carried_is (v6_carried bytes c.bytes) c
    (address_is 8 bytes v.header v.behind v.parts (omega (arith, v.header_is)) ∙ sym v.source)
    (address_is 24 bytes v.header v.behind v.parts (omega (arith, v.header_is)) ∙ sym v.destination)
    refl size_is)
  where
    left_over : (o all b s size : ℕ) → b ≡ o + s → all ≡ o + size → all - (b - s) ≡ size
    left_over o all b s size e f = omega arith

-- ---- either version

pub carried_found : (version : Version) (bytes : List ℕ) (c : Carried) → carried_at version bytes ≡ given c → IsIp version bytes c
carried_found V4 bytes c e = v4_found bytes c e
carried_found V6 bytes c e = v6_found bytes c e

pub carried_again : (version : Version) (bytes : List ℕ) (c : Carried) → IsIp version bytes c → carried_at version bytes ≡ given c
carried_again V4 bytes c v = v4_again bytes c v
carried_again V6 bytes c v = v6_again bytes c v

-- what the front of an IP packet says
pub ip_begins : (version : Version) (bytes : List ℕ) (c : Carried) → IsIp version bytes c → (1 ≤ length bytes) × (byte 0 bytes / 16 ≡ digit version)
ip_begins V4 bytes c v =
    (omega (arith, v.least, ap length v.parts, length-append v.header v.behind), ap (λ (k : ℕ). k / 16) (same_byte bytes v.header v.behind v.parts 0 (omega (arith, v.least))) ∙ v.version)
ip_begins V6 bytes c v =
    (omega (arith, v.header_is, ap length v.parts, length-append v.header v.behind), ap (λ (k : ℕ). k / 16) (same_byte bytes v.header v.behind v.parts 0 (omega (arith, v.header_is))) ∙ v.version)
