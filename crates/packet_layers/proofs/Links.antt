-- Link headers: what is read behind one stands there, and what stands there is read.
use Rattle.std.proofs.Common.{◌≡◌, ◌<◌, ◌≤◌, ℕ, ◌+◌, ◌*◌, ◌/◌, Bool, true, false, cond, eqb, ltb, leb, ◌&&◌, ◌⊎◌, inl, inr, List, [], ◌∷◌, ◌++◌, length, take, drop, refl, sym, ap, subst, ◌∙◌, arith}
use Rattle.std.specs.Prelude.{Option, Some, None, Result, Ok, Err}
use Rattle.std.specs.List.{concat}
use Rattle.std.proofs.lemmas.Bool.{false≢true, and_parts, leb-true, le-leb, eqb-true, eq-eqb, ne_eqb}
use Rattle.std.proofs.lemmas.List.{drop_at, drop_more, take-append-drop, length-append, length-take-le}
use Rattle.packet_capture.specs.declared.packet.LinkType.{LinkType}
use Rattle.packet_capture.specs.declared.packet.LinkType.TheVariants as links
use Rattle.packet_layers.specs.declared.link.Version.{Version}
use Rattle.packet_layers.specs.declared.link.Version.TheVariants.{V4, V6}
use Rattle.packet_layers.specs.declared.passed.PassedOver.{PassedOver}
use Rattle.packet_layers.specs.declared.passed.PassedOver.TheVariants.{NotIp, CutHeader}
use Rattle.packet_layers.specs.Packets.{byte, short, protocol, is_tag, is_family, IsChain, IsBehindProtocol, IsBehindFamily, IsBehindLink}
use Rattle.packet_layers.specs.Reading.{given, refused, walk, tag_size, tag_next, past_tags, Lower, version_of, protocol_at, family_number, family_in, family_at, raw_at, datagram_at}
use Rattle.packet_layers.proofs.Numbers.{same_short}
use Rattle.packet_layers.proofs.Chains.{tags_told, walk_found, walk_again, few}
use Rattle.packet_layers.proofs.Results.{one_passed, given_is}

-- ---- a number for the protocol

one_version : (b t : Bool) (x : ℕ × List ℕ) (d : Lower) → eqb x.0 2048 ≡ b → eqb x.0 34525 ≡ t → cond b (given (V4, x.1)) (cond t (given (V6, x.1)) (refused NotIp)) ≡ given d → Some x ≡ Some (protocol d.0, d.1)
one_version true t x d p q e = subst (λ (y : Lower). Some x ≡ Some (protocol y.0, y.1)) (given_is (V4, x.1) d e) (ap (λ (k : ℕ). Some (k, x.1)) (eqb-true _ _ p))
one_version false true x d p q e = subst (λ (y : Lower). Some x ≡ Some (protocol y.0, y.1)) (given_is (V6, x.1) d e) (ap (λ (k : ℕ). Some (k, x.1)) (eqb-true _ _ q))
one_version false false x d p q e = absurd cc

version_found : (o : Option (ℕ × List ℕ)) (d : Lower) → version_of o ≡ given d → o ≡ Some (protocol d.0, d.1)
unfolding version_of
version_found None d e = absurd cc
version_found (Some x) d e = one_version (eqb x.0 2048) (eqb x.0 34525) x d refl refl e

version_again : (version : Version) (inner : List ℕ) → version_of (Some (protocol version, inner)) ≡ given (version, inner)
unfolding version_of
version_again V4 inner = refl
version_again V6 inner = refl

no_tag : (version : Version) → is_tag (protocol version) ≡ false
no_tag V4 = refl
no_tag V6 = refl

pub protocol_found : (all place : ℕ) (bytes : List ℕ) (d : Lower) → place + 1 < all → protocol_at all place bytes ≡ given d → IsBehindProtocol all place bytes d.0 d.1
unfolding protocol_at past_tags
protocol_found all place bytes d lt e =
    let o = past_tags (length bytes + 1) (short place bytes) (drop all bytes) in
    let g = one_passed (leb all (length bytes)) CutHeader (version_of o) d e in
    let fits : all ≤ length bytes = leb-true _ _ g.0 in
    let h = take all bytes in
    let all_is : length h ≡ all = length-take-le all bytes fits in
    let whole : bytes ≡ h ++ drop all bytes = sym (take-append-drop all bytes) in
    let reached = walk_found is_tag tag_size tag_next tags_told (length bytes + 1) (short place bytes) (drop all bytes) (protocol d.0, d.1) (version_found o d g.1) in
    let kind : short place bytes ≡ short place h = same_short bytes h (drop all bytes) whole place (omega arith) in
    record {
      header = h;
      tags = reached.headers;
      parts = whole ∙ ap (λ (x : List ℕ). h ++ x) reached.parts;
      all_is = all_is;
      tagged = subst (λ (k : ℕ). IsChain is_tag tag_size tag_next k reached.headers (protocol d.0)) kind reached.chain;
    }

pub protocol_again : (all place : ℕ) (bytes : List ℕ) (version : Version) (inner : List ℕ) → place + 1 < all → IsBehindProtocol all place bytes version inner → protocol_at all place bytes ≡ given (version, inner)
unfolding protocol_at past_tags
protocol_again all place bytes version inner lt b =
    let more = concat b.tags ++ inner in
    let count : length bytes ≡ all + (length (concat b.tags) + length inner) = omega (arith, b.all_is, ap length b.parts, length-append b.header more, length-append (concat b.tags) inner) in
    let few_tags : length b.tags ≤ length (concat b.tags) = few is_tag tag_size tag_next tags_told (short place b.header) b.tags (protocol version) b.tagged in
    let fits : leb all (length bytes) ≡ true = le-leb _ _ (omega arith) in
    let kind : short place bytes ≡ short place b.header = same_short bytes b.header more b.parts place (omega (arith, b.all_is)) in
    let behind : drop all bytes ≡ more = ap (drop all) b.parts ∙ drop_at b.header more all b.all_is in
    let walked : walk is_tag tag_size tag_next (length bytes + 1) (short place b.header) more ≡ Some (protocol version, inner) = walk_again is_tag tag_size tag_next tags_told (length bytes + 1) (short place b.header) b.tags (protocol version) inner (omega arith) (no_tag version) b.tagged in
    let reached : past_tags (length bytes + 1) (short place bytes) (drop all bytes) ≡ Some (protocol version, inner) =
    ap (λ (k : ℕ). past_tags (length bytes + 1) k (drop all bytes)) kind ∙ ap (λ (x : List ℕ). past_tags (length bytes + 1) (short place b.header) x) behind ∙ walked in
    ap (λ (t : Bool). cond t (version_of (past_tags (length bytes + 1) (short place bytes) (drop all bytes))) (refused CutHeader)) fits ∙ ap version_of reached ∙ version_again version inner

-- ---- a number for the family of addresses

cells : (bytes : List ℕ) → 4 ≤ length bytes → bytes ≡ byte 0 bytes ∷ byte 1 bytes ∷ byte 2 bytes ∷ byte 3 bytes ∷ drop 4 bytes
cells bytes fits =
    drop_more bytes 0 0 (omega arith)
    ∙ ap (λ (x : List ℕ). byte 0 bytes ∷ x) (drop_more bytes 1 0 (omega arith))
    ∙ ap (λ (x : List ℕ). byte 0 bytes ∷ byte 1 bytes ∷ x) (drop_more bytes 2 0 (omega arith))
    ∙ ap (λ (x : List ℕ). byte 0 bytes ∷ byte 1 bytes ∷ byte 2 bytes ∷ x) (drop_more bytes 3 0 (omega arith))

abbrev IsEither : ℕ → ℕ → ℕ → ℕ → ℕ → List ℕ → Type 0
IsEither a b c d n rest = (a ∷ b ∷ c ∷ d ∷ rest ≡ 0 ∷ 0 ∷ 0 ∷ n ∷ rest) ⊎ (a ∷ b ∷ c ∷ d ∷ rest ≡ n ∷ 0 ∷ 0 ∷ 0 ∷ rest)

either_order : (a b c d n : ℕ) (rest : List ℕ) (s t u : Bool) → (eqb b 0 && eqb c 0) ≡ s → eqb a 0 ≡ t → eqb d 0 ≡ u → cond s (cond t d (cond u a 0)) 0 ≡ n → (n ≡ 0 → ⊥) → IsEither a b c d n rest
either_order a b c d n rest false t u p q r e some = absurd (some (sym e))
either_order a b c d n rest true false false p q r e some = absurd (some (sym e))
either_order a b c d n rest true true u p q r e some =
    let both = and_parts (eqb b 0) (eqb c 0) p in
    let a0 : a ≡ 0 = eqb-true _ _ q in
    let b0 : b ≡ 0 = eqb-true _ _ both.0 in
    let c0 : c ≡ 0 = eqb-true _ _ both.1 in
    inl (cc)
either_order a b c d n rest true false true p q r e some =
    let both = and_parts (eqb b 0) (eqb c 0) p in
    let b0 : b ≡ 0 = eqb-true _ _ both.0 in
    let c0 : c ≡ 0 = eqb-true _ _ both.1 in
    let d0 : d ≡ 0 = eqb-true _ _ r in
    inr (cc)

no_family : (version : Version) (n : ℕ) → is_family version n ≡ true → n ≡ 0 → ⊥
no_family V4 n p z = false≢true (subst (λ (k : ℕ). is_family V4 k ≡ true) z p)
no_family V6 n p z = false≢true (subst (λ (k : ℕ). is_family V6 k ≡ true) z p)

no_two : (n : ℕ) → is_family V6 n ≡ true → n ≡ 2 → ⊥
no_two n p z = false≢true (subst (λ (k : ℕ). is_family V6 k ≡ true) z p)

one_family : (n : ℕ) (rest : List ℕ) (d : Lower) (b t : Bool) → is_family V4 n ≡ b → is_family V6 n ≡ t → cond b (given (V4, rest)) (cond t (given (V6, rest)) (refused NotIp)) ≡ given d → (is_family d.0 n ≡ true) × (rest ≡ d.1)
one_family n rest d true t p q e = subst (λ (y : Lower). (is_family y.0 n ≡ true) × (rest ≡ y.1)) (given_is (V4, rest) d e) (p, refl)
one_family n rest d false true p q e = subst (λ (y : Lower). (is_family y.0 n ≡ true) × (rest ≡ y.1)) (given_is (V6, rest) d e) (q, refl)
one_family n rest d false false p q e = absurd cc

family_in_again : (version : Version) (n : ℕ) (inner : List ℕ) → is_family version n ≡ true → family_in n inner ≡ given (version, inner)
family_in_again V4 n inner p = ap (λ (t : Bool). cond t (given (V4, inner)) (cond (is_family V6 n) (given (V6, inner)) (refused NotIp))) p
family_in_again V6 n inner p =
    let no_v4 : is_family V4 n ≡ false = ne_eqb n 2 (no_two n p) in
    ap (λ (t : Bool). cond t (given (V4, inner)) (cond (is_family V6 n) (given (V6, inner)) (refused NotIp))) no_v4 ∙ ap (λ (t : Bool). cond t (given (V6, inner)) (refused NotIp)) p

pub family_found : (bytes : List ℕ) (d : Lower) → family_at bytes ≡ given d → IsBehindFamily bytes d.0 d.1
unfolding family_at family_number
family_found bytes d e =
    let n = family_number bytes in
    let g = one_passed (leb 4 (length bytes)) CutHeader (family_in n (drop 4 bytes)) d e in
    let fits : 4 ≤ length bytes = leb-true _ _ g.0 in
    let p = one_family n (drop 4 bytes) d (is_family V4 n) (is_family V6 n) refl refl g.1 in
    let either = either_order (byte 0 bytes) (byte 1 bytes) (byte 2 bytes) (byte 3 bytes) n (drop 4 bytes) (eqb (byte 1 bytes) 0 && eqb (byte 2 bytes) 0) (eqb (byte 0 bytes) 0) (eqb (byte 3 bytes) 0) refl refl refl refl (no_family d.0 n p.0) in
    subst (λ (x : List ℕ). IsBehindFamily bytes d.0 x) p.1 (n, p.0, elim either [ inl s ↦ inl (cells bytes fits ∙ s) | inr s ↦ inr (cells bytes fits ∙ s) ])

family_cells : (bytes : List ℕ) (version : Version) (n : ℕ) (inner : List ℕ) → is_family version n ≡ true → 4 ≤ length bytes → family_number bytes ≡ n → drop 4 bytes ≡ inner → family_at bytes ≡ given (version, inner)
unfolding family_at
family_cells bytes version n inner p fits number behind =
    ap (λ (t : Bool). cond t (family_in (family_number bytes) (drop 4 bytes)) (refused CutHeader)) (le-leb 4 (length bytes) fits)
    ∙ ap (λ (k : ℕ). family_in k (drop 4 bytes)) number ∙ ap (family_in n) behind ∙ family_in_again version n inner p

number_ahead : (n : ℕ) (inner : List ℕ) → family_number (0 ∷ 0 ∷ 0 ∷ n ∷ inner) ≡ n
unfolding family_number
number_ahead n inner = refl

number_behind : (n : ℕ) (inner : List ℕ) → (n ≡ 0 → ⊥) → family_number (n ∷ 0 ∷ 0 ∷ 0 ∷ inner) ≡ n
unfolding family_number
number_behind n inner some = ap (λ (t : Bool). cond t 0 n) (ne_eqb n 0 some)

pub family_again : (bytes : List ℕ) (version : Version) (inner : List ℕ) → IsBehindFamily bytes version inner → family_at bytes ≡ given (version, inner)
family_again bytes version inner b = elim b.2 [
  | inl q ↦ ap family_at q ∙ family_cells (0 ∷ 0 ∷ 0 ∷ b.0 ∷ inner) version b.0 inner b.1 (omega arith) (number_ahead b.0 inner) refl
  | inr q ↦ ap family_at q ∙ family_cells (b.0 ∷ 0 ∷ 0 ∷ 0 ∷ inner) version b.0 inner b.1 (omega arith) (number_behind b.0 inner (no_family version b.0 b.1)) refl
]

-- ---- no header

abbrev pub digit : Version → ℕ
digit V4 = 4
digit V6 = 6

one_raw : (bytes : List ℕ) (d : Lower) (b t : Bool) → cond b (given (V4, bytes)) (cond t (given (V6, bytes)) (refused NotIp)) ≡ given d → d.1 ≡ bytes
one_raw bytes d true t e = sym (ap (λ (y : Lower). y.1) (given_is (V4, bytes) d e))
one_raw bytes d false true e = sym (ap (λ (y : Lower). y.1) (given_is (V6, bytes) d e))
one_raw bytes d false false e = absurd cc

raw_found : (bytes : List ℕ) (d : Lower) → raw_at bytes ≡ given d → d.1 ≡ bytes
unfolding raw_at
raw_found bytes d e =
    let g = one_passed (leb 1 (length bytes)) CutHeader (cond (eqb (byte 0 bytes / 16) 4) (given (V4, bytes)) (cond (eqb (byte 0 bytes / 16) 6) (given (V6, bytes)) (refused NotIp))) d e in
    one_raw bytes d (eqb (byte 0 bytes / 16) 4) (eqb (byte 0 bytes / 16) 6) g.1

raw_again : (bytes : List ℕ) (version : Version) → 1 ≤ length bytes → byte 0 bytes / 16 ≡ digit version → raw_at bytes ≡ given (version, bytes)
unfolding raw_at
raw_again bytes V4 some is =
    let first : eqb (byte 0 bytes / 16) 4 ≡ true = eq-eqb _ _ is in
    rw (le-leb 1 (length bytes) some, first) refl
raw_again bytes V6 some is =
    let first : eqb (byte 0 bytes / 16) 4 ≡ false = ne_eqb _ _ (λ z. omega arith) in
    let second : eqb (byte 0 bytes / 16) 6 ≡ true = eq-eqb _ _ is in
    rw (le-leb 1 (length bytes) some, first, second) refl

-- ---- each link type

pub datagram_found : (link : LinkType) (bytes : List ℕ) (d : Lower) → datagram_at link bytes ≡ given d → IsBehindLink link bytes d.0 d.1
unfolding datagram_at
datagram_found links.Ethernet bytes d e = protocol_found 14 12 bytes d (omega arith) e
datagram_found links.Cooked bytes d e = protocol_found 16 14 bytes d (omega arith) e
datagram_found links.Cooked2 bytes d e = protocol_found 20 0 bytes d (omega arith) e
datagram_found links.Null bytes d e = family_found bytes d e
datagram_found links.Loop bytes d e = family_found bytes d e
datagram_found links.Raw bytes d e = raw_found bytes d e
datagram_found links.Ipv4 bytes d e = let s = given_is (V4, bytes) d e in (sym (ap (λ (y : Lower). y.0) s), sym (ap (λ (y : Lower). y.1) s))
datagram_found links.Ipv6 bytes d e = let s = given_is (V6, bytes) d e in (sym (ap (λ (y : Lower). y.0) s), sym (ap (λ (y : Lower). y.1) s))

-- `some` and `first` are what a header of IP says
pub datagram_again : (link : LinkType) (bytes : List ℕ) (version : Version) (inner : List ℕ) → 1 ≤ length inner → byte 0 inner / 16 ≡ digit version → IsBehindLink link bytes version inner → datagram_at link bytes ≡ given (version, inner)
unfolding datagram_at
datagram_again links.Ethernet bytes version inner some first b = protocol_again 14 12 bytes version inner (omega arith) b
datagram_again links.Cooked bytes version inner some first b = protocol_again 16 14 bytes version inner (omega arith) b
datagram_again links.Cooked2 bytes version inner some first b = protocol_again 20 0 bytes version inner (omega arith) b
datagram_again links.Null bytes version inner some first b = family_again bytes version inner b
datagram_again links.Loop bytes version inner some first b = family_again bytes version inner b
datagram_again links.Raw bytes version inner some first b = subst (λ (x : List ℕ). raw_at x ≡ given (version, inner)) b (raw_again inner version some first)
datagram_again links.Ipv4 bytes version inner some first b = ap (λ (v : Version). given (v, bytes)) (sym b.0) ∙ ap (λ (x : List ℕ). given (version, x)) (sym b.1)
datagram_again links.Ipv6 bytes version inner some first b = ap (λ (v : Version). given (v, bytes)) (sym b.0) ∙ ap (λ (x : List ℕ). given (version, x)) (sym b.1)
