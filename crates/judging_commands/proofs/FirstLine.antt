-- The first line of a bundle, and what stands behind it.
use Rattle.std.proofs.Common.{◌≡◌, ◌≢◌, ℕ, ◌+◌, ◌<◌, ◌==◌, Bool, true, false, List, [], ◌∷◌, ◌++◌, length, take, drop, get_or, Option, Some, None, inl, inr, Result, Ok, refl, sym, ap, ◌∙◌, arith, add-one, take-append-drop, drop-cons, length-append}
use Rattle.std.specs.Prelude.{position}
use Rattle.std.specs.List.{AllPass, position_or_len}
use Rattle.std.proofs.lemmas.Bool.{cases_Bool, eqb-true}
use Rattle.std.proofs.lemmas.Bool.Decides.{nat_tests}
use Rattle.std.proofs.lemmas.List.Elements.{All-head, All-tail}
use Rattle.std.proofs.lemmas.List.Quantifiers.{position-Some}
use Rattle.std.proofs.lemmas.List.Sums.{position_or_len_is}
use Rattle.memchr.specs.Find.{IsFirstByte, is_byte}
use Rattle.std.proofs.Math.Seq.{drop-append-add, take-append_seam}
use Rattle.hex.specs.Hex.{IsBytes, encode_lower, decode_of}
use Rattle.hex.specs.declared.error.FromHexError.{FromHexError}
use Rattle.hex.proofs.HexLemmas.{decode_of-encode_lower}
use Rattle.program_streams.specs.Digits.{is_lower_digit}
use Rattle.judging_commands.specs.Bundle.{IsBundle, IsSomeBundle}
use Rattle.program_streams.proofs.LowerHex.{AllPass-encode_lower}

abbrev is_line_feed : ℕ → Bool
is_line_feed byte = byte == 10

-- a digit is no line feed
digit-ne-line_feed : (c : ℕ) → is_lower_digit c ≡ true → is_line_feed c ≡ false
digit-ne-line_feed c h = grind (arith, nat_tests)

-- the first line feed behind digits stands right behind them
position_or_len-digits : (digits rest : List ℕ) → AllPass is_lower_digit digits → position_or_len is_line_feed (digits ++ 10 ∷ rest) ≡ length digits
position_or_len-digits [] rest h = refl
position_or_len-digits (d ∷ digits) rest h =
    let other = digit-ne-line_feed d (All-head (λ c. is_lower_digit c ≡ true) d digits h) in
    let ih = position_or_len-digits digits rest (All-tail (λ c. is_lower_digit c ≡ true) d digits h) in
    rw other (rw ih (omega arith))

position-digits : (digits rest : List ℕ) → AllPass is_lower_digit digits → position is_line_feed (digits ++ 10 ∷ rest) ≡ Some (length digits)
position-digits digits rest h =
    let first = position_or_len-digits digits rest h in
    let len = length-append digits (10 ∷ rest) in
    rw first (rw len (grind (arith, nat_tests)))

-- the first line of a bundle ends behind its digits
position-bundle : (bytes history certificate : List ℕ) → IsBundle bytes history certificate → position is_line_feed bytes ≡ Some (length (encode_lower history))
position-bundle bytes history certificate h =
    ap (position is_line_feed) h.spelled ∙ position-digits (encode_lower history) certificate (AllPass-encode_lower history h.in_range)

-- without a line feed there is no bundle
pub no_bundle-without : (bytes : List ℕ) → position is_line_feed bytes ≡ None → IsSomeBundle bytes → ⊥
no_bundle-without bytes none b = cc (sym none ∙ position-bundle bytes b.0 b.1 b.2)

-- what stands ahead of the first line feed, the line feed, and what stands behind it
parts : (bytes : List ℕ) (end : ℕ) → position is_line_feed bytes ≡ Some end → bytes ≡ take end bytes ++ 10 ∷ drop (end + 1) bytes
parts bytes end found =
    let at = position-Some is_line_feed bytes end 0 found in
    let within = at.0 in
    let feed : get_or bytes end 0 ≡ 10 = eqb-true (get_or bytes end 0) 10 at.1 in
    sym (take-append-drop end bytes) ∙ ap (λ l. take end bytes ++ l) (drop-cons bytes end 0 within ∙ (rw (feed, add-one) refl))

-- a first line that spells a history makes a bundle with what stands behind it
pub IsBundle-from_line : (bytes history : List ℕ) (end : ℕ) → position is_line_feed bytes ≡ Some end → IsBytes history → take end bytes ≡ encode_lower history
    → IsBundle bytes history (drop (end + 1) bytes)
IsBundle-from_line bytes history end found range line = record {
  in_range = range;
  spelled = parts bytes end found ∙ ap (λ front. front ++ 10 ∷ drop (end + 1) bytes) line;
}

same_length : (a b : ℕ) → Some a ≡ Some b → a ≡ b
same_length a b e = cc e

-- the digits of a bundle stand ahead of the first line feed
line-bundle : (bytes history certificate : List ℕ) (end : ℕ) → position is_line_feed bytes ≡ Some end → IsBundle bytes history certificate → take end bytes ≡ encode_lower history
line-bundle bytes history certificate end found h =
    let at : end ≡ length (encode_lower history) = same_length end (length (encode_lower history)) (sym found ∙ position-bundle bytes history certificate h) in
    rw (at, h.spelled) (take-append_seam (encode_lower history) (10 ∷ certificate))

-- a first line that spells no history begins no bundle
pub no_bundle-other : (bytes : List ℕ) (end : ℕ) → position is_line_feed bytes ≡ Some end
    → ((history : List ℕ) → IsBytes history → take end bytes ≢ encode_lower history) → IsSomeBundle bytes → ⊥
no_bundle-other bytes end found other b = other b.0 b.2.in_range (line-bundle bytes b.0 b.1 end found b.2)

same_bytes : (xs ys : List ℕ) (r : Result (List ℕ) FromHexError) → r ≡ Ok xs → r ≡ Ok ys → xs ≡ ys
same_bytes xs ys r e f = cc (e, f)

-- bytes are one bundle at most
pub one_bundle : (bytes history certificate history' certificate' : List ℕ) → IsBundle bytes history certificate → IsBundle bytes history' certificate'
    → (history ≡ history') × (certificate ≡ certificate')
one_bundle bytes history certificate history' certificate' h h' =
    let found = position-bundle bytes history certificate h in
    let line : encode_lower history ≡ encode_lower history' =
    sym (line-bundle bytes history certificate (length (encode_lower history)) found h)
    ∙ line-bundle bytes history' certificate' (length (encode_lower history)) found h' in
    let same : history ≡ history' =
    same_bytes history history' (decode_of (encode_lower history)) (decode_of-encode_lower history h.in_range)
    (ap decode_of line ∙ decode_of-encode_lower history' h'.in_range) in
    let behind : drop (length (encode_lower history) + 1) (encode_lower history ++ 10 ∷ certificate) ≡ drop (length (encode_lower history') + 1) (encode_lower history' ++ 10 ∷ certificate') =
    ap (λ d. drop (length d + 1) (encode_lower history ++ 10 ∷ certificate)) line ∙ ap (drop (length (encode_lower history') + 1)) (sym h.spelled ∙ h'.spelled) in
    (same, sym (drop-append-add (encode_lower history) (10 ∷ certificate) 1) ∙ behind ∙ drop-append-add (encode_lower history') (10 ∷ certificate') 1)

-- what isn't true is false
is_false : (b : Bool) → (b ≡ true → ⊥) → b ≡ false
is_false b h = elim (cases_Bool b) [ inl e ↦ absurd (h e) | inr e ↦ e ]

-- the first place of a line feed
pub position-first : (bytes : List ℕ) (r : Option ℕ) → IsFirstByte (is_byte 10) bytes r → r ≡ position is_line_feed bytes
position-first bytes None none =
    let at : position_or_len is_line_feed bytes ≡ length bytes =
    position_or_len_is is_line_feed bytes (length bytes) 0 (omega arith) (λ k lt. is_false (is_line_feed (get_or bytes k 0)) (none k (omega arith) lt)) (λ lt. absurd (omega arith)) in
    rw at (grind (arith, nat_tests))
position-first bytes (Some end) found =
    let within : end < length bytes = found.0.high in
    let at : position_or_len is_line_feed bytes ≡ end =
    position_or_len_is is_line_feed bytes end 0 (omega arith) (λ k lt. is_false (is_line_feed (get_or bytes k 0)) (found.0.before k (omega arith) lt)) (λ lt. found.1) in
    rw at (grind (arith, nat_tests))
