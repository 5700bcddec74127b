-- Handles in hexadecimal.
use Rattle.std.proofs.Common.{◌≡◌, ℕ, suc, ◌≤◌, false, List, [], ◌∷◌, length, Ok, sym, ap, ◌∙◌, arith}
use Rattle.std.specs.List.{AllPass}
use Rattle.hex.specs.Hex.{IsBytes, encode_lower, lower_digits, decode_of, is_hex_digit}
use Rattle.hex.proofs.HexLemmas.{length-encode_with, decode_of-encode_lower, decode_of-ok, decode_of-same}
use Rattle.text_words.specs.Words.{Lacks}
use Rattle.certificate.specs.Line.{WritesHandle}

Lacks-passed : (byte : ℕ) (xs : List ℕ) → is_hex_digit byte ≡ false → AllPass is_hex_digit xs → Lacks byte xs
Lacks-passed byte [] not h = tt
Lacks-passed byte (x ∷ xs) not h =
    (λ e. cc (sym not ∙ ap is_hex_digit (sym e) ∙ h 0 0 (omega arith)), Lacks-passed byte xs not (λ k d below. h (suc k) d (omega arith)))

pub Lacks-hex : (byte : ℕ) (h : List ℕ) → is_hex_digit byte ≡ false → IsBytes h → Lacks byte (encode_lower h)
Lacks-hex byte h not bytes = Lacks-passed byte (encode_lower h) not (decode_of-ok (encode_lower h) h (decode_of-encode_lower h bytes)).1

pub written_length : (text h : List ℕ) → WritesHandle text h → length text ≤ 128
written_length text h w = omega (arith, ap length w.0, length-encode_with lower_digits h, w.2)

pub decodes : (text h : List ℕ) → WritesHandle text h → decode_of text ≡ Ok h
decodes text h w = ap decode_of w.0 ∙ decode_of-encode_lower h w.3

pub decoded_is : (text h bytes : List ℕ) → WritesHandle text h → decode_of text ≡ Ok bytes → bytes ≡ h
decoded_is text h bytes w e = decode_of-same text bytes h e (decodes text h w)
