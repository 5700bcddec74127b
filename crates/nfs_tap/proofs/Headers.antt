-- The record at the front of some bytes, where it came as one fragment.
use Rattle.std.proofs.Common.{◌≡◌, ℕ, ◌+◌, ◌≤◌, true, List, ◌++◌, length, take, drop, sym, ap, subst, ◌∙◌, nat_eq, arith}
use Rattle.std.specs.Int.{w32, to_be_bytes, bytes_high_first}
use Rattle.std.specs.List.{starts_with}
use Rattle.std.specs.Cmp.Lexicographic.{same_text}
use Rattle.std.proofs.lemmas.List.{length-take-le, length-drop, take-append-drop, take-take}
use Rattle.xdr_records.specs.Record.{record_limit}
use Rattle.xdr_records.specs.Texts.{word_text}
use Rattle.nfs_tap.specs.Whole.{IsFirst}

-- bytes that begin with a number's bytes begin with it as a word
pub header_is : (bytes needle : List ℕ) (word count : ℕ) → needle ≡ to_be_bytes w32 word → true ≡ starts_with nat_eq bytes needle → word ≡ 2147483648 + count
    → take 4 bytes ≡ word_text (2147483648 + count)
unfolding word_text
header_is bytes needle word count is begins sum =
    let front : take (length needle) bytes ≡ needle = sym (same_text needle (take (length needle) bytes) begins) in
    let four : length needle ≡ 4 = ap length is in
    ap (λ n. take n bytes) (sym four) ∙ front ∙ is ∙ ap (λ n. bytes_high_first 4 n) sum

pub first_is : (bytes text content behind : List ℕ) (count : ℕ) → 4 + count ≤ length bytes → count ≤ record_limit → take 4 bytes ≡ word_text (2147483648 + count)
    → text ≡ take (4 + count) bytes → behind ≡ drop (4 + count) bytes → content ≡ drop 4 text → IsFirst bytes text content behind
first_is bytes text content behind count fits limit header t b c =
    let all : length text ≡ 4 + count = ap length t ∙ length-take-le (4 + count) bytes fits in
    let size : length content ≡ count = omega (arith, ap length c, length-drop 4 text, all) in
    let front : take 4 text ≡ take 4 bytes = ap (take 4) t ∙ take-take 4 (4 + count) bytes (omega arith) in
    let word : take 4 text ≡ word_text (2147483648 + length content) = front ∙ header ∙ ap (λ n. word_text (2147483648 + n)) (sym size) in
    record {
      parts = sym (take-append-drop (4 + count) bytes) ∙ ap (λ (l : List ℕ). l ++ drop (4 + count) bytes) (sym t) ∙ ap (λ (l : List ℕ). text ++ l) (sym b);
      spelled = sym (take-append-drop 4 text) ∙ ap (λ (l : List ℕ). l ++ drop 4 text) word ∙ ap (λ (l : List ℕ). word_text (2147483648 + length content) ++ l) (sym c);
      limit = subst (λ n. n ≤ record_limit) (sym size) limit;
    }
