use Rattle.std.proofs.Common.{◌≡◌, ap, sym, ◌∙◌, rules, arith, length}
use Rattle.std.proofs.lemmas.Bool.Decides.{nat_tests}
use Rattle.hex.specs.Hex.{IsBytes, encode_lower}
use Rattle.hex.proofs.HexLemmas.{decode_of-ok}
use Rattle.certificate.proofs.Words.{differs}
use Rattle.certificate.proofs.Hex.{written_length, decodes, decoded_is}
use Rattle.certificate.proofs.line.handle_of.Goals as goal
use Rattle.certificate.proofs.line.handle_of.Goals.{then-is_empty-via-then-is_empty, then-is_empty-via-else-is_empty+then-len-gt-HANDLE_LIMIT}

pub returns-then-text : goal.returns-then-text
returns-then-text c = λ h w. absurd (omega (arith, written_length c.args.text.now h w))

pub returns-in_default : goal.returns-in_default
returns-in_default c = λ h w.
    let none = rw c.in_default.is at c.in_ok-bytes.ensures in none h (decodes c.args.text.now h w)

pub returns-then-is_empty : goal.returns-then-is_empty
returns-then-is_empty c = λ h w.
    let decoded = rw c.in-Some.is at c.in_ok-bytes.ensures in
    let same : c.in-Some.bytes.items ≡ h = decoded_is c.args.text.now h c.in-Some.bytes.items w decoded in
    let long = ap length same in
    elim c.then-is_empty.branch [
      | then-is_empty-via-then-is_empty v ↦ grind (arith, nat_tests)
      | then-is_empty-via-else-is_empty+then-len-gt-HANDLE_LIMIT v ↦ omega arith
    ]

pub returns-then-ne : goal.returns-then-ne
returns-then-ne c = λ h w.
    let decoded = rw c.in-Some.is at c.in_ok-bytes.ensures in
    let same : c.in-Some.bytes.items ≡ h = decoded_is c.args.text.now h c.in-Some.bytes.items w decoded in
    differs c.as_bytes.result.now c.args.text.now c.if-ne.ensures
    (c.as_bytes.ensures.value ∙ c.in_ok-encode.ensures ∙ ap encode_lower (c.as_slice.ensures.value ∙ same) ∙ sym w.0)

pub returns : goal.returns
returns c =
    let decoded = rw c.in-Some.is at c.in_ok-bytes.ensures in
    let bytes_are = (decode_of-ok c.args.text.now c.in-Some.bytes.items decoded).3 in
    let same : c.in_ok-from_slice.field-0 ≡ c.in-Some.bytes.items = c.in_ok-from_slice.ensures ∙ c.as_slice-2.ensures.value in
    let bytes : IsBytes c.in_ok-from_slice.field-0 = rw same bytes_are in
    (search rules, search rules, search rules, bytes)
