use Rattle.std.proofs.Common.{◌≡◌, ◌∙◌, ℕ, ◌<◌, ◌≤◌, List, length, arith, sym, ap}
use Rattle.hex.specs.Hex.{encode_lower, lower_digits}
use Rattle.hex.proofs.HexLemmas.{length-encode_with}
use Rattle.recording_command.proofs.root.read_root.Goals as goal

-- more bytes than a handle has aren't spelled as those of a handle are
too_long : (text bytes items : List ℕ) → text ≡ encode_lower items → 64 < length items → length bytes ≤ 64 → text ≡ encode_lower bytes → ⊥
too_long text bytes items spelled long short other =
    let same : length (encode_lower items) ≡ length (encode_lower bytes) = ap length (sym spelled ∙ other) in
    let one = length-encode_with lower_digits items in
    let two = length-encode_with lower_digits bytes in
    omega (arith, same, one, two, long, short)

pub returns-in-Ok-clause-bad : goal.returns-in-Ok-clause-bad
returns-in-Ok-clause-bad c =
    λ _ bytes range short other.
    let text = sym c.as_bytes.ensures.value ∙ c.in-Ok.ensures.spelled in
    too_long c.args.text.now bytes c.in-Ok.bytes.items text (omega (arith, c.in-Ok.bytes.ok.0, c.len.ensures, c.if-len-gt-HANDLE_LIMIT.true)) short other
