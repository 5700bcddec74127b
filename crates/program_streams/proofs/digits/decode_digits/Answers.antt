use Rattle.std.proofs.Common.{◌≡◌, ◌%◌, ℕ, List, length, subst, sym, ap, arith}
use Rattle.hex.specs.Hex.{encode_lower, lower_digits}
use Rattle.hex.proofs.HexLemmas.{length-encode_with}
use Rattle.std.specs.List.{AllPass}
use Rattle.program_streams.specs.Digits.{is_lower_digit}
use Rattle.program_streams.proofs.LowerHex.{AllPass-encode_lower}
use Rattle.program_streams.proofs.digits.decode_digits.Goals as goal
use Rattle.program_streams.proofs.digits.decode_digits.Goals.{then-digits-ne0-via-then-digits-ne0, then-digits-ne0-via-else-digits-ne0+then-not-are_lower_digits}

-- what bytes are written as has two digits for each
even : (digits bytes : List ℕ) → digits ≡ encode_lower bytes → length digits % 2 ≡ 0
even digits bytes e = omega (arith, ap length e, length-encode_with lower_digits bytes)

pub returns-then-digits-ne0-clause-malformed : goal.returns-then-digits-ne0-clause-malformed
returns-then-digits-ne0-clause-malformed c =
    λ e bytes range spelled. elim c.then-digits-ne0.branch [
      | then-digits-ne0-via-then-digits-ne0 w ↦ absurd (omega (arith, even c.args.digits.now bytes spelled, w.if-digits-ne0.true))
      | then-digits-ne0-via-else-digits-ne0+then-not-are_lower_digits w ↦
          let lower : AllPass is_lower_digit c.args.digits.now = subst (AllPass is_lower_digit) (sym spelled) (AllPass-encode_lower bytes range) in
          cc (w.if-not-are_lower_digits.ensures.1 lower)
    ]
