use Rattle.std.proofs.Common.{◌≡◌, true, sym, ◌∙◌, arith}
use Rattle.std.specs.List.{fold}
use Rattle.std.proofs.lemmas.List.{take_all}
use Rattle.program_streams.proofs.LowerHex.{still_lower, none_failed-AllPass, AllPass-none_failed}
use Rattle.program_streams.proofs.digits.are_lower_digits.Goals as goal

pub returns : goal.returns
returns c =
    let text = c.args.text.now in
    let all : c.loop-byte.all ≡ fold still_lower true text = rw (sym (take_all c.loop-byte.byte-index text (omega arith))) c.loop-byte.invariant in
    (λ h. none_failed-AllPass text (sym all ∙ h), λ h. all ∙ AllPass-none_failed text h)
