use Rattle.std.proofs.Common.{◌≡◌, ◌*◌, take}
use Rattle.std.specs.List.{AllPass}
use Rattle.hex.specs.Hex.{IsBytes, encode_lower}
use Rattle.program_streams.specs.Digits.{is_lower_digit}
use Rattle.program_streams.proofs.digits.decode_pairs.Given as goal

abbrev pub invariant-loop-index : goal.invariant-loop-index
invariant-loop-index l =
    IsBytes l.bytes.items × (AllPass is_lower_digit l.digits → encode_lower l.bytes.items ≡ take (2 * l.index) l.digits)
