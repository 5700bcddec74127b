use Rattle.std.proofs.Common.{◌≡◌, true, take}
use Rattle.std.specs.List.{fold}
use Rattle.program_streams.proofs.LowerHex.{still_lower}
use Rattle.program_streams.proofs.digits.are_lower_digits.Given as goal

abbrev pub invariant-loop-byte : goal.invariant-loop-byte
invariant-loop-byte l = l.all ≡ fold still_lower true (take l.byte-index l.text)
