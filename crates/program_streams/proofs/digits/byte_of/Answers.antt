use Rattle.program_streams.proofs.LowerHex.{pair-spelled}
use Rattle.program_streams.proofs.digits.byte_of.Goals as goal

pub returns : goal.returns
returns c = record {
  spelled = λ high low. rw (c.digit_value.ensures.value, c.digit_value-2.ensures.value) (pair-spelled c.args.high c.args.low high low);
}
