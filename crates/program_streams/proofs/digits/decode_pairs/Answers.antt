use Rattle.std.proofs.Common.{rules, ◌≡◌, ◌<◌, ◌+◌, ◌*◌, length, ◌∙◌, arith}
use Rattle.std.proofs.lemmas.List.{take_all}
use Rattle.program_streams.proofs.LowerHex.{IsBytes-none, IsBytes-push, none_spelled, pair_more}
use Rattle.program_streams.proofs.digits.decode_pairs.Goals as goal

pub loop-index-init : goal.loop-index-init
loop-index-init c =
    (IsBytes-none c.in_ok-bytes.bytes.items c.in_ok-bytes.ensures.items, λ lower. none_spelled c.in_ok-bytes.bytes.items c.in_ok-bytes.ensures.items)

pub loop-index-preserved : goal.loop-index-preserved
loop-index-preserved c =
    let digits = c.args.digits.now in
    let fits : c.byte_of.result < 256 = search rules in (
      IsBytes-push c.loop-index.bytes.items c.push.new.self.items c.byte_of.result c.in_ok-push.ensures.items fits c.loop-index.invariant.0,
      λ lower. pair_more digits c.loop-index.bytes.items c.push.new.self.items c.loop-index.index c.byte_of.result (omega arith)
          (c.loop-index.invariant.1 lower) c.in_ok-push.ensures.items
          (c.byte_of.ensures.spelled (lower (2 * c.loop-index.index) 0 (omega arith)) (lower (2 * c.loop-index.index + 1) 0 (omega arith))),
    )

pub returns : goal.returns
returns c = record {
  bytes = c.loop-index.invariant.0;
  spelled = λ lower even.
      let all : length c.args.digits.now ≡ 2 * c.loop-index.index = omega arith in
      c.loop-index.invariant.1 lower ∙ take_all (2 * c.loop-index.index) c.args.digits.now (omega arith);
}
