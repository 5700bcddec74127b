use Rattle.std.proofs.Common.{◌<◌, ◌≤◌, inl, inr, length, arith}
use Rattle.tcp_streams.specs.Numbers.{start_of}
use Rattle.tcp_streams.proofs.Puttings.{assembled, put_on, put_rises}
use Rattle.tcp_streams.proofs.assembly.assemble.Goals as goal

pub loop-index-init : goal.loop-index-init
loop-index-init c = c.new-stream.ensures

pub returns-then-is_full : goal.returns-then-is_full
returns-then-is_full c = assembled c.args.sequence c.loop-index.index c.args.segments.now c.loop-index.stream c.loop-index.invariant.1 c.loop-index.invariant.0 (inr (omega arith, c.if-is_full.ensures))

pub put-requires-clause-low : goal.put-requires-clause-low
put-requires-clause-low c = let rises : start_of c.args.sequence ≤ c.loop-index.stream.next = put_rises _ _ _ c.loop-index.invariant.0 in omega arith

pub loop-index-preserved : goal.loop-index-preserved
loop-index-preserved c = let lt : c.loop-index.index < length c.args.segments.now = omega arith in put_on (start_of c.args.sequence) c.loop-index.index c.args.segments.now _ c.loop-index.stream c.put.new.self lt c.loop-index.invariant c.in_ok-put.ensures

pub returns : goal.returns
returns c = assembled c.args.sequence c.loop-index.index c.args.segments.now c.loop-index.stream c.loop-index.invariant.1 c.loop-index.invariant.0 (inl (omega arith))
