use Rattle.std.proofs.Common.{◌<◌, ◌≤◌, length, arith}
use Rattle.tcp_streams.proofs.Fills.{fill_on, filled_places, filled_order}
use Rattle.tcp_streams.proofs.filling.fill.Goals as goal

pub loop-run-preserved : goal.loop-run-preserved
loop-run-preserved c = λ low n behind le. (let lt : c.loop-run.run-index < length c.args.waiting.now = omega arith in fill_on low n c.args.waiting.now c.args.span c.loop-run.run-index _ c.loop-run.runs.items c.put_run.new.runs.items c.push.new.self.items c.loop-run.rest c.part_below.result c.part_from-rest.result lt c.part_below.ensures c.in_ok-put_run.ensures c.in_ok-push.ensures.items c.part_from-rest.ensures (c.loop-run.invariant low n behind le))

pub returns-clause-places : goal.returns-clause-places
returns-clause-places c = λ low n behind le. (let past : length c.args.waiting.now ≤ c.loop-run.run-index = omega arith in filled_places low n c.args.waiting.now c.args.span c.loop-run.run-index c.loop-run.runs.items c.put_run-2.new.runs.items c.loop-run.rest past c.in_ok-put_run-2.ensures (c.loop-run.invariant low n behind le))

pub returns-clause-order : goal.returns-clause-order
returns-clause-order c = λ low behind le. (let past : length c.args.waiting.now ≤ c.loop-run.run-index = omega arith in filled_order low 0 c.args.waiting.now c.args.span c.loop-run.run-index c.loop-run.runs.items c.put_run-2.new.runs.items c.loop-run.rest past c.in_ok-put_run-2.ensures (c.loop-run.invariant low 0 behind le))
