use Rattle.std.proofs.Common.{◌≡◌, refl, ap, ◌∙◌, take, drop, arith}
use Rattle.tcp_streams.proofs.Puttings.{puts_lent, part_is}
use Rattle.tcp_streams.proofs.assembly.Assembly.put.Goals as goal

pub returns : goal.returns
returns c =
    let same : c.from.result ≡ c.args.segment.count = omega arith in
    puts_lent c.args.self.now _ c.args.segment c.nearest-begin.result c.part_from.result c.in_ok-runs.runs.items c.chained-count.result.0
    c.as_slice.result.now c.as_slice-2.result.now c.split_at.result.0.now c.split_at.result.1.now c.clear.new.self.items
    c.nearest-begin.ensures
    (part_is c.args.segment c.nearest-begin.result c.args.self.now.next c.from.result c.part_from.result c.part_from.ensures same)
    refl refl
    c.as_slice.ensures.value c.as_slice-2.ensures.value
    (c.split_at.ensures.front ∙ ap (take c.chained-count.result.0) c.as_slice-3.ensures.value)
    (c.split_at.ensures.back ∙ ap (drop c.chained-count.result.0) c.as_slice-3.ensures.value)
    c.clear.ensures.items
    c.in_ok-extend_from_slice.ensures.items c.in_ok-extend_from_slice-2.ensures.items
    c.in_ok-runs.ensures.places c.in_ok-runs.ensures.order c.chained-count.ensures.chain c.chained-count.ensures.gap
