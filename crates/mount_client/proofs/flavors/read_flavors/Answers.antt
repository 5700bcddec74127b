use Rattle.std.proofs.Common.{◌≡◌, Err, rules, arith}
use Rattle.mount_client.proofs.Counted.{one_more, one_short, at_end, short_told}
use Rattle.mount_client.proofs.flavors.read_flavors.Goals as goal

pub returns-in_err-flavor : goal.returns-in_err-flavor
returns-in_err-flavor c =
    let is : c.from_residual.result ≡ Err c.in_err-flavor.field-0.0 = search rules in
    let none = one_short c.loop.is_taken c.loop.counter c.args.count c.loop.reader c.in_err-flavor.field-0.0 _ c.loop-test.true c.in_err-flavor.ensures.0 c.loop.invariant in
    short_told c.u32.new.self c.from_residual.result c.in_err-flavor.field-0.0 _ is none

pub loop-preserved : goal.loop-preserved
loop-preserved c =
    one_more c.loop.is_taken c.with_flavor-is_taken.result c.in_ok-flavor.flavor c.loop.counter c.args.count c.loop.reader c.u32.new.self _ c.loop-test.true c.with_flavor-is_taken.ensures c.in_ok-flavor.ensures
    c.loop.invariant

pub returns : goal.returns
returns c = at_end c.loop.is_taken c.loop.counter c.args.count c.loop.reader _ (omega (arith, c.loop-test.false)) c.loop.invariant
