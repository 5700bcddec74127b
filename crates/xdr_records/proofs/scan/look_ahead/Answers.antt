use Rattle.std.proofs.Common.{Bool, take, drop, subst, arith}
use Rattle.xdr_records.specs.Record.{IsHeader}
use Rattle.xdr_records.proofs.Splitting.{scan_past, scan_lacks, scan_next, scan_last}
use Rattle.xdr_records.proofs.scan.look_ahead.Goals as goal

pub returns-then-len-sum : goal.returns-then-len-sum
returns-then-len-sum c =
    let p = c.loop-at.invariant.0 in
    (c.loop-at.at, c.loop-at.sum, scan_past p c.header-last.result.0 c.header-last.result.1 c.header-last.ensures (omega (arith, p.within)))

pub returns-then-all-at : goal.returns-then-all-at
returns-then-all-at c =
    let p = c.loop-at.invariant.0 in
    scan_lacks p c.header-last.result.0 c.header-last.result.1 c.header-last.ensures (omega (arith, c.loop-at.invariant.1)) (omega (arith, p.within))

pub returns-then-last : goal.returns-then-last
returns-then-last c =
    let p = c.loop-at.invariant.0 in
    let bytes = c.args.bytes.now in
    let says = subst (λ (l : Bool). IsHeader l c.header-last.result.1 (take 4 (drop c.loop-at.at bytes))) c.if-last.true c.header-last.ensures in
    scan_last p c.header-last.result.1 says (omega (arith, c.loop-at.invariant.1)) (omega (arith, c.loop-at.invariant.1)) (omega (arith, p.within))

pub loop-at-preserved : goal.loop-at-preserved
loop-at-preserved c =
    let p = c.loop-at.invariant.0 in
    let bytes = c.args.bytes.now in
    let says = subst (λ (l : Bool). IsHeader l c.header-last.result.1 (take 4 (drop c.loop-at.at bytes))) c.if-last.false c.header-last.ensures in
    (scan_next p c.header-last.result.1 says (omega (arith, c.loop-at.invariant.1)) (omega (arith, c.loop-at.invariant.1)) (omega (arith, p.within)), c.loop-at.invariant.1)
