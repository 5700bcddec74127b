use Rattle.std.proofs.Common.{◌+◌, List, ℕ, take, sym, subst, arith}
use Rattle.xdr_records.specs.Record.{IsRecord}
use Rattle.xdr_records.proofs.Copies.{ToCopy, copy_none, copy_step, copy_room}
use Rattle.xdr_records.proofs.scan.content.Goals as goal

pub loop-out-init : goal.loop-out-init
loop-out-init c =
    subst (λ (x : List ℕ). ToCopy 0 c.args.end x c.args.bytes.now) (sym c.in_ok-out.ensures.items) (copy_none c.args.end c.args.size c.args.bytes.now c.requires)

pub overflow_add-at-in-loop-out-2 : goal.overflow_add-at-in-loop-out-2
overflow_add-at-in-loop-out-2 c =
    let s = copy_step c.header-last.result.1 c.header-last.result.0 c.loop-out.invariant c.header-last.ensures in omega (arith, s.room)

pub copy-requires-clause-within : goal.copy-requires-clause-within
copy-requires-clause-within c =
    let s = copy_step c.header-last.result.1 c.header-last.result.0 c.loop-out.invariant c.header-last.ensures in
    let r = copy_room c.loop-out.invariant in omega (arith, s.room)

pub returns-then-last : goal.returns-then-last
returns-then-last c =
    let s = copy_step c.header-last.result.1 c.header-last.result.0 c.loop-out.invariant c.header-last.ensures in
    subst (λ (x : List ℕ). IsRecord (take c.args.end c.args.bytes.now) x) (sym c.in_ok-copy.ensures) (s.done c.if-last.true)

pub overflow_add-at-in-loop-out-4 : goal.overflow_add-at-in-loop-out-4
overflow_add-at-in-loop-out-4 c =
    let s = copy_step c.header-last.result.1 c.header-last.result.0 c.loop-out.invariant c.header-last.ensures in omega (arith, s.room)

pub loop-out-preserved : goal.loop-out-preserved
loop-out-preserved c =
    let s = copy_step c.header-last.result.1 c.header-last.result.0 c.loop-out.invariant c.header-last.ensures in
    subst (λ (x : List ℕ). ToCopy (c.loop-out.at + (4 + c.header-last.result.1)) c.args.end x c.args.bytes.now) (sym c.in_ok-copy.ensures) (s.more c.if-last.false)
