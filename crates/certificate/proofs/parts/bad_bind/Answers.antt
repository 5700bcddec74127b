use Rattle.std.proofs.Common.{◌≡◌, ◌+◌, Some, true, false, sym, ap, ◌∙◌, arith}
use Rattle.certificate.proofs.FirstBad.{below_text, bind_step}
use Rattle.certificate.proofs.GoodBinds.{in_range_push, good_binds}
use Rattle.certificate.proofs.parts.bad_bind.Goals as goal

pub returns-then-not-lt-clause-first : goal.returns-then-not-lt-clause-first
returns-then-not-lt-clause-first c =
    let binds = c.args.binds.now in
    let i = c.loop-bind.bind-index in
    let test = below_text c.loop-bind.ahead.now c.handle_of-handle.result.now false (sym c.lt.ensures ∙ c.if-not-lt.true) in
    let step = bind_step (i + 1) c.loop-bind.ahead.now c.handle_of-handle.result.now binds i c.bind-item.result false (omega arith) c.bind-item.is c.handle_of-handle.ensures.value test in
    let number : c.loop-bind.number + 1 ≡ i + 1 = omega arith in
    ap Some number ∙ sym step ∙ c.loop-bind.invariant.1

pub loop-bind-preserved : goal.loop-bind-preserved
loop-bind-preserved c =
    let binds = c.args.binds.now in
    let i = c.loop-bind.bind-index in
    let test = below_text c.loop-bind.ahead.now c.handle_of-handle.result.now true (sym c.lt.ensures ∙ c.if-not-lt.false) in
    let step = bind_step (i + 1) c.loop-bind.ahead.now c.handle_of-handle.result.now binds i c.bind-item.result true (omega arith) c.bind-item.is c.handle_of-handle.ensures.value test in
    let number : c.loop-bind.number + 1 ≡ i + 1 = omega arith in
    (number, sym step ∙ c.loop-bind.invariant.1, in_range_push binds i c.bind-item.result (omega arith) c.bind-item.is c.loop-bind.invariant.2 c.handle_of-handle.ensures.range)

pub returns-clause-kept : goal.returns-clause-kept
returns-clause-kept c = good_binds c.args.binds.now c.loop-bind.bind-index c.loop-bind.ahead.now (omega arith) c.loop-bind.invariant.1 c.loop-bind.invariant.2
