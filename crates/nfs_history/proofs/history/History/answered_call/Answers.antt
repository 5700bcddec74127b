use Rattle.std.proofs.Common.{◌≡◌, ◌+◌, ◌<◌, length, arith, sym, subst}
use Rattle.std.proofs.lemmas.Result.{err_from_is_err_and}
use Rattle.nfs_history.specs.Calls.{xid_of}
use Rattle.nfs_history.specs.HistoryValue.{HistoryValue}
use Rattle.nfs_history.specs.Inside.{value_of}
use Rattle.nfs_history.specs.Matching.{seen_call}
use Rattle.nfs_history.proofs.AppendSteps.{place_within, answered_ok, answered_err, readable_there}
use Rattle.nfs_history.proofs.history.History.answered_call.Goals as goal

pub seen_at-asked-requires : goal.seen_at-asked-requires
seen_at-asked-requires c =
    let inside = c.self.inside in
    subst (λ (v : HistoryValue). c.in-Some.place < length v.known.calls) c.self.view_is
    (place_within (value_of inside) inside.open_calls c.args.lane (xid_of c.args.message.now) c.in-Some.place c.self.invariant.0 (sym c.in-Some.ensures))

pub overflow_add-place : goal.overflow_add-place
overflow_add-place c =
    let inside = c.self.inside in
    let lt = place_within (value_of inside) inside.open_calls c.args.lane (xid_of c.args.message.now) c.in-Some.place c.self.invariant.0 (sym c.in-Some.ensures) in
    omega (arith, lt, inside.calls.ok.0, inside.calls.ok.1, inside.calls.small)

pub judged_call-requires : goal.judged_call-requires
judged_call-requires c =
    let inside = c.self.inside in
    readable_there (value_of inside) inside.open_calls c.args.lane c.args.message.now c.in-Some.place (c.len.result + 1) (seen_call c.seen_at-asked.result) c.args.self.now c.self.view_is c.self.invariant.0 c.requires c.seen_at-asked.ensures

pub returns-in_err-call-clause-fault : goal.returns-in_err-call-clause-fault
returns-in_err-call-clause-fault c =
    let inside = c.self.inside in
    let p = err_from_is_err_and c.from_residual.result c.from_residual.ensures.1 in
    let number : c.len.result + 1 ≡ length inside.events.items + 1 = omega (arith, c.len.ensures, inside.events.ok.0) in
    rw (p.1, p.2) (answered_err (value_of inside) inside.open_calls c.args.lane c.args.message.now c.in-Some.place (c.len.result + 1) (seen_call c.seen_at-asked.result) c.in_err-call.field-0.0 c.args.self.now
    c.self.view_is c.self.invariant.0 number (sym c.in-Some.ensures) c.seen_at-asked.ensures c.in_err-call.ensures.fault)

pub returns-clause-found : goal.returns-clause-found
returns-clause-found c =
    let inside = c.self.inside in
    let number : c.len.result + 1 ≡ length inside.events.items + 1 = omega (arith, c.len.ensures, inside.events.ok.0) in
    answered_ok (value_of inside) inside.open_calls c.args.lane c.args.message.now c.in-Some.place (c.len.result + 1) (seen_call c.seen_at-asked.result) c.in_ok-call.call c.args.self.now
    c.self.view_is c.self.invariant.0 number (sym c.in-Some.ensures) c.seen_at-asked.ensures c.in_ok-call.ensures.found
