use Rattle.std.proofs.Common.{◌≡◌, ◌+◌, length, arith}
use Rattle.nfs_history.specs.Inside.{value_of}
use Rattle.nfs_history.proofs.AppendSteps.{begun_ok, begun_err}
use Rattle.nfs_history.proofs.history.History.begun_call.Goals as goal

pub returns-clause-found : goal.returns-clause-found
returns-clause-found c =
    let inside = c.self.inside in
    let begin : c.len.result + 1 ≡ length inside.events.items + 1 = omega (arith, c.len.ensures, inside.events.ok.0) in
    begun_ok (value_of inside) inside.open_calls c.args.lane c.args.message.now (c.len.result + 1) c.era.result c.args.self.now c.judged_call.result c.self.view_is c.self.invariant.0 begin c.era.ensures c.judged_call.ensures.found

pub returns-clause-fault : goal.returns-clause-fault
returns-clause-fault c =
    let inside = c.self.inside in
    let begin : c.len.result + 1 ≡ length inside.events.items + 1 = omega (arith, c.len.ensures, inside.events.ok.0) in
    let number : c.len-2.result + 1 ≡ length inside.calls.items + 1 = omega (arith, c.len-2.ensures, inside.calls.ok.0) in
    begun_err (value_of inside) inside.open_calls c.args.lane c.args.message.now (c.len.result + 1) c.era.result (c.len-2.result + 1) c.args.self.now c.judged_call.result c.self.view_is c.self.invariant.0 begin c.era.ensures number c.judged_call.ensures.fault
