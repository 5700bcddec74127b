use Rattle.std.proofs.Common.{◌≡◌, ◌+◌, length, arith}
use Rattle.nfs_history.specs.Inside.{value_of}
use Rattle.nfs_history.proofs.Asked.{asked_ok}
use Rattle.nfs_history.proofs.history.History.asked_call.Goals as goal

pub returns : goal.returns
returns c =
    let inside = c.self.inside in
    let begin : c.len.result + 1 ≡ length inside.events.items + 1 = omega (arith, c.len.ensures, inside.events.ok.0) in
    asked_ok (value_of inside) inside.open_calls c.args.lane c.args.message.now c.transaction.result (c.len.result + 1) c.era.result c.args.call c.args.self.now c.self.view_is c.self.invariant.0 begin c.era.ensures c.transaction.ensures c.requires
