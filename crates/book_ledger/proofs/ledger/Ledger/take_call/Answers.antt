use Rattle.std.proofs.Common.{◌<◌, is_ok, vec_len, vec_capacity, arith}
use Rattle.book_ledger.proofs.Events.{fresh}
use Rattle.book_ledger.proofs.Begun.{pushed_within, stop_so}
use Rattle.book_ledger.proofs.ledger.Ledger.take_call.Goals as goal

pub returns-in-Ok-clause-taken : goal.returns-in-Ok-clause-taken
returns-in-Ok-clause-taken c =
    let ens = c.in-Ok.ensures in
    record { history = ens.found; events = ens.behind; spare = ens.taken }

pub returns-in-Ok-clause-fresh : goal.returns-in-Ok-clause-fresh
returns-in-Ok-clause-fresh c =
    let room : vec_len c.reserve.new.self < vec_capacity c.reserve.new.self = omega (arith, c.in_ok-reserve.ensures.ok) in
    pushed_within c.args.self.now.calls.items c.reserve.new.self.items c.push.new.self.items fresh (is_ok c.push.result) c.in_ok-reserve.ensures.items c.push.ensures.items (c.push.ensures.succeeds room)

pub returns-in-Err-clause-fault : goal.returns-in-Err-clause-fault
returns-in-Err-clause-fault c = rw c.stop_of.ensures (stop_so c.args.self.now.history c.args.lane c.args.message c.in-Err.fault c.in-Err.ensures.fault)
