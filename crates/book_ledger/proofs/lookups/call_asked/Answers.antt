use Rattle.std.proofs.Common.{sym}
use Rattle.book_ledger.proofs.Standing.{from_one, at_most, asked_is, unjudged_never}
use Rattle.book_ledger.proofs.lookups.call_asked.Goals as goal

pub call-requires-clause-from_one : goal.call-requires-clause-from_one
call-requires-clause-from_one c = from_one c.args.history.now.known.calls c.args.number c.requires.0 c.requires.2

pub call-requires-clause-known : goal.call-requires-clause-known
call-requires-clause-known c = at_most c.args.history.now.known.calls c.args.number c.requires.0 c.requires.2

pub unreachable-requires : goal.unreachable-requires
unreachable-requires c = unjudged_never c.requires.0 c.call.result.now c.requires.1 _ c.requires.2 c.call.ensures c.requires.3 c.in-Unjudged.is

pub returns : goal.returns
returns c = sym (asked_is c.args.history.now.known.calls c.args.number c.call.result.now c.in-Judged.call c.call.ensures c.in-Judged.is)
