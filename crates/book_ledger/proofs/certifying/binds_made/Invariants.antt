use Rattle.std.proofs.Common.{◌≡◌, ◌+◌, ◌++◌, length, drop, map}
use Rattle.book_laws.specs.Plan.{bind_of}
use Rattle.book_ledger.specs.Inside.{made_from, made_in}
use Rattle.book_ledger.proofs.certifying.binds_made.Given as goal

abbrev pub invariant-loop-index : goal.invariant-loop-index
invariant-loop-index l = l.binds.items ++ map bind_of (made_from (length l.history.known.head.start + 1 + l.index) (drop l.index l.calls)) ≡ map bind_of (made_in (length l.history.known.head.start) l.calls)
