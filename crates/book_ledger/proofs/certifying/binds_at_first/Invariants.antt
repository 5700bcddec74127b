use Rattle.std.proofs.Common.{◌≡◌, map}
use Rattle.std.specs.List.{range_with_len}
use Rattle.book_laws.specs.Plan.{bind_of}
use Rattle.book_ledger.proofs.certifying.binds_at_first.Given as goal

abbrev pub invariant-loop-index : goal.invariant-loop-index
invariant-loop-index l = l.binds.items ≡ map bind_of (range_with_len 1 l.index)
