use Rattle.std.proofs.Common.{◌≡◌, ◌++◌, drop}
use Rattle.book_ledger.proofs.Plans.{places_in}
use Rattle.book_ledger.proofs.certifying.places_of.Given as goal

abbrev pub invariant-loop-next : goal.invariant-loop-next
invariant-loop-next l = l.places.items ++ places_in l.history.known.calls (drop l.next-index l.placed) ≡ places_in l.history.known.calls l.placed
