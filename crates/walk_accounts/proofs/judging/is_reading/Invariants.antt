use Rattle.std.proofs.Common.{◌≡◌, drop}
use Rattle.walk_accounts.specs.Accounts.{is_reading}
use Rattle.walk_accounts.proofs.judging.is_reading.Given as goal

abbrev pub invariant-loop-index : goal.invariant-loop-index
invariant-loop-index l = is_reading l.file l.size l.offset (drop l.index l.part) ≡ is_reading l.file l.size 0 l.part
