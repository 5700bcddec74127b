use Rattle.std.proofs.Common.{◌≡◌, drop}
use Rattle.walk_accounts.specs.Accounts.{is_listing, front}
use Rattle.walk_accounts.proofs.judging.is_listing.Given as goal

abbrev pub invariant-loop-index : goal.invariant-loop-index
invariant-loop-index l = is_listing l.directory l.cursor (drop l.index l.part) ≡ is_listing l.directory front l.part
