use Rattle.std.proofs.Common.{◌≡◌, take, map}
use Rattle.walk_accounts.specs.Accounts.{object_told}
use Rattle.walk_accounts.proofs.objects.objects_of.Given as goal

abbrev pub invariant-loop-account : goal.invariant-loop-account
invariant-loop-account l = l.objects.items ≡ map (object_told l.exchanges) (take l.account-index l.found)
