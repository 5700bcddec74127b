use Rattle.std.proofs.Common.{◌≡◌, take}
use Rattle.std.specs.List.{flat_map}
use Rattle.walk_accounts.specs.Exchanges.{text_in}
use Rattle.walk_accounts.proofs.objects.text.Given as goal

abbrev pub invariant-loop-exchange : goal.invariant-loop-exchange
invariant-loop-exchange l = l.bytes.items ≡ flat_map (λ e. text_in e.reply) (take l.exchange-index l.part)
