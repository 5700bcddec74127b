use Rattle.std.proofs.Common.{take}
use Rattle.std.specs.List.{flat_map}
use Rattle.walk_accounts.specs.Exchanges.{places_in}
use Rattle.walk_accounts.specs.Stripping.{IsStripped}
use Rattle.walk_accounts.proofs.places.strip_part.Given as goal

abbrev pub invariant-loop-exchange : goal.invariant-loop-exchange
invariant-loop-exchange l = IsStripped (flat_map (λ e. places_in l.number e.reply) (take l.exchange-index l.part)) l.rest l.left
