use Rattle.std.proofs.Common.{take}
use Rattle.std.specs.List.{flat_map}
use Rattle.walk_accounts.specs.Exchanges.{place}
use Rattle.walk_accounts.specs.Stripping.{IsStripped}
use Rattle.walk_accounts.proofs.places.strip_entries.Given as goal

abbrev pub invariant-loop-entry : goal.invariant-loop-entry
invariant-loop-entry l = IsStripped (flat_map (λ entry. place l.number entry.name) (take l.entry-index l.entries)) l.rest l.left
