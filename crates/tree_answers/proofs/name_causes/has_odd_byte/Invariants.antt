use Rattle.std.proofs.Common.{◌≡◌, drop}
use Rattle.std.specs.List.{list_any}
use Rattle.tree_answers.specs.Causes.{is_odd}
use Rattle.tree_answers.proofs.name_causes.has_odd_byte.Given as goal

-- no such byte is among those looked at
abbrev pub invariant-loop-byte : goal.invariant-loop-byte
invariant-loop-byte l = list_any is_odd l.place.name ≡ list_any is_odd (drop l.byte-index l.place.name)
