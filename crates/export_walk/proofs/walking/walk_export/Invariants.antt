use Rattle.std.proofs.Common.{◌≡◌}
use Rattle.export_walk.specs.Walking.{IsBegun}
use Rattle.export_walk.proofs.walking.walk_export.Given as goal

-- the walk is that of the export
abbrev pub invariant-loop : goal.invariant-loop
invariant-loop g l = IsBegun l.fn.root l.who l.walking
