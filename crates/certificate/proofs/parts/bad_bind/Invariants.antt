use Rattle.std.proofs.Common.{◌≡◌, ◌+◌, take, drop}
use Rattle.std.specs.List.{AllByRecursion}
use Rattle.certificate.specs.Parts.{first_bad_bind, InRange}
use Rattle.certificate.proofs.FirstBad.{bad_from}
use Rattle.certificate.proofs.parts.bad_bind.Given as goal

abbrev pub invariant-loop-bind : goal.invariant-loop-bind
invariant-loop-bind l =
    (l.number ≡ l.bind-index) × (bad_from (l.bind-index + 1) l.ahead (drop l.bind-index l.binds) ≡ first_bad_bind l.binds)
    × AllByRecursion InRange (take l.bind-index l.binds)
