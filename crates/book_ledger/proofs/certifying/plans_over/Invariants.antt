use Rattle.std.proofs.Common.{◌≡◌, ◌++◌, drop, map}
use Rattle.book_laws.specs.Plan.{plan_over}
use Rattle.book_ledger.specs.Inside.{era_in}
use Rattle.book_ledger.proofs.certifying.plans_over.Given as goal

abbrev pub invariant-loop-era : goal.invariant-loop-era
invariant-loop-era l = l.plans.items ++ map (plan_over l.history.known.calls) (map (era_in l.history.known.calls) (drop l.era-index l.over)) ≡ map (plan_over l.history.known.calls) (map (era_in l.history.known.calls) l.over)
