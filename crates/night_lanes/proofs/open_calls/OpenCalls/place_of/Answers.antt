use Rattle.std.proofs.Common.{rules, tests}
use Rattle.std.proofs.lemmas.Iterator.{YieldsList-from_slice}
use Rattle.std.proofs.lemmas.Iterator.Search.{position_from_yields_List}
use Rattle.night_lanes.proofs.open_calls.OpenCalls.place_of.Goals as goal

pub returns-clause-is : goal.returns-clause-is
returns-clause-is c = position_from_yields_List _ _ _ _ c.position.ensures.ran (YieldsList-from_slice c.args.self.now.calls.items cc) (λ x b q k. search (rules, tests))
