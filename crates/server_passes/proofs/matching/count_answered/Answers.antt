use Rattle.std.proofs.Common.{is_some, rules, tests, ◌∙◌}
use Rattle.std.proofs.lemmas.Iterator.{YieldsList-from_slice}
use Rattle.std.proofs.lemmas.Iterator.Consumers.{YieldsList-from_filter, count_from_yields_List}
use Rattle.std.proofs.lemmas.List.Sums.{length-filter}
use Rattle.server_passes.proofs.matching.count_answered.Goals as goal

pub returns : goal.returns
returns c =
    count_from_yields_List c.filter.result c.count.result c.count.ensures.ran
    (YieldsList-from_filter _ (λ call. is_some call.«end») (YieldsList-from_slice c.args.calls.now cc) c.filter.ensures.closure (λ x r q k. search (rules, tests)))
    ∙ length-filter (λ call. is_some call.«end») c.args.calls.now
