use Rattle.std.proofs.Common.{refl}
use Rattle.cut_check.proofs.EraLaws.{of_none, keeps_along}
use Rattle.cut_check.proofs.cut.check_cuts_of_calls.Goals as goal

pub returns-in-None-clause-ok : goal.returns-in-None-clause-ok
returns-in-None-clause-ok c =
    let keeps = of_none c.in_ok-era.field-0 _ _ c.in_ok-era.ensures c.in-None.is in
    keeps_along _ _ _ _ _ refl c.as_slice.ensures keeps
