use Rattle.std.proofs.Common.{◌≡◌}
use Rattle.witness_check.specs.declared.verdict.Verdict.TheVariants as told
use Rattle.cert_search.proofs.searching.if_witness.Goals as goal

pub returns-in-No-clause-only : goal.returns-in-No-clause-only
returns-in-No-clause-only c = λ witness.
    let same = c.in_ok-check_calls.ensures.only told.Yes witness in
    absurd (cc (same, c.in-No.is))
