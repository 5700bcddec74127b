use Rattle.std.proofs.Common.{◌≡◌, ◌++◌, length, take, drop, arith, ap, ◌∙◌}
use Rattle.book_ledger.proofs.Plans.{plan_so}
use Rattle.book_ledger.proofs.certifying.plan_over.Goals as goal

pub returns : goal.returns
returns c =
    let places = c.in_ok-places.places.items in
    let lost = c.in_ok-lost.lost.items in
    let size : c.len-cut.result ≡ length places = omega (arith, c.len-cut.ensures, c.in_ok-places.places.ok.0) in
    plan_so c.args.history.now.known.calls c.args.era.now c.split_at.result.0.now c.split_at.result.1.now places lost c.new.result c.len-cut.result
    (c.split_at.ensures.front ∙ ap (take c.args.era.now.kept) c.as_slice.ensures.value) (c.split_at.ensures.back ∙ ap (drop c.args.era.now.kept) c.as_slice.ensures.value)
    c.in_ok-places.ensures c.in_ok-lost.ensures size (c.new.ensures ∙ c.in_ok-extend_from_slice.ensures.items ∙ ap (λ zs. places ++ zs) c.as_slice-2.ensures.value)
