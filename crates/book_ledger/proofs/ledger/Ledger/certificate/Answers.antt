use Rattle.std.proofs.Common.{length, map, ap, ◌∙◌}
use Rattle.book_laws.specs.Plan.{bind_of}
use Rattle.book_ledger.specs.Inside.{made_in}
use Rattle.book_ledger.proofs.ledger.Ledger.certificate.Goals as goal

pub returns : goal.returns
returns c = λ device t.
    let binds = c.new.ensures ∙ c.in_ok-binds.ensures ∙ ap (λ xs. map bind_of (made_in (length c.args.self.now.history.known.head.start) xs)) c.as_slice.ensures.value in
    let eras = c.new-2.ensures ∙ c.in_ok-plans.ensures in
    λ i. record { binds = binds i; eras = eras i }
