use Rattle.certificate.proofs.LineParts.{counted, uncounted}
use Rattle.certificate.proofs.line.taken_of.Goals as goal

pub returns-in_err-number_of-in-Some : goal.returns-in_err-number_of-in-Some
returns-in_err-number_of-in-Some c = rw c.from_residual.ensures (λ p h.
    let parts = counted c.args.words.now c.in-Some.number.now c.in-Some.count.now p c.in-Some.ensures.0 c.in-Some.ensures.1 h in
    c.in_err-number_of-in-Some.ensures parts.0 parts.3 parts.2)

pub returns-in_err-count_of-in-Some : goal.returns-in_err-count_of-in-Some
returns-in_err-count_of-in-Some c = rw c.from_residual-in_err-count_of-in-Some.ensures (λ p h.
    let parts = counted c.args.words.now c.in-Some.number.now c.in-Some.count.now p c.in-Some.ensures.0 c.in-Some.ensures.1 h in
    c.in_err-count_of-in-Some.ensures parts.1 parts.5 parts.4)

pub returns-in_err-number_of-in-None : goal.returns-in_err-number_of-in-None
returns-in_err-number_of-in-None c = rw c.from_residual-in_err-number_of-in-None.ensures (λ p h.
    let parts = uncounted c.args.words.now p c.in-None.ensures h in
    c.in_err-number_of-in-None.ensures parts.0 parts.2 parts.1)
