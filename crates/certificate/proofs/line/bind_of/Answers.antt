use Rattle.certificate.proofs.LineParts.{parts_of_bind, space_of_bind}
use Rattle.certificate.proofs.line.bind_of.Goals as goal

pub returns-in_default : goal.returns-in_default
returns-in_default c = λ b h. space_of_bind c.args.words.now b c.in_default.ensures h

pub returns-in_default-number_of : goal.returns-in_default-number_of
returns-in_default-number_of c = λ b h.
    let parts = parts_of_bind c.args.words.now c.in-Some.handle.now c.in-Some.object.now b c.in-Some.ensures.0 c.in-Some.ensures.1 h in
    c.in_default-number_of.ensures b.object parts.2 parts.1

pub returns-in-None : goal.returns-in-None
returns-in-None c = λ b h.
    let parts = parts_of_bind c.args.words.now c.in-Some.handle.now c.in-Some.object.now b c.in-Some.ensures.0 c.in-Some.ensures.1 h in
    let none = rw c.in-None.is at c.in_ok-handle.ensures in
    none b.handle parts.0
