use Rattle.std.proofs.Common.{sym, ◌∙◌, arith}
use Rattle.std.proofs.lemmas.Fmt.{decimal_injective}
use Rattle.plan_text.proofs.line.fault_of.Goals as goal

pub returns-then-number-eq0 : goal.returns-then-number-eq0
returns-then-number-eq0 c = λ at fault e.
    let same = decimal_injective c.in_ok-number.number at c.in_ok-number.ensures.1 fault.1 (sym c.in_ok-number.ensures.0 ∙ e) in
    omega (arith, same, fault.0)
