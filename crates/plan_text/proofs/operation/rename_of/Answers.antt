use Rattle.std.proofs.Common.{◌≡◌, ◌++◌, ℕ, List, codes, refl}
use Rattle.std.proofs.lemmas.Result.{err_from_is_err_and}
use Rattle.plan_text.specs.PlanText.{IsName}
use Rattle.plan_text.specs.Line.{IsOperation}
use Rattle.plan_text.proofs.Parts.{rename_space, rename_names, passed_on}
use Rattle.plan_text.proofs.operation.rename_of.Goals as goal

pub returns-in_default : goal.returns-in_default
returns-in_default c = λ o h. rename_space c.args.words.now o c.in_default.ensures h

pub returns-in_err-from : goal.returns-in_err-from
returns-in_err-from c =
    let p = err_from_is_err_and c.from_residual.result c.from_residual.ensures.1 in
    rw (p.1, p.2) (passed_on (λ (n : List ℕ). (n ≡ c.in-Some.from.now) × IsName n) (IsOperation (codes "rename " ++ c.args.words.now)) c.in_err-from.field-0.0 (λ o h. (c.in-Some.from.now, (refl, (rename_names c.args.words.now c.in-Some.from.now c.in-Some.to.now o c.in-Some.ensures.0 c.in-Some.ensures.1 h).0))) c.in_err-from.ensures)

pub returns-in_err-to : goal.returns-in_err-to
returns-in_err-to c =
    let p = err_from_is_err_and c.from_residual-in_err-to.result c.from_residual-in_err-to.ensures.1 in
    rw (p.1, p.2) (passed_on (λ (n : List ℕ). (n ≡ c.in-Some.to.now) × IsName n) (IsOperation (codes "rename " ++ c.args.words.now)) c.in_err-to.field-0.0 (λ o h. (c.in-Some.to.now, (refl, (rename_names c.args.words.now c.in-Some.from.now c.in-Some.to.now o c.in-Some.ensures.0 c.in-Some.ensures.1 h).1))) c.in_err-to.ensures)
