use Rattle.std.proofs.Common.{◌≡◌, ◌++◌, ℕ, List, codes, refl}
use Rattle.std.proofs.lemmas.Result.{err_from_is_err_and}
use Rattle.plan_text.specs.PlanText.{IsName}
use Rattle.plan_text.specs.Line.{IsOperation}
use Rattle.plan_text.proofs.Parts.{write_space, write_second, write_third, write_all, passed_on}
use Rattle.plan_text.proofs.operation.write_of.Goals as goal

pub returns-in_default : goal.returns-in_default
returns-in_default c = λ o h. write_space c.args.words.now o c.in_default.ensures h

pub returns-in_default-split_at_byte : goal.returns-in_default-split_at_byte
returns-in_default-split_at_byte c = λ o h. write_second c.args.words.now c.in-Some.name.now c.in-Some.words.now o c.in-Some.ensures.0 c.in-Some.ensures.1 c.in_default-split_at_byte.ensures h

pub returns-in_default-split_at_byte-2 : goal.returns-in_default-split_at_byte-2
returns-in_default-split_at_byte-2 c = λ o h.
    write_third c.args.words.now c.in-Some.name.now c.in-Some.words.now c.in-Some-split_at_byte.offset.now c.in-Some-split_at_byte.words.now o c.in-Some.ensures.0 c.in-Some.ensures.1 c.in-Some-split_at_byte.ensures.0 c.in-Some-split_at_byte.ensures.1 c.in_default-split_at_byte-2.ensures h

pub returns-in_default-number_of : goal.returns-in_default-number_of
returns-in_default-number_of c = λ o h.
    let parts = write_all c.args.words.now c.in-Some.name.now c.in-Some.words.now c.in-Some-split_at_byte.offset.now c.in-Some-split_at_byte.words.now c.in-Some-split_at_byte-2.text.now c.in-Some-split_at_byte-2.level.now o c.in-Some.ensures.0 c.in-Some.ensures.1 c.in-Some-split_at_byte.ensures.0 c.in-Some-split_at_byte.ensures.1 c.in-Some-split_at_byte-2.ensures.0 c.in-Some-split_at_byte-2.ensures.1 h in c.in_default-number_of.ensures parts.0 parts.3 parts.2

pub returns-in_default-level_of : goal.returns-in_default-level_of
returns-in_default-level_of c = λ o h.
    let parts = write_all c.args.words.now c.in-Some.name.now c.in-Some.words.now c.in-Some-split_at_byte.offset.now c.in-Some-split_at_byte.words.now c.in-Some-split_at_byte-2.text.now c.in-Some-split_at_byte-2.level.now o c.in-Some.ensures.0 c.in-Some.ensures.1 c.in-Some-split_at_byte.ensures.0 c.in-Some-split_at_byte.ensures.1 c.in-Some-split_at_byte-2.ensures.0 c.in-Some-split_at_byte-2.ensures.1 h in c.in_default-level_of.ensures parts.1 parts.6

pub returns-in_err-name : goal.returns-in_err-name
returns-in_err-name c =
    let p = err_from_is_err_and c.from_residual.result c.from_residual.ensures.1 in
    rw (p.1, p.2) (passed_on (λ (n : List ℕ). (n ≡ c.in-Some.name.now) × IsName n) (IsOperation (codes "write " ++ c.args.words.now)) c.in_err-name.field-0.0 (λ o h. (c.in-Some.name.now, (refl, (write_all c.args.words.now c.in-Some.name.now c.in-Some.words.now c.in-Some-split_at_byte.offset.now c.in-Some-split_at_byte.words.now c.in-Some-split_at_byte-2.text.now c.in-Some-split_at_byte-2.level.now o c.in-Some.ensures.0 c.in-Some.ensures.1 c.in-Some-split_at_byte.ensures.0 c.in-Some-split_at_byte.ensures.1 c.in-Some-split_at_byte-2.ensures.0 c.in-Some-split_at_byte-2.ensures.1 h).4))) c.in_err-name.ensures)

pub returns-in_err-text : goal.returns-in_err-text
returns-in_err-text c =
    let p = err_from_is_err_and c.from_residual-in_err-text.result c.from_residual-in_err-text.ensures.1 in
    rw (p.1, p.2) (passed_on (λ (n : List ℕ). (n ≡ c.in-Some-split_at_byte-2.text.now) × IsName n) (IsOperation (codes "write " ++ c.args.words.now)) c.in_err-text.field-0.0 (λ o h. (c.in-Some-split_at_byte-2.text.now, (refl, (write_all c.args.words.now c.in-Some.name.now c.in-Some.words.now c.in-Some-split_at_byte.offset.now c.in-Some-split_at_byte.words.now c.in-Some-split_at_byte-2.text.now c.in-Some-split_at_byte-2.level.now o c.in-Some.ensures.0 c.in-Some.ensures.1 c.in-Some-split_at_byte.ensures.0 c.in-Some-split_at_byte.ensures.1 c.in-Some-split_at_byte-2.ensures.0 c.in-Some-split_at_byte-2.ensures.1 h).5))) c.in_err-text.ensures)
