use Rattle.std.proofs.Common.{◌≡◌, sym, ap, ◌∙◌, decimal, Ok}
use Rattle.std.proofs.lemmas.Fmt.{parse-decimal, IsAscii-decimal}
use Rattle.std.proofs.lemmas.Str.{IsUtf8-from_ascii}
use Rattle.std.specs.Cmp.Lexicographic.{other_text}
use Rattle.std.specs.Str.{IsUtf8}
use Rattle.text_words.proofs.number_of.Goals as goal

pub returns-in_default : goal.returns-in_default
returns-in_default c = λ n small e.
    let text : IsUtf8 c.args.digits.now = rw e (IsUtf8-from_ascii (decimal n) (IsAscii-decimal n small)) in
    c.in_default.ensures.cases.0 text

pub returns-in_default-parse : goal.returns-in_default-parse
returns-in_default-parse c = λ n small e.
    let text : c.in-Ok.text.now ≡ decimal n = c.in-Ok.ensures.cases.0 ∙ e in
    c.in_default-parse.not-Ok n (parse-decimal 64 n _ _ small small text c.parse.ensures.value.0)

pub returns-else-eq : goal.returns-else-eq
returns-else-eq c = λ n small e.
    let text : c.in-Ok.text.now ≡ decimal n = c.in-Ok.ensures.cases.0 ∙ e in
    let read : c.parse.result ≡ Ok n = parse-decimal 64 n _ _ small small text c.parse.ensures.value.0 in
    let number : c.in-Ok-parse.number ≡ n = cc (sym c.in-Ok-parse.is ∙ read) in
    other_text c.as_bytes.result.now c.args.digits.now c.if-eq.ensures
    (c.as_bytes.ensures.value ∙ c.format.ensures.text ∙ ap decimal number ∙ sym e)
