use Rattle.std.proofs.lemmas.Result.{err_from_is_err_and}
use Rattle.drawing_command.proofs.pages.page_of_calls.Goals as goal

pub returns-in_err-judged : goal.returns-in_err-judged
returns-in_err-judged c =
    let p = err_from_is_err_and c.from_residual-in_err-judged.result c.from_residual-in_err-judged.ensures.1 in
    rw (p.1, p.2, c.in-Some.is) (c.in_err-judged.ensures c.args.file.now c.requires)
