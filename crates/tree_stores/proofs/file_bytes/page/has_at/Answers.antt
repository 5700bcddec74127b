use Rattle.std.proofs.Common.{ℕ, ◌-◌, length, take, drop, sym, ap, ◌∙◌}
use Rattle.std.proofs.lemmas.List.{take_rest}
use Rattle.tree_stores.proofs.Reading.{slice_from, page_then, page_else}
use Rattle.tree_stores.proofs.file_bytes.page.has_at.Goals as goal

pub returns-then-eq : goal.returns-then-eq
returns-then-eq c =
    let stored = c.args.stored.now in
    let bytes = c.args.bytes.now in
    let count = c.min-count.result in
    let kept = ap (λ (n : ℕ). take (length stored - n) (drop n stored)) c.min.ensures ∙ slice_from stored c.args.at in
    page_then bytes stored (take (length stored - c.min.result) (drop c.min.result stored)) (take (length bytes - count) (drop count bytes)) c.args.at count
    kept (take_rest bytes count) c.min-count.ensures c.are_zeros.result (sym c.eq.ensures ∙ c.if-eq.true) c.are_zeros.ensures

pub returns-else-eq : goal.returns-else-eq
returns-else-eq c =
    let stored = c.args.stored.now in
    let bytes = c.args.bytes.now in
    let count = c.min-count.result in
    let kept = ap (λ (n : ℕ). take (length stored - n) (drop n stored)) c.min.ensures ∙ slice_from stored c.args.at in
    c.if-eq.false
    ∙ page_else bytes stored (take (length stored - c.min.result) (drop c.min.result stored)) (take (length bytes - count) (drop count bytes)) c.args.at count
    kept (take_rest bytes count) c.min-count.ensures (sym c.eq.ensures ∙ c.if-eq.false)
