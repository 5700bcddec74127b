use Rattle.std.proofs.Common.{◌≡◌, ◌+◌, ◌∷◌, ◌++◌, suc, length, take, drop, sym, ap, ◌∙◌, arith}
use Rattle.std.proofs.lemmas.Slice.{between_to_end}
use Rattle.text_words.proofs.Cuts.{lacks_where_none, cut_where_some}
use Rattle.text_words.proofs.split_at_byte.Goals as goal

pub returns-in_err-at : goal.returns-in_err-at
returns-in_err-at c =
    rw c.from_residual.ensures (lacks_where_none c.args.byte c.args.text.now (sym c.in_err-at.ensures))

pub returns : goal.returns
returns c =
    let text = c.args.text.now in
    let at = c.in_ok-at.at in
    let cut = cut_where_some c.args.byte text at (sym c.in_ok-at.ensures) in
    let more : at + 1 ≡ suc at = omega arith in
    let tail = ap (λ j. drop j text) (sym more) ∙ sym (between_to_end text (at + 1) (length text) (omega arith)) in
    (cut.0 ∙ ap (λ r. take at text ++ c.args.byte ∷ r) tail, cut.1)
