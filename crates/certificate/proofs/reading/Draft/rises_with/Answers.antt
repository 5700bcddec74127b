use Rattle.std.proofs.Common.{◌≡◌, ◌-◌, Some, length, sym, ap, ◌∙◌, arith, subst}
use Rattle.std.proofs.lemmas.Option.{slice_get_within}
use Rattle.std.specs.List.{slice_get}
use Rattle.std.specs.Ordering.{nat_cmp}
use Rattle.std.specs.Cmp.Lexicographic.{slice_cmp}
use Rattle.certificate.specs.declared.line.Line.{Line}
use Rattle.certificate.specs.declared.line.Line.TheVariants as lines
use Rattle.certificate.specs.Line.{Follows}
use Rattle.certificate.proofs.Order.{last_bind}
use Rattle.certificate.proofs.Rising.{less_text, text_less}
use Rattle.certificate.proofs.reading.Draft.rises_with.Goals as goal

pub returns-in-Some : goal.returns-in-Some
returns-in-Some c =
    let binds = c.args.self.now.binds.items in
    let bind = c.args.bind.now in
    let last = c.in-Some.last.now in
    let at : slice_get binds (length binds - 1) ≡ Some last = ap (λ xs. slice_get xs (length xs - 1)) (sym c.deref.ensures.value) ∙ sym c.in-Some.ensures.value in
    let within = slice_get_within binds (length binds - 1) last at in
    let is_last = last_bind lines.Witness binds (length binds - 1) last (omega arith) at in
    let handles : slice_cmp nat_cmp c.as_slice.result.now c.as_slice-in-Some.result.now ≡ slice_cmp nat_cmp last.handle bind.handle =
    ap (λ x. slice_cmp nat_cmp x c.as_slice-in-Some.result.now) c.as_slice.ensures.value ∙ ap (slice_cmp nat_cmp last.handle) c.as_slice-in-Some.ensures.value in (
      λ test. subst (λ (l : Line). Follows l (lines.Bind bind)) (sym is_last) (sym handles ∙ less_text c.as_slice.result.now c.as_slice-in-Some.result.now (sym c.lt.ensures ∙ test)),
      λ follows. let less = subst (λ (l : Line). Follows l (lines.Bind bind)) is_last follows in
          c.lt.ensures ∙ text_less c.as_slice.result.now c.as_slice-in-Some.result.now (handles ∙ less),
    )
