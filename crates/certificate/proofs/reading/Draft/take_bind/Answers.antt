use Rattle.std.proofs.Common.{◌≡◌, ◌⊎◌, inl, inr, ◌+◌, ◌<◌, length, refl, sym, ◌∙◌, arith, subst}
use Rattle.certificate.specs.declared.line.Line.{Line}
use Rattle.certificate.specs.declared.line.Line.TheVariants as lines
use Rattle.certificate.specs.CertificateText.{bind_words}
use Rattle.certificate.specs.Line.{Follows, last_of, bind_list, behind_first}
use Rattle.certificate.proofs.Order.{bind_stops}
use Rattle.certificate.specs.Draft.{lines_in}
use Rattle.certificate.proofs.Pushed.{spelled-push, length-push, AreBinds-push}
use Rattle.certificate.proofs.Said.{words_same}
use Rattle.std.proofs.lemmas.Bool.Decides.{nat_tests}
use Rattle.certificate.proofs.reading.Draft.take_bind.Goals as goal
use Rattle.certificate.proofs.reading.Draft.take_bind.Goals.{then-not-is_empty-via-then-not-is_empty, then-not-is_empty-via-else-not-is_empty+then-not-is_empty-2, then-not-is_empty-via-else-not-is_empty+else-not-is_empty-2+then-not-rises_with}

pub returns-then-not-is_empty : goal.returns-then-not-is_empty
returns-then-not-is_empty c = λ l is_line numbers follows.
    let draft = c.args.self.now in
    let bind = c.args.bind in
    let same : l ≡ lines.Bind bind = words_same (bind_words bind) l (lines.Bind bind) is_line (refl, c.requires) in
    let stops : (0 < length draft.eras.items + length draft.places.items) ⊎ (Follows (last_of lines.Witness (bind_list draft.binds.items)) (lines.Bind bind) → ⊥) =
    elim c.then-not-is_empty.branch [
      | then-not-is_empty-via-then-not-is_empty w ↦ inl (grind (arith, nat_tests))
      | then-not-is_empty-via-else-not-is_empty+then-not-is_empty-2 w ↦ inl (grind (arith, nat_tests))
      | then-not-is_empty-via-else-not-is_empty+else-not-is_empty-2+then-not-rises_with w ↦ inr (λ f. cc (sym w.if-not-rises_with.true ∙ w.rises_with.ensures.1 f))
    ] in
    bind_stops draft.binds.items draft.eras.items draft.places.items bind numbers.ended stops
    (subst (λ (x : Line). Follows (last_of lines.Witness (behind_first draft.binds.items draft.eras.items draft.places.items)) x) same follows)

pub returns : goal.returns
returns c =
    let draft = c.args.self.now in
    let new = c.push.new.self.items in
    let none : length draft.eras.items ≡ 0 = grind (arith, nat_tests) in
    let empty : length draft.places.items ≡ 0 = grind (arith, nat_tests) in
    let follows = c.rises_with.ensures.0 (c.if-not-rises_with.false) in
    let counted : lines_in (record draft { binds = c.push.new.self }) ≡ lines_in draft + 1 = omega (arith, length-push draft.binds.items new draft.eras.items draft.places.items c.args.bind c.in_ok-push.ensures.items) in (
      spelled-push draft.binds.items new draft.eras.items draft.places.items c.args.bind none empty c.in_ok-push.ensures.items,
      counted,
      AreBinds-push draft.binds.items new c.args.bind c.in_ok-push.ensures.items follows c.requires,
      λ p. p,
    )
