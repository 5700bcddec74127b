-- A draft with one bind more.
use Rattle.std.proofs.Common.{◌≡◌, ◌+◌, List, [], ◌∷◌, ◌++◌, length, sym, ap, ◌∙◌, arith, codes, subst, length-append}
use Rattle.std.specs.List.{AllByRecursion, flat_map}
use Rattle.std.proofs.lemmas.Grind.{flat_map-append}
use Rattle.std.proofs.lemmas.List.{append-nil, length-map}
use Rattle.certificate.specs.declared.plan.Bind.{Bind}
use Rattle.certificate.specs.declared.plan.Place.{Place}
use Rattle.certificate.specs.declared.plan.EraPlan.{EraPlan}
use Rattle.certificate.specs.declared.line.Line.TheVariants as lines
use Rattle.certificate.specs.CertificateText.{line, bind_words, bind_lines, HasHandle}
use Rattle.certificate.specs.Draft.{AreBinds, spelled_by}
use Rattle.certificate.specs.Line.{Follows, last_of, bind_list, place_list, era_list, behind_first}
use Rattle.certificate.proofs.Order.{AreRising-push}

lines-push : (binds : List Bind) (b : Bind) → bind_lines (binds ++ b ∷ []) ≡ bind_lines binds ++ line (bind_words b)
lines-push binds b = flat_map-append (λ bind. line (bind_words bind)) binds (b ∷ []) ∙ ap (λ r. bind_lines binds ++ r) (append-nil (line (bind_words b)))

pub spelled-push : (binds new : List Bind) (eras : List EraPlan) (places : List Place) (b : Bind) → length eras ≡ 0 → length places ≡ 0 → new ≡ binds ++ b ∷ [] → spelled_by new eras places ≡ spelled_by binds eras places ++ line (bind_words b)
spelled-push binds new [] [] b none empty e =
    let all : bind_lines new ++ [] ≡ (bind_lines binds ++ []) ++ line (bind_words b) =
    append-nil (bind_lines new) ∙ ap bind_lines e ∙ lines-push binds b ∙ ap (λ r. r ++ line (bind_words b)) (sym (append-nil (bind_lines binds))) in
    ap (λ r. line (codes "witness 1") ++ r) all
spelled-push binds new [] (p ∷ places) b none empty e = absurd (omega arith)
spelled-push binds new (era ∷ eras) places b none empty e = absurd (omega arith)

pub length-push : (binds new : List Bind) (eras : List EraPlan) (places : List Place) (b : Bind) → new ≡ binds ++ b ∷ [] → length (behind_first new eras places) ≡ length (behind_first binds eras places) + 1
length-push binds new eras places b e =
    let late = flat_map era_list eras ++ place_list places in
    omega (arith, length-append (bind_list new) late, length-append (bind_list binds) late, length-map new (λ bind. lines.Bind bind), length-map binds (λ bind. lines.Bind bind), ap length e, length-append binds (b ∷ []))

handles-push : (binds : List Bind) (b : Bind) → AllByRecursion HasHandle binds → HasHandle b → AllByRecursion HasHandle (binds ++ b ∷ [])
handles-push [] b h e = (e, tt)
handles-push (d ∷ binds) b h e = (h.0, handles-push binds b h.1 e)

pub AreBinds-push : (binds new : List Bind) (b : Bind) → new ≡ binds ++ b ∷ [] → Follows (last_of lines.Witness (bind_list binds)) (lines.Bind b) → HasHandle b → AreBinds binds → AreBinds new
AreBinds-push binds new b e follows handle kept =
    subst AreBinds (sym e) (record { rising = AreRising-push binds b follows kept.rising; handles = handles-push binds b kept.handles handle })
