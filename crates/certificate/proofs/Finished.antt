-- A draft that an `end` line ends is a certificate.
use Rattle.std.proofs.Common.{◌≡◌, ℕ, List, [], ◌∷◌, ◌++◌, subst, Option, Some, None, IsSome, sym, ap, ◌∙◌, refl, append_assoc, codes}
use Rattle.std.specs.List.{flat_map, AllByRecursion}
use Rattle.certificate.specs.declared.plan.Bind.{Bind}
use Rattle.certificate.specs.declared.plan.Place.{Place}
use Rattle.certificate.specs.declared.plan.EraPlan.{EraPlan}
use Rattle.certificate.specs.declared.plan.Certificate.{Certificate}
use Rattle.certificate.specs.CertificateText.{CertificateText, AreEras, HasNumbersInEra, line, bind_lines, era_lines, place_lines, spelling}
use Rattle.certificate.specs.Draft.{AreBinds, ArePlaces, HasEnded, spelled_by}

-- the era behind the last cut
abbrev pub last_era : List Place → EraPlan
last_era places = record { places = places; cut = None }

-- the certificate that the draft stands for
abbrev pub finished : List Bind → List EraPlan → List Place → Certificate
finished binds eras places = record { binds = binds; eras = eras ++ last_era places ∷ [] }

is_some : (o : Option ℕ) → IsSome o → (kept : ℕ) × (o ≡ Some kept)
is_some (Some kept) h = (kept, refl)
is_some None h = absurd cc

AreEras-push : (eras : List EraPlan) (last : EraPlan) → AllByRecursion HasEnded eras → last.cut ≡ None → AreEras (eras ++ last ∷ [])
AreEras-push [] last h e = e
AreEras-push (era ∷ []) last h e = (is_some era.cut h.0, e)
AreEras-push (era ∷ next ∷ eras) last h e = (is_some era.cut h.0, AreEras-push (next ∷ eras) last h.1 e)

All-push : (eras : List EraPlan) (last : EraPlan) → AllByRecursion HasNumbersInEra eras → HasNumbersInEra last → AllByRecursion HasNumbersInEra (eras ++ last ∷ [])
All-push [] last h e = (e, tt)
All-push (era ∷ eras) last h e = (h.0, All-push eras last h.1 e)

eras-push : (eras : List EraPlan) (places : List Place) (more : List ℕ) → flat_map era_lines (eras ++ last_era places ∷ []) ++ more ≡ (flat_map era_lines eras ++ place_lines places) ++ more
eras-push [] places more = simp append_assoc
eras-push (era ∷ eras) places more =
    append_assoc (era_lines era) (flat_map era_lines (eras ++ last_era places ∷ [])) more
    ∙ ap (λ rest. era_lines era ++ rest) (eras-push eras places more)
    ∙ sym (append_assoc (era_lines era) (flat_map era_lines eras ++ place_lines places) more)
    ∙ ap (λ front. front ++ more) (sym (append_assoc (era_lines era) (flat_map era_lines eras) (place_lines places)))

pub spelling-finished : (binds : List Bind) (eras : List EraPlan) (places : List Place) → spelled_by binds eras places ++ line (codes "end") ≡ spelling (finished binds eras places)
spelling-finished binds eras places =
    ap (λ rest. line (codes "witness 1") ++ rest)
    (append_assoc (bind_lines binds) (flat_map era_lines eras ++ place_lines places) (line (codes "end"))
    ∙ ap (λ rest. bind_lines binds ++ rest) (sym (eras-push eras places (line (codes "end")))))

pub CertificateText-finished : (binds : List Bind) (eras : List EraPlan) (places : List Place) → AreBinds binds → ArePlaces eras places → CertificateText (spelled_by binds eras places ++ line (codes "end")) (finished binds eras places)
CertificateText-finished binds eras places kept numbers = record {
  spelled = spelling-finished binds eras places;
  kept_to = record {
    rising = kept.rising;
    handles = kept.handles;
    eras = AreEras-push eras (last_era places) numbers.ended refl;
  };
  numbers = All-push eras (last_era places) numbers.numbers (numbers.in_last, tt);
}

-- the same of a certificate whose parts are these
pub text_when_finished : (binds bound : List Bind) (eras ended all : List EraPlan) (places placed : List Place) → AreBinds binds → ArePlaces eras places → bound ≡ binds → placed ≡ places → ended ≡ eras ++ last_era placed ∷ [] → all ≡ ended → CertificateText (spelled_by binds eras places ++ line (codes "end")) (record { binds = bound; eras = all })
text_when_finished binds bound eras ended all places placed kept numbers b p e a =
    let all_is : all ≡ eras ++ last_era places ∷ [] = a ∙ e ∙ ap (λ x. eras ++ last_era x ∷ []) p in
    let same : finished binds eras places ≡ record { binds = bound; eras = all } = cc in
    subst (λ (x : Certificate). CertificateText (spelled_by binds eras places ++ line (codes "end")) x) same (CertificateText-finished binds eras places kept numbers)
