-- A certificate as a list of lines, and a text as one list of lines.
use Rattle.std.proofs.Common.{◌≡◌, ℕ, ◌<◌, List, [], ◌∷◌, ◌++◌, Option, Some, None, IfSome, ◌^◌, refl, sym, ap, ◌∙◌, codes, append_assoc}
use Rattle.std.specs.List.{AllByRecursion, flat_map}
use Rattle.std.proofs.lemmas.Grind.{flat_map-append}
use Rattle.std.proofs.lemmas.List.{append-nil}
use Rattle.certificate.specs.declared.plan.Bind.{Bind}
use Rattle.certificate.specs.declared.plan.Place.{Place}
use Rattle.certificate.specs.declared.plan.EraPlan.{EraPlan}
use Rattle.certificate.specs.declared.plan.Certificate.{Certificate}
use Rattle.certificate.specs.declared.line.Line.{Line}
use Rattle.certificate.specs.declared.line.Line.TheVariants as lines
use Rattle.certificate.specs.CertificateText.{line, spelling, bind_lines, place_lines, cut_lines, era_lines, HasHandle, HasNumbers, HasNumbersInEra, IsCertificate}
use Rattle.certificate.specs.Draft.{AreBinds, ArePlaces, spelled_by}
use Rattle.text_words.specs.Words.{Lacks}
use Rattle.certificate.specs.Line.{IsLine, words_of, bind_list, place_list, cut_list, era_list, behind_first}
use Rattle.text_words.proofs.Cuts.{split_same}
use Rattle.certificate.proofs.Said.{words_same, no_feed}

abbrev pub text_of : List Line → List ℕ
text_of ls = flat_map (λ l. line (words_of l)) ls

abbrev pub AreLines : List Line → Type 0
AreLines ls = AllByRecursion (λ l. IsLine (words_of l) l) ls

-- the lines of a certificate behind its first one
abbrev pub lines_of : Certificate → List Line
lines_of certificate = bind_list certificate.binds ++ (flat_map era_list certificate.eras ++ lines.End ∷ [])

pub text-append : (xs ys : List Line) → text_of (xs ++ ys) ≡ text_of xs ++ text_of ys
text-append xs ys = flat_map-append (λ l. line (words_of l)) xs ys

text-binds : (binds : List Bind) → text_of (bind_list binds) ≡ bind_lines binds
text-binds [] = refl
text-binds (b ∷ binds) = ap (λ r. line (words_of (lines.Bind b)) ++ r) (text-binds binds)

text-places : (places : List Place) → text_of (place_list places) ≡ place_lines places
text-places [] = refl
text-places (p ∷ places) = ap (λ r. line (words_of (lines.Place p)) ++ r) (text-places places)

text-cut : (cut : Option ℕ) → text_of (cut_list cut) ≡ cut_lines cut
text-cut None = refl
text-cut (Some kept) = append-nil (line (words_of (lines.Cut kept)))

text-eras : (eras : List EraPlan) → text_of (flat_map era_list eras) ≡ flat_map era_lines eras
text-eras [] = refl
text-eras (era ∷ eras) =
    let one : text_of (era_list era) ≡ era_lines era = text-append (place_list era.places) (cut_list era.cut) ∙ cc (text-places era.places, text-cut era.cut) in
    text-append (era_list era) (flat_map era_list eras) ∙ cc (one, text-eras eras)

pub text-lines_of : (certificate : Certificate) → text_of (lines.Witness ∷ lines_of certificate) ≡ spelling certificate
text-lines_of certificate =
    let eras : text_of (flat_map era_list certificate.eras ++ lines.End ∷ []) ≡ flat_map era_lines certificate.eras ++ line (codes "end") =
    text-append (flat_map era_list certificate.eras) (lines.End ∷ []) ∙ ap (λ r. r ++ line (codes "end")) (text-eras certificate.eras) in
    ap (λ r. line (codes "witness 1") ++ r) (text-append (bind_list certificate.binds) (flat_map era_list certificate.eras ++ lines.End ∷ []) ∙ cc (text-binds certificate.binds, eras))

pub text-behind_first : (binds : List Bind) (eras : List EraPlan) (places : List Place) → text_of (lines.Witness ∷ behind_first binds eras places) ≡ spelled_by binds eras places
text-behind_first binds eras places =
    let parts : text_of (flat_map era_list eras ++ place_list places) ≡ flat_map era_lines eras ++ place_lines places =
    text-append (flat_map era_list eras) (place_list places) ∙ cc (text-eras eras, text-places places) in
    ap (λ r. line (codes "witness 1") ++ r) (text-append (bind_list binds) (flat_map era_list eras ++ place_list places) ∙ cc (text-binds binds, parts))

pub all_append : (P : Line → Type 0) (xs ys : List Line) → AllByRecursion P xs → AllByRecursion P ys → AllByRecursion P (xs ++ ys)
all_append P [] ys px py = py
all_append P (x ∷ xs) ys px py = (px.0, all_append P xs ys px.1 py)

AreLines-binds : (binds : List Bind) → AllByRecursion HasHandle binds → AreLines (bind_list binds)
AreLines-binds [] h = tt
AreLines-binds (b ∷ binds) h = ((refl, h.0), AreLines-binds binds h.1)

AreLines-places : (places : List Place) → AllByRecursion HasNumbers places → AreLines (place_list places)
AreLines-places [] h = tt
AreLines-places (p ∷ places) h = ((refl, h.0), AreLines-places places h.1)

AreLines-cut : (cut : Option ℕ) → IfSome cut (λ kept. kept < 2 ^ 64) → AreLines (cut_list cut)
AreLines-cut None h = tt
AreLines-cut (Some kept) h = ((refl, h), tt)

AreLines-eras : (eras : List EraPlan) → AllByRecursion HasNumbersInEra eras → AreLines (flat_map era_list eras)
AreLines-eras [] h = tt
AreLines-eras (era ∷ eras) h =
    all_append (λ l. IsLine (words_of l) l) (era_list era) (flat_map era_list eras)
    (all_append (λ l. IsLine (words_of l) l) (place_list era.places) (cut_list era.cut) (AreLines-places era.places h.0.0) (AreLines-cut era.cut h.0.1))
    (AreLines-eras eras h.1)

pub AreLines-lines_of : (certificate : Certificate) → IsCertificate certificate → AllByRecursion HasNumbersInEra certificate.eras → AreLines (lines.Witness ∷ lines_of certificate)
AreLines-lines_of certificate h numbers = (
  refl,
  all_append (λ l. IsLine (words_of l) l) (bind_list certificate.binds) (flat_map era_list certificate.eras ++ lines.End ∷ []) (AreLines-binds certificate.binds h.handles)
      (all_append (λ l. IsLine (words_of l) l) (flat_map era_list certificate.eras) (lines.End ∷ []) (AreLines-eras certificate.eras numbers) (refl, tt)),
)

pub AreLines-behind_first : (binds : List Bind) (eras : List EraPlan) (places : List Place) → AreBinds binds → ArePlaces eras places → AreLines (lines.Witness ∷ behind_first binds eras places)
AreLines-behind_first binds eras places kept numbers = (
  refl,
  all_append (λ l. IsLine (words_of l) l) (bind_list binds) (flat_map era_list eras ++ place_list places) (AreLines-binds binds kept.handles)
      (all_append (λ l. IsLine (words_of l) l) (flat_map era_list eras) (place_list places) (AreLines-eras eras numbers.numbers) (AreLines-places places numbers.in_last)),
)

-- the first lines of two texts
pub cut_line : (u v r s : List ℕ) → Lacks 10 u → Lacks 10 v → line u ++ r ≡ line v ++ s → (u ≡ v) × (r ≡ s)
cut_line u v r s lu lv e = split_same 10 u v r s lu lv (sym (append_assoc u (10 ∷ []) r) ∙ e ∙ append_assoc v (10 ∷ []) s)

pub nonempty : (u r : List ℕ) → line u ++ r ≡ [] → ⊥
nonempty [] r e = cc
nonempty (b ∷ u) r e = cc

-- a text that begins with lines of a text goes on with its other lines
pub goes_on : (ls ms : List Line) (rest : List ℕ) → AreLines ls → AreLines ms → text_of ls ++ rest ≡ text_of ms → (tail : List Line) × (ms ≡ ls ++ tail) × (rest ≡ text_of tail) × AreLines tail
goes_on [] ms rest hl hm e = (ms, refl, e, hm)
goes_on (l ∷ ls) [] rest hl hm e = absurd (nonempty (words_of l) (text_of ls ++ rest) (sym (append_assoc (line (words_of l)) (text_of ls) rest) ∙ e))
goes_on (l ∷ ls) (m ∷ ms) rest hl hm e =
    let first = cut_line (words_of l) (words_of m) (text_of ls ++ rest) (text_of ms) (no_feed (words_of l) l hl.0) (no_feed (words_of m) m hm.0) (sym (append_assoc (line (words_of l)) (text_of ls) rest) ∙ e) in
    let same : l ≡ m = words_same (words_of l) l m hl.0 (rw first.0 hm.0) in
    let tail = goes_on ls ms rest hl.1 hm.1 first.1 in
    (tail.0, cc (same, tail.1), tail.2, tail.3)
