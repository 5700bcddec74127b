-- A text is at most one certificate's.
use Rattle.std.proofs.Common.{◌≡◌, ℕ, List, [], ◌∷◌, ◌++◌, Option, Some, None, refl, sym, ap, ◌∙◌, append_assoc}
use Rattle.std.specs.List.{AllByRecursion, flat_map}
use Rattle.std.proofs.lemmas.List.{append-nil}
use Rattle.certificate.specs.declared.plan.Bind.{Bind}
use Rattle.certificate.specs.declared.plan.Place.{Place}
use Rattle.certificate.specs.declared.plan.EraPlan.{EraPlan}
use Rattle.certificate.specs.declared.plan.Certificate.{Certificate}
use Rattle.certificate.specs.declared.line.Line.{Line}
use Rattle.certificate.specs.declared.line.Line.TheVariants as lines
use Rattle.certificate.specs.CertificateText.{CertificateText, AreEras}
use Rattle.certificate.specs.Line.{words_of, bind_list, place_list, cut_list, era_list}
use Rattle.certificate.proofs.Order.{IsLate, late_eras}
use Rattle.certificate.proofs.Listed.{text_of, lines_of, text-lines_of, AreLines-lines_of, goes_on, nonempty}

lines_same : (c d : Certificate) (text : List ℕ) → CertificateText text c → CertificateText text d → lines_of c ≡ lines_of d
lines_same c d text tc td =
    let e = append-nil (text_of (lines.Witness ∷ lines_of c)) ∙ text-lines_of c ∙ sym tc.spelled ∙ td.spelled ∙ sym (text-lines_of d) in
    let left = goes_on (lines.Witness ∷ lines_of c) (lines.Witness ∷ lines_of d) [] (AreLines-lines_of c tc.kept_to tc.numbers) (AreLines-lines_of d td.kept_to td.numbers) e in
    go left.0 left.1 left.2
  where
    go : (tail : List Line) → lines.Witness ∷ lines_of d ≡ (lines.Witness ∷ lines_of c) ++ tail → [] ≡ text_of tail → lines_of c ≡ lines_of d
    go [] all is = let same : lines_of d ≡ lines_of c ++ [] = cc (all) in sym (same ∙ append-nil (lines_of c))
    go (l ∷ tail) all is = absurd (nonempty (words_of l) (text_of tail) (sym is))

abbrev NotBind : Line → Type 0
NotBind (lines.Bind bind) = ⊥
NotBind l = Unit {0}

abbrev NotPlace : Line → Type 0
NotPlace (lines.Place place) = ⊥
NotPlace l = Unit {0}

-- what a list of lines begins with
abbrev Heads : (Line → Type 0) → List Line → Type 0
Heads P [] = Unit {0}
Heads P (l ∷ ls) = P l

binds_same : (bs ds : List Bind) (xs ys : List Line) → Heads NotBind xs → Heads NotBind ys → bind_list bs ++ xs ≡ bind_list ds ++ ys → (bs ≡ ds) × (xs ≡ ys)
binds_same [] [] xs ys hx hy e = (refl, e)
binds_same [] (d ∷ ds) [] ys hx hy e = absurd (cc (e))
binds_same [] (d ∷ ds) (x ∷ xs) ys hx hy e = let same : x ≡ lines.Bind d = cc (e) in absurd (rw same at hx)
binds_same (b ∷ bs) [] xs [] hx hy e = absurd (cc (e))
binds_same (b ∷ bs) [] xs (y ∷ ys) hx hy e = let same : y ≡ lines.Bind b = cc (e) in absurd (rw same at hy)
binds_same (b ∷ bs) (d ∷ ds) xs ys hx hy e =
    let tails : bind_list bs ++ xs ≡ bind_list ds ++ ys = cc (e) in
    let heads : b ≡ d = cc (e) in
    let rest = binds_same bs ds xs ys hx hy tails in (cc (heads, rest.0), rest.1)

places_same : (ps qs : List Place) (xs ys : List Line) → Heads NotPlace xs → Heads NotPlace ys → place_list ps ++ xs ≡ place_list qs ++ ys → (ps ≡ qs) × (xs ≡ ys)
places_same [] [] xs ys hx hy e = (refl, e)
places_same [] (q ∷ qs) [] ys hx hy e = absurd (cc (e))
places_same [] (q ∷ qs) (x ∷ xs) ys hx hy e = let same : x ≡ lines.Place q = cc (e) in absurd (rw same at hx)
places_same (p ∷ ps) [] xs [] hx hy e = absurd (cc (e))
places_same (p ∷ ps) [] xs (y ∷ ys) hx hy e = let same : y ≡ lines.Place p = cc (e) in absurd (rw same at hy)
places_same (p ∷ ps) (q ∷ qs) xs ys hx hy e =
    let tails : place_list ps ++ xs ≡ place_list qs ++ ys = cc (e) in
    let heads : p ≡ q = cc (e) in
    let rest = places_same ps qs xs ys hx hy tails in (cc (heads, rest.0), rest.1)

-- the lines of the first era, and what stands behind it
first_era : (era : EraPlan) (eras : List EraPlan) (cut : Option ℕ) → era.cut ≡ cut → flat_map era_list (era ∷ eras) ++ lines.End ∷ [] ≡ place_list era.places ++ (cut_list cut ++ (flat_map era_list eras ++ lines.End ∷ []))
first_era era eras cut e =
    let rest = flat_map era_list eras ++ lines.End ∷ [] in
    append_assoc (era_list era) (flat_map era_list eras) (lines.End ∷ [])
    ∙ append_assoc (place_list era.places) (cut_list era.cut) rest
    ∙ ap (λ c. place_list era.places ++ (cut_list c ++ rest)) e

-- the places of two first eras, and what stands behind them
first_same : (a f : EraPlan) (es fs : List EraPlan) (o p : Option ℕ) → a.cut ≡ o → f.cut ≡ p → Heads NotPlace (cut_list o ++ (flat_map era_list es ++ lines.End ∷ [])) → Heads NotPlace (cut_list p ++ (flat_map era_list fs ++ lines.End ∷ [])) → flat_map era_list (a ∷ es) ++ lines.End ∷ [] ≡ flat_map era_list (f ∷ fs) ++ lines.End ∷ [] → (a.places ≡ f.places) × (cut_list o ++ (flat_map era_list es ++ lines.End ∷ []) ≡ cut_list p ++ (flat_map era_list fs ++ lines.End ∷ []))
first_same a f es fs o p ca cf ho hp e =
    places_same a.places f.places (cut_list o ++ (flat_map era_list es ++ lines.End ∷ [])) (cut_list p ++ (flat_map era_list fs ++ lines.End ∷ [])) ho hp
    (sym (first_era a es o ca) ∙ e ∙ first_era f fs p cf)

era_is : (e f : EraPlan) → e.places ≡ f.places → e.cut ≡ f.cut → e ≡ f
era_is e f places cuts =
    let same : record { places = e.places; cut = e.cut } ≡ record { places = f.places; cut = f.cut } = cc (places, cuts) in same

eras_same : (es fs : List EraPlan) → AreEras es → AreEras fs → flat_map era_list es ++ lines.End ∷ [] ≡ flat_map era_list fs ++ lines.End ∷ [] → es ≡ fs
eras_same [] fs he hf e = absurd he
eras_same (a ∷ es) [] he hf e = absurd hf
eras_same (a ∷ []) (f ∷ []) he hf e =
    let same = first_same a f [] [] None None he hf tt tt e in
    let eras : a ≡ f = era_is a f same.0 (he ∙ sym hf) in cc (eras)
eras_same (a ∷ []) (f ∷ g ∷ fs) he hf e =
    let same = first_same a f [] (g ∷ fs) None (Some hf.0.0) he hf.0.1 tt tt e in absurd (cc (same.1))
eras_same (a ∷ b ∷ es) (f ∷ []) he hf e =
    let same = first_same a f (b ∷ es) [] (Some he.0.0) None he.0.1 hf tt tt e in absurd (cc (same.1))
eras_same (a ∷ b ∷ es) (f ∷ g ∷ fs) he hf e =
    let same = first_same a f (b ∷ es) (g ∷ fs) (Some he.0.0) (Some hf.0.0) he.0.1 hf.0.1 tt tt e in
    let kept : he.0.0 ≡ hf.0.0 = cc (same.1) in
    let rest : flat_map era_list (b ∷ es) ++ lines.End ∷ [] ≡ flat_map era_list (g ∷ fs) ++ lines.End ∷ [] = cc (same.1) in
    let eras : a ≡ f = era_is a f same.0 (he.0.1 ∙ ap (λ k. Some k) kept ∙ sym hf.0.1) in
    cc (eras, eras_same (b ∷ es) (g ∷ fs) he.1 hf.1 rest)

no_bind : (late : List Line) → AllByRecursion IsLate late → Heads NotBind (late ++ lines.End ∷ [])
no_bind [] h = tt
no_bind (lines.Place place ∷ late) h = tt
no_bind (lines.Cut kept ∷ late) h = tt
no_bind (lines.Witness ∷ late) h = absurd h.0
no_bind (lines.Bind bind ∷ late) h = absurd h.0
no_bind (lines.End ∷ late) h = absurd h.0

pub certificate_same : (c d : Certificate) (text : List ℕ) → CertificateText text c → CertificateText text d → c ≡ d
certificate_same c d text tc td =
    let parts = binds_same c.binds d.binds (flat_map era_list c.eras ++ lines.End ∷ []) (flat_map era_list d.eras ++ lines.End ∷ []) (no_bind (flat_map era_list c.eras) (late_eras c.eras)) (no_bind (flat_map era_list d.eras) (late_eras d.eras)) (lines_same c d text tc td) in
    let eras = eras_same c.eras d.eras tc.kept_to.eras td.kept_to.eras parts.1 in
    let same : record { binds = c.binds; eras = c.eras } ≡ record { binds = d.binds; eras = d.eras } = cc (parts.0, eras) in same
