-- Binds among which none is bad rise, and none has an empty handle.
use Rattle.std.proofs.Common.{◌≡◌, ℕ, suc, ◌+◌, ◌<◌, ◌≤◌, Bool, true, false, not, cond, List, [], ◌∷◌, ◌++◌, length, take, drop, get_or, Option, Some, None, option_map, is_some, refl, sym, ap, subst, ◌∙◌, arith}
use Rattle.std.specs.List.{AllByRecursion}
use Rattle.std.specs.Ordering.{nat_cmp}
use Rattle.std.specs.Cmp.Lexicographic.{slice_cmp}
use Rattle.std.proofs.lemmas.List.{take_more, take_all, drop_all}
use Rattle.certificate.specs.declared.plan.Bind.{Bind}
use Rattle.certificate.specs.declared.plan.EraPlan.{EraPlan}
use Rattle.certificate.specs.Parts.{is_below, first_bad_bind, first_wrong_cut, first_bad_era, InRange}
use Rattle.certificate.specs.CertificateText.{AreRising, HasHandle, AreEras, IsCertificate}
use Rattle.certificate.proofs.FirstBad.{bad_from}
use Rattle.certificate.proofs.Rising.{less}

pub in_range_push : (binds : List Bind) (i : ℕ) (bind : Bind) → i < length binds → bind ≡ get_or binds i bind → AllByRecursion InRange (take i binds) → InRange bind → AllByRecursion InRange (take (i + 1) binds)
in_range_push binds i bind inside is all here =
    subst (AllByRecursion InRange) (ap (λ b. take i binds ++ b ∷ []) is ∙ sym (take_more binds i bind inside)) (push (take i binds) all) where
      push : (bs : List Bind) → AllByRecursion InRange bs → AllByRecursion InRange (bs ++ bind ∷ [])
      push [] tt = (here, tt)
      push (b ∷ bs) rest = (rest.0, push bs rest.1)

-- one bind at fault, or another
passed : (b : Bool) (n : ℕ) (rest : Option ℕ) → cond (not b) (Some n) rest ≡ None → (b ≡ true) × (rest ≡ None)
passed true n rest none = (refl, none)
passed false n rest none = absurd (cc)

above_none : (ahead handle : List ℕ) → is_below ahead handle ≡ true → 0 < length handle
above_none [] [] below = absurd (cc)
above_none (x ∷ ahead) [] below = absurd (cc)
above_none ahead (y ∷ handle) below = omega arith

chain : (n : ℕ) (ahead : List ℕ) (binds : List Bind) → bad_from n ahead binds ≡ None → AllByRecursion InRange binds → AreRising binds × AllByRecursion HasHandle binds
chain n ahead [] none all = (tt, tt)
chain n ahead (b ∷ []) none all =
    let h = passed (is_below ahead b.handle) n (bad_from (n + 1) b.handle []) none in
    (tt, ((above_none ahead b.handle h.0, all.0.0, all.0.1, all.0.2), tt))
chain n ahead (b ∷ c ∷ binds) none all =
    let h = passed (is_below ahead b.handle) n (bad_from (n + 1) b.handle (c ∷ binds)) none in
    let next = passed (is_below b.handle c.handle) (n + 1) (bad_from (n + 1 + 1) c.handle binds) h.1 in
    let rest = chain (n + 1) b.handle (c ∷ binds) h.1 all.1 in
    ((less (slice_cmp nat_cmp b.handle c.handle) next.0, rest.0), ((above_none ahead b.handle h.0, all.0.0, all.0.1, all.0.2), rest.1))

pub good_binds : (binds : List Bind) (i : ℕ) (ahead : List ℕ) → length binds ≤ i → bad_from (i + 1) ahead (drop i binds) ≡ first_bad_bind binds
    → AllByRecursion InRange (take i binds) → AreRising binds × AllByRecursion HasHandle binds
good_binds binds i ahead past is all =
    chain 1 [] binds (sym is ∙ ap (bad_from (i + 1) ahead) (drop_all i binds past)) (subst (AllByRecursion InRange) (take_all i binds past) all)

has_cut : (o : Option ℕ) (rest : Option ℕ) → cond (is_some o) (option_map (λ e. suc e) rest) (Some 1) ≡ None → ((kept : ℕ) × (o ≡ Some kept)) × (rest ≡ None)
has_cut (Some kept) None none = ((kept, refl), refl)
has_cut (Some kept) (Some e) none = absurd (cc)
has_cut None rest none = absurd (cc)

no_cut : (o : Option ℕ) → cond {A = Option ℕ} (is_some o) (Some 1) None ≡ None → o ≡ None
no_cut None none = refl
no_cut (Some kept) none = absurd (cc)

cuts : (eras : List EraPlan) (era : EraPlan) → first_wrong_cut (era ∷ eras) ≡ None → AreEras (era ∷ eras)
cuts [] era none = no_cut era.cut none
cuts (next ∷ eras) era none =
    let h = has_cut era.cut (first_wrong_cut (next ∷ eras)) none in (h.0, cuts eras next h.1)

-- eras among which none is bad
pub good_eras : (eras : List EraPlan) → first_bad_era eras ≡ None → AreEras eras
good_eras [] none = absurd (cc)
good_eras (era ∷ eras) none = cuts eras era none

-- what is made of these parts keeps to what a certificate keeps to
pub good_certificate : (made_binds : List Bind) (made_eras : List EraPlan) (binds : List Bind) (eras : List EraPlan) (binds_read : List Bind) (eras_read : List EraPlan)
    → made_binds ≡ binds → made_eras ≡ eras → binds_read ≡ binds → eras_read ≡ eras
    → AreRising binds_read × AllByRecursion HasHandle binds_read → first_bad_era eras_read ≡ None → IsCertificate (record { binds = made_binds; eras = made_eras })
good_certificate made_binds made_eras binds eras binds_read eras_read b e br er kept none =
    let same_binds : binds_read ≡ made_binds = br ∙ sym b in
    let same_eras : eras_read ≡ made_eras = er ∙ sym e in
    let both = subst (λ bs. AreRising bs × AllByRecursion HasHandle bs) same_binds kept in
    record { rising = both.0; handles = both.1; eras = subst AreEras same_eras (good_eras eras_read none) }
