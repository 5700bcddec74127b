-- Which line may stand behind which.
use Rattle.std.proofs.Common.{◌≡◌, ℕ, zero, suc, ◌+◌, ◌<◌, ◌≤◌, ◌⊎◌, inl, inr, List, [], ◌∷◌, ◌++◌, length, Option, Some, None, IsSome, refl, sym, ◌∙◌, arith, subst, length-append}
use Rattle.std.specs.List.{AllByRecursion, flat_map, slice_get}
use Rattle.std.proofs.lemmas.List.{length-map}
use Rattle.certificate.specs.declared.plan.Bind.{Bind}
use Rattle.certificate.specs.declared.plan.Place.{Place}
use Rattle.certificate.specs.declared.plan.EraPlan.{EraPlan}
use Rattle.certificate.specs.declared.plan.Certificate.{Certificate}
use Rattle.certificate.specs.declared.line.Line.{Line}
use Rattle.certificate.specs.declared.line.Line.TheVariants as lines
use Rattle.certificate.specs.CertificateText.{AreRising, IsCertificate}
use Rattle.certificate.specs.Draft.{HasEnded}
use Rattle.certificate.specs.Line.{Follows, last_of, bind_list, place_list, cut_list, era_list, behind_first}
use Rattle.certificate.proofs.Listed.{lines_of, all_append}

abbrev pub AreInOrder : Line → List Line → Type 0
AreInOrder l [] = Unit {0}
AreInOrder l (next ∷ more) = Follows l next × AreInOrder next more

-- what stands in order stands behind the last one ahead of it
pub follows_last : (l next : Line) (done tail : List Line) → AreInOrder l (done ++ next ∷ tail) → Follows (last_of l done) next
follows_last l next [] tail h = h.0
follows_last l next (d ∷ done) tail h = follows_last d next done tail h.1

pub last-append : (l : Line) (xs ys : List Line) → last_of l (xs ++ ys) ≡ last_of (last_of l xs) ys
last-append l [] ys = refl
last-append l (x ∷ xs) ys = last-append x xs ys

all_last : (P : Line → Type 0) (l : Line) (ls : List Line) → P l → AllByRecursion P ls → P (last_of l ls)
all_last P l [] pl h = pl
all_last P l (m ∷ ls) pl h = all_last P m ls h.0 h.1

-- a line of an era
abbrev pub IsLate : Line → Type 0
IsLate (lines.Place place) = Unit {0}
IsLate (lines.Cut kept) = Unit {0}
IsLate l = ⊥

abbrev pub NotEnd : Line → Type 0
NotEnd lines.End = ⊥
NotEnd l = Unit {0}

late_goes_on : (l : Line) → IsLate l → NotEnd l
late_goes_on (lines.Place place) h = tt
late_goes_on (lines.Cut kept) h = tt
late_goes_on lines.Witness h = absurd h
late_goes_on (lines.Bind bind) h = absurd h
late_goes_on lines.End h = absurd h

late_follows : (l next : Line) → NotEnd l → IsLate next → Follows l next
late_follows lines.End next h late = absurd h
late_follows l (lines.Place place) h late = tt
late_follows l (lines.Cut kept) h late = tt
late_follows l lines.Witness h late = absurd late
late_follows l (lines.Bind bind) h late = absurd late
late_follows l lines.End h late = absurd late

end_follows : (l : Line) → NotEnd l → Follows l lines.End
end_follows lines.End h = absurd h
end_follows l h = tt

late_in_order : (l : Line) (ls : List Line) → NotEnd l → AllByRecursion IsLate ls → AreInOrder l (ls ++ lines.End ∷ [])
late_in_order l [] goes late = (end_follows l goes, tt)
late_in_order l (m ∷ ls) goes late = (late_follows l m goes late.0, late_in_order m ls (late_goes_on m late.0) late.1)

binds_in_order : (b : Bind) (binds : List Bind) (late : List Line) → AreRising (b ∷ binds) → AllByRecursion IsLate late → AreInOrder (lines.Bind b) (bind_list binds ++ (late ++ lines.End ∷ []))
binds_in_order b [] late rising h = late_in_order (lines.Bind b) late tt h
binds_in_order b (d ∷ binds) late rising h = (rising.0, binds_in_order d binds late rising.1 h)

late_places : (places : List Place) → AllByRecursion IsLate (place_list places)
late_places [] = tt
late_places (p ∷ places) = (tt, late_places places)

late_cut : (cut : Option ℕ) → AllByRecursion IsLate (cut_list cut)
late_cut None = tt
late_cut (Some kept) = (tt, tt)

pub late_eras : (eras : List EraPlan) → AllByRecursion IsLate (flat_map era_list eras)
late_eras [] = tt
late_eras (era ∷ eras) =
    all_append IsLate (era_list era) (flat_map era_list eras) (all_append IsLate (place_list era.places) (cut_list era.cut) (late_places era.places) (late_cut era.cut)) (late_eras eras)

witness_in_order : (binds : List Bind) (late : List Line) → AreRising binds → AllByRecursion IsLate late → AreInOrder lines.Witness (bind_list binds ++ (late ++ lines.End ∷ []))
witness_in_order [] late rising h = late_in_order lines.Witness late tt h
witness_in_order (b ∷ binds) late rising h = (tt, binds_in_order b binds late rising h)

pub in_order : (certificate : Certificate) → IsCertificate certificate → AreInOrder lines.Witness (lines_of certificate)
in_order certificate h = witness_in_order certificate.binds (flat_map era_list certificate.eras) h.rising (late_eras certificate.eras)

-- a certificate's last line
pub last-lines_of : (certificate : Certificate) → last_of lines.Witness (lines_of certificate) ≡ lines.End
last-lines_of certificate =
    last-append lines.Witness (bind_list certificate.binds) (flat_map era_list certificate.eras ++ lines.End ∷ [])
    ∙ last-append (last_of lines.Witness (bind_list certificate.binds)) (flat_map era_list certificate.eras) (lines.End ∷ [])

are_late : (eras : List EraPlan) (places : List Place) → AllByRecursion IsLate (flat_map era_list eras ++ place_list places)
are_late eras places = all_append IsLate (flat_map era_list eras) (place_list places) (late_eras eras) (late_places places)

binds_go_on : (l : Line) (binds : List Bind) → NotEnd l → NotEnd (last_of l (bind_list binds))
binds_go_on l [] h = h
binds_go_on l (b ∷ binds) h = binds_go_on (lines.Bind b) binds tt

all_late_go_on : (ls : List Line) → AllByRecursion IsLate ls → AllByRecursion NotEnd ls
all_late_go_on [] h = tt
all_late_go_on (l ∷ ls) h = (late_goes_on l h.0, all_late_go_on ls h.1)

-- a draft has no last line yet
pub goes_on_behind : (binds : List Bind) (eras : List EraPlan) (places : List Place) → NotEnd (last_of lines.Witness (behind_first binds eras places))
goes_on_behind binds eras places =
    subst NotEnd (sym (last-append lines.Witness (bind_list binds) (flat_map era_list eras ++ place_list places)))
    (all_last NotEnd (last_of lines.Witness (bind_list binds)) (flat_map era_list eras ++ place_list places) (binds_go_on lines.Witness binds tt) (all_late_go_on (flat_map era_list eras ++ place_list places) (are_late eras places)))

-- no bind stands behind an era's line
late_stops : (l : Line) (b : Bind) → IsLate l → Follows l (lines.Bind b) → ⊥
late_stops (lines.Place place) b h f = f
late_stops (lines.Cut kept) b h f = f
late_stops lines.Witness b h f = h
late_stops (lines.Bind bind) b h f = h
late_stops lines.End b h f = h

some_late : (l : Line) (ls : List Line) → 0 < length ls → AllByRecursion IsLate ls → IsLate (last_of l ls)
some_late l [] long h = absurd (omega arith)
some_late l (m ∷ ls) long h = all_last IsLate m ls h.0 h.1

length-cut : (cut : Option ℕ) → IsSome cut → length (cut_list cut) ≡ 1
length-cut (Some kept) h = refl
length-cut None h = absurd cc

length-eras : (eras : List EraPlan) → AllByRecursion HasEnded eras → length eras ≤ length (flat_map era_list eras)
length-eras [] h = omega arith
length-eras (era ∷ eras) h =
    omega (arith, length-append (era_list era) (flat_map era_list eras), length-append (place_list era.places) (cut_list era.cut), length-cut era.cut h.0, length-eras eras h.1)

bind_behind_late : (binds : List Bind) (eras : List EraPlan) (places : List Place) (b : Bind) → AllByRecursion HasEnded eras → 0 < length eras + length places → Follows (last_of lines.Witness (behind_first binds eras places)) (lines.Bind b) → ⊥
bind_behind_late binds eras places b ended some f =
    let late = flat_map era_list eras ++ place_list places in
    let long : 0 < length late = omega (arith, length-append (flat_map era_list eras) (place_list places), length-eras eras ended, length-map places (λ place. lines.Place place)) in
    let is_late = some_late (last_of lines.Witness (bind_list binds)) late long (are_late eras places) in
    late_stops (last_of lines.Witness (behind_first binds eras places)) b (subst IsLate (sym (last-append lines.Witness (bind_list binds) late)) is_late) f

-- a bind that an era's line stands ahead of, or a bind that isn't below it
pub bind_stops : (binds : List Bind) (eras : List EraPlan) (places : List Place) (b : Bind) → AllByRecursion HasEnded eras → (0 < length eras + length places) ⊎ (Follows (last_of lines.Witness (bind_list binds)) (lines.Bind b) → ⊥) → Follows (last_of lines.Witness (behind_first binds eras places)) (lines.Bind b) → ⊥
bind_stops binds eras places b ended (inl some) f = bind_behind_late binds eras places b ended some f
bind_stops binds [] [] b ended (inr stops) f = stops (subst (λ (l : Line). Follows l (lines.Bind b)) (last-append lines.Witness (bind_list binds) []) f)
bind_stops binds [] (p ∷ places) b ended (inr stops) f = bind_behind_late binds [] (p ∷ places) b ended (omega arith) f
bind_stops binds (era ∷ eras) places b ended (inr stops) f = bind_behind_late binds (era ∷ eras) places b ended (omega arith) f

-- binds that go on rising
pub AreRising-push : (binds : List Bind) (b : Bind) → Follows (last_of lines.Witness (bind_list binds)) (lines.Bind b) → AreRising binds → AreRising (binds ++ b ∷ [])
AreRising-push [] b f rising = tt
AreRising-push (a ∷ []) b f rising = (f, tt)
AreRising-push (a ∷ c ∷ binds) b f rising = (rising.0, AreRising-push (c ∷ binds) b f rising.1)

pub last_bind : (l : Line) (binds : List Bind) (k : ℕ) (last : Bind) → length binds ≡ suc k → slice_get binds k ≡ Some last → last_of l (bind_list binds) ≡ lines.Bind last
last_bind l [] k last long is = absurd (omega arith)
last_bind l (b ∷ []) zero last long is = cc
last_bind l (b ∷ []) (suc k) last long is = absurd (omega arith)
last_bind l (b ∷ c ∷ binds) zero last long is = absurd (omega arith)
last_bind l (b ∷ c ∷ binds) (suc k) last long is = last_bind (lines.Bind b) (c ∷ binds) k last (omega arith) is
