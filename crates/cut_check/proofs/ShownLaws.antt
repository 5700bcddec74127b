-- What places show, with one more place, and what a set has of it.
use Rattle.std.proofs.Common.{◌≡◌, ◌≢◌, ◌⊎◌, ℕ, zero, suc, ◌<◌, ◌+◌, true, false, IsTrue, List, [], ◌∷◌, ◌++◌, length, Option, Some, None, MatchOption, sym, ap, subst, ◌∙◌, arith, inl, inr}
use Rattle.std.specs.Ordering.{nat_cmp}
use Rattle.std.specs.BTreeSet.{BTreeSet, contains}
use Rattle.std.proofs.lemmas.Bool.{cases_eq, cases_lt, true≢false}
use Rattle.std.proofs.lemmas.Option.{none-some, same_Some, slice_get_cases}
use Rattle.std.proofs.lemmas.List.Elements.{Contains-append_left, Contains-push, Contains-push_cases}
use Rattle.nfs_history.specs.declared.recorded.RecordedCall.{RecordedCall}
use Rattle.certificate.specs.declared.plan.Place.{Place}
use Rattle.certificate.specs.declared.plan.EraPlan.{EraPlan}
use Rattle.cut_check.specs.declared.verifier.Shown.{Shown}
use Rattle.cut_check.specs.declared.verifier.Shown.TheVariants as shown
use Rattle.cut_check.specs.Places.{era_at}
use Rattle.cut_check.specs.Verifier.{verifier_at, Shows, ShowsTwo, loses_write, VerifiersAgree}
use Rattle.cut_check.specs.VerifierFault.{ShowsLater, IsAtFault, IsVerifierFault}
use Rattle.cut_check.specs.Shown.{IsShown, AddsSeen, AddsShown, HasLater, IsAtFaultWith, IsFirstBehind}

module _ (calls : List RecordedCall) (places : List Place) (place : Place) where
  pub shows_more : (v : ℕ) → Shows calls places v → Shows calls (places ++ place ∷ []) v
  shows_more v s = (s.0, Contains-append_left places (place ∷ []) s.0 s.1, s.2)

  pub shows_last : (v : ℕ) → verifier_at calls place ≡ Some v → Shows calls (places ++ place ∷ []) v
  shows_last v e = (place, Contains-push places place, e)

  pub shows_cases : (v : ℕ) → Shows calls (places ++ place ∷ []) v → Shows calls places v ⊎ (verifier_at calls place ≡ Some v)
  shows_cases v s =
      elim (Contains-push_cases places place s.0 s.1) [
        | inl among ↦ inl (s.0, among, s.2)
        | inr last ↦ inr (ap (verifier_at calls) last ∙ s.2)
      ]

  two_more : ShowsTwo calls places → ShowsTwo calls (places ++ place ∷ [])
  two_more two = (two.0, two.1, shows_more two.0 two.2, shows_more two.1 two.3, two.4)

  pub shown_silent : (so_far : Shown) → verifier_at calls place ≡ None → IsShown calls places so_far → IsShown calls (places ++ place ∷ []) so_far
  shown_silent shown.Nothing none h = λ v s. elim (shows_cases v s) [ inl before ↦ h v before | inr e ↦ none-some v (sym none ∙ e) ]
  shown_silent (shown.One one) none h =
      (shows_more one h.0, λ v s. elim (shows_cases v s) [ inl before ↦ h.1 v before | inr e ↦ absurd (none-some v (sym none ∙ e)) ])
  shown_silent shown.Several none h = two_more h

  pub shown_first : (v : ℕ) → verifier_at calls place ≡ Some v → IsShown calls places shown.Nothing → IsShown calls (places ++ place ∷ []) (shown.One v)
  shown_first v is h =
      (shows_last v is, λ w s. elim (shows_cases w s) [ inl before ↦ absurd (h w before) | inr e ↦ sym (same_Some v w (sym is ∙ e)) ])

  pub shown_again : (one v : ℕ) → verifier_at calls place ≡ Some v → one ≡ v → IsShown calls places (shown.One one) → IsShown calls (places ++ place ∷ []) (shown.One one)
  shown_again one v is same h =
      (shows_more one h.0, λ w s. elim (shows_cases w s) [ inl before ↦ h.1 w before | inr e ↦ sym (same_Some v w (sym is ∙ e)) ∙ sym same ])

  pub shown_other : (one v : ℕ) → verifier_at calls place ≡ Some v → one ≢ v → IsShown calls places (shown.One one) → IsShown calls (places ++ place ∷ []) shown.Several
  shown_other one v is apart h = (one, v, shows_more one h.0, shows_last v is, apart)

  pub shown_several : IsShown calls places shown.Several → IsShown calls (places ++ place ∷ []) shown.Several
  shown_several = two_more

  -- what a set has, once it has what this place shows too
  pub adds_more : (old mid new : BTreeSet ℕ) → AddsShown calls places old mid → AddsSeen (verifier_at calls place) mid new → AddsShown calls (places ++ place ∷ []) old new
  adds_more old mid new adds sees = record {
    kept = λ v has. sees.kept v (adds.kept v has);
    added = λ v s. elim (shows_cases v s) [ inl before ↦ sees.kept v (adds.added v before) | inr e ↦ sees.added v e ];
    only = λ v has.
        elim (sees.only v has) [
          | inr e ↦ inr (shows_last v e)
          | inl before ↦ elim (adds.only v before) [ inl was ↦ inl was | inr among ↦ inr (shows_more v among) ]
        ];
  }

no_place : (calls : List RecordedCall) (v : ℕ) → Shows calls [] v → ⊥
no_place calls v s = let h : s.1.0 < 0 = s.1.1 in omega arith

pub adds_none : (calls : List RecordedCall) (set : BTreeSet ℕ) → AddsShown calls [] set set
adds_none calls set = record {
  kept = λ v has. has;
  added = λ v s. absurd (no_place calls v s);
  only = λ v has. inl has;
}

pub shown_none : (calls : List RecordedCall) → IsShown calls [] shown.Nothing
shown_none calls = λ v s. no_place calls v s

-- what a set has, by what places show
module _ (calls : List RecordedCall) (places : List Place) (set : BTreeSet ℕ) where
  pub adds_nothing : IsShown calls places shown.Nothing → AddsShown calls places set set
  adds_nothing none = record {
    kept = λ v has. has;
    added = λ v s. absurd (none v s);
    only = λ v has. inl has;
  }

  pub adds_one : (new : BTreeSet ℕ) (one : ℕ) → IsShown calls places (shown.One one) → AddsSeen (Some one) set new → AddsShown calls places set new
  adds_one new one shows sees = record {
    kept = sees.kept;
    added = λ v s. sees.added v (ap Some (sym (shows.1 v s)));
    only = λ v has. elim (sees.only v has) [ inl before ↦ inl before | inr e ↦ inr (subst (Shows calls places) (same_Some one v e) shows.0) ];
  }

-- when an era is at fault, by what it shows
module _ (calls : List RecordedCall) (era : EraPlan) (set : BTreeSet ℕ) where
  pub silent_fine : IsShown calls era.places shown.Nothing → IsAtFaultWith calls era set → ⊥
  silent_fine none fault = elim fault [ inl two ↦ none two.0 two.2 | inr w ↦ none w.1.0 w.1.1 ]

  pub one_fault : (one : ℕ) → IsShown calls era.places (shown.One one) → contains nat_cmp set one ≡ true → IsTrue (loses_write calls era) → IsAtFaultWith calls era set
  one_fault one shows has loses = inr (loses, (one, shows.0, has))

  pub one_loses : (one : ℕ) → IsShown calls era.places (shown.One one) → IsAtFaultWith calls era set → IsTrue (loses_write calls era)
  one_loses one shows fault = elim fault [ inl two ↦ absurd (two.4 (shows.1 two.0 two.2 ∙ sym (shows.1 two.1 two.3))) | inr w ↦ w.0 ]

  pub one_has : (one : ℕ) → IsShown calls era.places (shown.One one) → IsAtFaultWith calls era set → contains nat_cmp set one ≡ true
  one_has one shows fault =
      elim fault [
        | inl two ↦ absurd (two.4 (shows.1 two.0 two.2 ∙ sym (shows.1 two.1 two.3)))
        | inr w ↦ subst (λ v. contains nat_cmp set v ≡ true) (shows.1 w.1.0 w.1.1) w.1.2
      ]

-- one more era ahead of those whose verifiers a set has
module _ (calls : List RecordedCall) (eras : List EraPlan) (e : ℕ) (era : EraPlan) (here : era_at eras (e + 1) ≡ Some era) where
  shows_later_cases : (v : ℕ) → ShowsLater calls eras e v → Shows calls era.places v ⊎ ShowsLater calls eras (e + 1) v
  shows_later_cases v s =
      elim (cases_eq s.0 (e + 1)) [
        | inl same ↦
            let is : Some era ≡ Some s.1 = sym here ∙ ap (era_at eras) (sym same) ∙ s.3 in
            inl (subst (λ (x : EraPlan). Shows calls x.places v) (sym (same_Some era s.1 is)) s.4)
        | inr apart ↦ let after : e < s.0 = s.2 in inr (s.0, s.1, omega arith, s.3, s.4)
      ]

  pub has_later_more : (old new : BTreeSet ℕ) → HasLater calls eras (e + 1) old → AddsShown calls era.places old new → HasLater calls eras e new
  has_later_more old new has adds = record {
    all = λ v s. elim (shows_later_cases v s) [ inl shown_here ↦ adds.added v shown_here | inr later ↦ adds.kept v (has.all v later) ];
    only = λ v has_v.
        elim (adds.only v has_v) [
          | inl before ↦ let s = has.only v before in let after : e + 1 < s.0 = s.2 in (s.0, s.1, omega arith, s.3, s.4)
          | inr shown_here ↦ (e + 1, era, omega arith, here, shown_here)
        ];
  }

  pub at_fault_here : (set : BTreeSet ℕ) → HasLater calls eras (e + 1) set → IsAtFaultWith calls era set → IsAtFault calls eras (e + 1)
  at_fault_here set has fault =
      (era, here, elim fault [ inl two ↦ inl two | inr w ↦ inr (w.0, (w.1.0, w.1.1, has.only w.1.0 w.1.2)) ])

  pub fault_with_here : (set : BTreeSet ℕ) → HasLater calls eras (e + 1) set → IsAtFault calls eras (e + 1) → IsAtFaultWith calls era set
  fault_with_here set has fault =
      let is : fault.0 ≡ era = same_Some fault.0 era (sym fault.1 ∙ here) in
      elim fault.2 [
        | inl two ↦ inl (subst (λ (x : EraPlan). ShowsTwo calls x.places) is two)
        | inr w ↦
            inr (
              subst (λ x. IsTrue (loses_write calls x)) is w.0,
              (w.1.0, subst (λ (x : EraPlan). Shows calls x.places w.1.0) is w.1.1, has.all w.1.0 w.1.2),
            )
      ]

  pub first_here : (set : BTreeSet ℕ) → HasLater calls eras (e + 1) set → IsAtFaultWith calls era set → IsFirstBehind calls eras e (Some (e + 1))
  first_here set has fault = (omega arith, at_fault_here set has fault, λ f after before. absurd (omega arith))

  pub first_later : (set : BTreeSet ℕ) (found : Option ℕ) → HasLater calls eras (e + 1) set → (IsAtFaultWith calls era set → ⊥) → IsFirstBehind calls eras (e + 1) found
      → IsFirstBehind calls eras e found
  first_later set None has fine first = λ f after fault.
      elim (cases_eq f (e + 1)) [
        | inl same ↦ fine (fault_with_here set has (subst (IsAtFault calls eras) same fault))
        | inr apart ↦ first f (omega arith) fault
      ]
  first_later set (Some at) has fine first = (
    let after = first.0 in omega arith,
    first.1,
    λ f after before fault.
        elim (cases_eq f (e + 1)) [
          | inl same ↦ fine (fault_with_here set has (subst (IsAtFault calls eras) same fault))
          | inr apart ↦ first.2 f (omega arith) before fault
        ],
  )

-- behind the last era
pub no_era_past : (eras : List EraPlan) (e : ℕ) (era : EraPlan) → length eras < e → era_at eras e ≡ Some era → ⊥
no_era_past eras zero era past there = none-some era there
no_era_past eras (suc k) era past there =
    elim (slice_get_cases eras k).1 [ inl w ↦ omega (arith, w.1) | inr w ↦ none-some era (sym w.1 ∙ there) ]

pub era_zero : (calls : List RecordedCall) (eras : List EraPlan) → IsAtFault calls eras 0 → ⊥
era_zero calls eras fault = none-some fault.0 fault.1

pub none_behind : (calls : List RecordedCall) (eras : List EraPlan) (set : BTreeSet ℕ) → ((v : ℕ) → contains nat_cmp set v ≡ false)
    → HasLater calls eras (length eras) set × IsFirstBehind calls eras (length eras) None
none_behind calls eras set empty = (
  record {
    all = λ v s. absurd (no_era_past eras s.0 s.1 s.2 s.3);
    only = λ v has. absurd (true≢false (sym has ∙ empty v));
  },
  λ f after fault. no_era_past eras f fault.0 after fault.1,
)

-- no era at fault: the verifiers agree; and the other way round
pub agree_from_none : (calls : List RecordedCall) (eras : List EraPlan) → ((e : ℕ) → IsAtFault calls eras e → ⊥) → VerifiersAgree calls eras
agree_from_none calls eras none = record {
  within = λ e one other era there s t. elim (cases_eq one other) [ inl same ↦ same | inr apart ↦ absurd (none e (era, there, inl (one, other, s, t, apart))) ];
  across = λ e f v era later before there there_later lost s t. none e (era, there, inr (lost, (v, s, (f, later, before, there_later, t))));
}

pub none_from_agree : (calls : List RecordedCall) (eras : List EraPlan) → VerifiersAgree calls eras → (e : ℕ) → IsAtFault calls eras e → ⊥
none_from_agree calls eras agree e fault =
    elim fault.2 [
      | inl two ↦ two.4 (agree.within e two.0 two.1 fault.0 fault.1 two.2 two.3)
      | inr w ↦ let later = w.1.2 in agree.across e later.0 w.1.0 fault.0 later.1 later.2 fault.1 later.3 w.0 w.1.1 later.4
    ]

pub one_first : (calls : List RecordedCall) (eras : List EraPlan) (d e : ℕ) → IsVerifierFault calls eras d → IsVerifierFault calls eras e → d ≡ e
one_first calls eras d e first other =
    elim (cases_lt d e) [
      | inl less ↦ absurd (other.first d less first.at_fault)
      | inr no_less ↦ elim (cases_lt e d) [ inl more ↦ absurd (first.first e more other.at_fault) | inr same ↦ omega arith ]
    ]

pub first_from_behind : (calls : List RecordedCall) (eras : List EraPlan) (e : ℕ) → IsFirstBehind calls eras 0 (Some e) → IsVerifierFault calls eras e
first_from_behind calls eras e first =
    record {
      at_fault = first.1;
      first = λ f before fault. elim (cases_eq f 0) [ inl same ↦ era_zero calls eras (subst (IsAtFault calls eras) same fault) | inr apart ↦ first.2 f (omega arith) before fault ];
    }

pub none_from_behind : (calls : List RecordedCall) (eras : List EraPlan) → IsFirstBehind calls eras 0 None → (e : ℕ) → IsAtFault calls eras e → ⊥
none_from_behind calls eras first e fault =
    elim (cases_eq e 0) [ inl same ↦ era_zero calls eras (subst (IsAtFault calls eras) same fault) | inr apart ↦ first e (omega arith) fault ]

-- what was found behind no era
pub found_first : (calls : List RecordedCall) (eras : List EraPlan) (found : Option ℕ) → IsFirstBehind calls eras 0 found
    → MatchOption found (VerifiersAgree calls eras) (IsVerifierFault calls eras)
found_first calls eras None first = agree_from_none calls eras (none_from_behind calls eras first)
found_first calls eras (Some e) first = first_from_behind calls eras e first
