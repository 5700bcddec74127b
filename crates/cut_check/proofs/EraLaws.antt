-- The eras of a plan, each with its cut.
use Rattle.std.proofs.Common.{◌≡◌, ℕ, suc, ◌<◌, ◌≤◌, ◌+◌, List, length, get_or, Option, Some, None, MatchOption, refl, sym, ap, subst, ◌∙◌, arith, inl, inr}
use Rattle.std.proofs.lemmas.Bool.{cases_eq}
use Rattle.std.proofs.lemmas.Option.{none-some, same_Some, slice_get_read}
use Rattle.nfs_history.specs.declared.recorded.RecordedCall.{RecordedCall}
use Rattle.certificate.specs.declared.plan.EraPlan.{EraPlan}
use Rattle.certificate.specs.Plan.{cut_of}
use Rattle.nfs_history.specs.HistoryValue.{CallsValue}
use Rattle.certificate.specs.declared.plan.Bind.{Bind}
use Rattle.tree_handles.specs.Binding.{Bindings}
use Rattle.cut_check.specs.Stable.{IsLastStable}
use Rattle.cut_check.specs.Places.{bindings_of, era_at, effects_of}
use Rattle.cut_check.specs.Cut.{KeepsStable, CutsKeepStable}
use Rattle.cut_check.specs.ShortCut.{IsShortCut}

pub era_there : (eras : List EraPlan) (k : ℕ) (era : EraPlan) → k < length eras → era ≡ get_or eras k era → era_at eras (k + 1) ≡ Some era
era_there eras k era within is =
    let e : k + 1 ≡ suc k = omega arith in
    subst (λ n. era_at eras n ≡ Some era) (sym e) (slice_get_read eras (length eras) k era refl within is)

-- a value that isn't there decides between two facts
pub of_none : {X : Type 0} (o : Option X) (P : Type 0) (Q : X → Type 0) → MatchOption o P Q → o ≡ None → P
of_none None P Q h is = h
of_none (Some x) P Q h is = absurd (none-some x (sym is))

module _ (binds : Bindings) (calls : List RecordedCall) (eras : List EraPlan) (number needed : ℕ) (era : EraPlan)
    (here : era_at eras number ≡ Some era) (last : IsLastStable (effects_of binds calls era.places) needed)
    (ahead : (e : ℕ) (other : EraPlan) → era_at eras e ≡ Some other → e < number → KeepsStable binds calls other) where
  pub short_here : number < length eras → cut_of era < needed → IsShortCut binds calls eras number needed
  short_here before short = record {
    era = era;
    there = here;
    not_last = before;
    last_stable = last;
    short = short;
    first = λ e other less there. ahead e other there less;
  }

  pub keeps_one_more : needed ≤ cut_of era → (e : ℕ) (other : EraPlan) → era_at eras e ≡ Some other → e < number + 1 → KeepsStable binds calls other
  keeps_one_more enough e other there less =
      elim (cases_eq e number) [
        | inr apart ↦ ahead e other there (omega arith)
        | inl same ↦
            let is : era ≡ other = same_Some era other (sym here ∙ ap (era_at eras) (sym same) ∙ there) in
            subst (KeepsStable binds calls) is (λ position past. last.last position (omega arith))
      ]

pub keeps_along : (binds binds' : Bindings) (calls : List RecordedCall) (eras eras' : List EraPlan) → binds ≡ binds' → eras ≡ eras'
    → CutsKeepStable binds calls eras → CutsKeepStable binds' calls eras'
keeps_along binds binds' calls eras eras' a b keeps =
    subst (λ x. CutsKeepStable x calls eras') a (subst (λ x. CutsKeepStable binds calls x) b keeps)

-- what holds of calls that are lent, and of what a plan's handles name in them, holds of the history's
pub lent_along : (P : Bindings → CallsValue → Type 0) (b : Bindings) (k l : CallsValue) (binds : List Bind) → k ≡ l → b ≡ bindings_of k.head.root binds → P b k → P (bindings_of l.head.root binds) l
lent_along P b k l binds same is h = subst (λ x. P (bindings_of x.head.root binds) x) same (subst (λ x. P x k) is h)
