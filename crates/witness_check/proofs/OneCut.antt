-- A plan has one first short cut, or keeps what is stable.
use Rattle.std.proofs.Common.{◌≡◌, ℕ, ◌<◌, List, Some, sym, subst, ◌∙◌, arith, inl, inr}
use Rattle.std.proofs.lemmas.Bool.{cases_lt}
use Rattle.std.proofs.lemmas.Option.{same_Some}
use Rattle.order_check.specs.nfs_history_specs.declared.recorded.RecordedCall.{RecordedCall}
use Rattle.certificate.specs.declared.plan.EraPlan.{EraPlan}
use Rattle.tree_handles.specs.Binding.{Bindings}
use Rattle.cut_check.specs.declared.effect.Effect.{Effect}
use Rattle.cut_check.specs.Stable.{IsLastStable}
use Rattle.cut_check.specs.Places.{era_at, effects_of}
use Rattle.cut_check.specs.Cut.{KeepsStable, CutsKeepStable}
use Rattle.cut_check.specs.ShortCut.{IsShortCut}

-- the last stable place is one
one_last : (effects : List Effect) (m n : ℕ) → IsLastStable effects m → IsLastStable effects n → m ≡ n
one_last effects m n x y =
    elim (cases_lt m n) [
      | inl less ↦ absurd (x.last n less (y.stable (omega arith)))
      | inr no_less ↦ elim (cases_lt n m) [ inl more ↦ absurd (y.last m more (x.stable (omega arith))) | inr same ↦ omega arith ]
    ]

module _ (binds : Bindings) (calls : List RecordedCall) (eras : List EraPlan) where
  -- an era with a short cut doesn't keep what is stable
  short_or_keeps : (e needed : ℕ) (x : IsShortCut binds calls eras e needed) → KeepsStable binds calls x.era → ⊥
  short_or_keeps e needed x keeps = let short = x.short in keeps needed short (x.last_stable.stable (omega arith))

  pub cuts_or_short : (e needed : ℕ) → IsShortCut binds calls eras e needed → CutsKeepStable binds calls eras → ⊥
  cuts_or_short e needed x keep = short_or_keeps e needed x (keep e x.era x.there x.not_last)

  not_ahead : (d e m n : ℕ) → d < e → IsShortCut binds calls eras d m → IsShortCut binds calls eras e n → ⊥
  not_ahead d e m n less x y = short_or_keeps d m x (y.first d x.era less x.there)

  one_era : (d e m n : ℕ) → IsShortCut binds calls eras d m → IsShortCut binds calls eras e n → d ≡ e
  one_era d e m n x y =
      elim (cases_lt d e) [
        | inl less ↦ absurd (not_ahead d e m n less x y)
        | inr no_less ↦ elim (cases_lt e d) [ inl more ↦ absurd (not_ahead e d n m more y x) | inr same ↦ omega arith ]
      ]

  pub one_short_cut : (d e m n : ℕ) → IsShortCut binds calls eras d m → IsShortCut binds calls eras e n → (d ≡ e) × (m ≡ n)
  one_short_cut d e m n x y =
      let same : d ≡ e = one_era d e m n x y in
      let there : era_at eras e ≡ Some x.era = subst (λ k. era_at eras k ≡ Some x.era) same x.there in
      let era : x.era ≡ y.era = same_Some x.era y.era (sym there ∙ y.there) in
      (same, one_last (effects_of binds calls y.era.places) m n (subst (λ (z : EraPlan). IsLastStable (effects_of binds calls z.places) m) era x.last_stable) y.last_stable)
