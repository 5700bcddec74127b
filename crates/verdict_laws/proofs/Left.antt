-- a WRITE that reached stable storage is left by the crash
use Rattle.std.proofs.Common.{◌≡◌, ◌≢◌, ℕ, zero, suc, ◌+◌, ◌<◌, List, [], ◌∷◌, ◌++◌, length, take, map, Option, Some, refl, sym, ap, ◌∙◌, subst, arith, inl, inr, length-append}
use Rattle.std.specs.List.{slice_get}
use Rattle.std.specs.Option.{option_map_or}
use Rattle.std.proofs.lemmas.Bool.{cases_lt}
use Rattle.std.proofs.lemmas.List.{map-append, length-map}
use Rattle.nfs3_types.specs.declared.calls.StableHow.{StableHow}
use Rattle.nfs3_types.specs.declared.calls.StableHow.TheVariants.{Unstable, DataSync, FileSync}
use Rattle.nfs3_types.specs.declared.calls.NfsCall.{NfsCall}
use Rattle.nfs3_types.specs.declared.replies.Outcome.{Outcome}
use Rattle.nfs_history.specs.declared.recorded.RecordedCall.{RecordedCall}
use Rattle.certificate.specs.declared.plan.EraPlan.{EraPlan}
use Rattle.certificate.specs.declared.plan.Place.{Place}
use Rattle.certificate.specs.Plan.{cut_of}
use Rattle.tree_handles.specs.Binding.{Bindings}
use Rattle.cut_check.specs.declared.effect.Effect.{Effect}
use Rattle.cut_check.specs.declared.effect.Effect.TheVariants.{Nothing, Lasting}
use Rattle.cut_check.specs.Effect.{at_level, effect_of}
use Rattle.cut_check.specs.Places.{bindings_of, era_at, object_written, effect_at, effects_of}
use Rattle.cut_check.specs.Stable.{IsStable, IsStableAt}
use Rattle.verdict_laws.specs.Kept.{SyncedIsLeft}

-- the era behind so many others
there : (ahead behind : List EraPlan) (era : EraPlan) → slice_get (ahead ++ era ∷ behind) (length ahead) ≡ Some era
there [] behind era = refl
there (first ∷ ahead) behind era = there ahead behind era

-- a front that reaches past a place has it
reaches : (n : ℕ) (first more : List Place) (place : Place) → length first < n → (kept : List Place) × (take n (first ++ place ∷ more) ≡ first ++ place ∷ kept)
reaches zero first more place past = absurd (omega arith)
reaches (suc n) [] more place past = (take n more, refl)
reaches (suc n) (one ∷ first) more place past =
    let later = reaches n first more place (omega arith) in
    (later.0, ap (λ (xs : List Place). one ∷ xs) later.1)

lasts : (level : StableHow) (effect : Effect) → level ≢ Unstable → at_level level effect ≡ Lasting
lasts Unstable effect stable = absurd (stable refl)
lasts DataSync effect stable = refl
lasts FileSync effect stable = refl

stable_there : (binds : Bindings) (calls : List RecordedCall) (places first more : List Place) (place : Place) → places ≡ first ++ place ∷ more → effect_at binds calls place ≡ Lasting
    → IsStableAt (effects_of binds calls places) (length first + 1)
stable_there binds calls places first more place is lasting =
    let effects = map (effect_at binds calls) in
    record {
      ahead = effects first;
      here = effect_at binds calls place;
      behind = effects more;
      stands = ap effects is ∙ map-append (effect_at binds calls) first (place ∷ more);
      number = omega (arith, length-map first (effect_at binds calls));
      stable = subst (λ e. IsStable e (effects more)) (sym lasting) tt;
    }

pub synced_is_left : SyncedIsLeft
synced_is_left history plan ahead behind era next first more place write success witness eras places answered stable =
    let binds = bindings_of history.head.root plan.binds in
    let effect : effect_at binds history.calls place ≡ Lasting =
    ap (λ (o : Option (NfsCall × Outcome)). option_map_or (λ a. effect_of (object_written binds a.0) a.0 a.1) o Nothing) answered ∙ lasts success.level _ stable in
    let stands = stable_there binds history.calls era.places first more place places effect in
    let at : era_at plan.eras (suc (length ahead)) ≡ Some era = ap (λ (eras : List EraPlan). slice_get eras (length ahead)) eras ∙ there ahead (next ∷ behind) era in
    let ended : suc (length ahead) < length plan.eras = omega (arith, ap length eras, length-append ahead (era ∷ next ∷ behind)) in
    let parts : (kept : List Place) × (take (cut_of era) (first ++ place ∷ more) ≡ first ++ place ∷ kept) = elim (cases_lt (length first) (cut_of era)) [
      | inl past ↦ reaches (cut_of era) first more place past
      | inr lost ↦ absurd (witness.cuts (suc (length ahead)) era at ended (length first + 1) (omega arith) stands)
    ] in
    (parts.0, ap (take (cut_of era)) places ∙ parts.1)
