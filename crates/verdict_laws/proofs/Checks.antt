-- what both examples of the laws are checked by
use Rattle.std.proofs.Common.{◌≡◌, ℕ, zero, suc, ◌+◌, ◌<◌, ◌≤◌, List, [], ◌∷◌, length, Some, sym, ◌∙◌, subst, arith}
use Rattle.std.specs.Prelude.{Contains, slice_index_or}
use Rattle.std.specs.List.{AllByRecursion}
use Rattle.nfs_history.specs.declared.recorded.RecordedCall.{RecordedCall}
use Rattle.nfs_history.specs.Precedence.{begin_of, end_of, Precedes}
use Rattle.certificate.specs.declared.plan.EraPlan.{EraPlan}
use Rattle.certificate.specs.declared.plan.Place.{Place}
use Rattle.tree_nodes.proofs.Chains.{same_some}
use Rattle.cut_check.specs.Places.{era_at}
use Rattle.cut_check.specs.Verifier.{verifier_at, Shows, VerifiersAgree}

-- ---- the order of the calls

pub not_before : (calls : List RecordedCall) (j i ended began : ℕ) → end_of calls j ≡ Some ended → begin_of calls i ≡ began → began ≤ ended → ¬ Precedes calls j i
not_before calls j i ended began ends begins after before = let same = same_some ended before.0 (sym ends ∙ before.1) in omega (arith, same, begins, before.2)

-- ---- the verifiers

in_all : {A : Type 0} (P : A → Type 0) (xs : List A) (x : A) → AllByRecursion P xs → Contains xs x → P x
in_all P [] x all has = absurd (omega (arith, has.1))
in_all P (y ∷ xs) x all has = go has.0 has.1 has.2 (λ later. in_all P xs x all.1 later) where
  go : (k : ℕ) → k < length (y ∷ xs) → slice_index_or (y ∷ xs) k x ≡ x → (Contains xs x → P x) → P x
  go zero less at others = subst P at all.0
  go (suc k) less at others = others (k, omega arith, at)

-- places that show no verifier but this one
abbrev pub ShowOnly : List RecordedCall → List Place → ℕ → Type 0
ShowOnly calls places verifier = AllByRecursion (λ place. (shown : ℕ) → verifier_at calls place ≡ Some shown → shown ≡ verifier) places

-- era e shows none but 6 + e
abbrev pub EachShowsOnly : List RecordedCall → List EraPlan → Type 0
EachShowsOnly calls eras = (e : ℕ) (era : EraPlan) → era_at eras e ≡ Some era → ShowOnly calls era.places (6 + e)

pub all_agree : (calls : List RecordedCall) (eras : List EraPlan) → EachShowsOnly calls eras → VerifiersAgree calls eras
all_agree calls eras each = record {
  within = λ e v w era there shown other. is_shown e v era there shown ∙ sym (is_shown e w era there other);
  across = λ e g v era later before there there_later lost shown shown_later.
      let first = is_shown e v era there shown in
      let second = is_shown g v later there_later shown_later in
      omega arith;
} where
  is_shown : (e v : ℕ) (era : EraPlan) → era_at eras e ≡ Some era → Shows calls era.places v → v ≡ 6 + e
  is_shown e v era there shown = in_all (λ place. (w : ℕ) → verifier_at calls place ≡ Some w → w ≡ 6 + e) era.places shown.0 (each e era there) shown.1 v shown.2
