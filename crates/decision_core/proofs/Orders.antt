-- Lists of calls, and why a call that an answered one doesn't precede began by that answer.
use Rattle.std.proofs.Common.{◌≡◌, ◌⊎◌, inl, inr, ℕ, ◌≤◌, List, [], ◌∷◌, ◌++◌, Some, refl, subst}
use Rattle.std.specs.List.{AllByRecursion}
use Rattle.std.proofs.lemmas.Bool.{cases_lt}
use Rattle.decision_core.specs.Times.{Times, Precedes, IsAmong}

-- what holds of all of a list holds of its parts, and the other way round
module _ {X : Type 0} (P : X → Type 0) where
  pub all_ahead : (xs ys : List X) → AllByRecursion P (xs ++ ys) → AllByRecursion P xs
  all_ahead [] ys all = tt
  all_ahead (x ∷ xs) ys all = (all.0, all_ahead xs ys all.1)

  pub all_behind : (xs ys : List X) → AllByRecursion P (xs ++ ys) → AllByRecursion P ys
  all_behind [] ys all = all
  all_behind (x ∷ xs) ys all = all_behind xs ys all.1

-- what holds of all holds of the one that stands there
pub all_at : (P : ℕ → Type 0) (order : List ℕ) (n : ℕ) → AllByRecursion P order → IsAmong order n → P n
all_at P [] n all among = absurd among
all_at P (m ∷ order) n all (inl same) = subst P same all.0
all_at P (m ∷ order) n all (inr among) = all_at P order n all.1 among

-- what holds of each that stands there holds of all
pub all_of_each : (P : ℕ → Type 0) (order : List ℕ) → ((n : ℕ) → IsAmong order n → P n) → AllByRecursion P order
all_of_each P [] each = tt
all_of_each P (m ∷ order) each = (each m (inl refl), all_of_each P order (λ n among. each n (inr among)))

-- a call of a list with one in its middle stands ahead, is that one, or stands behind
pub which_part : (xs : List ℕ) (n : ℕ) (ys : List ℕ) (m : ℕ) → IsAmong (xs ++ n ∷ ys) m → IsAmong xs m ⊎ ((n ≡ m) ⊎ IsAmong ys m)
which_part [] n ys m among = inr among
which_part (x ∷ xs) n ys m (inl same) = inl (inl same)
which_part (x ∷ xs) n ys m (inr among) = elim (which_part xs n ys m among) [ inl a ↦ inl (inr a) | inr b ↦ inr b ]

module _ (times : Times) where
  -- what is answered at this event precedes no call that began by then
  pub began_by : (event n m : ℕ) → times.end_of n ≡ Some event → ¬ Precedes times n m → times.begin_of m ≤ event
  began_by event n m ends not_before =
      elim (cases_lt event (times.begin_of m)) [ inl later ↦ absurd (not_before (event, ends, later)) | inr by ↦ by ]
