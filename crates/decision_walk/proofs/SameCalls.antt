-- lists with the same calls
use Rattle.std.proofs.Common.{◌≡◌, ◌⊎◌, inl, inr, ℕ, ◌+◌, ◌<◌, Bool, true, false, List, [], ◌∷◌, length, drop, get_or, refl, sym, ap, ◌∙◌, subst}
use Rattle.std.specs.Prelude.{◌==◌}
use Rattle.std.proofs.lemmas.Bool.{eqb-true, or_cases, true≢false}
use Rattle.std.proofs.lemmas.List.{at_drop_more}
use Rattle.decision_walk.specs.Standing.{has_call}

-- a call of these is one of the others, or of what is left
abbrev pub IsThereOr : List ℕ → List ℕ → List ℕ → ℕ → Type 0
IsThereOr calls others left n = has_call calls n ≡ true → (has_call others n ≡ true) ⊎ (has_call left n ≡ true)

one_less : (calls others left : List ℕ) (x n : ℕ) → has_call others x ≡ true → IsThereOr calls others (x ∷ left) n → IsThereOr calls others left n
one_less calls others left x n there so_far here = elim (so_far here) [
  | inl known ↦ inl known
  | inr among ↦ elim (or_cases (x == n) (has_call left n) among) [
    | inl same ↦ inl (subst (λ k. has_call others k ≡ true) (eqb-true x n same) there)
    | inr behind ↦ inr behind
  ]
]

pub next_less : (calls others : List ℕ) (i : ℕ) → i < length calls → has_call others (get_or calls i 0) ≡ true → ((n : ℕ) → IsThereOr calls others (drop i calls) n)
    → (n : ℕ) → IsThereOr calls others (drop (i + 1) calls) n
next_less calls others i inside there so_far n =
    one_less calls others (drop (i + 1) calls) (get_or calls i 0) n there
    (λ here. subst (λ (b : Bool). (has_call others n ≡ true) ⊎ (b ≡ true)) (at_drop_more (λ xs. has_call xs n) calls i 0 inside) (so_far n here))

pub at_first : (calls others : List ℕ) (n : ℕ) → IsThereOr calls others calls n
at_first calls others n here = inr here

pub at_last : (calls others left : List ℕ) → left ≡ [] → ((n : ℕ) → IsThereOr calls others left n) → (n : ℕ) → has_call calls n ≡ true → has_call others n ≡ true
at_last calls others left none so_far n here = elim (so_far n here) [
  | inl there ↦ there
  | inr among ↦ absurd (true≢false (sym among ∙ ap (λ xs. has_call xs n) none))
]

both_same : (a b : Bool) → (a ≡ true → b ≡ true) → (b ≡ true → a ≡ true) → a ≡ b
both_same true b first second = sym (first refl)
both_same false true first second = second refl
both_same false false first second = refl

pub same_calls : (calls others : List ℕ) → ((n : ℕ) → has_call calls n ≡ true → has_call others n ≡ true) → ((n : ℕ) → has_call others n ≡ true → has_call calls n ≡ true) → (n : ℕ)
    → has_call calls n ≡ has_call others n
same_calls calls others first second n = both_same (has_call calls n) (has_call others n) (first n) (second n)
