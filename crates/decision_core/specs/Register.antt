-- For the prover.
-- A register as a machine: a call below 100 writes its number, another one reads and answers its number less 100.
use Rattle.std.proofs.Common.{◌≡◌, ◌==◌, ◌||◌, ℕ, ◌-◌, Bool, true, false, cond, nat_lt, List, [], ◌∷◌, ◌++◌, Option, Some, None, Contains, refl, sym, ap, ◌∙◌}
use Rattle.std.specs.List.{list_any}
use Rattle.std.proofs.lemmas.Bool.{eq-eqb, ne_eqb}
use Rattle.decision_core.specs.Decide.{IsTold}

pub record RegisterState : Type 0 where
  pub value : ℕ
  pub calls : List ℕ

abbrev pub register_first : RegisterState
register_first = record { value = 0; calls = [] }

abbrev pub moved : RegisterState → ℕ → ℕ → RegisterState
moved state value n = record { value = value; calls = state.calls ++ n ∷ [] }

abbrev pub register_step : RegisterState → ℕ → Option RegisterState
register_step state n = cond (nat_lt n 100) (Some (moved state n n)) (cond (n - 100 == state.value) (Some (moved state state.value n)) None)

abbrev pub register_next : RegisterState → ℕ → RegisterState → Type 0
register_next state n after = register_step state n ≡ Some after

abbrev pub register_placed : RegisterState → ℕ → Bool
register_placed state n = list_any (λ m. m == n) state.calls

-- each state stands for itself
abbrev pub StandsForItself : RegisterState → RegisterState → Type 0
StandsForItself point state = point ≡ state

-- one of the registers is the one behind the call, where it isn't placed and may be
abbrev pub HasRegisterStep : List RegisterState → ℕ → RegisterState → Type 0
HasRegisterStep states n register = (after : RegisterState) → register_placed register n ≡ false → register_next register n after → Contains states after

-- ---- a register tells what is placed

any_push : (test : ℕ → Bool) (xs : List ℕ) (x : ℕ) → list_any test (xs ++ x ∷ []) ≡ (list_any test xs || test x)
any_push test [] x = or_false (test x) where
  or_false : (b : Bool) → (b || false) ≡ b
  or_false true = refl
  or_false false = refl
any_push test (y ∷ xs) x = ap (λ b. test y || b) (any_push test xs x) ∙ or_assoc (test y) (list_any test xs) (test x) where
  or_assoc : (a b c : Bool) → (a || (b || c)) ≡ ((a || b) || c)
  or_assoc true b c = refl
  or_assoc false b c = refl

or_true : (b : Bool) → (b || true) ≡ true
or_true true = refl
or_true false = refl

or_false : (b : Bool) → (b || false) ≡ b
or_false true = refl
or_false false = refl

-- the calls behind a step
step_calls : (b c : Bool) (state after : RegisterState) (n : ℕ) → cond b (Some (moved state n n)) (cond c (Some (moved state state.value n)) None) ≡ Some after → after.calls ≡ state.calls ++ n ∷ []
step_calls true c state after n is = let same : moved state n n ≡ after = cc in ap (λ s. s.calls) (sym same)
step_calls false true state after n is = let same : moved state state.value n ≡ after = cc in ap (λ s. s.calls) (sym same)
step_calls false false state after n is = absurd cc

pub register_told : IsTold register_placed register_next
register_told = record {
  adds = λ state after n is.
      ap (list_any (λ m. m == n)) (step_calls (nat_lt n 100) (n - 100 == state.value) state after n is)
      ∙ (any_push (λ m. m == n) state.calls n ∙ (ap (λ b. list_any (λ m. m == n) state.calls || b) (eq-eqb n n refl) ∙ or_true (list_any (λ m. m == n) state.calls)));
  keeps = λ state after n m is other.
      ap (list_any (λ k. k == m)) (step_calls (nat_lt n 100) (n - 100 == state.value) state after n is)
      ∙ (any_push (λ k. k == m) state.calls n ∙ (ap (λ b. list_any (λ k. k == m) state.calls || b) (ne_eqb n m (λ same. other (sym same))) ∙ or_false (list_any (λ k. k == m) state.calls)));
}
