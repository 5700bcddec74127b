-- Believed.
-- A plan of eras that is a witness, so that the definition isn't empty: call 1 is answered in era 1 and lost in its crash, call 2 comes
-- in era 2.
use Rattle.std.specs.Prelude.{◌≡◌, ◌==◌, ℕ, ◌+◌, ◌-◌, ◌*◌, true, false, cond, List, [], ◌∷◌, Some, None}
use Rattle.decision_core.specs.Times.{Times}
use Rattle.decision_core.specs.Eras.{PlanEra, Numbering, IsNumbering, IsEraWitness}

-- calls 1 and 2, crashes 11 and 12; events 1, 2, 4 (the first crash), 5, 6, 7 (the end)
abbrev pub pick : {X : Type 0} → ℕ → X → X → X → X → X → X
pick n a b c d other = cond (n == 1) a (cond (n == 2) b (cond (n == 11) c (cond (n == 12) d other)))

abbrev pub times : Times
times = record { is_call = λ n. pick n true true true true false; begin_of = λ n. pick n 1 5 4 7 0; end_of = λ n. pick n (Some 2) (Some 6) (Some 4) (Some 7) None }

abbrev pub by : Numbering
by = record { is_real = λ n. pick n true true false false false; is_stable = λ n. n == 2; era_of = λ n. pick n 1 2 1 2 0; crash = λ e. 10 + e; saves = λ n m. false }

-- the eras begin at events 1 and 4, and the second ends at 7
abbrev pub start : ℕ → ℕ
start e = 3 * e - 2

abbrev pub plan : List PlanEra
plan = record { kept = []; lost = 1 ∷ [] } ∷ (record { kept = 2 ∷ []; lost = [] } ∷ [])

-- each call changes the tree to its own number
abbrev pub Change : ℕ → ℕ → ℕ → Type 0
Change tree n after = after ≡ n

-- the numbering is one, and the plan is a witness
abbrev pub SomePlanIsWitness : Type 0
SomePlanIsWitness = IsNumbering times by 2 start × IsEraWitness Change times by 2 0 plan
