-- For the prover, and for callers.
-- The line at which a text is no longer a plan's (of this project's own format).
use Rattle.std.specs.Prelude.{◌≡◌, ℕ, ◌+◌, List, ◌++◌, length}
use Rattle.std.specs.List.{flat_map, AllByRecursion}
use Rattle.text_words.specs.Words.{Lacks}
use Rattle.plan_text.specs.declared.plan.Plan.{Plan}
use Rattle.plan_text.specs.declared.reading.PlanFault.{PlanFault}
use Rattle.plan_text.specs.declared.reading.PlanFault.TheVariants.{BadPlan, NoMemory}
use Rattle.plan_text.specs.PlanText.{PlanText, line}

-- the text begins some plan's text
pub record Begins (text : List ℕ) : Type 0 where
  pub plan : Plan
  pub rest : List ℕ
  pub whole : PlanText (text ++ rest) plan

-- Line k is bad, counted from 1: the lines ahead of it begin a plan's text; together with it they begin none, or it
-- is missing, or has no line feed; and so the text is no plan's.
pub record IsBadLine (text : List ℕ) (k : ℕ) : Type 0 where
  pub ahead : List (List ℕ)
  pub rest : List ℕ
  pub split : text ≡ flat_map line ahead ++ rest
  pub each_a_line : AllByRecursion (Lacks 10) ahead
  pub counted : length ahead + 1 ≡ k
  pub begins : Begins (flat_map line ahead)
  pub stops : (words more : List ℕ) → rest ≡ line words ++ more → Lacks 10 words → Begins (flat_map line ahead ++ line words) → ⊥
  pub none : (plan : Plan) → PlanText text plan → ⊥

-- a fault with a number names a bad line
abbrev pub FaultHolds : List ℕ → PlanFault → Type 0
FaultHolds text (BadPlan k) = IsBadLine text k
FaultHolds text NoMemory = Unit {0}
