use Rattle.std.proofs.Common.{◌≡◌, ◌⊎◌, inl, inr, ℕ, List, Ok, Err, Result, MatchResult, refl, ap}
use Rattle.plan_text.specs.declared.plan.Plan.{Plan}
use Rattle.plan_text.specs.declared.reading.PlanFault.{PlanFault}
use Rattle.plan_text.specs.declared.reading.PlanFault.TheVariants.{BadPlan, NoMemory}
use Rattle.plan_text.specs.PlanText.{PlanText}
use Rattle.plan_text.specs.BadLine.{IsBadLine, FaultHolds}
use Rattle.plan_text.proofs.OneBadLine.{IsBadLine-same}
use Rattle.plan_text.proofs.OneMeaning.{plan_same}
use Rattle.plan_text.proofs.reading.read_plan.Goals as goal

only : (text : List ℕ) (r : Result Plan PlanFault) → MatchResult r (PlanText text) (FaultHolds text) → (c : Plan) → PlanText text c → (r ≡ Ok c) ⊎ (r ≡ Err NoMemory)
only text (Ok d) h c whole = inl (ap (λ x. Ok x) (plan_same d c text h whole))
only text (Err (BadPlan k)) h c whole = absurd (h.none c whole)
only text (Err NoMemory) h c whole = inr refl

named : (text : List ℕ) (r : Result Plan PlanFault) → MatchResult r (PlanText text) (FaultHolds text) → (k : ℕ) → IsBadLine text k → (r ≡ Err (BadPlan k)) ⊎ (r ≡ Err NoMemory)
named text (Ok d) h k bad = absurd (bad.none d h)
named text (Err (BadPlan j)) h k bad = inl (ap (λ n. Err (BadPlan n)) (IsBadLine-same text j k h bad))
named text (Err NoMemory) h k bad = inr refl

pub returns-clause-only : goal.returns-clause-only
returns-clause-only c = only c.args.text.now c.read_lines.result c.read_lines.ensures

pub returns-clause-named : goal.returns-clause-named
returns-clause-named c = named c.args.text.now c.read_lines.result c.read_lines.ensures
