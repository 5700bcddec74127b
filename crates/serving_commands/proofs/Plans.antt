-- Of a text that is none of a run its first bad line is told.
use Rattle.std.proofs.Common.{◌≡◌, ◌⊎◌, inl, inr, ℕ, Result, Err, ap, ◌∙◌}
use Rattle.plan_text.specs.declared.plan.Plan.{Plan}
use Rattle.plan_text.specs.declared.reading.PlanFault.{PlanFault}
use Rattle.plan_text.specs.declared.reading.PlanFault.TheVariants as plans
use Rattle.serving_commands.specs.declared.fault.RunFault.{RunFault}
use Rattle.serving_commands.specs.Told.{plan_told, IsBadPlan}

same_fault : (r : Result Plan PlanFault) (one other : PlanFault) → r ≡ Err one → r ≡ Err other → one ≡ other
same_fault r one other is are = cc (is, are)

pub told_bad : (r : Result Plan PlanFault) (fault : PlanFault) (told : RunFault) (k : ℕ) → r ≡ Err fault → told ≡ plan_told fault
    → (r ≡ Err (plans.BadPlan k)) ⊎ (r ≡ Err plans.NoMemory) → IsBadPlan k told
told_bad r fault told k is gives (inl bad) = inl (gives ∙ ap plan_told (same_fault r fault (plans.BadPlan k) is bad))
told_bad r fault told k is gives (inr none) = inr (gives ∙ ap plan_told (same_fault r fault plans.NoMemory is none))
