use Rattle.std.proofs.Common.{◌≢◌, ◌⊎◌, inl, inr, rules}
use Rattle.order_check.specs.nfs_history_specs.declared.fault.HistoryFault.TheVariants as faults
use Rattle.witness_check.proofs.verdict.verdict_on.Goals as goal

-- of two, the one that is left
left : {P Q : Type 0} → P ⊎ Q → (P → ⊥) → Q
left (inl p) none = absurd (none p)
left (inr q) none = q

pub returns-in-Err : goal.returns-in-Err
returns-in-Err c =
    λ file found at.
    let another : c.in-Err.fault ≢ faults.NoMemory = search rules in
    left (rw c.in-Err.is at at) another
