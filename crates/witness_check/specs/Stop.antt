-- For the prover, and for callers.
-- Where a run stops (words of this project's own): the tree that the first illegal step finds.
use Rattle.std.specs.Prelude.{◌≡◌, ℕ, List, Some, Option}
use Rattle.nfs3_types.specs.declared.calls.NfsCall.{NfsCall}
use Rattle.nfs3_types.specs.declared.replies.Outcome.{Outcome}
use Rattle.order_check.specs.nfs_history_specs.declared.knowing.KnownCalls.{KnownCalls}
use Rattle.certificate.specs.declared.plan.Certificate.{Certificate}
use Rattle.replay_law.specs.Run.{Era, TakenStep, state_after, IsFirstIllegal, IsFirstIllegalInEras}
use Rattle.tree_nodes.specs.Tree.{Tree}
use Rattle.witness_check.specs.declared.verdict.Judgement.{Judgement}
use Rattle.witness_check.specs.declared.verdict.Judgement.TheVariants as found
use Rattle.witness_check.specs.declared.fault.Fault.{Fault}
use Rattle.witness_check.specs.declared.fault.Fault.TheVariants as faults
use Rattle.witness_check.specs.Run.{eras_of, next_of, base_of}
use Rattle.witness_check.specs.Witness.{IsWitness}
use Rattle.witness_check.specs.Verdict.{Ordered, IsPlanFault}

module _ (next : Tree → ℕ → NfsCall → Outcome → Option Tree) where
  -- the first step that has no next tree is of this call, and what stands ahead of it leads to this tree
  pub record IsFirstStop (start : Tree) (steps : List (TakenStep NfsCall Outcome)) (number : ℕ) (tree : Tree) : Type 0 where
    pub first : IsFirstIllegal next start steps number
    pub there : state_after next start first.ahead ≡ Some tree

  -- the same of eras, of which each runs from what those ahead of it kept
  pub record IsStopInEras (start : Tree) (eras : List (Era NfsCall Outcome)) (number : ℕ) (tree : Tree) : Type 0 where
    pub stuck : IsFirstIllegalInEras next start eras number
    pub there : state_after next stuck.base stuck.first.ahead ≡ Some tree

-- the plan has its shape and its order, and its run stops at this call, on this tree
abbrev pub IsStop : KnownCalls → Certificate → ℕ → Tree → Type 0
IsStop history plan number tree = Ordered history plan × IsStopInEras (next_of history plan) (base_of history) (eras_of history plan) number tree

-- a fault that isn't that of the run
abbrev pub IsNoStop : Fault → Type 0
IsNoStop (faults.Illegal number) = ⊥
IsNoStop fault = Unit {0}

-- what is found of a plan, with the tree where its run stops
abbrev pub IsJudged : KnownCalls → Certificate → Judgement → Type 0
IsJudged history plan found.Yes = IsWitness history plan
IsJudged history plan (found.No fault) = IsPlanFault history plan fault × IsNoStop fault
IsJudged history plan (found.Stopped stop) = IsPlanFault history plan (faults.Illegal stop.number) × IsStop history plan stop.number stop.tree
