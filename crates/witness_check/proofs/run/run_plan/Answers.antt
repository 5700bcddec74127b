use Rattle.std.proofs.Common.{◌≡◌, List, length, map, OnOk, IfErr, subst}
use Rattle.tree_starts.specs.declared.object.StartObject.{StartObject}
use Rattle.tree_starts.specs.declared.profile.Profile.{Profile}
use Rattle.certificate.specs.declared.plan.EraPlan.{EraPlan}
use Rattle.replay_law.specs.Run.{EveryEraRuns}
use Rattle.tree_handles.specs.Binding.{Bindings}
use Rattle.file_tree.specs.Setting.{next_in}
use Rattle.file_tree.specs.StartTree.{start_tree}
use Rattle.witness_check.specs.Run.{era_of}
use Rattle.witness_check.specs.Running.{TellsEnd}
use Rattle.witness_check.proofs.run.run_plan.Goals as goal

-- what holds of what was read holds of the plan
read : (P : Profile → List StartObject → Bindings → List EraPlan → Type 0) (o p : Profile) (s t : List StartObject) (b d : Bindings) (es fs : List EraPlan) → o ≡ p → s ≡ t → b ≡ d → es ≡ fs
    → P o s b es → P p t d fs
read P o p s t b d es fs same_profile same_start same_binds same_eras h =
    subst (λ x. P x t d fs) same_profile (subst (λ x. P o x d fs) same_start (subst (λ x. P o s x fs) same_binds (subst (λ x. P o s b x) same_eras h)))

pub returns-clause-ok : goal.returns-clause-ok
returns-clause-ok c =
    read (λ p s b es. OnOk c.run_plans.result (EveryEraRuns (next_in p (length s) b) (start_tree s) (map (era_of c.args.history.now.calls) es))) _ _ _ _ _ _ _ _
    c.requires.profile c.requires.start c.requires.binds c.as_slice.ensures c.run_plans.ensures.ok

pub returns-clause-stopped : goal.returns-clause-stopped
returns-clause-stopped c =
    read (λ p s b es. IfErr c.run_plans.result (TellsEnd (next_in p (length s) b) (start_tree s) (map (era_of c.args.history.now.calls) es))) _ _ _ _ _ _ _ _
    c.requires.profile c.requires.start c.requires.binds c.as_slice.ensures c.run_plans.ensures.stopped
