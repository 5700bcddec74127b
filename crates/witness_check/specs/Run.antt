-- Believed.
-- The run of a plan (a legal sequential history, Herlihy and Wing 1990, section 2.1; what a crash leaves,
-- Izraelevitz, Mendes and Scott 2016): from the tree that stood at first, each era from what the eras ahead of it kept.
use Rattle.std.specs.Prelude.{ℕ, List, length, take, map, Option, Some, None, option_and_then}
use Rattle.std.specs.List.{filter_map}
use Rattle.nfs3_types.specs.declared.calls.NfsCall.{NfsCall}
use Rattle.nfs3_types.specs.declared.replies.Outcome.{Outcome}
use Rattle.nfs3_types.specs.declared.replies.Outcome.TheVariants as outcomes
use Rattle.order_check.specs.nfs_history_specs.declared.recorded.Meaning.{Meaning}
use Rattle.order_check.specs.nfs_history_specs.declared.recorded.Meaning.TheVariants as meanings
use Rattle.order_check.specs.nfs_history_specs.declared.recorded.RecordedCall.{RecordedCall}
use Rattle.order_check.specs.nfs_history_specs.declared.knowing.KnownCalls.{KnownCalls}
use Rattle.order_check.specs.nfs_history_specs.Precedence.{call_at}
use Rattle.certificate.specs.declared.plan.Place.{Place}
use Rattle.certificate.specs.declared.plan.Place.TheVariants.{Answered, Taken}
use Rattle.certificate.specs.declared.plan.EraPlan.{EraPlan}
use Rattle.certificate.specs.declared.plan.Certificate.{Certificate}
use Rattle.certificate.specs.Plan.{cut_of}
use Rattle.replay_law.specs.Run.{Era, EveryEraRuns}
use Rattle.replay_law.specs.Run as run
use Rattle.tree_nodes.specs.Tree.{Tree}
use Rattle.cut_check.specs.Places.{bindings_of}
use Rattle.file_tree.specs.Setting.{next_in}
use Rattle.file_tree.specs.StartTree.{start_tree}

-- a judged call with an outcome, as a step of the run
abbrev pub step_with : ℕ → Meaning → Outcome → Option (run.TakenStep NfsCall Outcome)
step_with n (meanings.Judged call) outcome = Some (record { number = n; call = call; outcome = outcome })
step_with n meanings.Unjudged outcome = None

abbrev pub step_of_call : Place → RecordedCall → Option (run.TakenStep NfsCall Outcome)
step_of_call (Answered n) call = option_and_then (step_with n call.meaning) call.outcome
step_of_call (Taken n count) call = step_with n call.meaning (outcomes.Taken count)

-- the step at a place: the call with its received reply, or as taken. Where the plan has its shape each place has one.
abbrev pub step_at : List RecordedCall → Place → Option (run.TakenStep NfsCall Outcome)
step_at calls (Answered n) = option_and_then (step_of_call (Answered n)) (call_at calls n)
step_at calls (Taken n count) = option_and_then (step_of_call (Taken n count)) (call_at calls n)

-- the steps of these places
abbrev pub steps_of : List RecordedCall → List Place → List (run.TakenStep NfsCall Outcome)
steps_of calls places = filter_map (step_at calls) places

-- an era of a plan: the steps of its places, of which those of the places ahead of the cut are kept
abbrev pub era_of : List RecordedCall → EraPlan → Era NfsCall Outcome
era_of calls era = record { steps = steps_of calls era.places; kept = length (steps_of calls (take (cut_of era) era.places)) }

abbrev pub eras_of : KnownCalls → Certificate → List (Era NfsCall Outcome)
eras_of history plan = map (era_of history.calls) plan.eras

-- what a call does to the tree, where it can have come out so
abbrev pub next_of : KnownCalls → Certificate → Tree → ℕ → NfsCall → Outcome → Option Tree
next_of history plan = next_in history.head.profile (length history.head.start) (bindings_of history.head.root plan.binds)

-- what stood at first
abbrev pub base_of : KnownCalls → Tree
base_of history = start_tree history.head.start

-- every era of the plan runs, from the tree that the places kept ahead of it lead to
abbrev pub Runs : KnownCalls → Certificate → Type 0
Runs history plan = EveryEraRuns (next_of history plan) (base_of history) (eras_of history plan)
