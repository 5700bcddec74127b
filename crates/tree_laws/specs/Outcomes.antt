-- Believed.
-- calls with their outcomes
use Rattle.std.specs.Prelude.{◌≡◌, ℕ, Option, Some, None, ⊤}
use Rattle.nfs3_types.specs.declared.calls.NfsCall.{NfsCall}
use Rattle.nfs3_types.specs.declared.replies.Answer.TheVariants.{Done}
use Rattle.nfs3_types.specs.declared.replies.NfsReply.TheVariants as replies
use Rattle.nfs3_types.specs.declared.replies.Outcome.{Outcome}
use Rattle.nfs3_types.specs.declared.replies.Outcome.TheVariants.{Received, Taken}
use Rattle.replay_law.specs.Run as run
use Rattle.nfs3_types.specs.Procedures.{failure_in}

-- a success that was received, or a call that is taken as done though no reply came
abbrev pub IsSuccess : Outcome → Type 0
IsSuccess (Received reply) = failure_in reply ≡ None
IsSuccess (Taken _) = ⊤

-- how many of its bytes a WRITE wrote, by its reply or as it is taken
abbrev pub count_written : Outcome → Option ℕ
count_written (Received (replies.Write (Done success))) = Some success.count
count_written (Received _) = None
count_written (Taken count) = count

-- a call of a run
abbrev pub step : ℕ → NfsCall → Outcome → run.TakenStep NfsCall Outcome
step number call outcome = record { number = number; call = call; outcome = outcome }
