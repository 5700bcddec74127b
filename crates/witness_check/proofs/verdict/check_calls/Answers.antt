use Rattle.std.proofs.Common.{◌≡◌, Result, Ok, Err, IfOk}
use Rattle.std.specs.declared.alloc.AllocError.{AllocError}
use Rattle.order_check.specs.nfs_history_specs.declared.knowing.KnownCalls.{KnownCalls}
use Rattle.certificate.specs.declared.plan.Certificate.{Certificate}
use Rattle.witness_check.specs.declared.verdict.Verdict.{Verdict}
use Rattle.witness_check.specs.Verdict.{IsVerdict}
use Rattle.witness_check.proofs.OneVerdict.{one_verdict}
use Rattle.witness_check.proofs.verdict.check_calls.Goals as goal

-- an answer that is the verdict is the only one
the_only : (history : KnownCalls) (plan : Certificate) (r : Result Verdict AllocError) → IfOk r (IsVerdict history plan) → (verdict : Verdict)
    → IsVerdict history plan verdict → IfOk r (λ given. given ≡ verdict)
the_only history plan (Ok given) is verdict other = one_verdict history plan given verdict is other
the_only history plan (Err none) is verdict other = tt

pub returns-clause-only : goal.returns-clause-only
returns-clause-only c = the_only c.args.history.now c.args.certificate.now c.verdict_of.result c.verdict_of.ensures
