use Rattle.std.proofs.Common.{◌≡◌, ◌⊎◌, ℕ, Err, subst}
use Rattle.nfs_history.specs.HistoryValue.{CallsValue}
use Rattle.cut_check.specs.declared.fault.VerifierFault.TheVariants.{Verifier, NoMemory}
use Rattle.cut_check.specs.VerifierFault.{IsVerifierFault}
use Rattle.cut_check.proofs.verifier.check_verifiers.Goals as goal

pub returns-clause-named : goal.returns-clause-named
returns-clause-named c =
    subst (λ (k : CallsValue). (e : ℕ) → IsVerifierFault k.calls c.args.certificate.now.eras e
    → (c.check_verifiers_of_calls.result ≡ Err (Verifier e)) ⊎ (c.check_verifiers_of_calls.result ≡ Err NoMemory)) c.lend.ensures c.check_verifiers_of_calls.ensures.named
