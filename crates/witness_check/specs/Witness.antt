-- Believed.
-- When a plan is a witness of a history, and what two files show with a yes: buffered durable linearizability (Izraelevitz,
-- Mendes and Scott 2016, section 4) with one serial order for the whole history, of which a crash loses the end of an era
-- (Herlihy and Wing 1990, section 2.2, for what a serial order has to keep to).
use Rattle.std.specs.Prelude.{ℕ, List}
use Rattle.order_check.specs.nfs_history_specs.declared.knowing.KnownCalls.{KnownCalls}
use Rattle.order_check.specs.nfs_history_specs.History.{IsCallsFile}
use Rattle.certificate.specs.declared.plan.Certificate.{Certificate}
use Rattle.certificate.specs.CertificateText.{CertificateText}
use Rattle.order_check.specs.Shape.{HasShape}
use Rattle.order_check.specs.Order.{EachEraRespectsOrder}
use Rattle.cut_check.specs.Places.{bindings_of}
use Rattle.cut_check.specs.Cut.{CutsKeepStable}
use Rattle.cut_check.specs.Verifier.{VerifiersAgree}
use Rattle.witness_check.specs.Run.{Runs}

pub record IsWitness (history : KnownCalls) (plan : Certificate) : Type 0 where
  -- the plan has the history's shape: each answered judged call has its place, and no call another
  pub shape : HasShape history.eras history.calls plan.eras
  -- it puts no call ahead of one that had ended before it began
  pub order : EachEraRespectsOrder history.calls plan.eras
  -- it gives every received reply, each era from the tree that was kept of those ahead of it
  pub runs : Runs history plan
  -- no crash takes a stable place away
  pub cuts : CutsKeepStable (bindings_of history.head.root plan.binds) history.calls plan.eras
  -- the write verifiers show each loss
  pub verifiers : VerifiersAgree history.calls plan.eras

-- the first text is the file of a history, which has the certificate that the second text spells as a witness
pub record AreAccepted (history_file certificate_text : List ℕ) : Type 0 where
  pub history : KnownCalls
  pub plan : Certificate
  pub file : IsCallsFile history_file history
  pub text : CertificateText certificate_text plan
  pub witness : IsWitness history plan
