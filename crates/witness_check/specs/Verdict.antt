-- Believed.
-- The verdict on a history and a plan, and on two texts: that the plan is a witness, or the first fault, in this order: the
-- history's, the certificate's text's, the plan's shape, its order, its run, its cuts, its write verifiers (an order of this
-- project's own).
use Rattle.std.specs.Prelude.{◌≡◌, ◌⊎◌, ℕ, List, Some}
use Rattle.order_check.specs.nfs_history_specs.declared.knowing.KnownCalls.{KnownCalls}
use Rattle.order_check.specs.nfs_history_specs.History.{IsCallsFile}
use Rattle.order_check.specs.nfs_history_specs.FirstFault.{FirstFault}
use Rattle.certificate.specs.declared.plan.Certificate.{Certificate}
use Rattle.certificate.specs.declared.reading.TextFault.{TextFault}
use Rattle.certificate.specs.declared.reading.TextFault.TheVariants.{BadLine, NoMemory}
use Rattle.certificate.specs.CertificateText.{CertificateText}
use Rattle.certificate.specs.BadLine.{IsBadLine}
use Rattle.order_check.specs.declared.fault.ShapeFault.{ShapeFault}
use Rattle.order_check.specs.declared.fault.OrderFault.{OrderFault}
use Rattle.order_check.specs.FirstFault.{shape_fault}
use Rattle.order_check.specs.Shape.{HasShape}
use Rattle.order_check.specs.Order.{EachEraRespectsOrder, IsEarlyFault}
use Rattle.replay_law.specs.Run.{IsFirstIllegalInEras}
use Rattle.cut_check.specs.Places.{bindings_of}
use Rattle.cut_check.specs.Cut.{CutsKeepStable}
use Rattle.cut_check.specs.ShortCut.{IsShortCut}
use Rattle.cut_check.specs.VerifierFault.{IsVerifierFault}
use Rattle.witness_check.specs.declared.fault.Fault.{Fault}
use Rattle.witness_check.specs.declared.fault.Fault.TheVariants as faults
use Rattle.witness_check.specs.declared.fault.CheckFault.TheVariants.{No}
use Rattle.witness_check.specs.declared.verdict.Verdict.{Verdict}
use Rattle.witness_check.specs.declared.verdict.Verdict.TheVariants as told
use Rattle.witness_check.specs.declared.verdict.FileVerdict.{FileVerdict}
use Rattle.witness_check.specs.declared.verdict.FileVerdict.TheVariants as told_of_files
use Rattle.witness_check.specs.Faults.{of_shape, of_order}
use Rattle.witness_check.specs.Run.{eras_of, next_of, base_of, Runs}
use Rattle.witness_check.specs.Witness.{IsWitness, AreAccepted}

module _ (history : KnownCalls) (plan : Certificate) where
  abbrev pub IsShapeFault : Fault → Type 0
  IsShapeFault fault = (found : ShapeFault) × (shape_fault history.eras history.calls plan.eras ≡ Some found) × (of_shape found ≡ No fault)

  abbrev pub IsOrderFault : Fault → Type 0
  IsOrderFault fault = (found : OrderFault) × IsEarlyFault history.calls plan.eras found × (of_order found ≡ No fault)

  abbrev pub IsRunFault : Fault → Type 0
  IsRunFault fault = (n : ℕ) × IsFirstIllegalInEras (next_of history plan) (base_of history) (eras_of history plan) n × (fault ≡ faults.Illegal n)

  abbrev pub IsCutFault : Fault → Type 0
  IsCutFault fault = (e needed : ℕ) × IsShortCut (bindings_of history.head.root plan.binds) history.calls plan.eras e needed × (fault ≡ faults.ShortCut e needed)

  abbrev pub IsVerifiersFault : Fault → Type 0
  IsVerifiersFault fault = (e : ℕ) × IsVerifierFault history.calls plan.eras e × (fault ≡ faults.Verifier e)

  abbrev pub Shaped : Type 0
  Shaped = HasShape history.eras history.calls plan.eras

  abbrev pub Ordered : Type 0
  Ordered = Shaped × EachEraRespectsOrder history.calls plan.eras

  abbrev pub Ran : Type 0
  Ran = Ordered × Runs history plan

  abbrev pub Cut : Type 0
  Cut = Ran × CutsKeepStable (bindings_of history.head.root plan.binds) history.calls plan.eras

  -- the first fault of a plan
  abbrev pub IsPlanFault : Fault → Type 0
  IsPlanFault fault = IsShapeFault fault ⊎ ((Shaped × IsOrderFault fault) ⊎ ((Ordered × IsRunFault fault) ⊎ ((Ran × IsCutFault fault) ⊎ (Cut × IsVerifiersFault fault))))

  -- the verdict on them
  abbrev pub IsVerdict : Verdict → Type 0
  IsVerdict told.Yes = IsWitness history plan
  IsVerdict (told.No fault) = IsPlanFault fault

-- the texts are a history's file and a certificate's text, and the plan has this first fault
pub record AreRefuted (history_file certificate_text : List ℕ) (fault : Fault) : Type 0 where
  pub history : KnownCalls
  pub plan : Certificate
  pub file : IsCallsFile history_file history
  pub text : CertificateText certificate_text plan
  pub first : IsPlanFault history plan fault

-- the first text is a history's file, and the second no certificate's text, for this first line
abbrev pub IsBadText : List ℕ → List ℕ → TextFault → Type 0
IsBadText history_file certificate_text (BadLine k) = (history : KnownCalls) × IsCallsFile history_file history × IsBadLine certificate_text k
IsBadText history_file certificate_text NoMemory = ⊥

-- the verdict on two texts
abbrev pub IsFileVerdict : List ℕ → List ℕ → FileVerdict → Type 0
IsFileVerdict history_file certificate_text told_of_files.Yes = AreAccepted history_file certificate_text
IsFileVerdict history_file certificate_text (told_of_files.No fault) = AreRefuted history_file certificate_text fault
IsFileVerdict history_file certificate_text (told_of_files.BadHistory fault) = FirstFault history_file fault
IsFileVerdict history_file certificate_text (told_of_files.BadText fault) = IsBadText history_file certificate_text fault
