-- What the checks behind the shape and the order tell of a plan.
use Rattle.std.proofs.Common.{◌≡◌, ◌⊎◌, inl, inr, ℕ, Option, Some, Result, Err, refl, subst}
use Rattle.order_check.specs.nfs_history_specs.declared.knowing.KnownCalls.{KnownCalls}
use Rattle.order_check.specs.nfs_history_specs.HistoryValue.{CallsValue}
use Rattle.certificate.specs.declared.plan.Certificate.{Certificate}
use Rattle.tree_handles.specs.Binding.{Bindings}
use Rattle.cut_check.specs.declared.fault.CutFault.{CutFault}
use Rattle.cut_check.specs.declared.fault.CutFault.TheVariants as cuts
use Rattle.cut_check.specs.declared.fault.VerifierFault.{VerifierFault}
use Rattle.cut_check.specs.declared.fault.VerifierFault.TheVariants as verifiers
use Rattle.cut_check.specs.VerifierFault.{IsVerifierFault}
use Rattle.cut_check.specs.Places.{bindings_of}
use Rattle.cut_check.specs.ShortCut.{IsShortCut}
use Rattle.order_check.specs.declared.fault.ShapeFault.{ShapeFault}
use Rattle.order_check.specs.declared.fault.ShapeFault.TheVariants as shapes
use Rattle.order_check.specs.declared.fault.OrderFault.{OrderFault}
use Rattle.order_check.specs.declared.fault.OrderFault.TheVariants.{Early}
use Rattle.order_check.specs.FirstFault.{shape_fault}
use Rattle.order_check.specs.Shape.{HasShape}
use Rattle.order_check.specs.Order.{IsEarlyFault}
use Rattle.witness_check.specs.declared.fault.RunEnd.{RunEnd}
use Rattle.witness_check.specs.declared.fault.RunEnd.TheVariants as ends
use Rattle.witness_check.specs.Running.{TellsEnd}
use Rattle.witness_check.specs.Run.{eras_of, next_of, base_of}
use Rattle.witness_check.specs.Faults.{of_shape, of_order, of_run, of_cut, of_verifier}
use Rattle.witness_check.specs.Verdict.{Ordered, Ran, Cut}
use Rattle.witness_check.specs.Told.{TellsFault}

module _ (history : KnownCalls) (plan : Certificate) where
  pub tells_shape : (fault : ShapeFault) → (fault ≡ shapes.NoMemory) ⊎ (shape_fault history.eras history.calls plan.eras ≡ Some fault) → TellsFault history plan (of_shape fault)
  tells_shape fault (inl none) = rw none tt
  tells_shape shapes.WrongEras (inr first) = (inl (shapes.WrongEras, first, refl), tt)
  tells_shape (shapes.Unknown n) (inr first) = (inl (shapes.Unknown n, first, refl), tt)
  tells_shape (shapes.WrongEra n) (inr first) = (inl (shapes.WrongEra n, first, refl), tt)
  tells_shape (shapes.Twice n) (inr first) = (inl (shapes.Twice n, first, refl), tt)
  tells_shape (shapes.NotToPlace n) (inr first) = (inl (shapes.NotToPlace n, first, refl), tt)
  tells_shape (shapes.Missing n) (inr first) = (inl (shapes.Missing n, first, refl), tt)
  tells_shape (shapes.BadCut e) (inr first) = (inl (shapes.BadCut e, first, refl), tt)
  tells_shape shapes.NoMemory (inr first) = tt

  pub tells_order : (fault : OrderFault) → HasShape history.eras history.calls plan.eras → IsEarlyFault history.calls plan.eras fault → TellsFault history plan (of_order fault)
  tells_order (Early i j) shape first = (inr (inl (shape, (Early i j, first, refl))), tt)

  pub tells_run : (end : RunEnd) → Ordered history plan → TellsEnd (next_of history plan) (base_of history) (eras_of history plan) end → TellsFault history plan (of_run end)
  tells_run (ends.Stopped stop) ordered at = (inr (inr (inl (ordered, (stop.number, at.stuck, refl)))), (ordered, at))
  tells_run ends.NoMemory ordered at = tt

  pub tells_cut : (r : Result (Unit {0}) CutFault) (fault : CutFault) → r ≡ Err fault → Ran history plan
      → ((e needed : ℕ) → r ≡ Err (cuts.ShortCut e needed) → IsShortCut (bindings_of history.head.root plan.binds) history.calls plan.eras e needed) → TellsFault history plan (of_cut fault)
  tells_cut r (cuts.ShortCut e needed) was ran short = (inr (inr (inr (inl (ran, (e, needed, short e needed was, refl))))), tt)
  tells_cut r cuts.NoMemory was ran short = tt

  pub tells_verifiers : (r : Result (Unit {0}) VerifierFault) (fault : VerifierFault) → r ≡ Err fault → Cut history plan
      → ((e : ℕ) → r ≡ Err (verifiers.Verifier e) → IsVerifierFault history.calls plan.eras e) → TellsFault history plan (of_verifier fault)
  tells_verifiers r (verifiers.Verifier e) was cut first = (inr (inr (inr (inr (cut, (e, first e was, refl))))), tt)
  tells_verifiers r verifiers.NoMemory was cut first = tt

-- what holds of calls that are lent, and of what handles name in a run, holds of the history and of what its plan binds
module _ (history calls : CallsValue) (binds : Bindings) (plan : Certificate) (same : calls ≡ history) (bound : binds ≡ bindings_of history.head.root plan.binds) where
  pub lent : (P : Bindings → CallsValue → Type 0) → P binds calls → P (bindings_of history.head.root plan.binds) history
  lent P h = subst (λ (b : Bindings). P b history) bound (subst (P binds) same h)
