-- Believed.
-- The faults of the checks, as faults of the whole plan (names of this project's own).
use Rattle.order_check.specs.declared.fault.ShapeFault.{ShapeFault}
use Rattle.order_check.specs.declared.fault.ShapeFault.TheVariants as shapes
use Rattle.order_check.specs.declared.fault.OrderFault.{OrderFault}
use Rattle.order_check.specs.declared.fault.OrderFault.TheVariants.{Early}
use Rattle.cut_check.specs.declared.fault.CutFault.{CutFault}
use Rattle.cut_check.specs.declared.fault.CutFault.TheVariants as cuts
use Rattle.cut_check.specs.declared.fault.VerifierFault.{VerifierFault}
use Rattle.cut_check.specs.declared.fault.VerifierFault.TheVariants as verifiers
use Rattle.witness_check.specs.declared.fault.RunEnd.{RunEnd}
use Rattle.witness_check.specs.declared.fault.RunEnd.TheVariants as ends
use Rattle.witness_check.specs.declared.fault.Fault.TheVariants as faults
use Rattle.witness_check.specs.declared.fault.CheckFault.{CheckFault}
use Rattle.witness_check.specs.declared.fault.CheckFault.TheVariants.{No, Stopped, NoMemory}

abbrev pub of_shape : ShapeFault → CheckFault
of_shape shapes.WrongEras = No faults.WrongEras
of_shape (shapes.Unknown n) = No (faults.Unknown n)
of_shape (shapes.WrongEra n) = No (faults.WrongEra n)
of_shape (shapes.Twice n) = No (faults.Twice n)
of_shape (shapes.NotToPlace n) = No (faults.NotToPlace n)
of_shape (shapes.Missing n) = No (faults.Missing n)
of_shape (shapes.BadCut e) = No (faults.BadCut e)
of_shape shapes.NoMemory = NoMemory

abbrev pub of_order : OrderFault → CheckFault
of_order (Early i j) = No (faults.Early i j)

-- ---- for the prover

abbrev pub of_run : RunEnd → CheckFault
of_run (ends.Stopped stop) = Stopped stop
of_run ends.NoMemory = NoMemory

abbrev pub of_cut : CutFault → CheckFault
of_cut (cuts.ShortCut e needed) = No (faults.ShortCut e needed)
of_cut cuts.NoMemory = NoMemory

abbrev pub of_verifier : VerifierFault → CheckFault
of_verifier (verifiers.Verifier e) = No (faults.Verifier e)
of_verifier verifiers.NoMemory = NoMemory
