-- For the prover, and for callers.
-- The words that are printed of a fault of a plan: its name, and the numbers that it names (words of this project's own).
use Rattle.std.specs.Prelude.{ℕ, List, ◌∷◌, ◌++◌, codes, decimal}
use Rattle.order_check.specs.declared.fault.ShapeFault.{ShapeFault}
use Rattle.order_check.specs.declared.fault.ShapeFault.TheVariants as shapes
use Rattle.order_check.specs.declared.fault.OrderFault.{OrderFault}
use Rattle.order_check.specs.declared.fault.OrderFault.TheVariants.{Early}

abbrev pub shape_fault_words : ShapeFault → List ℕ
shape_fault_words shapes.WrongEras = codes "WrongEras"
shape_fault_words (shapes.Unknown i) = codes "Unknown " ++ decimal i
shape_fault_words (shapes.WrongEra i) = codes "WrongEra " ++ decimal i
shape_fault_words (shapes.Twice i) = codes "Twice " ++ decimal i
shape_fault_words (shapes.NotToPlace i) = codes "NotToPlace " ++ decimal i
shape_fault_words (shapes.Missing i) = codes "Missing " ++ decimal i
shape_fault_words (shapes.BadCut i) = codes "BadCut " ++ decimal i
shape_fault_words shapes.NoMemory = codes "out of memory"

abbrev pub order_fault_words : OrderFault → List ℕ
order_fault_words (Early i j) = codes "Early " ++ (decimal i ++ (32 ∷ decimal j))
