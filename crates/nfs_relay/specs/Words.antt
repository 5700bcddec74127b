-- For the prover, and for callers.
-- The words that are printed of a lane's end and of how far a recording is (this project's own).
use Rattle.std.specs.Prelude.{ℕ, List, ◌++◌, codes, decimal, Option, Some, None}
use Rattle.nfs_tap.specs.declared.pump.PumpEnd.{PumpEnd}
use Rattle.nfs_tap.specs.declared.pump.PumpEnd.TheVariants as ends
use Rattle.nfs_tap.specs.FaultText.{pump_end_words}
use Rattle.nfs_relay.specs.declared.control.Halt.{Halt}
use Rattle.nfs_relay.specs.declared.control.Halt.TheVariants as halts

abbrev pub lane_end_words : ℕ → PumpEnd → PumpEnd → List ℕ
lane_end_words lane calls replies =
    codes "lane " ++ (decimal lane ++ (codes " ended: calls " ++ (pump_end_words calls ++ (codes ", replies " ++ pump_end_words replies))))

abbrev pub progress_words : ℕ → ℕ → ℕ → List ℕ
progress_words connections calls bytes = codes "connections " ++ (decimal connections ++ (codes ", calls " ++ (decimal calls ++ (codes ", bytes " ++ decimal bytes))))

-- why the whole recording ends where a pump ended so
abbrev pub halt_of : PumpEnd → Option Halt
halt_of ends.LogFull = Some halts.LogFull
halt_of ends.NoMemory = Some halts.NoMemory
halt_of end = None
