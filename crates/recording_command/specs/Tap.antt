-- For the prover, and for callers.
-- What is said of a recording: an exit status and a line (words of this project's own).
use Rattle.std.specs.Prelude.{◌≡◌, ◌⊎◌, ℕ, ◌≤◌, List, [], ◌∷◌, ◌++◌, length, codes, decimal, Option, Some, None}
use Rattle.hex.specs.Hex.{IsBytes, encode_lower}
use Rattle.nfs_relay.specs.declared.control.Halt.{Halt}
use Rattle.nfs_relay.specs.declared.control.Halt.TheVariants as halts
use Rattle.recording_command.specs.declared.tap_end.TapEnd.{TapEnd}
use Rattle.recording_command.specs.declared.tap_end.TapEnd.TheVariants as ends
use Rattle.program_streams.specs.Told.{Tells, refused_line, memory_line}

abbrev pub end_status : TapEnd → ℕ
end_status (ends.Written calls) = 0
end_status (ends.Unhealthy calls) = 1
end_status ends.NoMemory = 3
end_status end = 2

abbrev pub end_line : TapEnd → List ℕ
end_line (ends.Written calls) = codes "calls " ++ (decimal calls ++ 10 ∷ [])
end_line (ends.Unhealthy calls) = codes "calls " ++ (decimal calls ++ 10 ∷ [])
end_line ends.CannotMount = refused_line (codes "cannot mount")
end_line ends.NoOrders = refused_line (codes "cannot read orders")
end_line ends.NoStart = refused_line (codes "no start")
end_line ends.PartStands = refused_line (codes "a .part of an earlier recording is there: mend it, or remove it")
end_line ends.BadRoot = refused_line (codes "bad root")
end_line ends.CannotListen = refused_line (codes "cannot listen")
end_line ends.CannotConnect = refused_line (codes "cannot connect")
end_line ends.NoThread = refused_line (codes "no thread")
end_line ends.CannotWrite = refused_line (codes "cannot write")
end_line ends.NoMemory = memory_line

-- why nothing is written where the relay ended its connections for this reason
abbrev pub refusal_of : Option Halt → Option TapEnd
refusal_of (Some halts.CannotConnect) = Some ends.CannotConnect
refusal_of (Some halts.NoThread) = Some ends.NoThread
refusal_of halt = None

-- this was said of an end behind these lines, or that memory ran out, or a write failed
abbrev pub IsTold : TapEnd → List ℕ → ℕ → Option (List ℕ) → Option (List ℕ) → Type 0
IsTold end lines status old new = (status ≡ 2) ⊎ Tells status old new (end_status end) (lines ++ end_line end) ⊎ Tells status old new 3 memory_line

-- no bytes of a handle are spelled so
abbrev pub IsNoRoot : List ℕ → Type 0
IsNoRoot text = (bytes : List ℕ) → IsBytes bytes → length bytes ≤ 64 → text ≡ encode_lower bytes → ⊥
