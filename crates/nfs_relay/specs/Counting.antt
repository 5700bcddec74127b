-- For the prover, and for callers.
-- How many calls stand among events, as a log holds them.
use Rattle.std.specs.Prelude.{ℕ, Bool, true, false, List, count_by}
use Rattle.history_file.specs.declared.event.Event.{Event}
use Rattle.history_file.specs.declared.event.Event.TheVariants.{Call}

abbrev pub is_call : Event → Bool
is_call (Call lane message) = true
is_call event = false

abbrev pub calls_of : List Event → ℕ
calls_of events = count_by is_call events
