-- For the prover.
-- What the private functions say of the events of a stream.
use Rattle.std.specs.Prelude.{ℕ, List}
use Rattle.capture_history.specs.declared.found.FoundKind.{FoundKind}
use Rattle.capture_history.specs.declared.found.Found.{Found}
use Rattle.capture_history.specs.Streams.{AreRecordsOf}
use Rattle.capture_history.specs.Lanes.{AreMade}

-- the records of some bytes, each as an event
pub record AreEventsOf (lane : ℕ) (kind : FoundKind) (bytes : List ℕ) (found : List Found) : Type 0 where
  pub messages : List (List ℕ)
  pub are : AreRecordsOf bytes messages
  pub made : AreMade lane kind messages found
