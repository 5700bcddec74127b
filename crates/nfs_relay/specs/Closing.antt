-- For the prover.
-- What a lane's end, and a crash, do to a log.
use Rattle.std.specs.Prelude.{◌≡◌, Result, OnOk, OnErr}
use Rattle.history_file.specs.Event.{Event, Recording}
use Rattle.nfs_history.specs.Standing.{MayFollow}
use Rattle.nfs_tap.specs.Noting.{with_event}
use Rattle.nfs_relay.specs.declared.control.Halt.{Halt}

-- the event is noted once, where it may follow; else the log stays as it was
pub record NotesOnce {X : Type 0} (old : Recording) (e : Event) (answer : Result X Halt) (new : Recording) : Type 0 where
  pub noted : OnOk answer (MayFollow old.events e × (new ≡ with_event old e))
  pub kept : OnErr answer (new ≡ old)
