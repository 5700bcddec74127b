-- For the prover.
-- What the parts of a log say of its events: what the code's private functions say to the prover.
use Rattle.std.specs.Prelude.{◌≡◌, ℕ, ◌-◌, [], length}
use Rattle.history_file.specs.Event.{Recording}
use Rattle.history_file.specs.Limits.{history_limit}
use Rattle.history_file.specs.Writing.{file_text}
use Rattle.nfs_history.specs.declared.checking.OpenCalls.{OpenCalls}
use Rattle.nfs_history.specs.Checking.{Knows}
use Rattle.nfs_history.specs.Standing.{EachMayFollow}

-- its events may follow one another, it is known what may come next, and how many bytes of the file are left
pub record IsKept (log : Recording) (known : OpenCalls) (left : ℕ) : Type 0 where
  pub follow : EachMayFollow [] log.events
  pub knows : Knows known log.events
  pub bytes : left ≡ history_limit - length (file_text log.head.root log.events)
