-- For the prover, and for callers.
-- Why the events of a history end where they do, in a file that was left as it was written so far (this project's own).
use Rattle.std.specs.Prelude.{◌≡◌, ◌≢◌, ◌⊎◌, ℕ, ◌+◌, ◌<◌, List, [], length}
use Rattle.xdr_records.specs.Unread.{whole}
use Rattle.xdr_records.specs.Faults.{Fails}
use Rattle.history_file.specs.declared.fault.FileFault.{FileFault}
use Rattle.history_file.specs.declared.fault.FileFault.TheVariants as faults
use Rattle.history_file.specs.Limits.{event_limit}
use Rattle.history_file.specs.Kinds.{kind_of}
use Rattle.history_file.specs.Event.{Event}
use Rattle.history_file.specs.HistoryFile.{event}
use Rattle.nfs_history.specs.Standing.{MayFollow}
use Rattle.nfs_history.specs.EventFaults.{IsAtFault}
use Rattle.history_mending.specs.declared.end.End.{End}
use Rattle.history_mending.specs.declared.end.End.TheVariants as ends
use Rattle.history_mending.specs.Fronts.{Begins}

-- of event i, which the bytes should begin with, an item is the first at fault
abbrev pub EventFails : ℕ → List ℕ → FileFault → Type 0
EventFails i bytes fault = (at : ℕ) × Fails kind_of (event i) (whole bytes) (record { at = at; kind = fault })

-- what the rest begins with, behind these events, where so many bytes of the file pass the limit of a history
abbrev pub EndsSo : ℕ → List Event → List ℕ → End → Type 0
EndsSo over seen rest ends.Whole = rest ≡ []
EndsSo over seen rest ends.Cut = (rest ≢ []) × EventFails (length seen + 1) rest faults.Truncated
EndsSo over seen rest ends.NoEvent = (fault : FileFault) × (fault ≢ faults.Truncated) × EventFails (length seen + 1) rest fault
EndsSo over seen rest (ends.CannotFollow fault) =
    (next : Event) × (behind : List ℕ) × Begins (event (length seen + 1)) next rest behind × IsAtFault (length seen + 1) seen next fault
EndsSo over seen rest ends.Full =
    (next : Event) × (behind : List ℕ) × Begins (event (length seen + 1)) next rest behind × MayFollow seen next
    × ((event_limit < length seen + 1) ⊎ (length behind < over))
