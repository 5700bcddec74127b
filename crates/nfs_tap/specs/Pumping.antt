-- For the prover, and for callers.
-- What a pump forwards of a stream: its whole records from the front, each as one fragment (RFC 5531, section 11).
use Rattle.std.specs.Prelude.{◌≡◌, ◌≢◌, ℕ, ◌≤◌, false, List, [], ◌∷◌, ◌++◌, length, Option}
use Rattle.std.specs.Io.KnownBytes.{Consumes, Appends}
use Rattle.xdr_records.specs.Record.{IsUnfinished, IsTooLong, IsSplit, record_text, record_limit}
use Rattle.xdr_records.specs.Feed.{Feed}
use Rattle.history_file.specs.Event.{Event}
use Rattle.history_file.specs.Event.Event.{call, reply}
use Rattle.nfs_tap.specs.declared.fault.NoteFault.{NoteFault}
use Rattle.nfs_tap.specs.declared.fault.NoteFault.TheVariants as faults
use Rattle.nfs_tap.specs.declared.pump.PumpEnd.{PumpEnd}
use Rattle.nfs_tap.specs.declared.pump.PumpEnd.TheVariants as ends
use Rattle.nfs_tap.specs.declared.pump.Way.{Way}
use Rattle.nfs_tap.specs.declared.pump.Way.TheVariants as ways

-- records, each as one fragment
abbrev pub frames : List (List ℕ) → List ℕ
frames [] = []
frames (x ∷ xs) = record_text x ++ frames xs

-- what stands behind the records that were forwarded: at the end of the stream a record that is begun, or nothing; at a record past the limit
-- that record; else any bytes
abbrev pub Behind : PumpEnd → List ℕ → Type 0
Behind ends.End rest = IsUnfinished rest
Behind ends.RecordTooLong rest = IsTooLong rest
Behind end rest = Unit {0}

-- want of memory isn't told as a refusal of the log
abbrev pub IsNamed : PumpEnd → Type 0
IsNamed (ends.LogFault faults.NoMemory) = ⊥
IsNamed end = Unit {0}

-- what was written of a text: all of it, but where a write failed
pub record IsWritten (end : PumpEnd) (text written : List ℕ) : Type 0 where
  pub lost : List ℕ
  pub parts : text ≡ written ++ lost
  pub whole : end ≢ ends.WriteFault → lost ≡ []

-- of the bytes that were read, whole records from the front were written, in order
pub record IsForwarded (end : PumpEnd) (read written : List ℕ) : Type 0 where
  pub records : List (List ℕ)
  pub rest : List ℕ
  pub split : IsSplit (Behind end) read records rest
  pub sent : IsWritten end (frames records) written

-- what a pump does to the bytes that its reader has left and that its writer holds, where these are known
pub record Pumps (end : PumpEnd) (left left' held held' : Option (List ℕ)) : Type 0 where
  pub read : List ℕ
  pub written : List ℕ
  pub consumed : Consumes left left' read
  pub appended : Appends held held' written
  pub forwarded : IsForwarded end read written

-- ---- what the private functions say to the prover

-- a pump may end so behind any record: the stream's end isn't such an end
abbrev pub IsAnywhere : PumpEnd → Type 0
IsAnywhere end = (end ≢ ends.End) × IsNamed end × ((rest : List ℕ) → Behind end rest)

-- the event that a record is noted as
abbrev pub event_of : Way → ℕ → List ℕ → Event
event_of ways.Calls lane message = call lane message
event_of ways.Replies lane message = reply lane message

-- the end of a pump whose record the log doesn't take
abbrev pub end_of : NoteFault → PumpEnd
end_of faults.NoMemory = ends.NoMemory
end_of fault = ends.LogFault fault

-- records within the limit
abbrev pub AreWithinLimit : List (List ℕ) → Type 0
AreWithinLimit [] = Unit {0}
AreWithinLimit (x ∷ xs) = (length x ≤ record_limit) × AreWithinLimit xs

-- no record waits, and no header passed the limit
abbrev pub IsIdle : Feed → Type 0
IsIdle feed = (feed.waiting ≡ []) × (feed.broken ≡ false)

-- no record waits any more
pub record IsEmptied (old new : Feed) : Type 0 where
  pub waiting : new.waiting ≡ []
  pub rest : new.rest ≡ old.rest
  pub broken : new.broken ≡ old.broken

-- so it ended while records were forwarded, of which some from the front are written
pub record Stops (end : PumpEnd) (held held' : Option (List ℕ)) (records : List (List ℕ)) : Type 0 where
  pub front : List (List ℕ)
  pub behind : List (List ℕ)
  pub parts : records ≡ front ++ behind
  pub written : List ℕ
  pub appended : Appends held held' written
  pub sent : IsWritten end (frames front) written
  pub anywhere : IsAnywhere end
