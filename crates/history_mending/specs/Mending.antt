-- For the prover, and for callers.
-- What is made of a file that was left as it was written so far: its head, and the longest list of whole events that a log takes (this
-- project's own).
use Rattle.std.specs.Prelude.{◌≡◌, ◌⊎◌, ℕ, ◌+◌, ◌<◌, ◌≤◌, List, ◌++◌, length}
use Rattle.xdr_records.specs.Unread.{whole}
use Rattle.xdr_records.specs.Faults.{Fails}
use Rattle.tree_starts.specs.Head.{Head}
use Rattle.history_file.specs.declared.fault.FileFault.{FileFault}
use Rattle.history_file.specs.declared.fault.FileFault.TheVariants as faults
use Rattle.history_file.specs.declared.version.Version.{Version}
use Rattle.history_file.specs.Limits.{history_limit}
use Rattle.history_file.specs.Kinds.{kind_of}
use Rattle.history_file.specs.Event.{Recording}
use Rattle.history_file.specs.HistoryFile.{magic}
use Rattle.history_file.specs.FileFaults.{BeginsAsFile}
use Rattle.history_file.specs.Owning.{all_seen}
use Rattle.history_mending.specs.declared.head.SeenHead.{SeenHead}
use Rattle.history_mending.specs.declared.mending.Mended.{Mended}
use Rattle.history_mending.specs.Fronts.{head_of, over, Begins, IsLongestFront}
use Rattle.history_mending.specs.Ends.{EndsSo}

-- behind the magic the bytes begin with this head, and the body is behind it; the head alone is within the limit of a history
pub record HasHead (bytes : List ℕ) (version : Version) (head : Head) (body : List ℕ) : Type 0 where
  pub behind : List ℕ
  pub magic : bytes ≡ magic version ++ behind
  pub begins : Begins (head_of version) head behind body
  pub small : length bytes ≤ length body + history_limit

-- an item of the head is the first at fault
pub record IsItemFault (bytes : List ℕ) (fault : FileFault) : Type 0 where
  pub version : Version
  pub behind : List ℕ
  pub magic : bytes ≡ magic version ++ behind
  pub at : ℕ
  pub fails : Fails kind_of (head_of version) (whole behind) (record { at = at; kind = fault })

-- the head alone passes the limit of a history
pub record IsHeadOver (bytes : List ℕ) : Type 0 where
  pub version : Version
  pub head : Head
  pub behind : List ℕ
  pub body : List ℕ
  pub magic : bytes ≡ magic version ++ behind
  pub begins : Begins (head_of version) head behind body
  pub large : length body + history_limit < length bytes

-- the first fault of a head that can't be read: a fault of no event, since a fault of these ends them
abbrev pub IsHeadFault : List ℕ → FileFault → Type 0
IsHeadFault bytes fault =
    ((¬ BeginsAsFile bytes) × (fault ≡ faults.BadMagic))
    ⊎ IsItemFault bytes fault
    ⊎ (IsHeadOver bytes × (fault ≡ faults.TooLarge))

-- what was read of a head, without where it lies in memory
abbrev pub head_value : SeenHead → Head
head_value head = record { root = head.root.now; start = head.start; profile = head.profile }

abbrev pub recording_of : Mended → Recording
recording_of mended = record { head = head_value mended.head; events = all_seen mended.events.items }

-- what is made of some bytes: their head, and the longest list of whole events behind it of which each may follow those before it; where
-- these begin and end in the bytes, and why they end there
pub record IsMended (bytes : List ℕ) (mended : Mended) : Type 0 where
  pub body : List ℕ
  pub rest : List ℕ
  pub head : HasHead bytes mended.version (head_value mended.head) body
  pub events : IsLongestFront (over bytes) body (all_seen mended.events.items) rest
  pub head_end : mended.head_end + length body ≡ length bytes
  pub events_end : mended.events_end + length rest ≡ length bytes
  pub ends : EndsSo (over bytes) (all_seen mended.events.items) rest mended.end
