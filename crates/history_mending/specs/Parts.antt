-- For the prover, and for callers.
-- What a recorder leaves on disk while it records: the file of a history without events, and the events behind it, one after the other,
-- without their number (this project's own).
use Rattle.std.specs.Prelude.{◌≡◌, ℕ, ◌+◌, ◌<◌, ◌≤◌, List, [], ◌++◌, length, take}
use Rattle.std.specs.List.{AllByRecursion}
use Rattle.tree_starts.specs.Head.{Head}
use Rattle.history_file.specs.Limits.{history_limit, event_limit}
use Rattle.history_file.specs.Event.{Event}
use Rattle.history_file.specs.HistoryFile.{HistoryFile}
use Rattle.history_file.specs.Writing.{events_text, EventFits}
use Rattle.nfs_history.specs.Standing.{EachMayFollow}
use Rattle.history_mending.specs.declared.mending.Mended.{Mended}
use Rattle.history_mending.specs.Mending.{recording_of}

-- the top is the file of a history with this head and no events; behind it these events may stand, within the limits of a history
pub record IsPart (top : List ℕ) (head : Head) (seen : List Event) : Type 0 where
  pub top_file : HistoryFile top (record { head = head; events = [] })
  pub fit : AllByRecursion EventFits seen
  pub follow : EachMayFollow [] seen
  pub few : length seen ≤ event_limit
  pub small : length (top ++ events_text seen) ≤ history_limit

-- the text of the first n events behind the top
abbrev pub part_text : List ℕ → List Event → ℕ → List ℕ
part_text top seen n = top ++ events_text (take n seen)

-- of the events those are given whose text is whole within the first k bytes, and no other
pub record GivesWhole (top : List ℕ) (head : Head) (seen : List Event) (k : ℕ) (mended : Mended) : Type 0 where
  pub number : ℕ
  pub recording : recording_of mended ≡ record { head = head; events = take number seen }
  pub whole : length (part_text top seen number) ≤ k
  pub no_more : number < length seen → k < length (part_text top seen (number + 1))
  pub events_end : mended.events_end ≡ length (part_text top seen number)
