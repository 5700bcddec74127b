-- For the prover, and for callers.
-- The lines of a history file (this project's own format).
use Rattle.std.specs.Prelude.{◌≡◌, ◌⊎◌, ℕ, ◌+◌, ◌-◌, ◌<◌, ◌≤◌, if◌then◌else◌, List, Option, Some, None, Result, Ok, Err}
use Rattle.history_file.specs.declared.fault.FileFault.{FileFault}
use Rattle.history_lines.specs.declared.lines.EventLines.{EventLines}
use Rattle.history_lines.specs.declared.look.Look.{Look}
use Rattle.history_lines.specs.declared.lines.ShownEvents.{ShownEvents}
use Rattle.history_lines.specs.Left.{IsLeft, IsWhole}
use Rattle.history_lines.specs.StartShown.{start_lines, lines_left, asks_start}
use Rattle.history_lines.specs.Shown.{IsAsked, ArePassedOver}

-- they are the lines of the file, as far as it goes, of its start and its profile
abbrev pub AreLinesOf : List ℕ → EventLines → Type 0
AreLinesOf bytes lines = IsLeft bytes lines.ahead.start lines.ahead.profile lines.behind.unread

-- where no line is left, the bytes are a file without a fault
abbrev pub IsWholeAtEnd : {X : Type 0} → List ℕ → Result (Option X) FileFault → Type 0
IsWholeAtEnd bytes (Ok None) = IsWhole bytes
IsWholeAtEnd bytes (Ok (Some line)) = Unit {0}
IsWholeAtEnd bytes (Err fault) = Unit {0}

-- which events are shown, and how
abbrev pub look_of : EventLines → Look
look_of lines = lines.behind.maker.look

-- the number of the last event that was read
abbrev pub last_read : EventLines → ℕ
last_read lines = lines.behind.unread.read

-- how many lines of the start are still to be shown
abbrev pub starts_left : EventLines → ℕ
starts_left lines = lines_left lines.ahead

-- how many of them are asked for
abbrev pub starts_asked : Look → EventLines → ℕ
starts_asked look lines = if asks_start look then start_lines lines.ahead.start lines.ahead.profile else 0

-- of the events that were read meanwhile none is to be shown, where nothing narrows the choice
abbrev pub NoneMissed : ShownEvents → ShownEvents → Type 0
NoneMissed old new = ArePassedOver old.maker.look old.unread.read new.unread.read

-- a line is that of the event that was read last, and none ahead of it is missed; where there is no line the last event is
-- read, and none is missed; nor is one at an error
abbrev pub IsNextEvent : {X F : Type 0} → ShownEvents → ShownEvents → Result (Option X) F → Type 0
IsNextEvent old new (Ok (Some line)) =
    (old.unread.read < new.unread.read) × ArePassedOver old.maker.look old.unread.read (new.unread.read - 1) × IsAsked old.maker.look.selection new.unread.read
IsNextEvent old new (Ok None) = (new.unread.count ≤ new.unread.read) × NoneMissed old new
IsNextEvent old new (Err fault) = NoneMissed old new

-- a line of the start, while no event is read; at an error none is shown
abbrev pub IsOfStart : {X F : Type 0} → EventLines → EventLines → Result (Option X) F → Type 0
IsOfStart old new (Ok (Some line)) = (starts_left old ≡ starts_left new + 1) × (new.behind ≡ old.behind)
IsOfStart old new (Ok None) = ⊥
IsOfStart old new (Err fault) = (starts_left new ≡ starts_left old) × (new.behind ≡ old.behind)

-- a line of the start, where one is left, or else that of an event
abbrev pub IsNextShown : {X F : Type 0} → EventLines → EventLines → Result (Option X) F → Type 0
IsNextShown old new result =
    IsOfStart old new result ⊎ ((starts_left old ≡ 0) × (starts_left new ≡ 0) × IsNextEvent old.behind new.behind result)
