-- For the prover, and for callers.
-- The lines of what a server held at first, ahead of those of events: one of the profile where it isn't plain, and one an object (this
-- project's own rule).
use Rattle.std.specs.Prelude.{◌≡◌, ℕ, ◌+◌, ◌-◌, nat_le, Bool, true, false, ◌&&◌, if◌then◌else◌, List, length, Option, Some, None, Result, Ok, Err}
use Rattle.tree_starts.specs.declared.object.StartObject.{StartObject}
use Rattle.tree_starts.specs.declared.profile.Profile.{Profile}
use Rattle.tree_starts.specs.declared.profile.Profile.TheVariants.{Plain, Strict}
use Rattle.history_lines.specs.declared.look.Look.{Look}
use Rattle.history_lines.specs.declared.start_lines.StartLines.{StartLines}
use Rattle.history_lines.specs.Shown.{is_wide, is_nothing}

abbrev pub is_strict : Profile → Bool
is_strict Plain = false
is_strict Strict = true

-- how many lines a start has
abbrev pub start_lines : List StartObject → Profile → ℕ
start_lines start profile = (if is_strict profile then 1 else 0) + length start

-- how many of them are still to be shown
abbrev pub lines_left : StartLines → ℕ
lines_left lines = (if lines.is_strict_left then 1 else 0) + (length lines.start - lines.shown)

-- they are asked for where nothing narrows the choice and the first event is
abbrev pub asks_start : Look → Bool
asks_start look = is_wide look.selection && is_nothing look.sought && nat_le look.selection.from 1

-- of the same start
abbrev pub IsSameStart : StartLines → StartLines → Type 0
IsSameStart old new = (new.start ≡ old.start) × (new.profile ≡ old.profile)

-- one line is shown, or none is left; at an error none is shown
abbrev pub IsNextOfStart : {X F : Type 0} → StartLines → StartLines → Result (Option X) F → Type 0
IsNextOfStart old new (Ok (Some line)) = lines_left old ≡ lines_left new + 1
IsNextOfStart old new (Ok None) = (lines_left old ≡ 0) × (lines_left new ≡ 0)
IsNextOfStart old new (Err fault) = lines_left new ≡ lines_left old
