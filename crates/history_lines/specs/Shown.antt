-- For the prover, and for callers.
-- Which events are shown: those between two numbers, both among them, and of these all where nothing narrows the choice (this project's own rule).
use Rattle.std.specs.Prelude.{◌≡◌, ℕ, ◌<◌, ◌≤◌, Bool, true, false, ◌&&◌, Option, Some, None}
use Rattle.history_lines.specs.declared.look.Selection.{Selection}
use Rattle.history_lines.specs.declared.look.Sought.{Sought}
use Rattle.history_lines.specs.declared.look.Marks.{Marks}
use Rattle.history_lines.specs.declared.look.Look.{Look}

-- the number is between those of the first and the last event
abbrev pub IsAsked : Selection → ℕ → Type 0
IsAsked selection number = (selection.from ≤ number) × (number ≤ selection.to)

abbrev pub is_none : {X : Type 0} → Option X → Bool
is_none None = true
is_none (Some x) = false

-- no call, no connection and no procedure is named
abbrev pub is_wide : Selection → Bool
is_wide selection = is_none selection.call && is_none selection.lane && is_none selection.procedure

-- neither a handle nor a name is looked for
abbrev pub is_nothing : Sought → Bool
is_nothing sought = is_none sought.handle && is_none sought.name

-- no call is marked
abbrev pub marks_none : Marks → Bool
marks_none marks = is_none marks.fault && is_none marks.other

-- where nothing narrows the choice, the number isn't between them
abbrev pub IsPassedOver : Look → ℕ → Type 0
IsPassedOver look number = is_wide look.selection ≡ true → is_nothing look.sought ≡ true → ¬ IsAsked look.selection number

-- the same of each event behind one, up to another
abbrev pub ArePassedOver : Look → ℕ → ℕ → Type 0
ArePassedOver look first last = (k : ℕ) → first < k → k ≤ last → IsPassedOver look k

-- a line is that of an event between the two numbers, and one that has no line is passed over
abbrev pub IsShownAs : {X : Type 0} → Look → ℕ → Option X → Type 0
IsShownAs look number (Some line) = IsAsked look.selection number
IsShownAs look number None = IsPassedOver look number
