-- For the prover, and for callers.
-- Marks that say which of so many things are kept, as code holds them: that of number 1 comes first.
use Rattle.std.specs.Prelude.{◌≡◌, ◌==◌, ◌<◌, ◌+◌, ◌-◌, not, ℕ, Bool, false, if◌then◌else◌, List, [], ◌∷◌, length, get_or, Option, Some, None}
use Rattle.std.specs.List.{list_any}
use Rattle.history_file.specs.Event.{Event, Recording}
use Rattle.history_file.specs.Owning.{all_happened}
use Rattle.nfs_history.specs.HistoryValue.{HistoryValue}

-- so many marks, of which that of number i says what the test says
pub record AreMarks (keeps : ℕ → Bool) (count : ℕ) (marks : List Bool) : Type 0 where
  pub long : length marks ≡ count
  pub each : (i : ℕ) → i < count → get_or marks i false ≡ keeps (i + 1)

-- number n is none of these
abbrev pub is_other : List ℕ → ℕ → Bool
is_other numbers n = not (list_any (λ m. m == n) numbers)

-- the events whose mark keeps them
abbrev pub kept : List Bool → List Event → List Event
kept [] events = []
kept (mark ∷ marks) [] = []
kept (mark ∷ marks) (e ∷ events) = if mark then e ∷ kept marks events else kept marks events

abbrev pub kept_recording : HistoryValue → List Bool → Recording
kept_recording history marks = record { head = history.known.head; events = kept marks (all_happened history.events) }

-- of marks whose numbers begin with i the number of the n-th that keeps
abbrev pub nth_kept : ℕ → List Bool → ℕ → Option ℕ
nth_kept i [] n = None
nth_kept i (mark ∷ marks) n = if mark then (if n == 1 then Some i else nth_kept (i + 1) marks (n - 1)) else nth_kept (i + 1) marks n
