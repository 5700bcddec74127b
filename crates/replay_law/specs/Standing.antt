-- For the prover, and for callers.
-- a state in the midst of an era, whose steps past a cut are lost at a crash: Izraelevitz, Mendes and Scott 2016, section 2
use Rattle.std.specs.Prelude.{◌≡◌, ℕ, List, length, Option, Some}
use Rattle.replay_law.specs.declared.stepping.Replay.{Replay}
use Rattle.replay_law.specs.Run.{TakenStep, state_after}
use Rattle.replay_law.specs.Undone.{UndoesAll}

-- the rule does in step `named` what the other does in step `number`
abbrev pub DoesSo : {State Call Outcome : Type 0} → (State → ℕ → Call → Outcome → Option State) → (State → ℕ → Call → Outcome → Option State) → ℕ → ℕ → Call → Outcome → Type 0
DoesSo {State} next other named number call outcome = (state : State) → next state named call outcome ≡ other state number call outcome

module _ {State Setting Call Outcome Undo : Type 0} (undoes : Undo → State → State → Type 0) where
  -- what was kept leads from the starting state to one that the steps past the cut left, and theirs are the undo values
  pub record StandsAfter (next : State → ℕ → Call → Outcome → Option State) (start : State) (replay : Replay State Setting Call Outcome Undo)
      (kept lost : List (TakenStep Call Outcome)) : Type 0 where
    pub base : State
    pub reached : state_after next start kept ≡ Some base
    pub runs : state_after next base lost ≡ Some replay.state
    pub back : UndoesAll undoes replay.lost.items replay.state base
    pub each : length replay.lost.items ≡ length lost

  -- the steps past the cut can be taken back
  abbrev pub HasBase : Replay State Setting Call Outcome Undo → Type 0
  HasBase replay = (base : State) × UndoesAll undoes replay.lost.items replay.state base
