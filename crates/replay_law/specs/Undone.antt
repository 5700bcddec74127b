-- For the prover, and for callers.
-- taking back several steps, as a crash does with those that it loses: Izraelevitz, Mendes and Scott 2016, section 2
use Rattle.std.specs.Prelude.{◌≡◌, List, [], ◌∷◌}

-- these values, one for each of consecutive steps and the oldest first, lead from the state after the last step to the one before the first
abbrev pub UndoesAll : {Undo State : Type 0} → (Undo → State → State → Type 0) → List Undo → State → State → Type 0
UndoesAll undoes [] after before = after ≡ before
UndoesAll {Undo} {State} undoes (undo ∷ undos) after before = (middle : State) × undoes undo middle before × UndoesAll undoes undos after middle
