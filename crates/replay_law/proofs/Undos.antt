-- taking back several steps, the last one first
use Rattle.std.proofs.Common.{List, [], ◌∷◌, ◌++◌, refl, sym, subst}
use Rattle.replay_law.specs.Undone.{UndoesAll}

module _ {Undo State : Type 0} (undoes : Undo → State → State → Type 0) where
  -- what takes back all takes back the last step, and then those ahead of it
  pub last_undone : (us : List Undo) (u : Undo) (after before : State) → UndoesAll undoes (us ++ u ∷ []) after before
      → (middle : State) × undoes u after middle × UndoesAll undoes us middle before
  last_undone [] u after before h = (before, subst (λ s. undoes u s before) (sym h.2) h.1, refl)
  last_undone (x ∷ us) u after before h =
      let rest = last_undone us u after h.0 h.2 in
      (rest.0, rest.1, (h.0, h.1, rest.2))

  -- what takes back one step more
  pub one_more_undone : (us : List Undo) (u : Undo) (after middle before : State) → UndoesAll undoes us middle before → undoes u after middle
      → UndoesAll undoes (us ++ u ∷ []) after before
  one_more_undone [] u after middle before h one = (after, subst (undoes u after) h one, refl)
  one_more_undone (x ∷ us) u after middle before h one = (h.0, h.1, one_more_undone us u after middle h.0 h.2 one)
