-- a state in the midst of an era, a step later and after a crash
use Rattle.std.proofs.Common.{◌≡◌, ℕ, List, [], ◌∷◌, ◌++◌, length, Option, Some, None, refl, sym, ap, ◌∙◌, subst, arith, length-append}
use Rattle.std.specs.Prelude.{option_and_then}
use Rattle.replay_law.specs.declared.stepping.Replay.{Replay}
use Rattle.replay_law.specs.Run.{TakenStep, state_after}
use Rattle.replay_law.specs.Undone.{UndoesAll}
use Rattle.replay_law.specs.Standing.{StandsAfter}
use Rattle.replay_law.proofs.Runs.{state_after-append, one_more, one_stuck}
use Rattle.replay_law.proofs.Undos.{one_more_undone}

pub no_items : {A : Type 0} (xs : List A) → length xs ≡ 0 → xs ≡ []
no_items [] e = refl
no_items (x ∷ xs) e = absurd (omega arith)

pub same_state : {A : Type 0} (x y : A) → Some x ≡ Some y → x ≡ y
same_state x y e = cc

module _ {State Setting Call Outcome Undo : Type 0} (undoes : Undo → State → State → Type 0) (next : State → ℕ → Call → Outcome → Option State) (start : State) where
  -- all steps so far lead to the state
  pub all_so_far : (replay : Replay State Setting Call Outcome Undo) (kept lost : List (TakenStep Call Outcome)) → StandsAfter undoes next start replay kept lost
      → state_after next start (kept ++ lost) ≡ Some replay.state
  all_so_far replay kept lost s =
      state_after-append next start kept lost ∙ ap (option_and_then (λ t. state_after next t lost)) s.reached ∙ s.runs

  -- a step ahead of the cut
  pub kept_more : (old new : Replay State Setting Call Outcome Undo) (kept : List (TakenStep Call Outcome)) (x : TakenStep Call Outcome)
      → next old.state x.number x.call x.outcome ≡ Some new.state → new.lost.items ≡ old.lost.items → StandsAfter undoes next start old kept []
      → StandsAfter undoes next start new (kept ++ x ∷ []) []
  kept_more old new kept x step same s =
      let none : new.lost.items ≡ [] = same ∙ no_items old.lost.items s.each in
      record {
        base = new.state;
        reached = one_more next start old.state new.state kept x (s.reached ∙ s.runs) step;
        runs = refl;
        back = subst (λ us. UndoesAll undoes us new.state new.state) (sym none) refl;
        each = ap length none;
      }

  -- a step past the cut
  pub lost_more : (old new : Replay State Setting Call Outcome Undo) (kept lost : List (TakenStep Call Outcome)) (x : TakenStep Call Outcome) (u : Undo)
      → next old.state x.number x.call x.outcome ≡ Some new.state → undoes u new.state old.state → new.lost.items ≡ old.lost.items ++ u ∷ []
      → StandsAfter undoes next start old kept lost → StandsAfter undoes next start new kept (lost ++ x ∷ [])
  lost_more old new kept lost x u step takes_back more s = record {
    base = s.base;
    reached = s.reached;
    runs = one_more next s.base old.state new.state lost x s.runs step;
    back = subst (λ us. UndoesAll undoes us new.state s.base) (sym more) (one_more_undone undoes old.lost.items u new.state old.state s.base s.back takes_back);
    each = ap length more ∙ one_longer old.lost.items lost u x s.each;
  } where
    one_longer : (us : List Undo) (xs : List (TakenStep Call Outcome)) (u : Undo) (x : TakenStep Call Outcome) → length us ≡ length xs → length (us ++ u ∷ []) ≡ length (xs ++ x ∷ [])
    one_longer us xs u x e = omega (arith, length-append us (u ∷ []), length-append xs (x ∷ []))

  -- a step that has no next state
  pub no_more : (replay : Replay State Setting Call Outcome Undo) (kept lost : List (TakenStep Call Outcome)) (x : TakenStep Call Outcome)
      → next replay.state x.number x.call x.outcome ≡ None → StandsAfter undoes next start replay kept lost
      → state_after next start ((kept ++ lost) ++ x ∷ []) ≡ None
  no_more replay kept lost x step s = one_stuck next start replay.state (kept ++ lost) x (all_so_far replay kept lost s) step

  -- the steps past the cut are taken back
  pub crashed : (old new : Replay State Setting Call Outcome Undo) (kept lost : List (TakenStep Call Outcome))
      → ((before : State) → UndoesAll undoes old.lost.items old.state before → new.state ≡ before) → new.lost.items ≡ []
      → StandsAfter undoes next start old kept lost → StandsAfter undoes next start new kept []
  crashed old new kept lost back none s = record {
    base = s.base;
    reached = s.reached;
    runs = ap Some (sym (back s.base s.back));
    back = subst (λ us. UndoesAll undoes us new.state s.base) (sym none) (back s.base s.back);
    each = ap length none;
  }
