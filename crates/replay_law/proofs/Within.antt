-- the steps of one era, one after another
use Rattle.std.proofs.Common.{◌≡◌, ℕ, ◌+◌, ◌<◌, get_or, List, [], ◌∷◌, ◌++◌, map, take, drop, length, Option, Some, None, refl, sym, ap, ◌∙◌, subst, append_assoc}
use Rattle.std.specs.Prelude.{IsSome}
use Rattle.std.proofs.lemmas.List.{append-nil, map-append, take-append-drop, take-map}
use Rattle.replay_law.specs.declared.stepping.Replay.{Replay}
use Rattle.replay_law.specs.Run.{TakenStep, state_after, IsFirstIllegal}
use Rattle.replay_law.specs.Standing.{StandsAfter}
use Rattle.replay_law.proofs.Runs.{map_more, map_parts}
use Rattle.replay_law.proofs.Stands.{all_so_far}
use Rattle.replay_law.proofs.Crashes.{from_base}

module _ {Item State Call Outcome : Type 0} (f : Item → TakenStep Call Outcome) (next : State → ℕ → Call → Outcome → Option State) (start : State) where
  -- a step that has no next state is the first illegal one of these
  stuck_at : (all : List Item) (i : ℕ) (x : Item) → i < length all → x ≡ get_or all i x → (kept : List (TakenStep Call Outcome)) (base state : State)
      → state_after next start kept ≡ Some base → state_after next start (kept ++ map f (take i all)) ≡ Some state
      → state_after next start ((kept ++ map f (take i all)) ++ f x ∷ []) ≡ None → IsFirstIllegal next base (map f all) (f x).number
  stuck_at all i x in_range is kept base state reached before stops =
      let ahead = map f (take i all) in
      record {
        ahead = ahead;
        stuck = f x;
        behind = map f (drop (i + 1) all);
        parts = map_parts f all i x in_range is;
        runs = subst IsSome (sym (sym (from_base next start base kept ahead reached) ∙ before)) refl;
        stops = sym (from_base next start base kept (ahead ++ f x ∷ []) reached) ∙ ap (state_after next start) (sym (append_assoc kept ahead (f x ∷ []))) ∙ stops;
        named = refl;
      }

module _ {Item State Setting Call Outcome Undo : Type 0} (f : Item → TakenStep Call Outcome) (undoes : Undo → State → State → Type 0)
    (next : State → ℕ → Call → Outcome → Option State) (start : State) where
  -- no step ahead of the cut yet
  pub none_kept : (replay : Replay State Setting Call Outcome Undo) (kept : List (TakenStep Call Outcome))
      → StandsAfter undoes next start replay kept [] → StandsAfter undoes next start replay (kept ++ []) []
  none_kept replay kept s = subst (λ (xs : List (TakenStep Call Outcome)). StandsAfter undoes next start replay xs []) (sym (append-nil kept)) s

  -- one more of these steps ahead of the cut, and past it
  pub more_kept : (all : List Item) (i : ℕ) (x : Item) → i < length all → x ≡ get_or all i x → (replay : Replay State Setting Call Outcome Undo) (kept : List (TakenStep Call Outcome))
      → StandsAfter undoes next start replay ((kept ++ map f (take i all)) ++ f x ∷ []) [] → StandsAfter undoes next start replay (kept ++ map f (take (i + 1) all)) []
  more_kept all i x in_range is replay kept s =
      subst (λ (xs : List (TakenStep Call Outcome)). StandsAfter undoes next start replay xs [])
      (append_assoc kept (map f (take i all)) (f x ∷ []) ∙ ap (λ xs. kept ++ xs) (sym (map_more f all i x in_range is))) s

  pub more_lost : (all : List Item) (i : ℕ) (x : Item) → i < length all → x ≡ get_or all i x → (replay : Replay State Setting Call Outcome Undo) (kept : List (TakenStep Call Outcome))
      → StandsAfter undoes next start replay kept (map f (take i all) ++ f x ∷ []) → StandsAfter undoes next start replay kept (map f (take (i + 1) all))
  more_lost all i x in_range is replay kept s =
      subst (λ (xs : List (TakenStep Call Outcome)). StandsAfter undoes next start replay kept xs) (sym (map_more f all i x in_range is)) s

  -- the same, where these are ahead of the cut, and past it
  pub stuck_kept : (all : List Item) (i : ℕ) (x : Item) → i < length all → x ≡ get_or all i x
      → (replay : Replay State Setting Call Outcome Undo) (kept : List (TakenStep Call Outcome)) (base : State) → state_after next start kept ≡ Some base
      → StandsAfter undoes next start replay (kept ++ map f (take i all)) []
      → state_after next start (((kept ++ map f (take i all)) ++ []) ++ f x ∷ []) ≡ None → IsFirstIllegal next base (map f all) (f x).number
  stuck_kept all i x in_range is replay kept base reached s stops =
      let so_far = kept ++ map f (take i all) in
      stuck_at f next start all i x in_range is kept base s.base reached s.reached (ap (λ (xs : List (TakenStep Call Outcome)). state_after next start (xs ++ f x ∷ [])) (sym (append-nil so_far)) ∙ stops)

  pub stuck_lost : (all : List Item) (i : ℕ) (x : Item) → i < length all → x ≡ get_or all i x
      → (replay : Replay State Setting Call Outcome Undo) (kept : List (TakenStep Call Outcome)) (base : State) → state_after next start kept ≡ Some base
      → StandsAfter undoes next start replay kept (map f (take i all))
      → state_after next start ((kept ++ map f (take i all)) ++ f x ∷ []) ≡ None → IsFirstIllegal next base (map f all) (f x).number
  stuck_lost all i x in_range is replay kept base reached s stops =
      stuck_at f next start all i x in_range is kept base replay.state reached (all_so_far undoes next start replay kept (map f (take i all)) s) stops

module _ {State Call Outcome : Type 0} (next : State → ℕ → Call → Outcome → Option State) (base : State) where
  -- the first illegal step of a front is that of the whole
  pub first_of_front : (xs ys : List (TakenStep Call Outcome)) (n : ℕ) → IsFirstIllegal next base xs n → IsFirstIllegal next base (xs ++ ys) n
  first_of_front xs ys n h = record {
    ahead = h.ahead;
    stuck = h.stuck;
    behind = h.behind ++ ys;
    parts = ap (λ zs. zs ++ ys) h.parts ∙ append_assoc h.ahead (h.stuck ∷ h.behind) ys;
    runs = h.runs;
    stops = h.stops;
    named = h.named;
  }

  -- and so is that of what stands behind a front that runs
  pub first_behind : (middle : State) (xs ys : List (TakenStep Call Outcome)) (n : ℕ) → state_after next base xs ≡ Some middle → IsFirstIllegal next middle ys n
      → IsFirstIllegal next base (xs ++ ys) n
  first_behind middle xs ys n reached h = record {
    ahead = xs ++ h.ahead;
    stuck = h.stuck;
    behind = h.behind;
    parts = ap (λ zs. xs ++ zs) h.parts ∙ sym (append_assoc xs h.ahead (h.stuck ∷ h.behind));
    runs = subst IsSome (sym (from_base next base middle xs h.ahead reached)) h.runs;
    stops = ap (state_after next base) (append_assoc xs h.ahead (h.stuck ∷ [])) ∙ from_base next base middle xs (h.ahead ++ h.stuck ∷ []) reached ∙ h.stops;
    named = h.named;
  }

-- the steps ahead of a cut and those past it are all
pub era_parts : {Item Step : Type 0} (f : Item → Step) (items front back : List Item) (steps : List Step) (cut : ℕ) → map f items ≡ steps → front ≡ take cut items → back ≡ drop cut items
    → steps ≡ map f front ++ map f back
era_parts f items front back steps cut all ahead past =
    let parts = ap (map f) (sym (take-append-drop cut items)) ∙ map-append f (take cut items) (drop cut items) in
    cc (parts, all, ahead, past)

pub era_front : {Item Step : Type 0} (f : Item → Step) (items front : List Item) (steps : List Step) (cut kept : ℕ) → map f items ≡ steps → front ≡ take cut items → cut ≡ kept
    → map f front ≡ take kept steps
era_front f items front steps cut kept all ahead is = ap (map f) ahead ∙ sym (take-map f cut items) ∙ ap (take cut) all ∙ ap (λ n. take n steps) is

-- an era runs from what is kept where its steps stand
pub era_runs : {State Setting Call Outcome Undo : Type 0} (undoes : Undo → State → State → Type 0) (next : State → ℕ → Call → Outcome → Option State) (start : State)
    (replay : Replay State Setting Call Outcome Undo) (kept front back steps : List (TakenStep Call Outcome)) → steps ≡ front ++ back
    → StandsAfter undoes next start replay (kept ++ front) back → IsSome (state_after next start (kept ++ steps))
era_runs undoes next start replay kept front back steps parts s =
    let so_far = all_so_far undoes next start replay (kept ++ front) back s in
    subst IsSome (sym (ap (λ xs. state_after next start (kept ++ xs)) parts ∙ ap (state_after next start) (sym (append_assoc kept front back)) ∙ so_far)) refl
