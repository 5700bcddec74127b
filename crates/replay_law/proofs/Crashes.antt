-- eras, one after another, and the first illegal step of them
use Rattle.std.proofs.Common.{◌≡◌, ℕ, ◌⊎◌, inl, inr, List, [], ◌∷◌, ◌++◌, length, take, Option, Some, None, Result, Ok, Err, refl, sym, ap, ◌∙◌, subst, append_assoc, arith, length-append}
use Rattle.std.specs.Prelude.{IsSome, option_and_then, OnOk, IsErrOf, IsOkUnless}
use Rattle.std.proofs.lemmas.List.{append-nil}
use Rattle.std.proofs.lemmas.List.Concat.{flat_map-append}
use Rattle.replay_law.specs.declared.run.RunFault.{RunFault}
use Rattle.replay_law.specs.declared.run.RunFault.TheVariants.{Illegal, NoMemory}
use Rattle.replay_law.specs.Run.{TakenStep, Era, state_after, kept_steps, IsFirstIllegal, EveryEraRuns, IsFirstIllegalInEras}
use Rattle.replay_law.proofs.Runs.{state_after-append, runs_or_not}
use Rattle.replay_law.proofs.Places.{IsSamePlace, IsAhead, two_places}

no_state : {A : Type 0} (o : Option A) → o ≡ None → IsSome o → ⊥
no_state None e s = cc
no_state (Some x) e s = cc

-- what the eras keep, with one more era
pub kept_one_more : {Call Outcome : Type 0} (eras : List (Era Call Outcome)) (era : Era Call Outcome) → kept_steps (eras ++ era ∷ []) ≡ kept_steps eras ++ take era.kept era.steps
kept_one_more eras era =
    flat_map-append (λ e. take e.kept e.steps) eras (era ∷ []) ∙ ap (λ xs. kept_steps eras ++ xs) (append-nil (take era.kept era.steps))

module _ {State Call Outcome : Type 0} (next : State → ℕ → Call → Outcome → Option State) (start : State) where
  -- steps behind those that lead to a base
  pub from_base : (base : State) (kept xs : List (TakenStep Call Outcome)) → state_after next start kept ≡ Some base
      → state_after next start (kept ++ xs) ≡ state_after next base xs
  from_base base kept xs reached = state_after-append next start kept xs ∙ ap (option_and_then (λ t. state_after next t xs)) reached

  -- one more era runs
  pub one_more_runs : (eras : List (Era Call Outcome)) (era : Era Call Outcome) → EveryEraRuns next start eras
      → IsSome (state_after next start (kept_steps eras ++ era.steps)) → EveryEraRuns next start (eras ++ era ∷ [])
  one_more_runs eras era run runs ahead behind one is = go (two_places eras ahead [] behind era one is) where
    go : IsSamePlace eras ahead era one [] behind ⊎ (IsAhead eras era ahead ⊎ IsAhead ahead one eras) → IsSome (state_after next start (kept_steps ahead ++ one.steps))
    go (inl h) =
        let moved = subst (λ (xs : List (Era Call Outcome)). IsSome (state_after next start (kept_steps xs ++ era.steps))) h.ahead runs in
        subst (λ (e : Era Call Outcome). IsSome (state_after next start (kept_steps ahead ++ e.steps))) h.item moved
    go (inr (inl h)) = absurd (too_long eras h.0 behind era one (is ∙ ap (λ xs. xs ++ one ∷ behind) h.1)) where
      too_long : (xs more ys : List (Era Call Outcome)) (x y : Era Call Outcome) → xs ++ x ∷ [] ≡ (xs ++ x ∷ more) ++ y ∷ ys → ⊥
      too_long xs more ys x y e = omega (arith, ap length e, length-append xs (x ∷ []), length-append (xs ++ x ∷ more) (y ∷ ys), length-append xs (x ∷ more))
    go (inr (inr h)) = run ahead h.0 one h.1

  -- no era at all runs
  pub none_runs : EveryEraRuns next start []
  none_runs [] behind era is = absurd (cc)
  none_runs (x ∷ ahead) behind era is = absurd (cc)

  -- the eras ahead of the first illegal step run, and its era doesn't
  stuck_era : (eras : List (Era Call Outcome)) (n : ℕ) (f : IsFirstIllegalInEras next start eras n) → state_after next start (kept_steps f.ahead ++ f.era.steps) ≡ None
  stuck_era eras n f = from_base f.base (kept_steps f.ahead) f.era.steps f.reached ∙ runs_or_not next f.base f.era.steps n f.first

  -- where a step is the first illegal one, not every era runs
  pub not_both : (eras : List (Era Call Outcome)) (n : ℕ) → IsFirstIllegalInEras next start eras n → EveryEraRuns next start eras → ⊥
  not_both eras n f run = no_state _ (stuck_era eras n f) (run f.ahead f.behind f.era f.parts)

  -- in one era there is one first illegal step
  one_in_era : (base : State) (steps : List (TakenStep Call Outcome)) (m n : ℕ) → IsFirstIllegal next base steps m → IsFirstIllegal next base steps n → m ≡ n
  one_in_era base steps m n f h = go (two_places f.ahead h.ahead f.behind h.behind f.stuck h.stuck (sym f.parts ∙ h.parts)) where
    runs_past : (xs more ahead : List (TakenStep Call Outcome)) (x : TakenStep Call Outcome) → ahead ≡ xs ++ x ∷ more → state_after next base (xs ++ x ∷ []) ≡ None
        → IsSome (state_after next base ahead) → ⊥
    runs_past xs more ahead x is stops runs =
        let apart : (xs ++ x ∷ []) ++ more ≡ ahead = append_assoc xs (x ∷ []) more ∙ sym is in
        no_state _ (ap (state_after next base) (sym apart) ∙ state_after-append next base (xs ++ x ∷ []) more ∙ ap (option_and_then (λ t. state_after next t more)) stops) runs

    go : IsSamePlace f.ahead h.ahead f.stuck h.stuck f.behind h.behind ⊎ (IsAhead f.ahead f.stuck h.ahead ⊎ IsAhead h.ahead h.stuck f.ahead) → m ≡ n
    go (inl s) = sym f.named ∙ ap (λ (x : TakenStep Call Outcome). x.number) s.item ∙ h.named
    go (inr (inl s)) = absurd (runs_past f.ahead s.0 h.ahead f.stuck s.1 f.stops h.runs)
    go (inr (inr s)) = absurd (runs_past h.ahead s.0 f.ahead h.stuck s.1 h.stops f.runs)

  -- and so there is in all of them
  pub one_first : (eras : List (Era Call Outcome)) (m n : ℕ) → IsFirstIllegalInEras next start eras m → IsFirstIllegalInEras next start eras n → m ≡ n
  one_first eras m n f h = go (two_places f.ahead h.ahead f.behind h.behind f.era h.era (sym f.parts ∙ h.parts)) where
    go : IsSamePlace f.ahead h.ahead f.era h.era f.behind h.behind ⊎ (IsAhead f.ahead f.era h.ahead ⊎ IsAhead h.ahead h.era f.ahead) → m ≡ n
    go (inl s) =
        let same : f.base ≡ h.base = same_base (sym f.reached ∙ ap (λ (xs : List (Era Call Outcome)). state_after next start (kept_steps xs)) s.ahead ∙ h.reached) in
        let at_base = subst (λ (b : State). IsFirstIllegal next b f.era.steps m) same f.first in
        one_in_era h.base h.era.steps m n (subst (λ (e : Era Call Outcome). IsFirstIllegal next h.base e.steps m) s.item at_base) h.first where
          same_base : {x y : State} → Some x ≡ Some y → x ≡ y
          same_base e = cc
    go (inr (inl s)) = absurd (no_state _ (stuck_era eras m f) (h.run f.ahead s.0 f.era s.1))
    go (inr (inr s)) = absurd (no_state _ (stuck_era eras n h) (f.run h.ahead s.0 h.era s.1))

  -- what a refused run says, where it is exact in what it says
  pub only_memory : (r : Result (Unit {0}) RunFault) (eras : List (Era Call Outcome)) → ((n : ℕ) → r ≡ Err (Illegal n) → IsFirstIllegalInEras next start eras n)
      → EveryEraRuns next start eras → IsOkUnless r NoMemory
  only_memory (Ok x) eras illegal run = tt
  only_memory (Err NoMemory) eras illegal run = refl
  only_memory (Err (Illegal n)) eras illegal run = absurd (not_both eras n (illegal n refl) run)

  pub is_named : (r : Result (Unit {0}) RunFault) (eras : List (Era Call Outcome)) → OnOk r (EveryEraRuns next start eras)
      → ((n : ℕ) → r ≡ Err (Illegal n) → IsFirstIllegalInEras next start eras n) → (n : ℕ) → IsFirstIllegalInEras next start eras n
      → IsErrOf r (Illegal n) ⊎ IsErrOf r NoMemory
  is_named (Ok x) eras ok illegal n f = absurd (not_both eras n f ok)
  is_named (Err NoMemory) eras ok illegal n f = inr refl
  is_named (Err (Illegal m)) eras ok illegal n f = inl (ap (λ k. Err (Illegal k)) (one_first eras m n (illegal m refl) f))
