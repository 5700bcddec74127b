-- runs of steps, one after another
use Rattle.std.proofs.Common.{◌≡◌, ℕ, ◌+◌, ◌<◌, get_or, List, [], ◌∷◌, ◌++◌, map, take, drop, length, Option, Some, None, refl, sym, ap, ◌∙◌}
use Rattle.std.specs.Prelude.{option_and_then}
use Rattle.std.proofs.lemmas.List.{take_more, drop_more, map-append, take-append-drop}
use Rattle.replay_law.specs.Run.{TakenStep, state_after, IsFirstIllegal}

module _ {State Call Outcome : Type 0} (next : State → ℕ → Call → Outcome → Option State) where
  -- steps after steps
  pub state_after-append : (s : State) (xs ys : List (TakenStep Call Outcome))
      → state_after next s (xs ++ ys) ≡ option_and_then (λ t. state_after next t ys) (state_after next s xs)
  state_after-append s [] ys = refl
  state_after-append s (x ∷ xs) ys = go (next s x.number x.call x.outcome) (λ t. state_after-append t xs ys) where
    go : (o : Option State) → ((t : State) → state_after next t (xs ++ ys) ≡ option_and_then (λ u. state_after next u ys) (state_after next t xs))
        → option_and_then (λ t. state_after next t (xs ++ ys)) o ≡ option_and_then (λ t. state_after next t ys) (option_and_then (λ t. state_after next t xs) o)
    go None later = refl
    go (Some t) later = later t

  -- one more step, which has a next state
  pub one_more : (s t u : State) (xs : List (TakenStep Call Outcome)) (x : TakenStep Call Outcome) → state_after next s xs ≡ Some t
      → next t x.number x.call x.outcome ≡ Some u → state_after next s (xs ++ x ∷ []) ≡ Some u
  one_more s t u xs x before step =
      state_after-append s xs (x ∷ []) ∙ ap (option_and_then (λ v. state_after next v (x ∷ []))) before ∙ ap (option_and_then (λ v. state_after next v [])) step

  -- one more step, which has none
  pub one_stuck : (s t : State) (xs : List (TakenStep Call Outcome)) (x : TakenStep Call Outcome) → state_after next s xs ≡ Some t
      → next t x.number x.call x.outcome ≡ None → state_after next s (xs ++ x ∷ []) ≡ None
  one_stuck s t xs x before step =
      state_after-append s xs (x ∷ []) ∙ ap (option_and_then (λ v. state_after next v (x ∷ []))) before ∙ ap (option_and_then (λ v. state_after next v [])) step

  -- steps that run to their end have no first illegal one
  pub runs_or_not : (s : State) (steps : List (TakenStep Call Outcome)) (n : ℕ) → IsFirstIllegal next s steps n → state_after next s steps ≡ None
  runs_or_not s steps n f =
      ap (state_after next s) (f.parts ∙ sym (again f.ahead f.stuck f.behind))
      ∙ state_after-append s (f.ahead ++ f.stuck ∷ []) f.behind ∙ ap (option_and_then (λ v. state_after next v f.behind)) f.stops where
        again : (xs : List (TakenStep Call Outcome)) (x : TakenStep Call Outcome) (ys : List (TakenStep Call Outcome)) → (xs ++ x ∷ []) ++ ys ≡ xs ++ x ∷ ys
        again [] x ys = refl
        again (y ∷ xs) x ys = ap (λ zs. y ∷ zs) (again xs x ys)

-- the steps as far as one more
pub map_more : {A B : Type 0} (f : A → B) (xs : List A) (i : ℕ) (x : A) → i < length xs → x ≡ get_or xs i x → map f (take (i + 1) xs) ≡ map f (take i xs) ++ f x ∷ []
map_more f xs i x in_range is =
    ap (map f) (take_more xs i x in_range) ∙ map-append f (take i xs) (get_or xs i x ∷ []) ∙ ap (λ y. map f (take i xs) ++ f y ∷ []) (sym is)

-- the steps ahead of one, that one and those behind it
pub map_parts : {A B : Type 0} (f : A → B) (xs : List A) (i : ℕ) (x : A) → i < length xs → x ≡ get_or xs i x → map f xs ≡ map f (take i xs) ++ f x ∷ map f (drop (i + 1) xs)
map_parts f xs i x in_range is =
    ap (map f) (sym (take-append-drop i xs)) ∙ map-append f (take i xs) (drop i xs)
    ∙ ap (λ ys. map f (take i xs) ++ map f ys) (drop_more xs i x in_range ∙ ap (λ y. y ∷ drop (i + 1) xs) (sym is))
