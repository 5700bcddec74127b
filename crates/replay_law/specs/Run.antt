-- Believed.
-- whole runs of a state, and of a state that loses at each crash what came after a cut
use Rattle.std.specs.Prelude.{◌≡◌, ℕ, List, [], ◌∷◌, ◌++◌, take, Option, Some, None, IsSome, option_and_then}
use Rattle.std.specs.List.{flat_map}

-- a numbered call with its outcome
pub record TakenStep (Call Outcome : Type 0) : Type 0 where
  pub number : ℕ
  pub call : Call
  pub outcome : Outcome

-- the steps between two crashes, and how many of them are kept at the second
pub record Era (Call Outcome : Type 0) : Type 0 where
  pub steps : List (TakenStep Call Outcome)
  pub kept : ℕ

module _ {State Call Outcome : Type 0} (next : State → ℕ → Call → Outcome → Option State) where
  -- the state after these steps, where each has a next state: a legal sequential history, Herlihy and Wing 1990, section 2.1
  abbrev pub state_after : State → List (TakenStep Call Outcome) → Option State
  state_after state [] = Some state
  state_after state (step ∷ steps) = option_and_then (λ after. state_after after steps) (next state step.number step.call step.outcome)

  -- the first step that has no next state has this number: what stands ahead of it is legal, and with it isn't
  pub record IsFirstIllegal (start : State) (steps : List (TakenStep Call Outcome)) (number : ℕ) : Type 0 where
    pub ahead : List (TakenStep Call Outcome)
    pub stuck : TakenStep Call Outcome
    pub behind : List (TakenStep Call Outcome)
    pub parts : steps ≡ ahead ++ stuck ∷ behind
    pub runs : IsSome (state_after start ahead)
    pub stops : state_after start (ahead ++ stuck ∷ []) ≡ None
    pub named : stuck.number ≡ number

-- the steps that outlive the crashes at the ends of these eras: the first ones of each, Izraelevitz, Mendes and Scott 2016, section 2
abbrev pub kept_steps : {Call Outcome : Type 0} → List (Era Call Outcome) → List (TakenStep Call Outcome)
kept_steps eras = flat_map (λ era. take era.kept era.steps) eras

-- every era runs from the state after what the eras ahead of it kept
abbrev pub EveryEraRuns : {State Call Outcome : Type 0} → (State → ℕ → Call → Outcome → Option State) → State → List (Era Call Outcome) → Type 0
EveryEraRuns {State} {Call} {Outcome} next start eras =
    (ahead behind : List (Era Call Outcome)) (era : Era Call Outcome) → eras ≡ ahead ++ era ∷ behind → IsSome (state_after next start (kept_steps ahead ++ era.steps))

-- the first step of these eras that has no next state has this number: the eras ahead of its era run, and in its era, from
-- the state after what they kept, it is the first one
pub record IsFirstIllegalInEras {State Call Outcome : Type 0} (next : State → ℕ → Call → Outcome → Option State) (start : State) (eras : List (Era Call Outcome)) (number : ℕ)
    : Type 0 where
  pub ahead : List (Era Call Outcome)
  pub era : Era Call Outcome
  pub behind : List (Era Call Outcome)
  pub parts : eras ≡ ahead ++ era ∷ behind
  pub run : EveryEraRuns next start ahead
  pub base : State
  pub reached : state_after next start (kept_steps ahead) ≡ Some base
  pub first : IsFirstIllegal next base era.steps number
