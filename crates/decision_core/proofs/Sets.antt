-- What loops over states and calls keep.
use Rattle.std.proofs.Common.{◌≡◌, ◌⊎◌, inl, inr, ℕ, zero, suc, ◌+◌, ◌<◌, ◌≤◌, Bool, true, false, List, [], ◌∷◌, ◌++◌, Option, Some, length, take, get_or, Contains, refl, sym, ap, subst, ◌∙◌, arith}
use Rattle.std.specs.List.{AllByRecursion}
use Rattle.std.proofs.lemmas.List.{take_more, take_all, length-append}
use Rattle.std.proofs.lemmas.List.Elements.{All-from_recursion, All-contains, Contains-append_left, Contains-append_right}
use Rattle.decision_core.specs.States.{ComeOf, first_origin, also, HasFor, Holds, Forgets, HasStep, HasSteps, Settles}
use Rattle.decision_core.specs.Layers.{Grows, HasEither, IsPutInto, HasPlacing, HasPlacings, IsSortedInto, ForgetsAll}

-- nothing comes of anything
pub none_come : {Origin State : Type 0} (origin : State → Origin) (of : Option Origin) (states : List State) → states ≡ [] → ComeOf origin of states
none_come origin of states none = subst (ComeOf origin of) (sym none) tt

-- what comes of anything comes of what its first one does
pub first_comes : {Origin State : Type 0} (origin : State → Origin) (of : Option Origin) (states : List State) → ComeOf origin of states → ComeOf origin (first_origin origin states) states
first_comes origin of [] come = tt
first_comes origin of (s ∷ states) come = subst (λ o. ComeOf origin o (s ∷ states)) (sym come.0) come

-- of each of these it holds, or it is among what is left
abbrev pub DoneOrLeft : {State : Type 0} → (State → Type 0) → List State → List State → Type 0
DoneOrLeft {State} P states left = (s : State) → Contains states s → P s ⊎ Contains left s

module _ {State : Type 0} where
  pub first_or_rest : (x : State) (xs : List State) (s : State) → Contains (x ∷ xs) s → (x ≡ s) ⊎ Contains xs s
  first_or_rest x xs s (zero, inside, is) = inl is
  first_or_rest x xs s (suc k, inside, is) = inr (k, omega (arith, inside), is)

  pub none_there : (s : State) → Contains [] s → ⊥
  none_there s there = omega (arith, there.1)

  pub done_start : (P : State → Type 0) (states : List State) → DoneOrLeft P states states
  done_start P states s there = inr there

  pub done_step : (P Q : State → Type 0) (states : List State) (x : State) (xs left : List State) → left ≡ x ∷ xs → ((s : State) → P s → Q s) → Q x
      → DoneOrLeft P states left → DoneOrLeft Q states xs
  done_step P Q states x xs left is weaker here done s there =
      elim (done s there) [
        | inl p ↦ inl (weaker s p)
        | inr in_left ↦ elim (first_or_rest x xs s (subst (λ l. Contains l s) is in_left)) [ inl same ↦ inl (subst Q same here) | inr later ↦ inr later ]
      ]

  pub done_all : (P : State → Type 0) (states left : List State) → left ≡ [] → DoneOrLeft P states left → (s : State) → Contains states s → P s
  done_all P states left is done s there =
      elim (done s there) [ inl p ↦ p | inr in_left ↦ absurd (none_there s (subst (λ l. Contains l s) is in_left)) ]

-- one state more
pub grows_by_one : {State : Type 0} (old new : List State) (state : State) → new ≡ old ++ state ∷ [] → Grows old new
grows_by_one old new state is s there = subst (λ l. Contains l s) (sym is) (Contains-append_left old (state ∷ []) s there)

pub one_is_there : {State : Type 0} (old new : List State) (state : State) → new ≡ old ++ state ∷ [] → Contains new state
one_is_there old new state is = subst (λ l. Contains l state) (sym is) (Contains-append_right old (state ∷ []) state (zero, omega arith, refl))

pub one_longer : {State : Type 0} (old new : List State) (state : State) → new ≡ old ++ state ∷ [] → length new ≡ length old + 1
one_longer old new state is = ap length is ∙ length-append old (state ∷ [])

module _ {X : Type 0} where
  -- what holds of all of a list holds of what is among them
  pub all_among : (P : X → Type 0) (xs ys : List X) → ((x : X) → Contains ys x → Contains xs x) → AllByRecursion P xs → AllByRecursion P ys
  all_among P xs [] there all = tt
  all_among P xs (y ∷ ys) there all = (
    All-contains P xs y (All-from_recursion P xs all) (there y (zero, omega arith, refl)),
    all_among P xs ys (λ x in_ys. there x (suc in_ys.0, omega (arith, in_ys.1), in_ys.2)) all,
  )

  pub all_push : (P : X → Type 0) (xs : List X) (x : X) → AllByRecursion P xs → P x → AllByRecursion P (xs ++ x ∷ [])
  all_push P [] x all here = (here, tt)
  all_push P (y ∷ xs) x all here = (all.0, all_push P xs x all.1 here)

  pub all_weaker : (P Q : X → Type 0) → ((x : X) → P x → Q x) → (xs : List X) → AllByRecursion P xs → AllByRecursion Q xs
  all_weaker P Q so [] all = tt
  all_weaker P Q so (x ∷ xs) all = (so x all.0, all_weaker P Q so xs all.1)

  -- one more of a list holds
  pub one_more : (P Q : X → Type 0) (xs : List X) (i : ℕ) (d : X) → i < length xs → ((x : X) → P x → Q x) → AllByRecursion P (take i xs) → Q (get_or xs i d)
      → AllByRecursion Q (take (i + 1) xs)
  one_more P Q xs i d inside so all here =
      subst (AllByRecursion Q) (sym (take_more xs i d inside)) (all_push Q (take i xs) (get_or xs i d) (all_weaker P Q so (take i xs) all) here)

  -- all of a list hold
  pub all_gone_over : (P : X → Type 0) (xs : List X) (i : ℕ) → length xs ≤ i → AllByRecursion P (take i xs) → AllByRecursion P xs
  all_gone_over P xs i past all = subst (AllByRecursion P) (take_all i xs past) all

module _ {Plan Point State : Type 0} (StandsFor : Plan → (ℕ → Bool) → Point → State → Type 0) where
  -- what replaces a state stands for its points
  pub held_by : (states : List State) (state : State) (plan : Plan) (gone : ℕ → Bool) (point : Point) → HasFor StandsFor states state → StandsFor plan gone point state → Holds StandsFor plan gone states point
  held_by states state plan gone point has stands = (has.0, has.1, has.2 plan gone point stands)

  -- what a greater list has
  pub for_grows : (old new : List State) (state : State) → Grows old new → HasFor StandsFor old state → HasFor StandsFor new state
  for_grows old new state grows has = (has.0, grows has.0 has.1, has.2)

  pub held_grows : (old new : List State) (plan : Plan) (gone : ℕ → Bool) (point : Point) → Grows old new → Holds StandsFor plan gone old point → Holds StandsFor plan gone new point
  held_grows old new plan gone point grows held = (held.0, grows held.0 held.1, held.2)

  -- what stands for all that a state forgets
  abbrev pub HasForgotten : ℕ → List State → State → Type 0
  HasForgotten n states state = (plan : Plan) (gone : ℕ → Bool) (point : Point) → StandsFor plan gone point state → Holds StandsFor plan (also gone n) states point

  pub forgotten_by : (n : ℕ) (states : List State) (old new : State) → Forgets StandsFor n old new → HasFor StandsFor states new → HasForgotten n states old
  forgotten_by n states old new forgets has plan gone point stands = held_by states new plan (also gone n) point has (forgets plan gone point stands)

  pub forgotten_grows : (n : ℕ) (old new : List State) (state : State) → Grows old new → HasForgotten n old state → HasForgotten n new state
  forgotten_grows n old new state grows has plan gone point stands = held_grows old new plan (also gone n) point grows (has plan gone point stands)

  module _ (placed : Point → ℕ → Bool) where
    module _ (Next : Plan → Point → ℕ → Point → Type 0) where
      pub forgets_all : (n : ℕ) (before after : List State) → ((s : State) → Contains before s → HasForgotten n after s) → ForgetsAll StandsFor placed Next n before after
      forgets_all n before after each plan gone point held = each held.0 held.1 plan gone point held.2

      pub sorted_grows : (n : ℕ) (with_old with_new out_old out_new : List State) (state : State) → Grows with_old with_new → Grows out_old out_new
          → IsSortedInto StandsFor placed Next n with_old out_old state → IsSortedInto StandsFor placed Next n with_new out_new state
      sorted_grows n with_old with_new out_old out_new state grows_with grows_out sorted plan gone point stands kept =
          let s = sorted plan gone point stands kept in (
            (λ is. held_grows with_old with_new plan gone point grows_with (s.0 is)),
            (λ is. held_grows out_old out_new plan gone point grows_out (s.1 is)),
          )

      -- what is put into greater lists too
      pub either_grows : (n : ℕ) (with_old with_new out_old out_new : List State) (plan : Plan) (gone : ℕ → Bool) (point : Point) → Grows with_old with_new → Grows out_old out_new
          → HasEither StandsFor placed Next plan gone n with_old out_old point → HasEither StandsFor placed Next plan gone n with_new out_new point
      either_grows n with_old with_new out_old out_new plan gone point grows_with grows_out has = (
        has.0,
        has.1,
        elim has.2 [
          | inl there ↦ inl (there.0, held_grows with_old with_new plan gone has.0 grows_with there.1)
          | inr there ↦ inr (there.0, held_grows out_old out_new plan gone has.0 grows_out there.1)
        ],
      )

      pub put_grows : (calls : List ℕ) (n : ℕ) (with_old with_new out_old out_new : List State) (state : State) → Grows with_old with_new → Grows out_old out_new
          → IsPutInto StandsFor placed Next calls n with_old out_old state → IsPutInto StandsFor placed Next calls n with_new out_new state
      put_grows calls n with_old with_new out_old out_new state grows_with grows_out has plan gone point stands kept n_kept =
          either_grows n with_old with_new out_old out_new plan gone point grows_with grows_out (has plan gone point stands kept n_kept)

      pub placing_grows : (calls : List ℕ) (n : ℕ) (with_old with_new out_old out_new : List State) (state : State) (x : ℕ) → Grows with_old with_new → Grows out_old out_new
          → HasPlacing StandsFor placed Next calls n with_old out_old state x → HasPlacing StandsFor placed Next calls n with_new out_new state x
      placing_grows calls n with_old with_new out_old out_new state x grows_with grows_out has plan gone point after stands kept n_kept x_kept not_placed next =
          either_grows n with_old with_new out_old out_new plan gone after grows_with grows_out (has plan gone point after stands kept n_kept x_kept not_placed next)

      pub placings_grow : (calls : List ℕ) (n : ℕ) (with_old with_new out_old out_new : List State) (each : List ℕ) (state : State) → Grows with_old with_new → Grows out_old out_new
          → HasPlacings StandsFor placed Next calls n with_old out_old each state → HasPlacings StandsFor placed Next calls n with_new out_new each state
      placings_grow calls n with_old with_new out_old out_new each state grows_with grows_out has =
          all_weaker (HasPlacing StandsFor placed Next calls n with_old out_old state) (HasPlacing StandsFor placed Next calls n with_new out_new state)
          (λ x p. placing_grows calls n with_old with_new out_old out_new state x grows_with grows_out p) each has

      -- the state that settles another, sorted
      either : (b : Bool) → (b ≡ true) ⊎ (b ≡ false)
      either true = inl refl
      either false = inr refl

      pub settled_sorted : (calls : List ℕ) (n : ℕ) (with_n without : List State) (state settled : State) → Settles StandsFor placed Next calls state settled
          → IsSortedInto StandsFor placed Next n with_n without settled → IsPutInto StandsFor placed Next calls n with_n without state
      settled_sorted calls n with_n without state settled settles sorted plan gone point stands kept n_kept =
          let s = settles plan gone point stands kept in
          let there = sorted plan gone s.0 s.1 n_kept in (
            s.0,
            s.2,
            elim (either (placed s.0 n)) [ inl is ↦ inl (is, there.0 is) | inr is ↦ inr (is, there.1 is) ],
          )

      -- the states that a step gives, each of which is put there
      pub step_put : (calls : List ℕ) (n : ℕ) (given with_n without : List State) (x : ℕ) (state : State) → HasStep StandsFor placed Next given x state
          → ((s : State) → Contains given s → IsPutInto StandsFor placed Next calls n with_n without s) → HasPlacing StandsFor placed Next calls n with_n without state x
      step_put calls n given with_n without x state has each plan gone point after stands kept n_kept x_kept not_placed next =
          let held = has plan gone point after stands x_kept not_placed next in
          each held.0 held.1 plan gone after held.2 kept n_kept

      -- so it is of the states that the steps of more calls give
      pub steps_put : (calls : List ℕ) (n : ℕ) (given with_n without : List State) (each : List ℕ) (state : State) → HasSteps StandsFor placed Next given each state
          → ((s : State) → Contains given s → IsPutInto StandsFor placed Next calls n with_n without s) → HasPlacings StandsFor placed Next calls n with_n without each state
      steps_put calls n given with_n without each state has all_put =
          all_weaker (λ x. HasStep StandsFor placed Next given x state) (HasPlacing StandsFor placed Next calls n with_n without state) (λ x step. step_put calls n given with_n without x state step all_put) each has

      -- one of the states settles another
      abbrev pub HasSettled : List ℕ → List State → State → Type 0
      HasSettled calls states state = (other : State) × Contains states other × Settles StandsFor placed Next calls state other

      pub settled_grows : (calls : List ℕ) (old new : List State) (state : State) → Grows old new → HasSettled calls old state → HasSettled calls new state
      settled_grows calls old new state grows has = (has.0, grows has.0 has.1, has.2)

      -- so does a third that stands for it
      pub settled_held : (calls : List ℕ) (states : List State) (state settled : State) → Settles StandsFor placed Next calls state settled → HasFor StandsFor states settled
          → HasSettled calls states state
      settled_held calls states state settled settles has = (
        has.0,
        has.1,
        (λ plan gone point stands kept. let s = settles plan gone point stands kept in (s.0, has.2 plan gone s.0 s.1, s.2)),
      )
