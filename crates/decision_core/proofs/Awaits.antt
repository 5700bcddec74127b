-- Layer by layer a step of the walk finds all that come of a list of open calls that ends in n.
use Rattle.std.proofs.Common.{◌≡◌, ◌⊎◌, inl, inr, ℕ, ◌+◌, Bool, true, false, List, [], ◌∷◌, Contains, refl, sym, subst}
use Rattle.std.specs.List.{AllByRecursion}
use Rattle.std.proofs.lemmas.Bool.{cases_eq}
use Rattle.std.proofs.lemmas.List.Elements.{All-from_recursion, All-contains}
use Rattle.decision_core.specs.Times.{Times, IsAmong}
use Rattle.decision_core.specs.Decide.{IsTold, IsCompletion}
use Rattle.decision_core.specs.States.{Holds}
use Rattle.decision_core.specs.Layers.{Grows, IsAnswering, IsSortedOut, HasEither, HasPlacing, HasPlacings, HasAllPlacings, Completes, Awaits, CompletesOrAwaits, ExtendsAll}
use Rattle.decision_core.proofs.Sets.{none_there, held_grows}
use Rattle.decision_core.proofs.Orders.{all_at}
use Rattle.decision_core.proofs.Walk.{completion_stays, completion_on, must_stand, first_open}

either : (b : Bool) → (b ≡ true) ⊎ (b ≡ false)
either true = inl refl
either false = inr refl

module _ {Plan Point State : Type 0} (StandsFor : Plan → (ℕ → Bool) → Point → State → Type 0) (placed : Point → ℕ → Bool) (Next : Plan → Point → ℕ → Point → Type 0) (told : (plan : Plan) → IsTold placed (Next plan)) where
  -- what holds of each state of a list holds of one that it contains
  state_at : (P : State → Type 0) (states : List State) (s : State) → AllByRecursion P states → Contains states s → P s
  state_at P states s all there = All-contains P states s (All-from_recursion P states all) there

  module _ (calls : List ℕ) (n : ℕ) (before : List State) where
    -- the first layer
    pub awaits_first : (layer states : List State) → IsSortedOut StandsFor placed Next n before states layer → CompletesOrAwaits StandsFor placed Next calls n before layer states
    awaits_first layer states sorted plan gone times event answering has =
        let there = sorted has.1.0 has.1.1 plan gone has.0 has.1.2 (all_at (λ m. gone m ≡ false) calls n answering.kept answering.there) in
        elim (either (placed has.0 n)) [
          | inl is ↦ inl (has.0, there.0 is, (has.2.0, completion_stays placed (Next plan) (told plan) times event n has.0 has.2.0 answering.answer is has.2.1))
          | inr is ↦ inr (has.0, there.1 is, is, has.2)
        ]

    module _ (plan : Plan) (gone : ℕ → Bool) (times : Times) (event : ℕ) (answering : IsAnswering times gone event n calls) where
      -- a point behind the placing of x, whose completion goes on from there
      goes_on : (after : Point) (order : List ℕ) (next states : List State) → HasEither StandsFor placed Next plan gone n states next after → IsCompletion placed (Next plan) times event after order
          → Completes StandsFor placed Next plan gone times (event + 1) states ⊎ Awaits StandsFor placed Next plan gone times event n next
      goes_on after order next states has c =
          let o = has.1.serves times event order c in
          elim has.2 [
            | inl held ↦ inl (has.0, held.1, (o.0, completion_stays placed (Next plan) (told plan) times event n has.0 o.0 answering.answer held.0 o.1))
            | inr held ↦ inr (has.0, held.1, held.0, o)
          ]

      -- a point of the layer: the first call of its completion leads to what is found, or to the next layer
      one_on : (layer next states : List State) → HasAllPlacings StandsFor placed Next calls n states next layer → (point : Point) → Holds StandsFor plan gone layer point
          → placed point n ≡ false → (order : List ℕ) → IsCompletion placed (Next plan) times event point order
          → Completes StandsFor placed Next plan gone times (event + 1) states ⊎ Awaits StandsFor placed Next plan gone times event n next
      one_on layer next states has point held not_placed [] c = absurd (must_stand placed (Next plan) (told plan) times event n point [] answering.answer not_placed c)
      one_on layer next states has point held not_placed (x ∷ order) c =
          let among : IsAmong calls x = elim (cases_eq x n) [
            | inl same ↦ subst (IsAmong calls) (sym same) answering.there
            | inr other ↦ answering.all x (first_open placed (Next plan) (told plan) times event n point x order answering.answer not_placed c other) other
          ] in
          let at_state = state_at (HasPlacings StandsFor placed Next calls n states next calls) layer held.0 has held.1 in
          let at_x = all_at (HasPlacing StandsFor placed Next calls n states next held.0) calls x at_state among in
          let kept = all_at (λ m. gone m ≡ false) calls in
          goes_on c.runs.0 order next states
          (at_x plan gone point c.runs.0 held.2 answering.kept (kept n answering.kept answering.there) (kept x answering.kept among) c.unplaced.0 c.runs.1)
          (completion_on placed (Next plan) (told plan) times event point x order c)

    -- the next layer
    pub awaits_next : (layer next old new : List State) → Grows old new → HasAllPlacings StandsFor placed Next calls n new next layer
        → CompletesOrAwaits StandsFor placed Next calls n before layer old → CompletesOrAwaits StandsFor placed Next calls n before next new
    awaits_next layer next old new grows placings has plan gone times event answering completes =
        elim (has plan gone times event answering completes) [
          | inl there ↦ inl (there.0, held_grows StandsFor old new plan gone there.0 grows there.1, there.2)
          | inr w ↦ one_on plan gone times event answering layer next new placings w.0 w.1 w.2 w.3.0 w.3.1
        ]

    -- an empty layer
    pub extended_all : (layer states : List State) → layer ≡ [] → CompletesOrAwaits StandsFor placed Next calls n before layer states → ExtendsAll StandsFor placed Next calls n before states
    extended_all layer states empty has plan gone times event answering completes =
        elim (has plan gone times event answering completes) [
          | inl there ↦ there
          | inr w ↦ absurd (none_there w.1.0 (subst (λ l. Contains l w.1.0) empty w.1.1))
        ]
