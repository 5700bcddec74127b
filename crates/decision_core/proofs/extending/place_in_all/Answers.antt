use Rattle.std.proofs.Common.{rules, ◌≡◌, ℕ, ◌+◌, ◌<◌, length, take, get_or, Bool, List, subst}
use Rattle.decision_core.specs.States.{ComeOf}
use Rattle.decision_core.specs.Layers.{Grows, HasPlacings, HasAllPlacings}
use Rattle.decision_core.proofs.Sets.{one_more, placings_grow}
use Rattle.decision_core.proofs.extending.place_in_all.Goals as goal

-- the invariant, of states that grow and have the placings of the next one
module _ {Plan Point State : Type 0} (StandsFor : Plan → (ℕ → Bool) → Point → State → Type 0) (placed : Point → ℕ → Bool) (Next : Plan → Point → ℕ → Point → Type 0) (calls : List ℕ) (n : ℕ) where
  abbrev Both : List State → List State → List State → List State → Type 0
  Both with_old with_new out_old out_new = Grows with_old with_new × Grows out_old out_new

  more : (with_first with_old with_new out_first out_old out_new : List State) (each : List State) (i : ℕ) (state : State) → i < length each → state ≡ get_or each i state
      → Both with_old with_new out_old out_new × HasPlacings StandsFor placed Next calls n with_new out_new calls state
      → Both with_first with_old out_first out_old → HasAllPlacings StandsFor placed Next calls n with_old out_old (take i each)
      → Both with_first with_new out_first out_new × HasAllPlacings StandsFor placed Next calls n with_new out_new (take (i + 1) each)
  more with_first with_old with_new out_first out_old out_new each i state inside is now grew has = (
    ((λ s there. now.0.0 s (grew.0 s there)), (λ s there. now.0.1 s (grew.1 s there))),
    one_more (HasPlacings StandsFor placed Next calls n with_old out_old calls) (HasPlacings StandsFor placed Next calls n with_new out_new calls) each i state inside
        (λ s h. placings_grow StandsFor placed Next calls n with_old with_new out_old out_new calls s now.0.0 now.0.1 h) has
        (subst (HasPlacings StandsFor placed Next calls n with_new out_new calls) is now.1),
  )

pub loop-state-preserved : goal.loop-state-preserved
loop-state-preserved g c =
    let p : (Grows c.loop-state.with.items.items c.place_calls.new.with.items.items × Grows c.loop-state.without.items.items c.place_calls.new.without.items.items)
    × HasPlacings (g.M.Machine.StandsFor c.args.machine.now) (g.M.Machine.placed c.args.machine.now) (g.M.Machine.Next c.args.machine.now) c.args.calls.now c.args.n c.place_calls.new.with.items.items c.place_calls.new.without.items.items c.args.calls.now c.state-item.result = search rules in
    let o : ComeOf (g.M.Machine.origin) g.of c.place_calls.new.with.items.items × ComeOf (g.M.Machine.origin) g.of c.place_calls.new.without.items.items = search rules in
    let m = more (g.M.Machine.StandsFor c.args.machine.now) (g.M.Machine.placed c.args.machine.now) (g.M.Machine.Next c.args.machine.now) c.args.calls.now c.args.n c.args.with.now.items.items c.loop-state.with.items.items
    c.place_calls.new.with.items.items c.args.without.now.items.items c.loop-state.without.items.items c.place_calls.new.without.items.items c.args.each.now c.loop-state.state-index c.state-item.result
    c.loop-state-test.true c.state-item.is p c.loop-state.invariant.0 c.loop-state.invariant.1 in (m.0, m.1, o)
