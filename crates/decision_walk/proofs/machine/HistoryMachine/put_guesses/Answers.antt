use Rattle.std.proofs.Common.{◌≡◌, ℕ, List, subst, arith, rules}
use Rattle.std.specs.Prelude.{IsSome, Contains}
use Rattle.tree_nodes.specs.Tree.{Tree, entry_of}
use Rattle.decision_core.proofs.Sets.{one_more, all_gone_over}
use Rattle.decision_walk.specs.Guessing.{HasGuess}
use Rattle.decision_walk.proofs.Guesses.{guess_grows, each_guessed}
use Rattle.decision_walk.proofs.Origins.{adds_nothing, adds_on}
use Rattle.decision_walk.proofs.machine.HistoryMachine.put_guesses.Goals as goal

pub loop-object-init : goal.loop-object-init
loop-object-init c = (adds_nothing c.args.state.now.origin c.args.states.now.items, tt)

pub loop-object-preserved : goal.loop-object-preserved
loop-object-preserved c =
    let known = c.args.self.now.history.now.known in
    let state = c.args.state.now in
    let handle = c.args.handle.now in
    let old = c.loop-object.states.items in
    let new = c.put_guess.new.states.items in (
      adds_on state.origin c.args.states.now.items old new c.loop-object.invariant.0 c.in_ok-put_guess.ensures.0,
      one_more (HasGuess known old state handle) (HasGuess known new state handle) c.deref-object-items.result.now c.loop-object.object-index 0 c.loop-object-test.true
          (guess_grows known old new state handle c.in_ok-put_guess.ensures.0.0) c.loop-object.invariant.1 c.in_ok-put_guess.ensures.1,
    )

pub returns : goal.returns
returns c =
    let known = c.args.self.now.history.now.known in
    let state = c.args.state.now in
    let handle = c.args.handle.now in
    let states = c.loop-object.states.items in
    let objects = c.deref-object-items.result.now in
    let same : c.in_ok-objects.objects.items ≡ objects = search rules in
    let tree : c.nodes.result.now ≡ state.tree = search rules in
    let all : (object : ℕ) → IsSome (entry_of state.tree object) → Contains objects object =
    subst (λ (t : Tree). (object : ℕ) → IsSome (entry_of t object) → Contains objects object) tree
    (subst (λ (list : List ℕ). (object : ℕ) → IsSome (entry_of c.nodes.result.now object) → Contains list object) same c.in_ok-objects.ensures) in (
      c.loop-object.invariant.0,
      each_guessed known states state handle objects all
          (all_gone_over (HasGuess known states state handle) objects c.loop-object.object-index (omega (arith, c.loop-object-test.false)) c.loop-object.invariant.1),
    )
