-- For the prover.
-- Calls that name a handle which isn't bound yet: a plan has it name some object, which may be one that exists (a form of this project's own).
use Rattle.std.specs.Prelude.{◌≡◌, ◌⊎◌, ℕ, ◌≤◌, Bool, List, Some, None, IsSome, Contains}
use Rattle.nfs3_types.specs.declared.calls.NfsCall.{NfsCall}
use Rattle.nfs3_types.specs.declared.replies.Outcome.{Outcome}
use Rattle.nfs_history.specs.declared.knowing.KnownCalls.{KnownCalls}
use Rattle.certificate.specs.declared.plan.Certificate.{Certificate}
use Rattle.tree_nodes.specs.Tree.{Tree, entry_of}
use Rattle.tree_handles.specs.Binding.{Bindings, object_of}
use Rattle.decision_steps.specs.Known.{AgreesWith, NamesMore}
use Rattle.decision_law.specs.Laws.{binds_of}
use Rattle.decision_law.specs.Machine.{Point}
use Rattle.decision_walk.specs.View.{WalkView}
use Rattle.decision_walk.specs.Bars.{AreBarred, DoesNotName}
use Rattle.decision_walk.specs.Standing.{IsAt}
use Rattle.decision_walk.specs.Placings.{GoesOn, HoldsAt}

-- the second state is the first one, and what it binds is bound so by each plan that binds alike and has the handle name the object
pub record IsGuessOf (state : WalkView) (handle : List ℕ) (object : ℕ) (guess : WalkView) : Type 0 where
  pub rest : guess ≡ record state { binds = guess.binds }
  pub covers : (plan : Bindings) → AgreesWith state.binds plan → object_of plan handle ≡ Some object → AgreesWith guess.binds plan

-- one of the states is such a state, or by bindings that meet the state's bars the handle doesn't name the object
abbrev pub HasGuess : KnownCalls → List WalkView → WalkView → List ℕ → ℕ → Type 0
HasGuess known states state handle object =
    ((guess : WalkView) × Contains states guess × IsGuessOf state handle object guess) ⊎ ((binds : Bindings) → AreBarred known binds state.barred → DoesNotName binds handle object)

-- so it is of each object that exists, if the handle isn't bound
abbrev pub HasGuessesOf : KnownCalls → List WalkView → WalkView → List ℕ → Type 0
HasGuessesOf known guesses state handle = (object : ℕ) → object_of state.binds handle ≡ None → IsSome (entry_of state.tree object) → HasGuess known guesses state handle object

module _ (known : KnownCalls) (marks : List Bool) where
  -- the call comes out so only by plans that have a handle which it names, and which isn't bound, name an object that exists
  abbrev pub HasNamesMore : WalkView → ℕ → NfsCall → Outcome → Type 0
  HasNamesMore state n call outcome = (plan : Certificate) (gone : ℕ → Bool) (point : Point known) → IsAt known marks plan gone point state → point.era ≤ known.eras
      → (after : Tree) → GoesOn known plan point.tree n call outcome after → NamesMore state.binds (binds_of known plan) state.tree call

  -- one of these states stands for each point of such a plan
  abbrev pub HasGuesses : List WalkView → WalkView → NfsCall → Type 0
  HasGuesses guesses state call = (plan : Certificate) (gone : ℕ → Bool) (point : Point known) → IsAt known marks plan gone point state
      → NamesMore state.binds (binds_of known plan) state.tree call → HoldsAt known marks guesses plan gone point
