-- For the prover.
-- States in which handles that aren't bound don't name what exists: a call failed on them (a form of this project's own).
use Rattle.std.specs.Prelude.{◌≡◌, ◌⊎◌, ℕ, List, Some}
use Rattle.nfs3_types.specs.declared.calls.NfsCall.{NfsCall}
use Rattle.nfs_history.specs.declared.knowing.KnownCalls.{KnownCalls}
use Rattle.tree_handles.specs.Binding.{Bindings}
use Rattle.tree_answers.specs.Asked.{first_handle, second_handle}
use Rattle.decision_steps.specs.Known.{NamesMore}
use Rattle.decision_walk.specs.declared.bars.Bar.{Bar}
use Rattle.decision_walk.specs.View.{WalkView}
use Rattle.decision_walk.specs.Bars.{AreBarred}

-- the call names the handle
abbrev pub IsNamed : NfsCall → List ℕ → Type 0
IsNamed call handle = (first_handle call ≡ handle) ⊎ (second_handle call ≡ Some handle)

-- bindings that meet the first bars, and have no handle which the call names, and which isn't bound, name an object that exists, meet the second ones
abbrev pub KeepsBars : KnownCalls → WalkView → NfsCall → List Bar → List Bar → Type 0
KeepsBars known state call old new = (binds : Bindings) → AreBarred known binds state.barred → ¬ NamesMore state.binds binds state.tree call → AreBarred known binds old → AreBarred known binds new

-- the second state is the first one, with bars that such bindings meet
pub record IsBarring (known : KnownCalls) (state : WalkView) (call : NfsCall) (after : WalkView) : Type 0 where
  pub rest : after ≡ record state { barred = after.barred }
  pub meets : (binds : Bindings) → AreBarred known binds state.barred → ¬ NamesMore state.binds binds state.tree call → AreBarred known binds after.barred
