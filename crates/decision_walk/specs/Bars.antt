-- For the prover, and for callers.
-- Which objects handles that aren't bound don't name (a form of this project's own).
use Rattle.std.specs.Prelude.{◌≡◌, ℕ, Bool, true, false, List, Option, Some, option_and_then}
use Rattle.std.specs.List.{AllByRecursion}
use Rattle.nfs3_types.specs.declared.calls.NfsCall.{NfsCall}
use Rattle.nfs_history.specs.declared.knowing.KnownCalls.{KnownCalls}
use Rattle.tree_handles.specs.Binding.{Bindings, object_of}
use Rattle.tree_answers.specs.Asked.{first_handle, second_handle}
use Rattle.decision_walk.specs.declared.bars.Bar.{Bar}
use Rattle.decision_walk.specs.Opening.{call_of_history}

-- the second handle of a call, or the first
abbrev pub handle_at : Bool → NfsCall → Option (List ℕ)
handle_at true call = second_handle call
handle_at false call = Some (first_handle call)

-- the handle of a bar
abbrev pub barred_handle : KnownCalls → Bar → Option (List ℕ)
barred_handle known bar = option_and_then (handle_at bar.is_second) (call_of_history known bar.call)

abbrev pub DoesNotName : Bindings → List ℕ → ℕ → Type 0
DoesNotName binds handle object = object_of binds handle ≡ Some object → ⊥

-- by these bindings the bar's handle doesn't name its object
abbrev pub IsBarred : KnownCalls → Bindings → Bar → Type 0
IsBarred known binds bar = (handle : List ℕ) → barred_handle known bar ≡ Some handle → DoesNotName binds handle bar.object

abbrev pub AreBarred : KnownCalls → Bindings → List Bar → Type 0
AreBarred known binds bars = AllByRecursion (IsBarred known binds) bars
