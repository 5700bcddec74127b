-- Believed.
-- what is known so far of what handles name: RFC 1813, section 2.5 (`nfs_fh3`: a client knows a handle once a reply gave it)
use Rattle.std.specs.Prelude.{◌≡◌, ◌⊎◌, ℕ, ◌&&◌, Bool, true, false, List, Some, None, IsSome, is_some}
use Rattle.std.specs.Option.{option_map_or}
use Rattle.nfs3_types.specs.declared.calls.NfsCall.{NfsCall}
use Rattle.nfs3_types.specs.declared.replies.Outcome.{Outcome}
use Rattle.nfs3_types.specs.declared.replies.Outcome.TheVariants.{Received, Taken}
use Rattle.nfs3_types.specs.Procedures.{failure_in}
use Rattle.tree_nodes.specs.Tree.{Tree, entry_of}
use Rattle.tree_handles.specs.Binding.{Bindings, object_of}
use Rattle.tree_answers.specs.Asked.{first_handle, second_handle}

-- each handle that is bound here names the same object there: the second bindings may be those of a plan of the whole history
abbrev pub AgreesWith : Bindings → Bindings → Type 0
AgreesWith known plan = (handle : List ℕ) (object : ℕ) → object_of known handle ≡ Some object → object_of plan handle ≡ Some object

abbrev pub is_known : Bindings → List ℕ → Bool
is_known known handle = is_some (object_of known handle)

-- whether each handle is bound that a call's arguments name
abbrev pub knows_handles : Bindings → NfsCall → Bool
knows_handles known call = is_known known (first_handle call) && option_map_or (is_known known) (second_handle call) true

-- a plan has a handle of the call, which isn't bound, name an object that stands
pub record NamesMore (known plan : Bindings) (tree : Tree) (call : NfsCall) : Type 0 where
  pub handle : List ℕ
  pub object : ℕ
  pub is_named : (first_handle call ≡ handle) ⊎ (second_handle call ≡ Some handle)
  pub is_new : object_of known handle ≡ None
  pub names : object_of plan handle ≡ Some object
  pub stands : IsSome (entry_of tree object)

-- ---- for the prover

-- whether an outcome is a reply that is a failure
abbrev pub is_failure : Outcome → Bool
is_failure (Received reply) = is_some (failure_in reply)
is_failure (Taken count) = false
