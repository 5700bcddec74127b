-- Believed.
-- the calls that may succeed in a tree: RFC 1813, section 3.3, by procedure
use Rattle.std.specs.Prelude.{◌≡◌, ℕ, Bool, true, false, None, IsSome, is_some}
use Rattle.std.specs.Option.{option_map_or}
use Rattle.nfs3_types.specs.declared.calls.DirectoryName.{DirectoryName}
use Rattle.nfs3_types.specs.declared.calls.NfsCall.{NfsCall}
use Rattle.nfs3_types.specs.declared.calls.NfsCall.TheVariants as calls
use Rattle.nfs3_types.specs.declared.replies.NfsReply.{NfsReply}
use Rattle.nfs3_types.specs.declared.replies.Outcome.TheVariants.{Received}
use Rattle.nfs3_types.specs.Procedures.{is_answered, failure_in}
use Rattle.tree_nodes.specs.Tree.{Tree}
use Rattle.tree_answers.specs.tree_handles_specs.Binding.{Bindings, is_named}
use Rattle.tree_answers.specs.tree_handles_specs.Kind.{is_link}
use Rattle.tree_answers.specs.tree_handles_specs.Live.{live_entry, directory_of, file_of}
use Rattle.tree_answers.specs.Look.{object_named}
use Rattle.file_tree.specs.Success.{next_tree, change_taken}

-- some success of the call's procedure leads to a tree
pub record AllowsSuccess (binds : Bindings) (tree : Tree) (number : ℕ) (call : NfsCall) : Type 0 where
  pub reply : NfsReply
  pub answers : is_answered call reply ≡ true
  pub succeeds : failure_in reply ≡ None
  pub leads : IsSome (next_tree binds tree number call (Received reply))

-- ---- for the prover

-- the same without the reply. A LOOKUP asks that what it finds has a handle at all, and a READLINK for a link. A READ, a WRITE or a
-- COMMIT asks for a file, and a READDIR or READDIRPLUS for a directory, since a READ may give no bytes, a WRITE may
-- write none, and a list may have no entry. Every other call that changes the tree asks for what it does where it is taken
abbrev pub may_be_found : Bindings → Tree → DirectoryName → Bool
may_be_found binds tree place =
    option_map_or (λ directory. option_map_or (is_named binds) (object_named tree directory place.name) false) (directory_of binds tree place.directory) false

abbrev pub may_succeed : Bindings → Tree → ℕ → NfsCall → Bool
may_succeed binds tree number (calls.GetAttr object) = is_some (live_entry binds tree object)
may_succeed binds tree number (calls.Lookup place) = may_be_found binds tree place
may_succeed binds tree number (calls.ReadLink link) = option_map_or (λ e. is_link e.1.content) (live_entry binds tree link) false
may_succeed binds tree number (calls.Read call) = is_some (file_of binds tree call.file)
may_succeed binds tree number (calls.Write call) = is_some (file_of binds tree call.file)
may_succeed binds tree number (calls.Commit call) = is_some (file_of binds tree call.file)
may_succeed binds tree number (calls.ReadDir call) = is_some (directory_of binds tree call.directory)
may_succeed binds tree number (calls.ReadDirPlus call) = is_some (directory_of binds tree call.directory)
may_succeed binds tree number call = is_some (change_taken binds tree number call None)
