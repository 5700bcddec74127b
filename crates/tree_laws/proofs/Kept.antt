-- the tree stays where a call fails, or only looks
use Rattle.std.proofs.Common.{◌≡◌, ℕ, Bool, true, false, cond, Option, Some, None}
use Rattle.std.specs.Prelude.{◌&&◌, option_map}
use Rattle.nfs3_types.specs.declared.calls.NfsCall.{NfsCall}
use Rattle.nfs3_types.specs.declared.calls.NfsCall.TheVariants as calls
use Rattle.nfs3_types.specs.declared.replies.NfsReply.{NfsReply}
use Rattle.nfs3_types.specs.declared.replies.Outcome.TheVariants.{Received, Taken}
use Rattle.nfs3_types.specs.declared.status.Failure.{Failure}
use Rattle.file_tree.specs.Change.Change.{Keep}
use Rattle.tree_nodes.specs.Tree.{Tree}
use Rattle.tree_handles.specs.Binding.{Bindings}
use Rattle.nfs3_types.specs.Procedures.{is_answered, failure_in}
use Rattle.tree_answers.specs.Failure.{is_permitted}
use Rattle.tree_answers.specs.Look.{getattr_is_legal, lookup_is_legal, readlink_is_legal, read_is_legal, commit_is_legal}
use Rattle.tree_answers.specs.Listing.{readdir_is_legal, readdirplus_is_legal}
use Rattle.file_tree.specs.Success.{changed, change_done, change_answered, change_taken}
use Rattle.tree_laws.specs.Leaving.{FailureLeaves, LookingLeaves, only_looks}

kept : (before after : Tree) (right : Bool) → option_map (changed before) (cond right (Some Keep) None) ≡ Some after → after ≡ before
kept before after true e = cc
kept before after false e = absurd (cc)

no_tree : (before after : Tree) → option_map (changed before) None ≡ Some after → after ≡ before
no_tree before after e = absurd (cc)

failed : (binds : Bindings) (before after : Tree) (number : ℕ) (call : NfsCall) (reply : NfsReply) (failure : Failure) (o : Option Failure) → o ≡ Some failure
    → option_map (changed before) (change_answered binds before number call reply o) ≡ Some after → after ≡ before
failed binds before after number call reply failure None is e = absurd (cc)
failed binds before after number call reply failure (Some f) is e = kept before after (is_answered call reply && is_permitted binds before call f) e

pub failure_leaves : FailureLeaves
failure_leaves binds before after number call reply failure is e = failed binds before after number call reply failure (failure_in reply) is e

looks : (binds : Bindings) (before after : Tree) (number : ℕ) (call : NfsCall) (reply : NfsReply) → only_looks call ≡ true
    → option_map (changed before) (change_done binds before number call reply) ≡ Some after → after ≡ before
looks binds before after number (calls.GetAttr object) reply is e = kept before after (getattr_is_legal binds before object reply) e
looks binds before after number (calls.Lookup place) reply is e = kept before after (lookup_is_legal binds before place reply) e
looks binds before after number (calls.ReadLink link) reply is e = kept before after (readlink_is_legal binds before link reply) e
looks binds before after number (calls.Read call) reply is e = kept before after (read_is_legal binds before call reply) e
looks binds before after number (calls.ReadDir call) reply is e = kept before after (readdir_is_legal binds before call reply) e
looks binds before after number (calls.ReadDirPlus call) reply is e = kept before after (readdirplus_is_legal binds before call reply) e
looks binds before after number (calls.Commit call) reply is e = kept before after (commit_is_legal binds before call.file reply) e
looks binds before after number _ reply is e = absurd (cc)

answered : (binds : Bindings) (before after : Tree) (number : ℕ) (call : NfsCall) (reply : NfsReply) (o : Option Failure) → only_looks call ≡ true
    → option_map (changed before) (change_answered binds before number call reply o) ≡ Some after → after ≡ before
answered binds before after number call reply None is e = looks binds before after number call reply is e
answered binds before after number call reply (Some f) is e = kept before after (is_answered call reply && is_permitted binds before call f) e

taken : (binds : Bindings) (before after : Tree) (number : ℕ) (call : NfsCall) (count : Option ℕ) → only_looks call ≡ true
    → option_map (changed before) (change_taken binds before number call count) ≡ Some after → after ≡ before
taken binds before after number (calls.GetAttr _) count is e = no_tree before after e
taken binds before after number (calls.Lookup _) count is e = no_tree before after e
taken binds before after number (calls.ReadLink _) count is e = no_tree before after e
taken binds before after number (calls.Read _) count is e = no_tree before after e
taken binds before after number (calls.ReadDir _) count is e = no_tree before after e
taken binds before after number (calls.ReadDirPlus _) count is e = no_tree before after e
taken binds before after number (calls.Commit _) count is e = no_tree before after e
taken binds before after number _ count is e = absurd (cc)

pub looking_leaves : LookingLeaves
looking_leaves binds before after number call (Received reply) is e = answered binds before after number call reply (failure_in reply) is e
looking_leaves binds before after number call (Taken count) is e = taken binds before after number call count is e
