-- a call that only looks leaves the tree, and so does a SETATTR that sets no size
use Rattle.std.proofs.Common.{◌≡◌, ℕ, Bool, true, false, Option, Some, None, refl, ◌∙◌}
use Rattle.std.specs.Prelude.{◌&&◌, if◌then◌else◌, is_none, is_some, option_and_then, option_map}
use Rattle.nfs3_types.specs.declared.calls.NfsCall.{NfsCall}
use Rattle.nfs3_types.specs.declared.calls.NfsCall.TheVariants as calls
use Rattle.nfs3_types.specs.declared.calls.SetAttrArguments.{SetAttrArguments}
use Rattle.nfs3_types.specs.declared.replies.Answer.TheVariants.{Done}
use Rattle.nfs3_types.specs.declared.replies.NfsReply.{NfsReply}
use Rattle.nfs3_types.specs.declared.replies.NfsReply.TheVariants as replies
use Rattle.nfs3_types.specs.declared.replies.Outcome.{Outcome}
use Rattle.nfs3_types.specs.declared.replies.Outcome.TheVariants.{Received, Taken}
use Rattle.nfs3_types.specs.declared.status.Failure.{Failure}
use Rattle.nfs3_types.specs.Procedures.{is_answered, failure_in}
use Rattle.tree_starts.specs.declared.profile.Profile.{Profile}
use Rattle.tree_starts.specs.declared.profile.Profile.TheVariants.{Plain, Strict}
use Rattle.tree_nodes.specs.Tree.{Tree}
use Rattle.tree_nodes.proofs.Chains.{chained}
use Rattle.tree_handles.specs.Binding.{Bindings}
use Rattle.tree_handles.specs.Live.{FileEntry, live_entry, file_of}
use Rattle.tree_answers.specs.Failure.{is_permitted}
use Rattle.tree_answers.specs.Look.{getattr_is_legal, lookup_is_legal, readlink_is_legal, read_is_legal, commit_is_legal}
use Rattle.tree_answers.specs.Listing.{readdir_is_legal, readdirplus_is_legal}
use Rattle.file_tree.specs.Change.Change.{Keep}
use Rattle.file_tree.specs.Made.{only_if, set_size}
use Rattle.file_tree.specs.Written.{set_attributes}
use Rattle.file_tree.specs.Setting.{under}
use Rattle.file_tree.specs.Strict.{judged, agrees}
use Rattle.file_tree.specs.Success.{changed, change_done, change_set, change_answered, change_taken, next_tree}
use Rattle.decision_walk.specs.Settling.{may_change, sets_no_size}

module _ (binds : Bindings) (tree : Tree) (number : ℕ) where
  kept : (after : Tree) (b : Bool) → option_map (changed tree) (only_if b Keep) ≡ Some after → tree ≡ after
  kept after true e = cc
  kept after false e = absurd (cc)

  done : (after : Tree) (call : NfsCall) (reply : NfsReply) → may_change call ≡ false → option_map (changed tree) (change_done binds tree number call reply) ≡ Some after → tree ≡ after
  done after (calls.GetAttr object) reply is e = kept after (getattr_is_legal binds tree object reply) e
  done after (calls.SetAttr call) reply is e = absurd (cc)
  done after (calls.Lookup place) reply is e = kept after (lookup_is_legal binds tree place reply) e
  done after (calls.ReadLink link) reply is e = kept after (readlink_is_legal binds tree link reply) e
  done after (calls.Read call) reply is e = kept after (read_is_legal binds tree call reply) e
  done after (calls.Write call) reply is e = absurd (cc)
  done after (calls.Create call) reply is e = absurd (cc)
  done after (calls.MkDir call) reply is e = absurd (cc)
  done after (calls.SymLink call) reply is e = absurd (cc)
  done after (calls.Remove place) reply is e = absurd (cc)
  done after (calls.RmDir place) reply is e = absurd (cc)
  done after (calls.Rename call) reply is e = absurd (cc)
  done after (calls.ReadDir call) reply is e = kept after (readdir_is_legal binds tree call reply) e
  done after (calls.ReadDirPlus call) reply is e = kept after (readdirplus_is_legal binds tree call reply) e
  done after (calls.Commit call) reply is e = kept after (commit_is_legal binds tree call.file reply) e

  answered : (after : Tree) (call : NfsCall) (reply : NfsReply) (failure : Option Failure) → may_change call ≡ false
      → option_map (changed tree) (change_answered binds tree number call reply failure) ≡ Some after → tree ≡ after
  answered after call reply None is e = done after call reply is e
  answered after call reply (Some failure) is e = kept after (is_answered call reply && is_permitted binds tree call failure) e

  taken : (after : Tree) (call : NfsCall) (count : Option ℕ) → may_change call ≡ false → option_map (changed tree) (change_taken binds tree number call count) ≡ Some after → tree ≡ after
  taken after (calls.GetAttr object) count is e = absurd (cc)
  taken after (calls.SetAttr call) count is e = absurd (cc)
  taken after (calls.Lookup place) count is e = absurd (cc)
  taken after (calls.ReadLink link) count is e = absurd (cc)
  taken after (calls.Read call) count is e = absurd (cc)
  taken after (calls.Write call) count is e = absurd (cc)
  taken after (calls.Create call) count is e = absurd (cc)
  taken after (calls.MkDir call) count is e = absurd (cc)
  taken after (calls.SymLink call) count is e = absurd (cc)
  taken after (calls.Remove place) count is e = absurd (cc)
  taken after (calls.RmDir place) count is e = absurd (cc)
  taken after (calls.Rename call) count is e = absurd (cc)
  taken after (calls.ReadDir call) count is e = absurd (cc)
  taken after (calls.ReadDirPlus call) count is e = absurd (cc)
  taken after (calls.Commit call) count is e = absurd (cc)

  next_looks : (after : Tree) (call : NfsCall) (outcome : Outcome) → may_change call ≡ false → next_tree binds tree number call outcome ≡ Some after → tree ≡ after
  next_looks after call (Received reply) is e = answered after call reply (failure_in reply) is e
  next_looks after call (Taken count) is e = taken after call count is e

  -- ---- a SETATTR without a size

  set_kept : (after : Tree) (call : SetAttrArguments) → is_none call.attributes.size ≡ true → option_map (changed tree) (set_attributes binds tree call) ≡ Some after → tree ≡ after
  set_kept after call is e = go (is_some call.attributes.size) (none_of call.attributes.size is) e where
    none_of : (size : Option ℕ) → is_none size ≡ true → is_some size ≡ false
    none_of None is = refl
    none_of (Some size) is = absurd (cc)

    go : (b : Bool) → b ≡ false → option_map (changed tree) (if b then option_and_then (λ (entry : FileEntry). set_size entry.path entry.object entry.file call.attributes.size) (file_of binds tree call.object)
        else only_if (is_some (live_entry binds tree call.object)) Keep) ≡ Some after → tree ≡ after
    go true is e = absurd (cc)
    go false is e = kept after (is_some (live_entry binds tree call.object)) e

  set_done : (after : Tree) (call : SetAttrArguments) (reply : NfsReply) → is_none call.attributes.size ≡ true → option_map (changed tree) (change_set binds tree call reply) ≡ Some after → tree ≡ after
  set_done after call (replies.SetAttr (Done success)) is e = set_kept after call is e
  set_done after call _ is e = absurd (cc)

  set_taken : (after : Tree) (call : SetAttrArguments) (count : Option ℕ) → is_none call.attributes.size ≡ true
      → option_map (changed tree) (change_taken binds tree number (calls.SetAttr call) count) ≡ Some after → tree ≡ after
  set_taken after call None is e = set_kept after call is e
  set_taken after call (Some count) is e = absurd (cc)

  set_answered : (after : Tree) (call : SetAttrArguments) (reply : NfsReply) (failure : Option Failure) → is_none call.attributes.size ≡ true
      → option_map (changed tree) (change_answered binds tree number (calls.SetAttr call) reply failure) ≡ Some after → tree ≡ after
  set_answered after call reply None is e = set_done after call reply is e
  set_answered after call reply (Some failure) is e = kept after (is_answered (calls.SetAttr call) reply && is_permitted binds tree (calls.SetAttr call) failure) e

  next_sets : (after : Tree) (call : NfsCall) (outcome : Outcome) → sets_no_size call ≡ true → next_tree binds tree number call outcome ≡ Some after → tree ≡ after
  next_sets after (calls.SetAttr call) (Received reply) is e = set_answered after call reply (failure_in reply) is e
  next_sets after (calls.SetAttr call) (Taken count) is e = set_taken after call count is e
  next_sets after _ outcome is e = absurd (cc)

-- what holds of the plain step holds under each profile
kept_under : (profile : Profile) (binds : Bindings) (tree after : Tree) (number : ℕ) (call : NfsCall) (outcome : Outcome)
    → ((next : Tree) → next_tree binds tree number call outcome ≡ Some next → tree ≡ next) → under profile binds tree number call outcome ≡ Some after → tree ≡ after
kept_under Plain binds tree after number call outcome keeps e = keeps after e
kept_under Strict binds tree after number call outcome keeps e =
    let next = chained (judged binds tree call outcome) (next_tree binds tree number call outcome) after e in
    keeps next.0 next.1 ∙ same outcome next.0 next.2 where
      same : (outcome : Outcome) (next : Tree) → judged binds tree call outcome next ≡ Some after → next ≡ after
      same (Taken count) next e = cc
      same (Received reply) next e = go (agrees binds tree next call reply) e where
        go : (b : Bool) → (if b then Some next else None) ≡ Some after → next ≡ after
        go true e = cc
        go false e = absurd (cc)

pub look_keeps : (profile : Profile) (binds : Bindings) (tree after : Tree) (number : ℕ) (call : NfsCall) (outcome : Outcome) → may_change call ≡ false
    → under profile binds tree number call outcome ≡ Some after → tree ≡ after
look_keeps profile binds tree after number call outcome is e = kept_under profile binds tree after number call outcome (λ next leads. next_looks binds tree number next call outcome is leads) e

pub set_keeps : (profile : Profile) (binds : Bindings) (tree after : Tree) (number : ℕ) (call : NfsCall) (outcome : Outcome) → sets_no_size call ≡ true
    → under profile binds tree number call outcome ≡ Some after → tree ≡ after
set_keeps profile binds tree after number call outcome is e = kept_under profile binds tree after number call outcome (λ next leads. next_sets binds tree number next call outcome is leads) e
