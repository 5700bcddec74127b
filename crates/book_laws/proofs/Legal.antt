-- what a legal call says of how it may be taken
use Rattle.std.proofs.Common.{◌≡◌, ℕ, Bool, true, false, length, Option, Some, None, refl}
use Rattle.std.specs.Prelude.{◌&&◌, not, is_none, nat_le, if◌then◌else◌}
use Rattle.nfs3_types.specs.declared.calls.NfsCall.{NfsCall}
use Rattle.nfs3_types.specs.declared.calls.NfsCall.TheVariants as calls
use Rattle.nfs3_types.specs.declared.calls.WriteArguments.{WriteArguments}
use Rattle.nfs3_types.specs.declared.calls.StableHow.{StableHow}
use Rattle.nfs3_types.specs.declared.replies.Answer.TheVariants.{Done}
use Rattle.nfs3_types.specs.declared.replies.NfsReply.{NfsReply}
use Rattle.nfs3_types.specs.declared.replies.NfsReply.TheVariants as replies
use Rattle.nfs3_types.specs.declared.replies.Outcome.TheVariants as outcomes
use Rattle.nfs3_types.specs.Procedures.{is_answered, failure_in}
use Rattle.nfs_history.specs.declared.recorded.Meaning.TheVariants as meanings
use Rattle.order_check.specs.Places.{may_take}
use Rattle.tree_nodes.specs.Tree.{Tree}
use Rattle.tree_nodes.proofs.Chains.{chained, mapped, both_pass, negated, none_is}
use Rattle.tree_handles.specs.Binding.{Bindings}
use Rattle.tree_handles.specs.Live.{file_of}
use Rattle.file_tree.specs.Change.{Change}
use Rattle.file_tree.specs.Written.{write_change}
use Rattle.file_tree.specs.Success.{next_tree, changed, change_done, change_answered}
use Rattle.tree_laws.specs.Leaving.{only_looks}
use Rattle.tree_laws.specs.Outcomes.{count_written}
use Rattle.book_laws.proofs.Running.{done_of}

written_within : (binds : Bindings) (tree : Tree) (c : Change) (call : WriteArguments) (count : ℕ) (level : Option StableHow) → write_change binds tree call count level ≡ Some c → nat_le count (length call.bytes) ≡ true
written_within binds tree c call count level e =
    let found = chained _ (file_of binds tree call.file) c e in
    go (nat_le count call.count) (nat_le count (length call.bytes)) _ _ found.2 where
      go : (p q r : Bool) (o : Option Change) → (if p && q && r then o else None) ≡ Some c → q ≡ true
      go true true r o f = refl
      go true false r o f = absurd (cc)
      go false q r o f = absurd (cc)

-- a success that changes the tree is taken with the count of its bytes
taking_done : (binds : Bindings) (tree : Tree) (number : ℕ) (c : Change) (call : NfsCall) (reply : NfsReply) → only_looks call ≡ false → change_done binds tree number call reply ≡ Some c
    → may_take (meanings.Judged call) (count_written (outcomes.Received reply)) ≡ true
taking_done binds tree number c (calls.Write call) (replies.Write (Done success)) looks e = written_within binds tree c call success.count (Some success.level) e
taking_done binds tree number c (calls.Write call) _ looks e = absurd (cc)
taking_done binds tree number c (calls.Create call) (replies.Create (Done success)) looks e = refl
taking_done binds tree number c (calls.Create call) _ looks e = absurd (cc)
taking_done binds tree number c (calls.SetAttr call) (replies.SetAttr (Done _)) looks e = refl
taking_done binds tree number c (calls.SetAttr call) _ looks e = absurd (cc)
taking_done binds tree number c (calls.MkDir call) (replies.MkDir (Done success)) looks e = refl
taking_done binds tree number c (calls.MkDir call) _ looks e = absurd (cc)
taking_done binds tree number c (calls.SymLink call) (replies.SymLink (Done success)) looks e = refl
taking_done binds tree number c (calls.SymLink call) _ looks e = absurd (cc)
taking_done binds tree number c (calls.Remove place) (replies.Remove (Done _)) looks e = refl
taking_done binds tree number c (calls.Remove place) _ looks e = absurd (cc)
taking_done binds tree number c (calls.RmDir place) (replies.RmDir (Done _)) looks e = refl
taking_done binds tree number c (calls.RmDir place) _ looks e = absurd (cc)
taking_done binds tree number c (calls.Rename call) (replies.Rename (Done _)) looks e = refl
taking_done binds tree number c (calls.Rename call) _ looks e = absurd (cc)
taking_done binds tree number c _ reply looks e = absurd (cc)

pub taking : (binds : Bindings) (before after : Tree) (number : ℕ) (call : NfsCall) (reply : NfsReply) → next_tree binds before number call (outcomes.Received reply) ≡ Some after
    → (not (only_looks call) && (is_answered call reply && is_none (failure_in reply))) ≡ true → may_take (meanings.Judged call) (count_written (outcomes.Received reply)) ≡ true
taking binds before after number call reply next recorded =
    let parts = both_pass (not (only_looks call)) (is_answered call reply && is_none (failure_in reply)) recorded in
    let success = none_is (failure_in reply) (both_pass (is_answered call reply) (is_none (failure_in reply)) parts.1).1 in
    let change = mapped (changed before) (change_answered binds before number call reply (failure_in reply)) after next in
    taking_done binds before number change.0 call reply (negated (only_looks call) parts.0) (done_of binds before number call reply change.0 (failure_in reply) success change.1)
