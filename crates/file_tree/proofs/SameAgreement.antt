-- what the strict profile judges, and that it depends on live handles alone
use Rattle.std.proofs.Common.{◌≡◌, ℕ, Bool, true, false, cond, List, Some, None}
use Rattle.std.specs.Prelude.{◌&&◌, option_map, option_and_then}
use Rattle.std.specs.Option.{option_map_or}
use Rattle.std.specs.List.{list_all}
use Rattle.nfs3_types.specs.declared.calls.DirectoryName.{DirectoryName}
use Rattle.nfs3_types.specs.declared.calls.NfsCall.{NfsCall}
use Rattle.nfs3_types.specs.declared.replies.NfsReply.{NfsReply}
use Rattle.nfs3_types.specs.declared.replies.Outcome.{Outcome}
use Rattle.nfs3_types.specs.declared.replies.Outcome.TheVariants.{Received, Taken}
use Rattle.reply_attributes.specs.declared.role.Role.{Role}
use Rattle.reply_attributes.specs.declared.role.Role.TheVariants.{First, Second, Answer}
use Rattle.reply_attributes.specs.Attributes.{post_attr, pre_size, entries_of}
use Rattle.tree_nodes.specs.Tree.{Tree}
use Rattle.tree_answers.specs.tree_handles_specs.Binding.{Bindings}
use Rattle.tree_answers.specs.tree_handles_specs.Live.{live_entry, as_directory, directory_of}
use Rattle.tree_answers.specs.Asked.{first_handle, second_handle, first_place}
use Rattle.tree_answers.specs.Look.{object_named}
use Rattle.file_tree.specs.Strict.{told, told_of, fits, had_size, handle_agrees, answer_agrees, entry_agrees, entries_agree, agrees, judged}

passes : (b : Bool) (t after : Tree) → cond b (Some t) None ≡ Some after → t ≡ after
passes true t after e = cc
passes false t after e = absurd (cc)

-- what is judged is the tree after the call itself
pub judged_is : (binds : Bindings) (before : Tree) (call : NfsCall) (outcome : Outcome) (t after : Tree) → judged binds before call outcome t ≡ Some after → t ≡ after
judged_is binds before call (Received reply) t after e = passes (agrees binds before t call reply) t after e
judged_is binds before call (Taken count) t after e = cc

module _ (binds other : Bindings) (tree after : Tree) (live_before : (handle : List ℕ) → live_entry binds tree handle ≡ live_entry other tree handle)
    (live_after : (handle : List ℕ) → live_entry binds after handle ≡ live_entry other after handle) where
  same_directory : (handle : List ℕ) → directory_of binds after handle ≡ directory_of other after handle
  same_directory handle i = option_and_then (λ e. as_directory e.0 e.1.content) (live_after handle i)

  same_handle : (reply : NfsReply) (role : Role) (handle : List ℕ) → handle_agrees binds tree after reply role handle ≡ handle_agrees other tree after reply role handle
  same_handle reply role handle i =
      had_size (option_map (λ e. told e.1.content) (live_before handle i)) (pre_size reply role) && fits (option_map (λ e. told e.1.content) (live_after handle i)) (post_attr reply role)

  same_answer : (reply : NfsReply) (place : DirectoryName) → answer_agrees binds after reply place ≡ answer_agrees other after reply place
  same_answer reply place i =
      fits (option_and_then (λ directory. option_and_then (told_of after) (object_named after directory place.name)) (same_directory place.directory i)) (post_attr reply Answer)

  same_entries : (reply : NfsReply) (handle : List ℕ) → entries_agree binds after reply handle ≡ entries_agree other after reply handle
  same_entries reply handle i = option_map_or (λ directory. list_all (entry_agrees after directory) (entries_of reply)) (same_directory handle i) true

  -- binds that name the same objects of the trees before and after agree on the reply
  pub same_agreement : (call : NfsCall) (reply : NfsReply) → agrees binds tree after call reply ≡ agrees other tree after call reply
  same_agreement call reply = λ i.
      same_handle reply First (first_handle call) i
      && option_map_or (λ handle. same_handle reply Second handle i) (second_handle call) true
      && option_map_or (λ place. same_answer reply place i) (first_place call) true
      && same_entries reply (first_handle call) i
