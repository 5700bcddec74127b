-- a reply that carries no attributes agrees with all trees
use Rattle.std.proofs.Common.{◌≡◌, ℕ, Bool, true, List, [], Option, Some, None, refl, ap, ◌∙◌}
use Rattle.std.specs.Prelude.{◌&&◌, option_map}
use Rattle.std.specs.Option.{option_map_or}
use Rattle.std.specs.List.{list_all}
use Rattle.nfs3_types.specs.declared.attributes.FileAttributes.{FileAttributes}
use Rattle.nfs3_types.specs.declared.calls.NfsCall.{NfsCall}
use Rattle.nfs3_types.specs.declared.calls.NfsCall.TheVariants as calls
use Rattle.nfs3_types.specs.declared.replies.Answer.TheVariants.{Done}
use Rattle.nfs3_types.specs.declared.replies.NfsReply.{NfsReply}
use Rattle.nfs3_types.specs.declared.replies.NfsReply.TheVariants as replies
use Rattle.reply_attributes.specs.declared.role.Role.{Role}
use Rattle.reply_attributes.specs.declared.role.Role.TheVariants.{First, Second, Answer}
use Rattle.reply_attributes.specs.Attributes.{post_attr, pre_size, entries_of, type_and_size}
use Rattle.tree_nodes.specs.declared.node.Node.{Node}
use Rattle.tree_nodes.specs.Tree.{Names, Tree}
use Rattle.tree_answers.specs.tree_handles_specs.Binding.{Bindings}
use Rattle.tree_answers.specs.tree_handles_specs.Live.{live_entry, directory_of}
use Rattle.tree_answers.specs.Asked.{first_handle, second_handle, first_place}
use Rattle.file_tree.specs.Strict.{told, fits, had_size, handle_agrees, answer_agrees, entry_agrees, entries_agree, agrees, told_by, told_at}

no_size : (stood : Option (ℕ × Option ℕ)) → had_size stood None ≡ true
no_size None = refl
no_size (Some told) = refl

no_attributes : (stands : Option (ℕ × Option ℕ)) → fits stands None ≡ true
no_attributes None = refl
no_attributes (Some told) = refl

all_true : {X : Type 0} (test : X → Bool) (o : Option X) → ((x : X) → test x ≡ true) → option_map_or test o true ≡ true
all_true test None so = refl
all_true test (Some x) so = so x

four : (a b c d : Bool) → a ≡ true → b ≡ true → c ≡ true → d ≡ true → (a && b && c && d) ≡ true
four a b c d p q r s = (λ i. p i && q i && r i && s i)

-- it carries none
pub record IsBare (reply : NfsReply) : Type 0 where
  pub first : post_attr reply First ≡ None
  pub before : pre_size reply First ≡ None
  pub second : post_attr reply Second ≡ None
  pub second_before : pre_size reply Second ≡ None
  pub answer : post_attr reply Answer ≡ None
  pub entries : entries_of reply ≡ []

module _ (binds : Bindings) (before after : Tree) (reply : NfsReply) (bare : IsBare reply) where
  of_handle : (role : Role) (handle : List ℕ) → post_attr reply role ≡ None → pre_size reply role ≡ None → handle_agrees binds before after reply role handle ≡ true
  of_handle role handle post pre =
      (λ i. had_size (told_by binds before handle) (pre i) && fits (told_by binds after handle) (post i))
      ∙ (λ i. no_size (told_by binds before handle) i && no_attributes (told_by binds after handle) i)

  of_entries : (handle : List ℕ) → entries_agree binds after reply handle ≡ true
  of_entries handle =
      all_true (λ directory. list_all (entry_agrees after directory) (entries_of reply)) (directory_of binds after handle)
      (λ directory. ap (list_all (entry_agrees after directory)) bare.entries)

  pub bare_agrees : (call : NfsCall) → agrees binds before after call reply ≡ true
  bare_agrees call =
      four _ _ _ _ (of_handle First (first_handle call) bare.first bare.before)
      (all_true (handle_agrees binds before after reply Second) (second_handle call) (λ handle. of_handle Second handle bare.second bare.second_before))
      (all_true (answer_agrees binds after reply) (first_place call) (λ place. ap (fits (told_at binds after place)) bare.answer ∙ no_attributes (told_at binds after place)))
      (of_entries (first_handle call))

-- and a GETATTR's with those of what stands
pub getattr_agrees : (binds : Bindings) (tree : Tree) (object : List ℕ) (attributes : FileAttributes) (e : Names × Node) → live_entry binds tree object ≡ Some e
    → fits (Some (told e.1.content)) (Some (type_and_size attributes)) ≡ true → agrees binds tree tree (calls.GetAttr object) (replies.GetAttr (Done attributes)) ≡ true
getattr_agrees binds tree object attributes e live right =
    four _ _ _ _
    ((λ i. no_size (told_by binds tree object) i && fits (option_map (λ (x : Names × Node). told x.1.content) (live i)) (Some (type_and_size attributes))) ∙ right)
    refl refl
    (all_true (λ directory. list_all (entry_agrees tree directory) (entries_of (replies.GetAttr (Done attributes)))) (directory_of binds tree object) (λ directory. refl))
