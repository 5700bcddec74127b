-- a reply that agrees in each part
use Rattle.std.proofs.Common.{◌≡◌, ℕ, ◌⊎◌, inl, inr, Bool, true, false, List, [], Option, Some, None, refl, sym, ap, ◌∙◌}
use Rattle.std.specs.Prelude.{◌&&◌, IsSome, option_map}
use Rattle.std.specs.Option.{option_map_or}
use Rattle.std.specs.List.{list_all}
use Rattle.nfs3_types.specs.declared.attributes.FileAttributes.{FileAttributes}
use Rattle.nfs3_types.specs.declared.replies.DirectoryEntryPlus.{DirectoryEntryPlus}
use Rattle.nfs3_types.specs.declared.replies.NfsReply.{NfsReply}
use Rattle.reply_attributes.specs.Attributes.{entries_of, type_and_size}
use Rattle.tree_nodes.specs.Tree.{Names, Tree}
use Rattle.tree_answers.specs.tree_handles_specs.Binding.{Bindings}
use Rattle.tree_answers.specs.tree_handles_specs.Live.{directory_of}
use Rattle.file_tree.specs.Change.{Change}
use Rattle.file_tree.specs.Change.Change.{Keep}
use Rattle.file_tree.specs.Strict.{entry_agrees, entries_agree}
use Rattle.file_tree.specs.Success.{changed}

pub all_four : (a b c d r : Bool) → a ≡ true → b ≡ true → c ≡ true → r ≡ d → r ≡ (a && b && c && d)
all_four true true true d r e f g is = is
all_four false b c d r e f g is = absurd (cc)
all_four true false c d r e f g is = absurd (cc)
all_four true true false d r e f g is = absurd (cc)

-- attributes that are told are there
pub is_there : (o : Option FileAttributes) (told : ℕ × ℕ) → option_map type_and_size o ≡ Some told → IsSome o
is_there None told e = absurd (cc)
is_there (Some attributes) told e = refl

all_of_none : (tests : Names → DirectoryEntryPlus → Bool) (o : Option Names) → option_map_or (λ directory. list_all (tests directory) []) o true ≡ true
all_of_none tests None = refl
all_of_none tests (Some directory) = refl

-- where a reply that lists entries leaves the tree, they agree with the tree after it as they do with the one before
pub same_listing : (binds : Bindings) (tree : Tree) (reply : NfsReply) (handle : List ℕ) (change : Change) → (change ≡ Keep) ⊎ (entries_of reply ≡ [])
    → entries_agree binds tree reply handle ≡ entries_agree binds (changed tree change) reply handle
same_listing binds tree reply handle change (inl keeps) = ap (λ (c : Change). entries_agree binds (changed tree c) reply handle) (sym keeps)
same_listing binds tree reply handle change (inr none) = nothing tree ∙ sym (nothing (changed tree change)) where
  nothing : (t : Tree) → entries_agree binds t reply handle ≡ true
  nothing t =
      ap (λ (entries : List DirectoryEntryPlus). option_map_or (λ directory. list_all (entry_agrees t directory) entries) (directory_of binds t handle) true) none
      ∙ all_of_none (entry_agrees t) (directory_of binds t handle)
