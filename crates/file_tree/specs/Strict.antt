-- Believed.
-- what the strict profile asks of a reply beyond the plain one: the attributes that it carries, done or failed, are those of the
-- objects. RFC 1813, section 2.6: `fattr3` (the type and the size), `post_op_attr` (after the call) and `wcc_attr` (before it)
use Rattle.std.specs.Prelude.{ℕ, ◌==◌, ◌&&◌, Bool, true, if◌then◌else◌, List, length, Option, Some, None, option_and_then, option_map}
use Rattle.std.specs.Option.{option_map_or}
use Rattle.std.specs.List.{list_all}
use Rattle.nfs3_types.specs.Numbers.{type_number}
use Rattle.nfs3_types.specs.declared.attributes.FileType.TheVariants as types
use Rattle.nfs3_types.specs.declared.calls.DirectoryName.{DirectoryName}
use Rattle.nfs3_types.specs.declared.calls.NfsCall.{NfsCall}
use Rattle.nfs3_types.specs.declared.replies.DirectoryEntryPlus.{DirectoryEntryPlus}
use Rattle.nfs3_types.specs.declared.replies.NfsReply.{NfsReply}
use Rattle.nfs3_types.specs.declared.replies.Outcome.{Outcome}
use Rattle.nfs3_types.specs.declared.replies.Outcome.TheVariants.{Received, Taken}
use Rattle.reply_attributes.specs.declared.role.Role.{Role}
use Rattle.reply_attributes.specs.declared.role.Role.TheVariants.{First, Second, Answer}
use Rattle.reply_attributes.specs.Attributes.{post_attr, pre_size, entries_of, type_and_size}
use Rattle.tree_nodes.specs.declared.node.Content.{Content}
use Rattle.tree_nodes.specs.declared.node.Content.TheVariants as contents
use Rattle.tree_nodes.specs.Tree.{Names, Tree, entry_of}
use Rattle.tree_answers.specs.tree_handles_specs.Binding.{Bindings}
use Rattle.tree_answers.specs.tree_handles_specs.Live.{live_entry, directory_of}
use Rattle.tree_answers.specs.tree_handles_specs.Entry.{entry_at}
use Rattle.tree_answers.specs.Asked.{first_handle, second_handle, first_place}
use Rattle.tree_answers.specs.Look.{object_named}

-- what attributes can tell of an object: its type's number, and of a file its length; sizes of directories and links aren't judged
abbrev pub told : Content → ℕ × Option ℕ
told contents.Directory = (type_number types.Directory, None)
told (contents.File file) = (type_number types.Regular, Some (length file.bytes))
told (contents.Link _) = (type_number types.SymbolicLink, None)

-- of an object, where it stands; of the one that a handle names; of the one that a name leads to
abbrev pub told_of : Tree → ℕ → Option (ℕ × Option ℕ)
told_of tree object = option_map (λ e. told e.1.content) (entry_of tree object)

abbrev pub told_by : Bindings → Tree → List ℕ → Option (ℕ × Option ℕ)
told_by binds tree handle = option_map (λ e. told e.1.content) (live_entry binds tree handle)

abbrev pub told_at : Bindings → Tree → DirectoryName → Option (ℕ × Option ℕ)
told_at binds tree place =
    option_and_then (λ directory. option_and_then (told_of tree) (object_named tree directory place.name)) (directory_of binds tree place.directory)

-- a size is a file's length
abbrev pub is_size : Option ℕ → ℕ → Bool
is_size None size = true
is_size (Some length) size = size == length

-- attributes after a call, if the reply gives any: an object that doesn't stand isn't judged
abbrev pub fits : Option (ℕ × Option ℕ) → Option (ℕ × ℕ) → Bool
fits None attributes = true
fits (Some stands) None = true
fits (Some stands) (Some attributes) = (attributes.0 == stands.0) && is_size stands.1 attributes.1

-- the size before it
abbrev pub had_size : Option (ℕ × Option ℕ) → Option ℕ → Bool
had_size None size = true
had_size (Some stood) None = true
had_size (Some stood) (Some size) = is_size stood.1 size

-- a handle's object had the size and has the attributes that the reply gives for it
abbrev pub handle_agrees : Bindings → Tree → Tree → NfsReply → Role → List ℕ → Bool
handle_agrees binds before after reply role handle =
    had_size (told_by binds before handle) (pre_size reply role) && fits (told_by binds after handle) (post_attr reply role)

-- and the object at the place that the call names, after the call: found by a LOOKUP, or that of a CREATE, MKDIR or SYMLINK
abbrev pub answer_agrees : Bindings → Tree → NfsReply → DirectoryName → Bool
answer_agrees binds after reply place = fits (told_at binds after place) (post_attr reply Answer)

-- and an entry of a READDIRPLUS: `.` and `..` aren't judged
abbrev pub entry_agrees : Tree → Names → DirectoryEntryPlus → Bool
entry_agrees after directory entry = fits (option_map (λ node. told node.content) (entry_at after directory entry.name)) (option_map type_and_size entry.attributes)

abbrev pub entries_agree : Bindings → Tree → NfsReply → List ℕ → Bool
entries_agree binds after reply handle = option_map_or (λ directory. list_all (entry_agrees after directory) (entries_of reply)) (directory_of binds after handle) true

-- all that a reply carries agrees with the trees before and after the call
abbrev pub agrees : Bindings → Tree → Tree → NfsCall → NfsReply → Bool
agrees binds before after call reply =
    handle_agrees binds before after reply First (first_handle call)
    && option_map_or (handle_agrees binds before after reply Second) (second_handle call) true
    && option_map_or (answer_agrees binds after reply) (first_place call) true
    && entries_agree binds after reply (first_handle call)

-- the tree after a call, where its reply agrees; a call that was taken has no reply
abbrev pub judged : Bindings → Tree → NfsCall → Outcome → Tree → Option Tree
judged binds before call (Received reply) after = if agrees binds before after call reply then Some after else None
judged binds before call (Taken count) after = Some after
