-- Believed.
-- the attributes that a reply carries, by whose they are: RFC 1813, section 2.6 (`post_op_attr`, `wcc_data`) and section 3.3, by
-- procedure
use Rattle.std.specs.Prelude.{ℕ, List, [], Option, Some, None, option_and_then, option_map, slice_get}
use Rattle.nfs3_types.specs.Numbers.{type_number}
use Rattle.nfs3_types.specs.declared.attributes.FileAttributes.{FileAttributes}
use Rattle.nfs3_types.specs.declared.attributes.WccData.{WccData}
use Rattle.nfs3_types.specs.declared.replies.Answer.{Answer}
use Rattle.nfs3_types.specs.declared.replies.Answer.TheVariants.{Done, Failed}
use Rattle.nfs3_types.specs.declared.replies.CommitSuccess.{CommitSuccess}
use Rattle.nfs3_types.specs.declared.replies.CreateSuccess.{CreateSuccess}
use Rattle.nfs3_types.specs.declared.replies.DirectoryEntryPlus.{DirectoryEntryPlus}
use Rattle.nfs3_types.specs.declared.replies.LookupSuccess.{LookupSuccess}
use Rattle.nfs3_types.specs.declared.replies.RenameWcc.{RenameWcc}
use Rattle.nfs3_types.specs.declared.replies.WriteSuccess.{WriteSuccess}
use Rattle.nfs3_types.specs.declared.replies.NfsReply.{NfsReply}
use Rattle.nfs3_types.specs.declared.replies.NfsReply.TheVariants as replies
use Rattle.reply_attributes.specs.declared.role.Role.{Role}
use Rattle.reply_attributes.specs.declared.role.Role.TheVariants.{First, Second, Answer as Found, Entry}

-- attributes without any from before the call
abbrev pub after_alone : Option FileAttributes → WccData
after_alone attributes = record { before = None; after = attributes }

-- of the object of the first handle, where the call changes the tree, or commits: done or failed
abbrev pub of_wcc : Answer WccData WccData → WccData
of_wcc (Done wcc) = wcc
of_wcc (Failed failure wcc) = wcc

abbrev pub of_written : Answer WriteSuccess WccData → WccData
of_written (Done success) = success.wcc
of_written (Failed failure wcc) = wcc

abbrev pub of_committed : Answer CommitSuccess WccData → WccData
of_committed (Done success) = success.wcc
of_committed (Failed failure wcc) = wcc

-- of CREATE, MKDIR and SYMLINK it is the directory
abbrev pub of_directory : Answer CreateSuccess WccData → WccData
of_directory (Done success) = success.wcc
of_directory (Failed failure wcc) = wcc

-- of RENAME there are two
abbrev pub of_renamed : Answer RenameWcc RenameWcc → RenameWcc
of_renamed (Done both) = both
of_renamed (Failed failure both) = both

-- where the call changes nothing
abbrev pub of_seen : NfsReply → Option FileAttributes
of_seen (replies.GetAttr (Done attributes)) = Some attributes
of_seen (replies.Lookup (Done success)) = success.directory_attributes
of_seen (replies.Lookup (Failed failure attributes)) = attributes
of_seen (replies.ReadLink (Done success)) = success.attributes
of_seen (replies.ReadLink (Failed failure attributes)) = attributes
of_seen (replies.Read (Done success)) = success.attributes
of_seen (replies.Read (Failed failure attributes)) = attributes
of_seen (replies.ReadDir (Done success)) = success.attributes
of_seen (replies.ReadDir (Failed failure attributes)) = attributes
of_seen (replies.ReadDirPlus (Done success)) = success.attributes
of_seen (replies.ReadDirPlus (Failed failure attributes)) = attributes
of_seen _ = None

-- of the object of the first handle
abbrev pub of_first : NfsReply → WccData
of_first (replies.SetAttr answer) = of_wcc answer
of_first (replies.Write answer) = of_written answer
of_first (replies.Create answer) = of_directory answer
of_first (replies.MkDir answer) = of_directory answer
of_first (replies.SymLink answer) = of_directory answer
of_first (replies.Remove answer) = of_wcc answer
of_first (replies.RmDir answer) = of_wcc answer
of_first (replies.Rename answer) = (of_renamed answer).from
of_first (replies.Commit answer) = of_committed answer
of_first reply = after_alone (of_seen reply)

-- of RENAME's second directory
abbrev pub of_second : NfsReply → WccData
of_second (replies.Rename answer) = (of_renamed answer).to
of_second _ = after_alone None

-- of what a LOOKUP found, and of the object of a CREATE, MKDIR or SYMLINK
abbrev pub of_found : Answer LookupSuccess (Option FileAttributes) → Option FileAttributes
of_found (Done success) = success.attributes
of_found (Failed failure attributes) = None

abbrev pub of_made : Answer CreateSuccess WccData → Option FileAttributes
of_made (Done success) = success.attributes
of_made (Failed failure wcc) = None

abbrev pub of_answer : NfsReply → Option FileAttributes
of_answer (replies.Lookup answer) = of_found answer
of_answer (replies.Create answer) = of_made answer
of_answer (replies.MkDir answer) = of_made answer
of_answer (replies.SymLink answer) = of_made answer
of_answer _ = None

-- the entries of a READDIRPLUS, each with the attributes of its object
abbrev pub entries_of : NfsReply → List DirectoryEntryPlus
entries_of (replies.ReadDirPlus (Done success)) = success.entries
entries_of _ = []

-- the type, as its number in `ftype3`, and the size
abbrev pub type_and_size : FileAttributes → ℕ × ℕ
type_and_size attributes = (type_number attributes.file_type, attributes.size)

-- what a reply tells of an object after the call, and the size that it gives for before
abbrev pub post_attr : NfsReply → Role → Option (ℕ × ℕ)
post_attr reply First = option_map type_and_size (of_first reply).after
post_attr reply Second = option_map type_and_size (of_second reply).after
post_attr reply Found = option_map type_and_size (of_answer reply)
post_attr reply (Entry k) = option_and_then (λ entry. option_map type_and_size entry.attributes) (slice_get (entries_of reply) k)

abbrev pub pre_size : NfsReply → Role → Option ℕ
pre_size reply First = option_map (λ wcc. wcc.size) (of_first reply).before
pre_size reply Second = option_map (λ wcc. wcc.size) (of_second reply).before
pre_size reply Found = None
pre_size reply (Entry k) = None
