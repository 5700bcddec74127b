-- Believed.
-- The results of READDIR and READDIRPLUS (RFC 1813, sections 3.3.16 and 3.3.17): how they stand, how they are written, and
-- what can be written.
use Rattle.std.specs.Prelude.{ℕ, ◌<◌, ◌≤◌, ◌^◌, List, ◌++◌, length, IfSome}
use Rattle.std.specs.List.{AllByRecursion}
use Rattle.xdr_records.specs.Grammar.{Grammar, ◌>>=◌}
use Rattle.xdr_records.specs.Grammar.Grammar.{one_long, one_flag, nothing}
use Rattle.xdr_records.specs.Texts.{long_text, flag_text, opaque_text, optional_text, list_text}
use Rattle.nfs3_types.specs.declared.replies.DirectoryEntry.{DirectoryEntry}
use Rattle.nfs3_types.specs.declared.replies.ReadDirSuccess.{ReadDirSuccess}
use Rattle.nfs3_types.specs.declared.replies.DirectoryEntryPlus.{DirectoryEntryPlus}
use Rattle.nfs3_types.specs.declared.replies.ReadDirPlusSuccess.{ReadDirPlusSuccess}
use Rattle.nfs3_values.specs.declared.fault.Kind.{Kind}
use Rattle.nfs3_values.specs.Bytes.{handle, name, verifier, verifier_text, optional_of, entries}
use Rattle.nfs3_values.specs.Attributes.{file_attributes, file_attributes_text, FileAttributesFit}

-- entry3, RFC 1813, section 3.3.16, without the link to the next
unfoldable pub directory_entry : Grammar Kind DirectoryEntry
directory_entry = do
  file_number ← one_long
  entry ← name
  cookie ← one_long
  nothing (record { file_number = file_number; name = entry; cookie = cookie })

unfoldable pub directory_entry_text : DirectoryEntry → List ℕ
directory_entry_text s = long_text s.file_number ++ (opaque_text s.name ++ long_text s.cookie)

unfoldable pub DirectoryEntryFits : DirectoryEntry → Type 0
DirectoryEntryFits s = (s.file_number < 2 ^ 64) × (length s.name < 2 ^ 32) × (s.cookie < 2 ^ 64)

-- READDIR3resok with dirlist3, RFC 1813, section 3.3.16
unfoldable pub read_dir_success : Grammar Kind ReadDirSuccess
read_dir_success = do
  attributes ← optional_of file_attributes
  server ← verifier
  listed ← entries directory_entry
  eof ← one_flag
  nothing (record { attributes = attributes; verifier = server; entries = listed; eof = eof })

unfoldable pub read_dir_success_text : ReadDirSuccess → List ℕ
read_dir_success_text s = optional_text file_attributes_text s.attributes ++ (verifier_text s.verifier ++ (list_text directory_entry_text s.entries ++ flag_text s.eof))

unfoldable pub ReadDirSuccessFits : ReadDirSuccess → Type 0
ReadDirSuccessFits s = IfSome s.attributes FileAttributesFit × (s.verifier.value < 2 ^ 64) × AllByRecursion DirectoryEntryFits s.entries

-- entryplus3, RFC 1813, section 3.3.17, without the link to the next
unfoldable pub directory_entry_plus : Grammar Kind DirectoryEntryPlus
directory_entry_plus = do
  file_number ← one_long
  entry ← name
  cookie ← one_long
  attributes ← optional_of file_attributes
  object ← optional_of handle
  nothing (record { file_number = file_number; name = entry; cookie = cookie; attributes = attributes; object = object })

unfoldable pub directory_entry_plus_text : DirectoryEntryPlus → List ℕ
directory_entry_plus_text s = long_text s.file_number ++ (opaque_text s.name ++ (long_text s.cookie ++ (optional_text file_attributes_text s.attributes ++ optional_text opaque_text s.object)))

unfoldable pub DirectoryEntryPlusFits : DirectoryEntryPlus → Type 0
DirectoryEntryPlusFits s = (s.file_number < 2 ^ 64) × (length s.name < 2 ^ 32) × (s.cookie < 2 ^ 64) × IfSome s.attributes FileAttributesFit × IfSome s.object (λ h. length h ≤ 64)

-- READDIRPLUS3resok with dirlistplus3, RFC 1813, section 3.3.17
unfoldable pub read_dir_plus_success : Grammar Kind ReadDirPlusSuccess
read_dir_plus_success = do
  attributes ← optional_of file_attributes
  server ← verifier
  listed ← entries directory_entry_plus
  eof ← one_flag
  nothing (record { attributes = attributes; verifier = server; entries = listed; eof = eof })

unfoldable pub read_dir_plus_success_text : ReadDirPlusSuccess → List ℕ
read_dir_plus_success_text s = optional_text file_attributes_text s.attributes ++ (verifier_text s.verifier ++ (list_text directory_entry_plus_text s.entries ++ flag_text s.eof))

unfoldable pub ReadDirPlusSuccessFits : ReadDirPlusSuccess → Type 0
ReadDirPlusSuccessFits s = IfSome s.attributes FileAttributesFit × (s.verifier.value < 2 ^ 64) × AllByRecursion DirectoryEntryPlusFits s.entries
