-- Believed.
-- The arguments of calls on one object or one name (RFC 1813, section 3.3): how they stand, how they are written, and what
-- can be written.
use Rattle.std.specs.Prelude.{ℕ, ◌<◌, ◌≤◌, ◌^◌, List, ◌++◌, length, IfSome}
use Rattle.xdr_records.specs.Grammar.{Grammar, ◌>>=◌}
use Rattle.xdr_records.specs.Grammar.Grammar.{one_word, one_long, named, nothing}
use Rattle.xdr_records.specs.Texts.{word_text, long_text, opaque_text, optional_text}
use Rattle.nfs3_types.specs.declared.calls.DirectoryName.{DirectoryName}
use Rattle.nfs3_types.specs.declared.calls.ReadArguments.{ReadArguments}
use Rattle.nfs3_types.specs.declared.calls.WriteArguments.{WriteArguments}
use Rattle.nfs3_types.specs.declared.calls.SetAttrArguments.{SetAttrArguments}
use Rattle.nfs3_types.specs.declared.calls.CommitArguments.{CommitArguments}
use Rattle.nfs3_values.specs.declared.fault.Kind.{Kind}
use Rattle.nfs3_values.specs.Words.{stable_how_of, stable_how_word}
use Rattle.nfs3_values.specs.Bytes.{handle, name, file_data, optional_of}
use Rattle.nfs3_values.specs.Attributes.{time, time_text, TimeFits}
use Rattle.nfs3_values.specs.Settings.{set_attributes, set_attributes_text, SetAttributesFit}

-- diropargs3, RFC 1813, section 2.6
unfoldable pub directory_name : Grammar Kind DirectoryName
directory_name = do
  directory ← handle
  entry ← name
  nothing (record { directory = directory; name = entry })

unfoldable pub directory_name_text : DirectoryName → List ℕ
directory_name_text d = opaque_text d.directory ++ opaque_text d.name

unfoldable pub DirectoryNameFits : DirectoryName → Type 0
DirectoryNameFits d = (length d.directory ≤ 64) × (length d.name < 2 ^ 32)

-- READ3args, RFC 1813, section 3.3.6
unfoldable pub read_arguments : Grammar Kind ReadArguments
read_arguments = do
  file ← handle
  offset ← one_long
  count ← one_word
  nothing (record { file = file; offset = offset; count = count })

unfoldable pub read_arguments_text : ReadArguments → List ℕ
read_arguments_text a = opaque_text a.file ++ (long_text a.offset ++ word_text a.count)

unfoldable pub ReadArgumentsFit : ReadArguments → Type 0
ReadArgumentsFit a = (length a.file ≤ 64) × (a.offset < 2 ^ 64) × (a.count < 2 ^ 32)

-- WRITE3args, RFC 1813, section 3.3.7
unfoldable pub write_arguments : Grammar Kind WriteArguments
write_arguments = do
  file ← handle
  offset ← one_long
  count ← one_word
  stable ← named stable_how_of
  bytes ← file_data
  nothing (record { file = file; offset = offset; count = count; level = stable; bytes = bytes })

unfoldable pub write_arguments_text : WriteArguments → List ℕ
write_arguments_text a = opaque_text a.file ++ (long_text a.offset ++ (word_text a.count ++ (word_text (stable_how_word a.level) ++ opaque_text a.bytes)))

unfoldable pub WriteArgumentsFit : WriteArguments → Type 0
WriteArgumentsFit a = (length a.file ≤ 64) × (a.offset < 2 ^ 64) × (a.count < 2 ^ 32) × (length a.bytes < 2 ^ 32)

-- SETATTR3args, RFC 1813, section 3.3.2: sattrguard3 is laid out as optional data
unfoldable pub set_attr_arguments : Grammar Kind SetAttrArguments
set_attr_arguments = do
  target ← handle
  attributes ← set_attributes
  guard ← optional_of time
  nothing (record { object = target; attributes = attributes; guard = guard })

unfoldable pub set_attr_arguments_text : SetAttrArguments → List ℕ
set_attr_arguments_text a = opaque_text a.object ++ (set_attributes_text a.attributes ++ optional_text time_text a.guard)

unfoldable pub SetAttrArgumentsFit : SetAttrArguments → Type 0
SetAttrArgumentsFit a = (length a.object ≤ 64) × SetAttributesFit a.attributes × IfSome a.guard TimeFits

-- COMMIT3args, RFC 1813, section 3.3.21
unfoldable pub commit_arguments : Grammar Kind CommitArguments
commit_arguments = do
  file ← handle
  offset ← one_long
  count ← one_word
  nothing (record { file = file; offset = offset; count = count })

unfoldable pub commit_arguments_text : CommitArguments → List ℕ
commit_arguments_text a = opaque_text a.file ++ (long_text a.offset ++ word_text a.count)

unfoldable pub CommitArgumentsFit : CommitArguments → Type 0
CommitArgumentsFit a = (length a.file ≤ 64) × (a.offset < 2 ^ 64) × (a.count < 2 ^ 32)
