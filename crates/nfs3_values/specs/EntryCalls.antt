-- Believed.
-- The arguments of calls that make, rename or list entries (RFC 1813, section 3.3): how they stand, how they are written, and
-- what can be written.
use Rattle.std.specs.Prelude.{ℕ, ◌<◌, ◌≤◌, ◌^◌, List, ◌++◌, length}
use Rattle.xdr_records.specs.Grammar.{Grammar, ◌>>=◌}
use Rattle.xdr_records.specs.Grammar.Grammar.{one_word, one_long, named, nothing}
use Rattle.xdr_records.specs.Texts.{word_text, long_text, opaque_text}
use Rattle.nfs3_types.specs.declared.calls.CreateMode.{CreateMode}
use Rattle.nfs3_types.specs.declared.calls.CreateMode.TheVariants as modes
use Rattle.nfs3_types.specs.declared.calls.CreateArguments.{CreateArguments}
use Rattle.nfs3_types.specs.declared.calls.MkDirArguments.{MkDirArguments}
use Rattle.nfs3_types.specs.declared.calls.SymLinkArguments.{SymLinkArguments}
use Rattle.nfs3_types.specs.declared.calls.RenameArguments.{RenameArguments}
use Rattle.nfs3_types.specs.declared.calls.ReadDirArguments.{ReadDirArguments}
use Rattle.nfs3_types.specs.declared.calls.ReadDirPlusArguments.{ReadDirPlusArguments}
use Rattle.nfs3_values.specs.declared.fault.Kind.{Kind}
use Rattle.nfs3_values.specs.Words.{CreateHow, create_how_of}
use Rattle.nfs3_values.specs.Bytes.{handle, link_text, verifier, verifier_text}
use Rattle.nfs3_values.specs.Settings.{set_attributes, set_attributes_text, SetAttributesFit}
use Rattle.nfs3_values.specs.Calls.{directory_name, directory_name_text, DirectoryNameFits}

-- what stands behind createmode3
abbrev pub create_mode_behind : CreateHow → Grammar Kind CreateMode
create_mode_behind CreateHow.unchecked = do
  attributes ← set_attributes
  nothing (modes.Unchecked attributes)
create_mode_behind CreateHow.guarded = do
  attributes ← set_attributes
  nothing (modes.Guarded attributes)
create_mode_behind CreateHow.exclusive = do
  creator ← verifier
  nothing (modes.Exclusive creator)

-- createhow3, RFC 1813, section 3.3.8
unfoldable pub create_mode : Grammar Kind CreateMode
create_mode = do
  how ← named create_how_of
  create_mode_behind how

unfoldable pub create_mode_text : CreateMode → List ℕ
create_mode_text (modes.Unchecked attributes) = word_text 0 ++ set_attributes_text attributes
create_mode_text (modes.Guarded attributes) = word_text 1 ++ set_attributes_text attributes
create_mode_text (modes.Exclusive creator) = word_text 2 ++ verifier_text creator

unfoldable pub CreateModeFits : CreateMode → Type 0
CreateModeFits (modes.Unchecked attributes) = SetAttributesFit attributes
CreateModeFits (modes.Guarded attributes) = SetAttributesFit attributes
CreateModeFits (modes.Exclusive creator) = creator.value < 2 ^ 64

-- CREATE3args, RFC 1813, section 3.3.8
unfoldable pub create_arguments : Grammar Kind CreateArguments
create_arguments = do
  place ← directory_name
  mode ← create_mode
  nothing (record { place = place; mode = mode })

unfoldable pub create_arguments_text : CreateArguments → List ℕ
create_arguments_text a = directory_name_text a.place ++ create_mode_text a.mode

unfoldable pub CreateArgumentsFit : CreateArguments → Type 0
CreateArgumentsFit a = DirectoryNameFits a.place × CreateModeFits a.mode

-- MKDIR3args, RFC 1813, section 3.3.9
unfoldable pub mk_dir_arguments : Grammar Kind MkDirArguments
mk_dir_arguments = do
  place ← directory_name
  attributes ← set_attributes
  nothing (record { place = place; attributes = attributes })

unfoldable pub mk_dir_arguments_text : MkDirArguments → List ℕ
mk_dir_arguments_text a = directory_name_text a.place ++ set_attributes_text a.attributes

unfoldable pub MkDirArgumentsFit : MkDirArguments → Type 0
MkDirArgumentsFit a = DirectoryNameFits a.place × SetAttributesFit a.attributes

-- SYMLINK3args, RFC 1813, section 3.3.10
unfoldable pub sym_link_arguments : Grammar Kind SymLinkArguments
sym_link_arguments = do
  place ← directory_name
  attributes ← set_attributes
  target ← link_text
  nothing (record { place = place; attributes = attributes; target = target })

unfoldable pub sym_link_arguments_text : SymLinkArguments → List ℕ
sym_link_arguments_text a = directory_name_text a.place ++ (set_attributes_text a.attributes ++ opaque_text a.target)

unfoldable pub SymLinkArgumentsFit : SymLinkArguments → Type 0
SymLinkArgumentsFit a = DirectoryNameFits a.place × SetAttributesFit a.attributes × (length a.target < 2 ^ 32)

-- RENAME3args, RFC 1813, section 3.3.14
unfoldable pub rename_arguments : Grammar Kind RenameArguments
rename_arguments = do
  source ← directory_name
  goal ← directory_name
  nothing (record { from = source; to = goal })

unfoldable pub rename_arguments_text : RenameArguments → List ℕ
rename_arguments_text a = directory_name_text a.from ++ directory_name_text a.to

unfoldable pub RenameArgumentsFit : RenameArguments → Type 0
RenameArgumentsFit a = DirectoryNameFits a.from × DirectoryNameFits a.to

-- READDIR3args, RFC 1813, section 3.3.16
unfoldable pub read_dir_arguments : Grammar Kind ReadDirArguments
read_dir_arguments = do
  directory ← handle
  cookie ← one_long
  server ← verifier
  count ← one_word
  nothing (record { directory = directory; cookie = cookie; verifier = server; count = count })

unfoldable pub read_dir_arguments_text : ReadDirArguments → List ℕ
read_dir_arguments_text a = opaque_text a.directory ++ (long_text a.cookie ++ (verifier_text a.verifier ++ word_text a.count))

unfoldable pub ReadDirArgumentsFit : ReadDirArguments → Type 0
ReadDirArgumentsFit a = (length a.directory ≤ 64) × (a.cookie < 2 ^ 64) × (a.verifier.value < 2 ^ 64) × (a.count < 2 ^ 32)

-- READDIRPLUS3args, RFC 1813, section 3.3.17
unfoldable pub read_dir_plus_arguments : Grammar Kind ReadDirPlusArguments
read_dir_plus_arguments = do
  directory ← handle
  cookie ← one_long
  server ← verifier
  directory_count ← one_word
  whole_count ← one_word
  nothing (record { directory = directory; cookie = cookie; verifier = server; directory_count = directory_count; whole_count = whole_count })

unfoldable pub read_dir_plus_arguments_text : ReadDirPlusArguments → List ℕ
read_dir_plus_arguments_text a = opaque_text a.directory ++ (long_text a.cookie ++ (verifier_text a.verifier ++ (word_text a.directory_count ++ word_text a.whole_count)))

unfoldable pub ReadDirPlusArgumentsFit : ReadDirPlusArguments → Type 0
ReadDirPlusArgumentsFit a = (length a.directory ≤ 64) × (a.cookie < 2 ^ 64) × (a.verifier.value < 2 ^ 64) × (a.directory_count < 2 ^ 32) × (a.whole_count < 2 ^ 32)
