-- For the prover.
-- What is written of the arguments of a call is a spelling of them. For the prover: a law of the trait of values asks for it.
use Rattle.std.specs.Prelude.{◌≡◌, ℕ, ◌<◌, ◌≤◌, ◌^◌, List, [], ◌++◌, length, Option, Some, None, IfSome, Ok, refl}
use Rattle.std.proofs.Common.{sym, lit<, lit≤, lt_of_le_ones}
use Rattle.std.proofs.Math.Nat.{le_trans, le-pred_of_lt}
use Rattle.std.proofs.lemmas.List.{append-nil}
use Rattle.xdr_records.specs.Grammar.{Grammar}
use Rattle.xdr_records.specs.Grammar.Grammar.{one_word, one_long, named}
use Rattle.xdr_records.specs.Spelling.{Spells, Joined}
use Rattle.xdr_records.specs.Texts.{word_text, long_text, flag_text, opaque_text, optional_text}
use Rattle.xdr_records.proofs.Written.{word_spelled, long_spelled, flag_spelled, opaque_spelled, optional_spelled, nothing_behind}
use Rattle.nfs3_types.specs.declared.attributes.Time.{Time}
use Rattle.nfs3_types.specs.declared.attributes.Device.{Device}
use Rattle.nfs3_types.specs.declared.attributes.Verifier.{Verifier}
use Rattle.nfs3_types.specs.declared.attributes.FileType.{FileType}
use Rattle.nfs3_types.specs.declared.attributes.FileType.TheVariants as types
use Rattle.nfs3_types.specs.declared.attributes.FileAttributes.{FileAttributes}
use Rattle.nfs3_types.specs.declared.attributes.WccAttributes.{WccAttributes}
use Rattle.nfs3_types.specs.declared.attributes.WccData.{WccData}
use Rattle.nfs3_types.specs.declared.attributes.SetTime.{SetTime}
use Rattle.nfs3_types.specs.declared.attributes.SetTime.TheVariants as times
use Rattle.nfs3_types.specs.declared.attributes.SetAttributes.{SetAttributes}
use Rattle.nfs3_types.specs.declared.calls.DirectoryName.{DirectoryName}
use Rattle.nfs3_types.specs.declared.calls.StableHow.{StableHow}
use Rattle.nfs3_types.specs.declared.calls.StableHow.TheVariants as levels
use Rattle.nfs3_types.specs.declared.calls.CreateMode.{CreateMode}
use Rattle.nfs3_types.specs.declared.calls.CreateMode.TheVariants as modes
use Rattle.nfs3_types.specs.declared.calls.ReadArguments.{ReadArguments}
use Rattle.nfs3_types.specs.declared.calls.WriteArguments.{WriteArguments}
use Rattle.nfs3_types.specs.declared.calls.CreateArguments.{CreateArguments}
use Rattle.nfs3_values.specs.declared.fault.Kind.{Kind}
use Rattle.nfs3_values.specs.Words.{file_type_of, stable_how_of, stable_how_word, TimeHow, time_how_of, CreateHow, create_how_of, status_of}
use Rattle.nfs3_values.specs.Bytes.{handle, name, link_text, file_data, verifier, verifier_text, optional_of}
use Rattle.nfs3_values.specs.Attributes.{time, time_text, TimeFits, device, device_text, DeviceFits, file_attributes, file_attributes_text, sizes_text, times_text, FileAttributesFit, SizesFit, TimesFit, wcc_attributes, wcc_attributes_text, WccAttributesFit, wcc_data, wcc_data_text, WccDataFits}
use Rattle.nfs3_values.specs.Settings.{set_time, set_time_text, SetTimeFits, set_attributes, set_attributes_text, SetAttributesFit}
use Rattle.nfs3_values.specs.Calls.{directory_name, directory_name_text, DirectoryNameFits, read_arguments, read_arguments_text, ReadArgumentsFit, write_arguments, write_arguments_text, WriteArgumentsFit, set_attr_arguments, set_attr_arguments_text, SetAttrArgumentsFit, commit_arguments, commit_arguments_text, CommitArgumentsFit}
use Rattle.nfs3_values.specs.EntryCalls.{create_mode, create_mode_text, CreateModeFits, create_arguments, create_arguments_text, CreateArgumentsFit, mk_dir_arguments, mk_dir_arguments_text, MkDirArgumentsFit, sym_link_arguments, sym_link_arguments_text, SymLinkArgumentsFit, rename_arguments, rename_arguments_text, RenameArgumentsFit, read_dir_arguments, read_dir_arguments_text, ReadDirArgumentsFit, read_dir_plus_arguments, read_dir_plus_arguments_text, ReadDirPlusArgumentsFit}
use Rattle.nfs3_types.specs.declared.calls.SetAttrArguments.{SetAttrArguments}
use Rattle.nfs3_types.specs.declared.calls.MkDirArguments.{MkDirArguments}
use Rattle.nfs3_types.specs.declared.calls.SymLinkArguments.{SymLinkArguments}
use Rattle.nfs3_types.specs.declared.calls.RenameArguments.{RenameArguments}
use Rattle.nfs3_types.specs.declared.calls.ReadDirArguments.{ReadDirArguments}
use Rattle.nfs3_types.specs.declared.calls.ReadDirPlusArguments.{ReadDirPlusArguments}
use Rattle.nfs3_types.specs.declared.calls.CommitArguments.{CommitArguments}
use Rattle.nfs3_values.specs.Spelled.{joined, last, handle_spelled, name_spelled, link_text_spelled, file_data_spelled, verifier_spelled, optional_of_spelled, optional_attributes_spelled, entries_spelled, time_spelled, file_attributes_spelled, wcc_data_spelled, set_attributes_spelled, void_spelled}

stable_how_named : (level : StableHow) → (stable_how_word level < 2 ^ 32) × (stable_how_of (stable_how_word level) ≡ Ok level)
unfolding stable_how_of stable_how_word
stable_how_named levels.Unstable = (lit< tt, refl)
stable_how_named levels.DataSync = (lit< tt, refl)
stable_how_named levels.FileSync = (lit< tt, refl)

pub stable_how_spelled : (level : StableHow) → Spells (named stable_how_of) (word_text (stable_how_word level)) level
stable_how_spelled level = let h = stable_how_named level in (stable_how_word level, word_spelled (stable_how_word level) h.0, h.1)

pub directory_name_spelled : (d : DirectoryName) → DirectoryNameFits d → Spells directory_name (directory_name_text d) d
unfolding directory_name directory_name_text DirectoryNameFits
directory_name_spelled d fits = (
  d.directory,
  joined (opaque_text d.directory) (opaque_text d.name) (handle_spelled d.directory fits.0)
      (d.name, last d (opaque_text d.name) (name_spelled d.name fits.1)),
)

pub read_arguments_spelled : (a : ReadArguments) → ReadArgumentsFit a → Spells read_arguments (read_arguments_text a) a
unfolding read_arguments read_arguments_text ReadArgumentsFit
read_arguments_spelled a fits = (
  a.file,
  joined (opaque_text a.file) (long_text a.offset ++ word_text a.count) (handle_spelled a.file fits.0) (
    a.offset,
    joined (long_text a.offset) (word_text a.count) (long_spelled a.offset fits.1)
        (a.count, last a (word_text a.count) (word_spelled a.count fits.2)),
  ),
)

pub write_arguments_spelled : (a : WriteArguments) → WriteArgumentsFit a → Spells write_arguments (write_arguments_text a) a
unfolding write_arguments write_arguments_text WriteArgumentsFit
write_arguments_spelled a fits = (
  a.file,
  joined (opaque_text a.file) (long_text a.offset ++ (word_text a.count ++ (word_text (stable_how_word a.level) ++ opaque_text a.bytes))) (handle_spelled a.file fits.0) (
    a.offset,
    joined (long_text a.offset) (word_text a.count ++ (word_text (stable_how_word a.level) ++ opaque_text a.bytes)) (long_spelled a.offset fits.1) (
      a.count,
      joined (word_text a.count) (word_text (stable_how_word a.level) ++ opaque_text a.bytes) (word_spelled a.count fits.2) (
        a.level,
        joined (word_text (stable_how_word a.level)) (opaque_text a.bytes) (stable_how_spelled a.level)
            (a.bytes, last a (opaque_text a.bytes) (file_data_spelled a.bytes fits.3)),
      ),
    ),
  ),
)

pub create_mode_spelled : (m : CreateMode) → CreateModeFits m → Spells create_mode (create_mode_text m) m
unfolding create_mode create_mode_text CreateModeFits create_how_of
create_mode_spelled (modes.Unchecked a) fits =
    (CreateHow.unchecked, joined (word_text 0) (set_attributes_text a) (0, word_spelled 0 (lit< tt), refl) (a, last (modes.Unchecked a) (set_attributes_text a) (set_attributes_spelled a fits)))
create_mode_spelled (modes.Guarded a) fits =
    (CreateHow.guarded, joined (word_text 1) (set_attributes_text a) (1, word_spelled 1 (lit< tt), refl) (a, last (modes.Guarded a) (set_attributes_text a) (set_attributes_spelled a fits)))
create_mode_spelled (modes.Exclusive v) fits =
    (CreateHow.exclusive, joined (word_text 2) (verifier_text v) (2, word_spelled 2 (lit< tt), refl) (v, last (modes.Exclusive v) (verifier_text v) (verifier_spelled v fits)))

pub create_arguments_spelled : (a : CreateArguments) → CreateArgumentsFit a → Spells create_arguments (create_arguments_text a) a
unfolding create_arguments create_arguments_text CreateArgumentsFit
create_arguments_spelled a fits = (
  a.place,
  joined (directory_name_text a.place) (create_mode_text a.mode) (directory_name_spelled a.place fits.0)
      (a.mode, last a (create_mode_text a.mode) (create_mode_spelled a.mode fits.1)),
)

pub set_attr_arguments_spelled : (a : SetAttrArguments) → SetAttrArgumentsFit a → Spells set_attr_arguments (set_attr_arguments_text a) a
unfolding set_attr_arguments set_attr_arguments_text SetAttrArgumentsFit
set_attr_arguments_spelled a fits = (
  a.object,
  joined (opaque_text a.object) (set_attributes_text a.attributes ++ optional_text time_text a.guard) (handle_spelled a.object fits.0) (
    a.attributes,
    joined (set_attributes_text a.attributes) (optional_text time_text a.guard) (set_attributes_spelled a.attributes fits.1) (a.guard, last a (optional_text time_text a.guard) (optional_of_spelled time time_text TimeFits time_spelled a.guard fits.2)),
  ),
)

pub mk_dir_arguments_spelled : (a : MkDirArguments) → MkDirArgumentsFit a → Spells mk_dir_arguments (mk_dir_arguments_text a) a
unfolding mk_dir_arguments mk_dir_arguments_text MkDirArgumentsFit
mk_dir_arguments_spelled a fits = (
  a.place,
  joined (directory_name_text a.place) (set_attributes_text a.attributes) (directory_name_spelled a.place fits.0) (a.attributes, last a (set_attributes_text a.attributes) (set_attributes_spelled a.attributes fits.1)),
)

pub sym_link_arguments_spelled : (a : SymLinkArguments) → SymLinkArgumentsFit a → Spells sym_link_arguments (sym_link_arguments_text a) a
unfolding sym_link_arguments sym_link_arguments_text SymLinkArgumentsFit
sym_link_arguments_spelled a fits = (
  a.place,
  joined (directory_name_text a.place) (set_attributes_text a.attributes ++ opaque_text a.target) (directory_name_spelled a.place fits.0) (
    a.attributes,
    joined (set_attributes_text a.attributes) (opaque_text a.target) (set_attributes_spelled a.attributes fits.1) (a.target, last a (opaque_text a.target) (link_text_spelled a.target fits.2)),
  ),
)

pub rename_arguments_spelled : (a : RenameArguments) → RenameArgumentsFit a → Spells rename_arguments (rename_arguments_text a) a
unfolding rename_arguments rename_arguments_text RenameArgumentsFit
rename_arguments_spelled a fits = (
  a.from,
  joined (directory_name_text a.from) (directory_name_text a.to) (directory_name_spelled a.from fits.0) (a.to, last a (directory_name_text a.to) (directory_name_spelled a.to fits.1)),
)

pub read_dir_arguments_spelled : (a : ReadDirArguments) → ReadDirArgumentsFit a → Spells read_dir_arguments (read_dir_arguments_text a) a
unfolding read_dir_arguments read_dir_arguments_text ReadDirArgumentsFit
read_dir_arguments_spelled a fits = (
  a.directory,
  joined (opaque_text a.directory) (long_text a.cookie ++ (verifier_text a.verifier ++ word_text a.count)) (handle_spelled a.directory fits.0) (
    a.cookie,
    joined (long_text a.cookie) (verifier_text a.verifier ++ word_text a.count) (long_spelled a.cookie fits.1) (
      a.verifier,
      joined (verifier_text a.verifier) (word_text a.count) (verifier_spelled a.verifier fits.2) (a.count, last a (word_text a.count) (word_spelled a.count fits.3)),
    ),
  ),
)

pub read_dir_plus_arguments_spelled : (a : ReadDirPlusArguments) → ReadDirPlusArgumentsFit a → Spells read_dir_plus_arguments (read_dir_plus_arguments_text a) a
unfolding read_dir_plus_arguments read_dir_plus_arguments_text ReadDirPlusArgumentsFit
read_dir_plus_arguments_spelled a fits = (
  a.directory,
  joined (opaque_text a.directory) (long_text a.cookie ++ (verifier_text a.verifier ++ (word_text a.directory_count ++ word_text a.whole_count))) (handle_spelled a.directory fits.0) (
    a.cookie,
    joined (long_text a.cookie) (verifier_text a.verifier ++ (word_text a.directory_count ++ word_text a.whole_count)) (long_spelled a.cookie fits.1) (
      a.verifier,
      joined (verifier_text a.verifier) (word_text a.directory_count ++ word_text a.whole_count) (verifier_spelled a.verifier fits.2) (
        a.directory_count,
        joined (word_text a.directory_count) (word_text a.whole_count) (word_spelled a.directory_count fits.3) (a.whole_count, last a (word_text a.whole_count) (word_spelled a.whole_count fits.4)),
      ),
    ),
  ),
)

pub commit_arguments_spelled : (a : CommitArguments) → CommitArgumentsFit a → Spells commit_arguments (commit_arguments_text a) a
unfolding commit_arguments commit_arguments_text CommitArgumentsFit
commit_arguments_spelled a fits = (
  a.file,
  joined (opaque_text a.file) (long_text a.offset ++ word_text a.count) (handle_spelled a.file fits.0) (
    a.offset,
    joined (long_text a.offset) (word_text a.count) (long_spelled a.offset fits.1) (a.count, last a (word_text a.count) (word_spelled a.count fits.2)),
  ),
)
