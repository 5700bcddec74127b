-- For the prover.
-- What is written of a result is a spelling of it. For the prover: a law of the trait of values asks for it.
use Rattle.std.specs.Prelude.{◌≡◌, ℕ, ◌<◌, ◌≤◌, ◌^◌, List, [], ◌++◌, length, Option, Some, None, IfSome, Ok, refl}
use Rattle.std.proofs.Common.{sym, lit<, lit≤, lt_of_le_ones}
use Rattle.std.proofs.Math.Nat.{le_trans, le-pred_of_lt}
use Rattle.std.proofs.lemmas.List.{append-nil}
use Rattle.xdr_records.specs.Grammar.{Grammar}
use Rattle.xdr_records.specs.Grammar.Grammar.{one_word, one_long, named}
use Rattle.xdr_records.specs.Spelling.{Spells, Joined}
use Rattle.xdr_records.specs.Texts.{word_text, long_text, flag_text, opaque_text, optional_text, list_text}
use Rattle.xdr_records.proofs.Written.{word_spelled, long_spelled, flag_spelled, opaque_spelled, optional_spelled, nothing_behind}
use Rattle.nfs3_types.specs.declared.attributes.Time.{Time}
use Rattle.nfs3_types.specs.declared.attributes.Device.{Device}
use Rattle.nfs3_types.specs.declared.attributes.Verifier.{Verifier}
use Rattle.nfs3_types.specs.declared.attributes.FileType.{FileType}
use Rattle.nfs3_types.specs.declared.attributes.FileType.TheVariants as types
use Rattle.nfs3_types.specs.declared.attributes.FileAttributes.{FileAttributes}
use Rattle.nfs3_types.specs.declared.attributes.WccAttributes.{WccAttributes}
use Rattle.nfs3_types.specs.declared.attributes.WccData.{WccData}
use Rattle.nfs3_types.specs.declared.attributes.SetTime.{SetTime}
use Rattle.nfs3_types.specs.declared.attributes.SetTime.TheVariants as times
use Rattle.nfs3_types.specs.declared.attributes.SetAttributes.{SetAttributes}
use Rattle.nfs3_types.specs.declared.status.Failure.{Failure}
use Rattle.nfs3_types.specs.declared.status.Failure.TheVariants as statuses
use Rattle.nfs3_types.specs.declared.replies.Answer.{Answer}
use Rattle.nfs3_types.specs.declared.replies.Answer.TheVariants as answers
use Rattle.nfs3_types.specs.declared.replies.ReadSuccess.{ReadSuccess}
use Rattle.nfs3_types.specs.declared.replies.WriteSuccess.{WriteSuccess}
use Rattle.nfs3_types.specs.declared.replies.CreateSuccess.{CreateSuccess}
use Rattle.nfs3_values.specs.declared.fault.Kind.{Kind}
use Rattle.nfs3_types.specs.Numbers.{status_number, failure_of}
use Rattle.nfs3_values.specs.Words.{file_type_of, stable_how_of, stable_how_word, TimeHow, time_how_of, CreateHow, create_how_of, status_of}
use Rattle.nfs3_values.specs.Bytes.{handle, name, link_text, file_data, verifier, verifier_text, optional_of, entries}
use Rattle.nfs3_values.specs.Attributes.{time, time_text, TimeFits, device, device_text, DeviceFits, file_attributes, file_attributes_text, sizes_text, times_text, FileAttributesFit, SizesFit, TimesFit, wcc_attributes, wcc_attributes_text, WccAttributesFit, wcc_data, wcc_data_text, WccDataFits}
use Rattle.nfs3_values.specs.Settings.{set_time, set_time_text, SetTimeFits, set_attributes, set_attributes_text, SetAttributesFit}
use Rattle.nfs3_values.specs.Replies.{answer, answer_text, AnswerFits, read_success, read_success_text, ReadSuccessFits, write_success, write_success_text, WriteSuccessFits, create_success, create_success_text, CreateSuccessFits, lookup_success, lookup_success_text, LookupSuccessFits, read_link_success, read_link_success_text, ReadLinkSuccessFits, rename_wcc, rename_wcc_text, RenameWccFits, commit_success, commit_success_text, CommitSuccessFits}
use Rattle.nfs3_values.specs.Listings.{directory_entry, directory_entry_text, DirectoryEntryFits, read_dir_success, read_dir_success_text, ReadDirSuccessFits, directory_entry_plus, directory_entry_plus_text, DirectoryEntryPlusFits, read_dir_plus_success, read_dir_plus_success_text, ReadDirPlusSuccessFits}
use Rattle.nfs3_types.specs.declared.replies.LookupSuccess.{LookupSuccess}
use Rattle.nfs3_types.specs.declared.replies.ReadLinkSuccess.{ReadLinkSuccess}
use Rattle.nfs3_types.specs.declared.replies.RenameWcc.{RenameWcc}
use Rattle.nfs3_types.specs.declared.replies.DirectoryEntry.{DirectoryEntry}
use Rattle.nfs3_types.specs.declared.replies.ReadDirSuccess.{ReadDirSuccess}
use Rattle.nfs3_types.specs.declared.replies.DirectoryEntryPlus.{DirectoryEntryPlus}
use Rattle.nfs3_types.specs.declared.replies.ReadDirPlusSuccess.{ReadDirPlusSuccess}
use Rattle.nfs3_types.specs.declared.replies.CommitSuccess.{CommitSuccess}
use Rattle.nfs3_values.specs.Spelled.{joined, last, handle_spelled, name_spelled, link_text_spelled, file_data_spelled, verifier_spelled, optional_of_spelled, optional_attributes_spelled, entries_spelled, time_spelled, file_attributes_spelled, wcc_data_spelled, set_attributes_spelled, void_spelled}
use Rattle.nfs3_values.specs.SpelledCalls.{stable_how_spelled}

failure_named : (f : Failure) → (status_number f < 2 ^ 32) × (status_of (status_number f) ≡ Ok (Some f))
unfolding failure_of status_of
failure_named statuses.NotOwner = (lit< tt, refl)
failure_named statuses.NoEntry = (lit< tt, refl)
failure_named statuses.InputOutput = (lit< tt, refl)
failure_named statuses.NoDevice = (lit< tt, refl)
failure_named statuses.Access = (lit< tt, refl)
failure_named statuses.Exists = (lit< tt, refl)
failure_named statuses.CrossDevice = (lit< tt, refl)
failure_named statuses.NoSuchDevice = (lit< tt, refl)
failure_named statuses.NotDirectory = (lit< tt, refl)
failure_named statuses.IsDirectory = (lit< tt, refl)
failure_named statuses.Invalid = (lit< tt, refl)
failure_named statuses.FileTooLarge = (lit< tt, refl)
failure_named statuses.NoSpace = (lit< tt, refl)
failure_named statuses.ReadOnly = (lit< tt, refl)
failure_named statuses.TooManyLinks = (lit< tt, refl)
failure_named statuses.NameTooLong = (lit< tt, refl)
failure_named statuses.NotEmpty = (lit< tt, refl)
failure_named statuses.Quota = (lit< tt, refl)
failure_named statuses.Stale = (lit< tt, refl)
failure_named statuses.Remote = (lit< tt, refl)
failure_named statuses.BadHandle = (lit< tt, refl)
failure_named statuses.NotSynchronized = (lit< tt, refl)
failure_named statuses.BadCookie = (lit< tt, refl)
failure_named statuses.NotSupported = (lit< tt, refl)
failure_named statuses.TooSmall = (lit< tt, refl)
failure_named statuses.ServerFault = (lit< tt, refl)
failure_named statuses.BadType = (lit< tt, refl)
failure_named statuses.Jukebox = (lit< tt, refl)

done_named : status_of 0 ≡ Ok None
unfolding status_of
done_named = refl

pub answer_spelled : {S F : Type 0} (success : Grammar Kind S) (failure : Grammar Kind F) (success_text : S → List ℕ) (failure_text : F → List ℕ) (SuccessFits : S → Type 0) (FailureFits : F → Type 0) → ((s : S) → SuccessFits s → Spells success (success_text s) s) → ((f : F) → FailureFits f → Spells failure (failure_text f) f) → (a : Answer S F) → AnswerFits SuccessFits FailureFits a → Spells (answer success failure) (answer_text success_text failure_text a) a
unfolding answer answer_text AnswerFits
answer_spelled success failure success_text failure_text SuccessFits FailureFits success_law failure_law (answers.Done s) fits =
    (None, joined (word_text 0) (success_text s) (0, word_spelled 0 (lit< tt), done_named) (s, last (answers.Done s) (success_text s) (success_law s fits)))
answer_spelled success failure success_text failure_text SuccessFits FailureFits success_law failure_law (answers.Failed status f) fits =
    let h = failure_named status in
    (Some status, joined (word_text (status_number status)) (failure_text f) (status_number status, word_spelled (status_number status) h.0, h.1) (f, last (answers.Failed status f) (failure_text f) (failure_law f fits)))

pub read_success_spelled : (s : ReadSuccess) → ReadSuccessFits s → Spells read_success (read_success_text s) s
unfolding read_success read_success_text ReadSuccessFits
read_success_spelled s fits = (
  s.attributes,
  joined (optional_text file_attributes_text s.attributes) (word_text s.count ++ (flag_text s.eof ++ opaque_text s.bytes)) (optional_of_spelled file_attributes file_attributes_text FileAttributesFit file_attributes_spelled s.attributes fits.0) (
    s.count,
    joined (word_text s.count) (flag_text s.eof ++ opaque_text s.bytes) (word_spelled s.count fits.1) (
      s.eof,
      joined (flag_text s.eof) (opaque_text s.bytes) (flag_spelled s.eof)
          (s.bytes, last s (opaque_text s.bytes) (file_data_spelled s.bytes fits.2)),
    ),
  ),
)

pub write_success_spelled : (s : WriteSuccess) → WriteSuccessFits s → Spells write_success (write_success_text s) s
unfolding write_success write_success_text WriteSuccessFits
write_success_spelled s fits = (
  s.wcc,
  joined (wcc_data_text s.wcc) (word_text s.count ++ (word_text (stable_how_word s.level) ++ verifier_text s.verifier)) (wcc_data_spelled s.wcc fits.0) (
    s.count,
    joined (word_text s.count) (word_text (stable_how_word s.level) ++ verifier_text s.verifier) (word_spelled s.count fits.1) (
      s.level,
      joined (word_text (stable_how_word s.level)) (verifier_text s.verifier) (stable_how_spelled s.level)
          (s.verifier, last s (verifier_text s.verifier) (verifier_spelled s.verifier fits.2)),
    ),
  ),
)

pub create_success_spelled : (s : CreateSuccess) → CreateSuccessFits s → Spells create_success (create_success_text s) s
unfolding create_success create_success_text CreateSuccessFits
create_success_spelled s fits = (
  s.object,
  joined (optional_text opaque_text s.object) (optional_text file_attributes_text s.attributes ++ wcc_data_text s.wcc) (optional_of_spelled handle opaque_text (λ h. length h ≤ 64) handle_spelled s.object fits.0) (
    s.attributes,
    joined (optional_text file_attributes_text s.attributes) (wcc_data_text s.wcc) (optional_of_spelled file_attributes file_attributes_text FileAttributesFit file_attributes_spelled s.attributes fits.1)
        (s.wcc, last s (wcc_data_text s.wcc) (wcc_data_spelled s.wcc fits.2)),
  ),
)

pub lookup_success_spelled : (s : LookupSuccess) → LookupSuccessFits s → Spells lookup_success (lookup_success_text s) s
unfolding lookup_success lookup_success_text LookupSuccessFits
lookup_success_spelled s fits = (
  s.object,
  joined (opaque_text s.object) (optional_text file_attributes_text s.attributes ++ optional_text file_attributes_text s.directory_attributes) (handle_spelled s.object fits.0) (
    s.attributes,
    joined (optional_text file_attributes_text s.attributes) (optional_text file_attributes_text s.directory_attributes) (optional_attributes_spelled s.attributes fits.1) (s.directory_attributes, last s (optional_text file_attributes_text s.directory_attributes) (optional_attributes_spelled s.directory_attributes fits.2)),
  ),
)

pub read_link_success_spelled : (s : ReadLinkSuccess) → ReadLinkSuccessFits s → Spells read_link_success (read_link_success_text s) s
unfolding read_link_success read_link_success_text ReadLinkSuccessFits
read_link_success_spelled s fits = (
  s.attributes,
  joined (optional_text file_attributes_text s.attributes) (opaque_text s.target) (optional_attributes_spelled s.attributes fits.0) (s.target, last s (opaque_text s.target) (link_text_spelled s.target fits.1)),
)

pub rename_wcc_spelled : (s : RenameWcc) → RenameWccFits s → Spells rename_wcc (rename_wcc_text s) s
unfolding rename_wcc rename_wcc_text RenameWccFits
rename_wcc_spelled s fits = (
  s.from,
  joined (wcc_data_text s.from) (wcc_data_text s.to) (wcc_data_spelled s.from fits.0) (s.to, last s (wcc_data_text s.to) (wcc_data_spelled s.to fits.1)),
)

pub directory_entry_spelled : (s : DirectoryEntry) → DirectoryEntryFits s → Spells directory_entry (directory_entry_text s) s
unfolding directory_entry directory_entry_text DirectoryEntryFits
directory_entry_spelled s fits = (
  s.file_number,
  joined (long_text s.file_number) (opaque_text s.name ++ long_text s.cookie) (long_spelled s.file_number fits.0) (
    s.name,
    joined (opaque_text s.name) (long_text s.cookie) (name_spelled s.name fits.1) (s.cookie, last s (long_text s.cookie) (long_spelled s.cookie fits.2)),
  ),
)

pub read_dir_success_spelled : (s : ReadDirSuccess) → ReadDirSuccessFits s → Spells read_dir_success (read_dir_success_text s) s
unfolding read_dir_success read_dir_success_text ReadDirSuccessFits
read_dir_success_spelled s fits = (
  s.attributes,
  joined (optional_text file_attributes_text s.attributes) (verifier_text s.verifier ++ (list_text directory_entry_text s.entries ++ flag_text s.eof)) (optional_attributes_spelled s.attributes fits.0) (
    s.verifier,
    joined (verifier_text s.verifier) (list_text directory_entry_text s.entries ++ flag_text s.eof) (verifier_spelled s.verifier fits.1) (
      s.entries,
      joined (list_text directory_entry_text s.entries) (flag_text s.eof) (entries_spelled directory_entry directory_entry_text DirectoryEntryFits directory_entry_spelled s.entries fits.2) (s.eof, last s (flag_text s.eof) (flag_spelled s.eof)),
    ),
  ),
)

pub directory_entry_plus_spelled : (s : DirectoryEntryPlus) → DirectoryEntryPlusFits s → Spells directory_entry_plus (directory_entry_plus_text s) s
unfolding directory_entry_plus directory_entry_plus_text DirectoryEntryPlusFits
directory_entry_plus_spelled s fits = (
  s.file_number,
  joined (long_text s.file_number) (opaque_text s.name ++ (long_text s.cookie ++ (optional_text file_attributes_text s.attributes ++ optional_text opaque_text s.object))) (long_spelled s.file_number fits.0) (
    s.name,
    joined (opaque_text s.name) (long_text s.cookie ++ (optional_text file_attributes_text s.attributes ++ optional_text opaque_text s.object)) (name_spelled s.name fits.1) (
      s.cookie,
      joined (long_text s.cookie) (optional_text file_attributes_text s.attributes ++ optional_text opaque_text s.object) (long_spelled s.cookie fits.2) (
        s.attributes,
        joined (optional_text file_attributes_text s.attributes) (optional_text opaque_text s.object) (optional_attributes_spelled s.attributes fits.3) (s.object, last s (optional_text opaque_text s.object) (optional_of_spelled handle opaque_text (λ h. length h ≤ 64) handle_spelled s.object fits.4)),
      ),
    ),
  ),
)

pub read_dir_plus_success_spelled : (s : ReadDirPlusSuccess) → ReadDirPlusSuccessFits s → Spells read_dir_plus_success (read_dir_plus_success_text s) s
unfolding read_dir_plus_success read_dir_plus_success_text ReadDirPlusSuccessFits
read_dir_plus_success_spelled s fits = (
  s.attributes,
  joined (optional_text file_attributes_text s.attributes) (verifier_text s.verifier ++ (list_text directory_entry_plus_text s.entries ++ flag_text s.eof)) (optional_attributes_spelled s.attributes fits.0) (
    s.verifier,
    joined (verifier_text s.verifier) (list_text directory_entry_plus_text s.entries ++ flag_text s.eof) (verifier_spelled s.verifier fits.1) (
      s.entries,
      joined (list_text directory_entry_plus_text s.entries) (flag_text s.eof) (entries_spelled directory_entry_plus directory_entry_plus_text DirectoryEntryPlusFits directory_entry_plus_spelled s.entries fits.2) (s.eof, last s (flag_text s.eof) (flag_spelled s.eof)),
    ),
  ),
)

pub commit_success_spelled : (s : CommitSuccess) → CommitSuccessFits s → Spells commit_success (commit_success_text s) s
unfolding commit_success commit_success_text CommitSuccessFits
commit_success_spelled s fits = (
  s.wcc,
  joined (wcc_data_text s.wcc) (verifier_text s.verifier) (wcc_data_spelled s.wcc fits.0) (s.verifier, last s (verifier_text s.verifier) (verifier_spelled s.verifier fits.1)),
)
