-- Believed.
-- The results of the calls (RFC 1813, section 3.3): how they stand, how they are written, and what can be written.
use Rattle.std.specs.Prelude.{ℕ, ◌<◌, ◌≤◌, ◌^◌, List, ◌++◌, length, Option, Some, None, IfSome}
use Rattle.xdr_records.specs.Grammar.{Grammar, ◌>>=◌}
use Rattle.xdr_records.specs.Grammar.Grammar.{one_word, one_flag, named, nothing}
use Rattle.xdr_records.specs.Texts.{word_text, flag_text, opaque_text, optional_text}
use Rattle.nfs3_types.specs.declared.status.Failure.{Failure}
use Rattle.nfs3_types.specs.declared.replies.Answer.{Answer}
use Rattle.nfs3_types.specs.declared.replies.Answer.TheVariants as answers
use Rattle.nfs3_types.specs.declared.replies.ReadSuccess.{ReadSuccess}
use Rattle.nfs3_types.specs.declared.replies.WriteSuccess.{WriteSuccess}
use Rattle.nfs3_types.specs.declared.replies.CreateSuccess.{CreateSuccess}
use Rattle.nfs3_types.specs.declared.replies.LookupSuccess.{LookupSuccess}
use Rattle.nfs3_types.specs.declared.replies.ReadLinkSuccess.{ReadLinkSuccess}
use Rattle.nfs3_types.specs.declared.replies.RenameWcc.{RenameWcc}
use Rattle.nfs3_types.specs.declared.replies.CommitSuccess.{CommitSuccess}
use Rattle.nfs3_values.specs.declared.fault.Kind.{Kind}
use Rattle.nfs3_types.specs.Numbers.{status_number}
use Rattle.nfs3_values.specs.Words.{stable_how_of, stable_how_word, status_of}
use Rattle.nfs3_values.specs.Bytes.{handle, link_text, file_data, verifier, verifier_text, optional_of}
use Rattle.nfs3_values.specs.Attributes.{file_attributes, file_attributes_text, FileAttributesFit, wcc_data, wcc_data_text, WccDataFits}

-- what stands behind the status: the success behind NFS3_OK, else the failure
abbrev pub answer_behind : {S F : Type 0} → Grammar Kind S → Grammar Kind F → Option Failure → Grammar Kind (Answer S F)
answer_behind success failure None = do
  done ← success
  nothing (answers.Done done)
answer_behind success failure (Some status) = do
  failed ← failure
  nothing (answers.Failed status failed)

-- a result: nfsstat3, and the union that it chooses, RFC 1813, section 2.6
unfoldable pub answer : {S F : Type 0} → Grammar Kind S → Grammar Kind F → Grammar Kind (Answer S F)
answer success failure = do
  status ← named status_of
  answer_behind success failure status

unfoldable pub answer_text : {S F : Type 0} → (S → List ℕ) → (F → List ℕ) → Answer S F → List ℕ
answer_text success failure (answers.Done done) = word_text 0 ++ success done
answer_text success failure (answers.Failed status failed) = word_text (status_number status) ++ failure failed

unfoldable pub AnswerFits : {S F : Type 0} → (S → Type 0) → (F → Type 0) → Answer S F → Type 0
AnswerFits success failure (answers.Done done) = success done
AnswerFits success failure (answers.Failed status failed) = failure failed

-- READ3resok, RFC 1813, section 3.3.6
unfoldable pub read_success : Grammar Kind ReadSuccess
read_success = do
  attributes ← optional_of file_attributes
  count ← one_word
  eof ← one_flag
  bytes ← file_data
  nothing (record { attributes = attributes; count = count; eof = eof; bytes = bytes })

unfoldable pub read_success_text : ReadSuccess → List ℕ
read_success_text s = optional_text file_attributes_text s.attributes ++ (word_text s.count ++ (flag_text s.eof ++ opaque_text s.bytes))

unfoldable pub ReadSuccessFits : ReadSuccess → Type 0
ReadSuccessFits s = IfSome s.attributes FileAttributesFit × (s.count < 2 ^ 32) × (length s.bytes < 2 ^ 32)

-- WRITE3resok, RFC 1813, section 3.3.7
unfoldable pub write_success : Grammar Kind WriteSuccess
write_success = do
  wcc ← wcc_data
  count ← one_word
  committed ← named stable_how_of
  server ← verifier
  nothing (record { wcc = wcc; count = count; level = committed; verifier = server })

unfoldable pub write_success_text : WriteSuccess → List ℕ
write_success_text s = wcc_data_text s.wcc ++ (word_text s.count ++ (word_text (stable_how_word s.level) ++ verifier_text s.verifier))

unfoldable pub WriteSuccessFits : WriteSuccess → Type 0
WriteSuccessFits s = WccDataFits s.wcc × (s.count < 2 ^ 32) × (s.verifier.value < 2 ^ 64)

-- CREATE3resok, RFC 1813, section 3.3.8
unfoldable pub create_success : Grammar Kind CreateSuccess
create_success = do
  object ← optional_of handle
  attributes ← optional_of file_attributes
  wcc ← wcc_data
  nothing (record { object = object; attributes = attributes; wcc = wcc })

unfoldable pub create_success_text : CreateSuccess → List ℕ
create_success_text s = optional_text opaque_text s.object ++ (optional_text file_attributes_text s.attributes ++ wcc_data_text s.wcc)

unfoldable pub CreateSuccessFits : CreateSuccess → Type 0
CreateSuccessFits s = IfSome s.object (λ h. length h ≤ 64) × IfSome s.attributes FileAttributesFit × WccDataFits s.wcc

-- LOOKUP3resok, RFC 1813, section 3.3.3
unfoldable pub lookup_success : Grammar Kind LookupSuccess
lookup_success = do
  object ← handle
  attributes ← optional_of file_attributes
  directory_attributes ← optional_of file_attributes
  nothing (record { object = object; attributes = attributes; directory_attributes = directory_attributes })

unfoldable pub lookup_success_text : LookupSuccess → List ℕ
lookup_success_text s = opaque_text s.object ++ (optional_text file_attributes_text s.attributes ++ optional_text file_attributes_text s.directory_attributes)

unfoldable pub LookupSuccessFits : LookupSuccess → Type 0
LookupSuccessFits s = (length s.object ≤ 64) × IfSome s.attributes FileAttributesFit × IfSome s.directory_attributes FileAttributesFit

-- READLINK3resok, RFC 1813, section 3.3.5
unfoldable pub read_link_success : Grammar Kind ReadLinkSuccess
read_link_success = do
  attributes ← optional_of file_attributes
  target ← link_text
  nothing (record { attributes = attributes; target = target })

unfoldable pub read_link_success_text : ReadLinkSuccess → List ℕ
read_link_success_text s = optional_text file_attributes_text s.attributes ++ opaque_text s.target

unfoldable pub ReadLinkSuccessFits : ReadLinkSuccess → Type 0
ReadLinkSuccessFits s = IfSome s.attributes FileAttributesFit × (length s.target < 2 ^ 32)

-- RENAME3resok and RENAME3resfail, RFC 1813, section 3.3.14
unfoldable pub rename_wcc : Grammar Kind RenameWcc
rename_wcc = do
  source ← wcc_data
  goal ← wcc_data
  nothing (record { from = source; to = goal })

unfoldable pub rename_wcc_text : RenameWcc → List ℕ
rename_wcc_text s = wcc_data_text s.from ++ wcc_data_text s.to

unfoldable pub RenameWccFits : RenameWcc → Type 0
RenameWccFits s = WccDataFits s.from × WccDataFits s.to

-- COMMIT3resok, RFC 1813, section 3.3.21
unfoldable pub commit_success : Grammar Kind CommitSuccess
commit_success = do
  wcc ← wcc_data
  server ← verifier
  nothing (record { wcc = wcc; verifier = server })

unfoldable pub commit_success_text : CommitSuccess → List ℕ
commit_success_text s = wcc_data_text s.wcc ++ verifier_text s.verifier

unfoldable pub CommitSuccessFits : CommitSuccess → Type 0
CommitSuccessFits s = WccDataFits s.wcc × (s.verifier.value < 2 ^ 64)
