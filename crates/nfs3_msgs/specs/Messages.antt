-- Believed.
-- Which bytes are the arguments or the result of a procedure.
use Rattle.std.specs.Prelude.{ℕ, ◌==◌, List, Result}
use Rattle.xdr_records.specs.Unread.{At}
use Rattle.xdr_records.specs.Grammar.{Grammar, ◌>>=◌, either}
use Rattle.xdr_records.specs.Grammar.Grammar.{nothing, refused}
use Rattle.xdr_records.specs.Spelling.{Spells}
use Rattle.xdr_records.specs.Reading.{all_of}
use Rattle.xdr_records.specs.Faults.{AllFails}
use Rattle.nfs3_types.specs.declared.calls.NfsCall.{NfsCall}
use Rattle.nfs3_types.specs.declared.calls.NfsCall.TheVariants as calls
use Rattle.nfs3_types.specs.declared.replies.NfsReply.{NfsReply}
use Rattle.nfs3_types.specs.declared.replies.NfsReply.TheVariants as replies
use Rattle.nfs3_types.specs.declared.procedures.Procedure.TheVariants as procedures
use Rattle.nfs3_types.specs.Procedures.{number}
use Rattle.nfs3_values.specs.declared.fault.Kind.{Kind}
use Rattle.nfs3_values.specs.declared.fault.Kind.TheVariants as kinds
use Rattle.nfs3_values.specs.Told.{kind_of}
use Rattle.xdr_records.specs.Texts.{opaque_text, optional_text}
use Rattle.nfs3_values.specs.Bytes.{handle, void, void_text, optional_of}
use Rattle.nfs3_values.specs.Attributes.{file_attributes, file_attributes_text, wcc_data, wcc_data_text}
use Rattle.nfs3_values.specs.Calls.{directory_name, directory_name_text, read_arguments, read_arguments_text, write_arguments, write_arguments_text, set_attr_arguments, set_attr_arguments_text, commit_arguments, commit_arguments_text}
use Rattle.nfs3_values.specs.EntryCalls.{create_arguments, create_arguments_text, mk_dir_arguments, mk_dir_arguments_text, sym_link_arguments, sym_link_arguments_text, rename_arguments, rename_arguments_text, read_dir_arguments, read_dir_arguments_text, read_dir_plus_arguments, read_dir_plus_arguments_text}
use Rattle.nfs3_values.specs.Replies.{answer, answer_text, read_success, read_success_text, write_success, write_success_text, create_success, create_success_text, lookup_success, lookup_success_text, read_link_success, read_link_success_text, rename_wcc, rename_wcc_text, commit_success, commit_success_text}
use Rattle.nfs3_values.specs.Listings.{read_dir_success, read_dir_success_text, read_dir_plus_success, read_dir_plus_success_text}

-- the arguments of a procedure by its number, RFC 1813, section 3.3
unfoldable pub arguments : ℕ → Grammar Kind NfsCall
arguments procedure =
    either (procedure == number procedures.GetAttr) (handle >>= λ a. nothing (calls.GetAttr a))
    (either (procedure == number procedures.SetAttr) (set_attr_arguments >>= λ a. nothing (calls.SetAttr a))
    (either (procedure == number procedures.Lookup) (directory_name >>= λ a. nothing (calls.Lookup a))
    (either (procedure == number procedures.ReadLink) (handle >>= λ a. nothing (calls.ReadLink a))
    (either (procedure == number procedures.Read) (read_arguments >>= λ a. nothing (calls.Read a))
    (either (procedure == number procedures.Write) (write_arguments >>= λ a. nothing (calls.Write a))
    (either (procedure == number procedures.Create) (create_arguments >>= λ a. nothing (calls.Create a))
    (either (procedure == number procedures.MkDir) (mk_dir_arguments >>= λ a. nothing (calls.MkDir a))
    (either (procedure == number procedures.SymLink) (sym_link_arguments >>= λ a. nothing (calls.SymLink a))
    (either (procedure == number procedures.Remove) (directory_name >>= λ a. nothing (calls.Remove a))
    (either (procedure == number procedures.RmDir) (directory_name >>= λ a. nothing (calls.RmDir a))
    (either (procedure == number procedures.Rename) (rename_arguments >>= λ a. nothing (calls.Rename a))
    (either (procedure == number procedures.ReadDir) (read_dir_arguments >>= λ a. nothing (calls.ReadDir a))
    (either (procedure == number procedures.ReadDirPlus) (read_dir_plus_arguments >>= λ a. nothing (calls.ReadDirPlus a))
    (either (procedure == number procedures.Commit) (commit_arguments >>= λ a. nothing (calls.Commit a))
    (refused kinds.NotJudged)))))))))))))))

-- the result of a procedure by its number, RFC 1813, section 3.3
unfoldable pub results : ℕ → Grammar Kind NfsReply
results procedure =
    either (procedure == number procedures.GetAttr) (answer file_attributes void >>= λ r. nothing (replies.GetAttr r))
    (either (procedure == number procedures.SetAttr) (answer wcc_data wcc_data >>= λ r. nothing (replies.SetAttr r))
    (either (procedure == number procedures.Lookup) (answer lookup_success (optional_of file_attributes) >>= λ r. nothing (replies.Lookup r))
    (either (procedure == number procedures.ReadLink) (answer read_link_success (optional_of file_attributes) >>= λ r. nothing (replies.ReadLink r))
    (either (procedure == number procedures.Read) (answer read_success (optional_of file_attributes) >>= λ r. nothing (replies.Read r))
    (either (procedure == number procedures.Write) (answer write_success wcc_data >>= λ r. nothing (replies.Write r))
    (either (procedure == number procedures.Create) (answer create_success wcc_data >>= λ r. nothing (replies.Create r))
    (either (procedure == number procedures.MkDir) (answer create_success wcc_data >>= λ r. nothing (replies.MkDir r))
    (either (procedure == number procedures.SymLink) (answer create_success wcc_data >>= λ r. nothing (replies.SymLink r))
    (either (procedure == number procedures.Remove) (answer wcc_data wcc_data >>= λ r. nothing (replies.Remove r))
    (either (procedure == number procedures.RmDir) (answer wcc_data wcc_data >>= λ r. nothing (replies.RmDir r))
    (either (procedure == number procedures.Rename) (answer rename_wcc rename_wcc >>= λ r. nothing (replies.Rename r))
    (either (procedure == number procedures.ReadDir) (answer read_dir_success (optional_of file_attributes) >>= λ r. nothing (replies.ReadDir r))
    (either (procedure == number procedures.ReadDirPlus) (answer read_dir_plus_success (optional_of file_attributes) >>= λ r. nothing (replies.ReadDirPlus r))
    (either (procedure == number procedures.Commit) (answer commit_success wcc_data >>= λ r. nothing (replies.Commit r))
    (refused kinds.NotJudged)))))))))))))))

-- the bytes, all of them, are the arguments of a call of the procedure
abbrev pub IsArguments : ℕ → List ℕ → NfsCall → Type 0
IsArguments procedure bytes call = Spells (arguments procedure) bytes call

-- the bytes, all of them, are a result of the procedure
abbrev pub IsResult : ℕ → List ℕ → NfsReply → Type 0
IsResult procedure bytes reply = Spells (results procedure) bytes reply

-- the first item at fault where the bytes are no arguments of the procedure, by its offset
abbrev pub IsArgumentsFault : ℕ → List ℕ → ℕ → Kind → Type 0
IsArgumentsFault procedure bytes at kind = AllFails kind_of (arguments procedure) bytes (record { at = at; kind = kind })

-- the first item at fault where the bytes are no result of the procedure, by its offset
abbrev pub IsResultFault : ℕ → List ℕ → ℕ → Kind → Type 0
IsResultFault procedure bytes at kind = AllFails kind_of (results procedure) bytes (record { at = at; kind = kind })

-- the call whose arguments the bytes are, or the first item at fault
abbrev pub arguments_of : ℕ → List ℕ → Result NfsCall (At Kind)
arguments_of procedure bytes = all_of kind_of (arguments procedure) bytes

-- the reply whose result the bytes are, or the first item at fault
abbrev pub result_of : ℕ → List ℕ → Result NfsReply (At Kind)
result_of procedure bytes = all_of kind_of (results procedure) bytes

-- the one spelling that is written of a call's arguments
unfoldable pub arguments_text : NfsCall → List ℕ
arguments_text (calls.GetAttr a) = opaque_text a
arguments_text (calls.SetAttr a) = set_attr_arguments_text a
arguments_text (calls.Lookup a) = directory_name_text a
arguments_text (calls.ReadLink a) = opaque_text a
arguments_text (calls.Read a) = read_arguments_text a
arguments_text (calls.Write a) = write_arguments_text a
arguments_text (calls.Create a) = create_arguments_text a
arguments_text (calls.MkDir a) = mk_dir_arguments_text a
arguments_text (calls.SymLink a) = sym_link_arguments_text a
arguments_text (calls.Remove a) = directory_name_text a
arguments_text (calls.RmDir a) = directory_name_text a
arguments_text (calls.Rename a) = rename_arguments_text a
arguments_text (calls.ReadDir a) = read_dir_arguments_text a
arguments_text (calls.ReadDirPlus a) = read_dir_plus_arguments_text a
arguments_text (calls.Commit a) = commit_arguments_text a

-- the one spelling that is written of a result
unfoldable pub result_text : NfsReply → List ℕ
result_text (replies.GetAttr r) = answer_text file_attributes_text void_text r
result_text (replies.SetAttr r) = answer_text wcc_data_text wcc_data_text r
result_text (replies.Lookup r) = answer_text lookup_success_text (optional_text file_attributes_text) r
result_text (replies.ReadLink r) = answer_text read_link_success_text (optional_text file_attributes_text) r
result_text (replies.Read r) = answer_text read_success_text (optional_text file_attributes_text) r
result_text (replies.Write r) = answer_text write_success_text wcc_data_text r
result_text (replies.Create r) = answer_text create_success_text wcc_data_text r
result_text (replies.MkDir r) = answer_text create_success_text wcc_data_text r
result_text (replies.SymLink r) = answer_text create_success_text wcc_data_text r
result_text (replies.Remove r) = answer_text wcc_data_text wcc_data_text r
result_text (replies.RmDir r) = answer_text wcc_data_text wcc_data_text r
result_text (replies.Rename r) = answer_text rename_wcc_text rename_wcc_text r
result_text (replies.ReadDir r) = answer_text read_dir_success_text (optional_text file_attributes_text) r
result_text (replies.ReadDirPlus r) = answer_text read_dir_plus_success_text (optional_text file_attributes_text) r
result_text (replies.Commit r) = answer_text commit_success_text wcc_data_text r
