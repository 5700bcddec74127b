-- For the prover.
-- What is written of a call or a reply is a spelling of it. For the prover alone.
use Rattle.std.specs.Prelude.{IfSome}
use Rattle.xdr_records.specs.Texts.{opaque_text, optional_text}
use Rattle.xdr_records.proofs.Written.{nothing_behind}
use Rattle.nfs3_types.specs.declared.calls.NfsCall.{NfsCall}
use Rattle.nfs3_types.specs.declared.calls.NfsCall.TheVariants as calls
use Rattle.nfs3_types.specs.declared.replies.NfsReply.{NfsReply}
use Rattle.nfs3_types.specs.declared.replies.NfsReply.TheVariants as replies
use Rattle.nfs3_values.specs.Bytes.{handle, void, void_text, optional_of}
use Rattle.nfs3_values.specs.Attributes.{file_attributes, file_attributes_text, FileAttributesFit, wcc_data, wcc_data_text, WccDataFits}
use Rattle.nfs3_values.specs.Calls.{directory_name, directory_name_text, DirectoryNameFits, read_arguments, read_arguments_text, ReadArgumentsFit, write_arguments, write_arguments_text, WriteArgumentsFit, set_attr_arguments, set_attr_arguments_text, SetAttrArgumentsFit, commit_arguments, commit_arguments_text, CommitArgumentsFit}
use Rattle.nfs3_values.specs.EntryCalls.{create_arguments, create_arguments_text, CreateArgumentsFit, mk_dir_arguments, mk_dir_arguments_text, MkDirArgumentsFit, sym_link_arguments, sym_link_arguments_text, SymLinkArgumentsFit, rename_arguments, rename_arguments_text, RenameArgumentsFit, read_dir_arguments, read_dir_arguments_text, ReadDirArgumentsFit, read_dir_plus_arguments, read_dir_plus_arguments_text, ReadDirPlusArgumentsFit}
use Rattle.nfs3_values.specs.Replies.{answer, answer_text, AnswerFits, read_success, read_success_text, ReadSuccessFits, write_success, write_success_text, WriteSuccessFits, create_success, create_success_text, CreateSuccessFits, lookup_success, lookup_success_text, LookupSuccessFits, read_link_success, read_link_success_text, ReadLinkSuccessFits, rename_wcc, rename_wcc_text, RenameWccFits, commit_success, commit_success_text, CommitSuccessFits}
use Rattle.nfs3_values.specs.Listings.{read_dir_success, read_dir_success_text, ReadDirSuccessFits, read_dir_plus_success, read_dir_plus_success_text, ReadDirPlusSuccessFits}
use Rattle.nfs3_types.specs.Procedures.{procedure_called, procedure_answered}
use Rattle.nfs3_msgs.specs.Messages.{arguments, results, IsArguments, IsResult, arguments_text, result_text}
use Rattle.nfs3_msgs.specs.Fits.{CallFits, ReplyFits}
use Rattle.nfs3_values.specs.Spelled.{handle_spelled, file_attributes_spelled, wcc_data_spelled, optional_attributes_spelled, void_spelled}
use Rattle.nfs3_values.specs.SpelledCalls.{directory_name_spelled, read_arguments_spelled, write_arguments_spelled, create_arguments_spelled, set_attr_arguments_spelled, mk_dir_arguments_spelled, sym_link_arguments_spelled, rename_arguments_spelled, read_dir_arguments_spelled, read_dir_plus_arguments_spelled, commit_arguments_spelled}
use Rattle.nfs3_values.specs.SpelledReplies.{answer_spelled, read_success_spelled, write_success_spelled, create_success_spelled, lookup_success_spelled, read_link_success_spelled, rename_wcc_spelled, read_dir_success_spelled, read_dir_plus_success_spelled, commit_success_spelled}

pub call_spelled : (call : NfsCall) → CallFits call → IsArguments (procedure_called call) (arguments_text call) call
unfolding arguments arguments_text CallFits
call_spelled (calls.GetAttr a) fits = nothing_behind handle (λ x. calls.GetAttr x) a (opaque_text a) (handle_spelled a fits)
call_spelled (calls.SetAttr a) fits = nothing_behind set_attr_arguments (λ x. calls.SetAttr x) a (set_attr_arguments_text a) (set_attr_arguments_spelled a fits)
call_spelled (calls.Lookup a) fits = nothing_behind directory_name (λ x. calls.Lookup x) a (directory_name_text a) (directory_name_spelled a fits)
call_spelled (calls.ReadLink a) fits = nothing_behind handle (λ x. calls.ReadLink x) a (opaque_text a) (handle_spelled a fits)
call_spelled (calls.Read a) fits = nothing_behind read_arguments (λ x. calls.Read x) a (read_arguments_text a) (read_arguments_spelled a fits)
call_spelled (calls.Write a) fits = nothing_behind write_arguments (λ x. calls.Write x) a (write_arguments_text a) (write_arguments_spelled a fits)
call_spelled (calls.Create a) fits = nothing_behind create_arguments (λ x. calls.Create x) a (create_arguments_text a) (create_arguments_spelled a fits)
call_spelled (calls.MkDir a) fits = nothing_behind mk_dir_arguments (λ x. calls.MkDir x) a (mk_dir_arguments_text a) (mk_dir_arguments_spelled a fits)
call_spelled (calls.SymLink a) fits = nothing_behind sym_link_arguments (λ x. calls.SymLink x) a (sym_link_arguments_text a) (sym_link_arguments_spelled a fits)
call_spelled (calls.Remove a) fits = nothing_behind directory_name (λ x. calls.Remove x) a (directory_name_text a) (directory_name_spelled a fits)
call_spelled (calls.RmDir a) fits = nothing_behind directory_name (λ x. calls.RmDir x) a (directory_name_text a) (directory_name_spelled a fits)
call_spelled (calls.Rename a) fits = nothing_behind rename_arguments (λ x. calls.Rename x) a (rename_arguments_text a) (rename_arguments_spelled a fits)
call_spelled (calls.ReadDir a) fits = nothing_behind read_dir_arguments (λ x. calls.ReadDir x) a (read_dir_arguments_text a) (read_dir_arguments_spelled a fits)
call_spelled (calls.ReadDirPlus a) fits = nothing_behind read_dir_plus_arguments (λ x. calls.ReadDirPlus x) a (read_dir_plus_arguments_text a) (read_dir_plus_arguments_spelled a fits)
call_spelled (calls.Commit a) fits = nothing_behind commit_arguments (λ x. calls.Commit x) a (commit_arguments_text a) (commit_arguments_spelled a fits)

pub reply_spelled : (reply : NfsReply) → ReplyFits reply → IsResult (procedure_answered reply) (result_text reply) reply
unfolding results result_text ReplyFits
reply_spelled (replies.GetAttr r) fits =
    nothing_behind (answer file_attributes void) (λ x. replies.GetAttr x) r (answer_text file_attributes_text void_text r)
    (answer_spelled file_attributes void file_attributes_text void_text FileAttributesFit (λ u. Unit {0}) file_attributes_spelled void_spelled r fits)
reply_spelled (replies.SetAttr r) fits =
    nothing_behind (answer wcc_data wcc_data) (λ x. replies.SetAttr x) r (answer_text wcc_data_text wcc_data_text r)
    (answer_spelled wcc_data wcc_data wcc_data_text wcc_data_text WccDataFits WccDataFits wcc_data_spelled wcc_data_spelled r fits)
reply_spelled (replies.Lookup r) fits =
    nothing_behind (answer lookup_success (optional_of file_attributes)) (λ x. replies.Lookup x) r (answer_text lookup_success_text (optional_text file_attributes_text) r)
    (answer_spelled lookup_success (optional_of file_attributes) lookup_success_text (optional_text file_attributes_text) LookupSuccessFits (λ a. IfSome a FileAttributesFit) lookup_success_spelled optional_attributes_spelled r fits)
reply_spelled (replies.ReadLink r) fits =
    nothing_behind (answer read_link_success (optional_of file_attributes)) (λ x. replies.ReadLink x) r (answer_text read_link_success_text (optional_text file_attributes_text) r)
    (answer_spelled read_link_success (optional_of file_attributes) read_link_success_text (optional_text file_attributes_text) ReadLinkSuccessFits (λ a. IfSome a FileAttributesFit) read_link_success_spelled optional_attributes_spelled r fits)
reply_spelled (replies.Read r) fits =
    nothing_behind (answer read_success (optional_of file_attributes)) (λ x. replies.Read x) r (answer_text read_success_text (optional_text file_attributes_text) r)
    (answer_spelled read_success (optional_of file_attributes) read_success_text (optional_text file_attributes_text) ReadSuccessFits (λ a. IfSome a FileAttributesFit) read_success_spelled optional_attributes_spelled r fits)
reply_spelled (replies.Write r) fits =
    nothing_behind (answer write_success wcc_data) (λ x. replies.Write x) r (answer_text write_success_text wcc_data_text r)
    (answer_spelled write_success wcc_data write_success_text wcc_data_text WriteSuccessFits WccDataFits write_success_spelled wcc_data_spelled r fits)
reply_spelled (replies.Create r) fits =
    nothing_behind (answer create_success wcc_data) (λ x. replies.Create x) r (answer_text create_success_text wcc_data_text r)
    (answer_spelled create_success wcc_data create_success_text wcc_data_text CreateSuccessFits WccDataFits create_success_spelled wcc_data_spelled r fits)
reply_spelled (replies.MkDir r) fits =
    nothing_behind (answer create_success wcc_data) (λ x. replies.MkDir x) r (answer_text create_success_text wcc_data_text r)
    (answer_spelled create_success wcc_data create_success_text wcc_data_text CreateSuccessFits WccDataFits create_success_spelled wcc_data_spelled r fits)
reply_spelled (replies.SymLink r) fits =
    nothing_behind (answer create_success wcc_data) (λ x. replies.SymLink x) r (answer_text create_success_text wcc_data_text r)
    (answer_spelled create_success wcc_data create_success_text wcc_data_text CreateSuccessFits WccDataFits create_success_spelled wcc_data_spelled r fits)
reply_spelled (replies.Remove r) fits =
    nothing_behind (answer wcc_data wcc_data) (λ x. replies.Remove x) r (answer_text wcc_data_text wcc_data_text r)
    (answer_spelled wcc_data wcc_data wcc_data_text wcc_data_text WccDataFits WccDataFits wcc_data_spelled wcc_data_spelled r fits)
reply_spelled (replies.RmDir r) fits =
    nothing_behind (answer wcc_data wcc_data) (λ x. replies.RmDir x) r (answer_text wcc_data_text wcc_data_text r)
    (answer_spelled wcc_data wcc_data wcc_data_text wcc_data_text WccDataFits WccDataFits wcc_data_spelled wcc_data_spelled r fits)
reply_spelled (replies.Rename r) fits =
    nothing_behind (answer rename_wcc rename_wcc) (λ x. replies.Rename x) r (answer_text rename_wcc_text rename_wcc_text r)
    (answer_spelled rename_wcc rename_wcc rename_wcc_text rename_wcc_text RenameWccFits RenameWccFits rename_wcc_spelled rename_wcc_spelled r fits)
reply_spelled (replies.ReadDir r) fits =
    nothing_behind (answer read_dir_success (optional_of file_attributes)) (λ x. replies.ReadDir x) r (answer_text read_dir_success_text (optional_text file_attributes_text) r)
    (answer_spelled read_dir_success (optional_of file_attributes) read_dir_success_text (optional_text file_attributes_text) ReadDirSuccessFits (λ a. IfSome a FileAttributesFit) read_dir_success_spelled optional_attributes_spelled r fits)
reply_spelled (replies.ReadDirPlus r) fits =
    nothing_behind (answer read_dir_plus_success (optional_of file_attributes)) (λ x. replies.ReadDirPlus x) r (answer_text read_dir_plus_success_text (optional_text file_attributes_text) r)
    (answer_spelled read_dir_plus_success (optional_of file_attributes) read_dir_plus_success_text (optional_text file_attributes_text) ReadDirPlusSuccessFits (λ a. IfSome a FileAttributesFit) read_dir_plus_success_spelled optional_attributes_spelled r fits)
reply_spelled (replies.Commit r) fits =
    nothing_behind (answer commit_success wcc_data) (λ x. replies.Commit x) r (answer_text commit_success_text wcc_data_text r)
    (answer_spelled commit_success wcc_data commit_success_text wcc_data_text CommitSuccessFits WccDataFits commit_success_spelled wcc_data_spelled r fits)
