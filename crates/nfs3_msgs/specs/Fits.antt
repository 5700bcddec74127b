-- For the prover.
-- Which calls and replies can be written.
use Rattle.std.specs.Prelude.{◌≤◌, length, IfSome}
use Rattle.nfs3_types.specs.declared.calls.NfsCall.{NfsCall}
use Rattle.nfs3_types.specs.declared.calls.NfsCall.TheVariants as calls
use Rattle.nfs3_types.specs.declared.replies.NfsReply.{NfsReply}
use Rattle.nfs3_types.specs.declared.replies.NfsReply.TheVariants as replies
use Rattle.nfs3_values.specs.Attributes.{FileAttributesFit, WccDataFits}
use Rattle.nfs3_values.specs.Calls.{DirectoryNameFits, ReadArgumentsFit, WriteArgumentsFit, SetAttrArgumentsFit, CommitArgumentsFit}
use Rattle.nfs3_values.specs.EntryCalls.{CreateArgumentsFit, MkDirArgumentsFit, SymLinkArgumentsFit, RenameArgumentsFit, ReadDirArgumentsFit, ReadDirPlusArgumentsFit}
use Rattle.nfs3_values.specs.Replies.{AnswerFits, ReadSuccessFits, WriteSuccessFits, CreateSuccessFits, LookupSuccessFits, ReadLinkSuccessFits, RenameWccFits, CommitSuccessFits}
use Rattle.nfs3_values.specs.Listings.{ReadDirSuccessFits, ReadDirPlusSuccessFits}

-- the numbers and lengths of a call are those that the program has
unfoldable pub CallFits : NfsCall → Type 0
CallFits (calls.GetAttr a) = length a ≤ 64
CallFits (calls.SetAttr a) = SetAttrArgumentsFit a
CallFits (calls.Lookup a) = DirectoryNameFits a
CallFits (calls.ReadLink a) = length a ≤ 64
CallFits (calls.Read a) = ReadArgumentsFit a
CallFits (calls.Write a) = WriteArgumentsFit a
CallFits (calls.Create a) = CreateArgumentsFit a
CallFits (calls.MkDir a) = MkDirArgumentsFit a
CallFits (calls.SymLink a) = SymLinkArgumentsFit a
CallFits (calls.Remove a) = DirectoryNameFits a
CallFits (calls.RmDir a) = DirectoryNameFits a
CallFits (calls.Rename a) = RenameArgumentsFit a
CallFits (calls.ReadDir a) = ReadDirArgumentsFit a
CallFits (calls.ReadDirPlus a) = ReadDirPlusArgumentsFit a
CallFits (calls.Commit a) = CommitArgumentsFit a

-- the numbers and lengths of a reply are those that the program has
unfoldable pub ReplyFits : NfsReply → Type 0
ReplyFits (replies.GetAttr r) = AnswerFits FileAttributesFit (λ u. Unit {0}) r
ReplyFits (replies.SetAttr r) = AnswerFits WccDataFits WccDataFits r
ReplyFits (replies.Lookup r) = AnswerFits LookupSuccessFits (λ a. IfSome a FileAttributesFit) r
ReplyFits (replies.ReadLink r) = AnswerFits ReadLinkSuccessFits (λ a. IfSome a FileAttributesFit) r
ReplyFits (replies.Read r) = AnswerFits ReadSuccessFits (λ a. IfSome a FileAttributesFit) r
ReplyFits (replies.Write r) = AnswerFits WriteSuccessFits WccDataFits r
ReplyFits (replies.Create r) = AnswerFits CreateSuccessFits WccDataFits r
ReplyFits (replies.MkDir r) = AnswerFits CreateSuccessFits WccDataFits r
ReplyFits (replies.SymLink r) = AnswerFits CreateSuccessFits WccDataFits r
ReplyFits (replies.Remove r) = AnswerFits WccDataFits WccDataFits r
ReplyFits (replies.RmDir r) = AnswerFits WccDataFits WccDataFits r
ReplyFits (replies.Rename r) = AnswerFits RenameWccFits RenameWccFits r
ReplyFits (replies.ReadDir r) = AnswerFits ReadDirSuccessFits (λ a. IfSome a FileAttributesFit) r
ReplyFits (replies.ReadDirPlus r) = AnswerFits ReadDirPlusSuccessFits (λ a. IfSome a FileAttributesFit) r
ReplyFits (replies.Commit r) = AnswerFits CommitSuccessFits WccDataFits r
