-- Believed.
-- The procedures by their numbers; which one a call asks for and a reply answers, and whether a reply is a failure: RFC 1813,
-- sections 2.6 and 3.3
use Rattle.std.specs.Prelude.{ℕ, ◌==◌, ◌||◌, Bool, Option, Some, None}
use Rattle.nfs3_types.specs.declared.calls.NfsCall.{NfsCall}
use Rattle.nfs3_types.specs.declared.calls.NfsCall.TheVariants as calls
use Rattle.nfs3_types.specs.declared.procedures.Procedure.{Procedure}
use Rattle.nfs3_types.specs.declared.procedures.Procedure.TheVariants.{Null, GetAttr, SetAttr, Lookup, Access, ReadLink, Read, Write, Create, MkDir, SymLink, MkNod, Remove, RmDir, Rename, Link, ReadDir, ReadDirPlus, FsStat, FsInfo, PathConf, Commit}
use Rattle.nfs3_types.specs.declared.replies.Answer.{Answer}
use Rattle.nfs3_types.specs.declared.replies.Answer.TheVariants.{Done, Failed}
use Rattle.nfs3_types.specs.declared.replies.NfsReply.{NfsReply}
use Rattle.nfs3_types.specs.declared.replies.NfsReply.TheVariants as replies
use Rattle.nfs3_types.specs.declared.status.Failure.{Failure}

-- the program and the version whose procedures these are, RFC 1813, section 2.2
abbrev pub nfs_program : ℕ
nfs_program = 100003

abbrev pub nfs_version : ℕ
nfs_version = 3

-- a procedure's number, RFC 1813, section 3.3
abbrev pub number : Procedure → ℕ
number Null = 0
number GetAttr = 1
number SetAttr = 2
number Lookup = 3
number Access = 4
number ReadLink = 5
number Read = 6
number Write = 7
number Create = 8
number MkDir = 9
number SymLink = 10
number MkNod = 11
number Remove = 12
number RmDir = 13
number Rename = 14
number Link = 15
number ReadDir = 16
number ReadDirPlus = 17
number FsStat = 18
number FsInfo = 19
number PathConf = 20
number Commit = 21

-- the judged procedures, all of RFC 1813, section 3.3, but for MKNOD and LINK (sections 3.3.11 and 3.3.15) and for those that
-- change nothing and show nothing of the tree
abbrev pub is_judged : ℕ → Bool
is_judged procedure =
    procedure == number GetAttr || procedure == number SetAttr || procedure == number Lookup || procedure == number ReadLink
    || procedure == number Read || procedure == number Write || procedure == number Create || procedure == number MkDir
    || procedure == number SymLink || procedure == number Remove || procedure == number RmDir || procedure == number Rename
    || procedure == number ReadDir || procedure == number ReadDirPlus || procedure == number Commit

-- those of the judged procedures that change the tree where they succeed
abbrev pub changes_the_tree : ℕ → Bool
changes_the_tree procedure =
    procedure == number SetAttr || procedure == number Write || procedure == number Create || procedure == number MkDir
    || procedure == number SymLink || procedure == number Remove || procedure == number RmDir || procedure == number Rename

-- the procedure that a call asks for
abbrev pub asked_for : NfsCall → Procedure
asked_for (calls.GetAttr _) = GetAttr
asked_for (calls.SetAttr _) = SetAttr
asked_for (calls.Lookup _) = Lookup
asked_for (calls.ReadLink _) = ReadLink
asked_for (calls.Read _) = Read
asked_for (calls.Write _) = Write
asked_for (calls.Create _) = Create
asked_for (calls.MkDir _) = MkDir
asked_for (calls.SymLink _) = SymLink
asked_for (calls.Remove _) = Remove
asked_for (calls.RmDir _) = RmDir
asked_for (calls.Rename _) = Rename
asked_for (calls.ReadDir _) = ReadDir
asked_for (calls.ReadDirPlus _) = ReadDirPlus
asked_for (calls.Commit _) = Commit

abbrev pub procedure_called : NfsCall → ℕ
procedure_called call = number (asked_for call)

-- the procedure whose result a reply has
abbrev pub answered_by : NfsReply → Procedure
answered_by (replies.GetAttr _) = GetAttr
answered_by (replies.SetAttr _) = SetAttr
answered_by (replies.Lookup _) = Lookup
answered_by (replies.ReadLink _) = ReadLink
answered_by (replies.Read _) = Read
answered_by (replies.Write _) = Write
answered_by (replies.Create _) = Create
answered_by (replies.MkDir _) = MkDir
answered_by (replies.SymLink _) = SymLink
answered_by (replies.Remove _) = Remove
answered_by (replies.RmDir _) = RmDir
answered_by (replies.Rename _) = Rename
answered_by (replies.ReadDir _) = ReadDir
answered_by (replies.ReadDirPlus _) = ReadDirPlus
answered_by (replies.Commit _) = Commit

abbrev pub procedure_answered : NfsReply → ℕ
procedure_answered reply = number (answered_by reply)

-- whether the reply is one to such a call
abbrev pub is_answered : NfsCall → NfsReply → Bool
is_answered call reply = procedure_called call == procedure_answered reply

-- the status of a reply that is no success, RFC 1813, section 2.6
abbrev pub failed : {S F : Type 0} → Answer S F → Option Failure
failed (Done _) = None
failed (Failed failure _) = Some failure

abbrev pub failure_in : NfsReply → Option Failure
failure_in (replies.GetAttr answer) = failed answer
failure_in (replies.SetAttr answer) = failed answer
failure_in (replies.Lookup answer) = failed answer
failure_in (replies.ReadLink answer) = failed answer
failure_in (replies.Read answer) = failed answer
failure_in (replies.Write answer) = failed answer
failure_in (replies.Create answer) = failed answer
failure_in (replies.MkDir answer) = failed answer
failure_in (replies.SymLink answer) = failed answer
failure_in (replies.Remove answer) = failed answer
failure_in (replies.RmDir answer) = failed answer
failure_in (replies.Rename answer) = failed answer
failure_in (replies.ReadDir answer) = failed answer
failure_in (replies.ReadDirPlus answer) = failed answer
failure_in (replies.Commit answer) = failed answer
