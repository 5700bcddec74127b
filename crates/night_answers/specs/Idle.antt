-- For the prover, and for callers.
-- Which answers did nothing (the calls and replies are those of RFC 1813, section 3.3, which allows each of these; what counts as nothing is
-- this project's own).
use Rattle.std.specs.Prelude.{◌==◌, ◌&&◌, ◌||◌, not, nat_lt, nat_le, Bool, true, false, length}
use Rattle.std.specs.Option.{option_map_or}
use Rattle.nfs3_types.specs.declared.calls.NfsCall.{NfsCall}
use Rattle.nfs3_types.specs.declared.calls.NfsCall.TheVariants as calls
use Rattle.nfs3_types.specs.declared.status.Failure.{Failure}
use Rattle.nfs3_types.specs.declared.status.Failure.TheVariants as status
use Rattle.nfs3_types.specs.declared.replies.Answer.{Answer}
use Rattle.nfs3_types.specs.declared.replies.Answer.TheVariants.{Done, Failed}
use Rattle.nfs3_types.specs.declared.replies.ReadSuccess.{ReadSuccess}
use Rattle.nfs3_types.specs.declared.replies.WriteSuccess.{WriteSuccess}
use Rattle.nfs3_types.specs.declared.replies.ReadDirSuccess.{ReadDirSuccess}
use Rattle.nfs3_types.specs.declared.replies.ReadDirPlusSuccess.{ReadDirPlusSuccess}
use Rattle.nfs3_types.specs.declared.replies.NfsReply.{NfsReply}
use Rattle.nfs3_types.specs.declared.replies.NfsReply.TheVariants as replies
use Rattle.nfs3_types.specs.Procedures.{failure_in}
use Rattle.history_report.specs.Counted.{is_excused_status}
use Rattle.tree_answers.specs.Failure.{same_status}

-- a READ and a WRITE of no byte ask for nothing
abbrev pub asks_for_bytes : NfsCall → Bool
asks_for_bytes (calls.Read read) = nat_lt 0 read.count
asks_for_bytes (calls.Write write) = nat_lt 0 write.count
asks_for_bytes call = true

-- no byte, and not the end
abbrev pub is_empty_read : {F : Type 0} → Answer ReadSuccess F → Bool
is_empty_read (Done read) = length read.bytes == 0 && not read.eof
is_empty_read (Failed failure rest) = false

-- no byte was taken
abbrev pub is_empty_write : {F : Type 0} → Answer WriteSuccess F → Bool
is_empty_write (Done written) = written.count == 0
is_empty_write (Failed failure rest) = false

-- no name, and not the end
abbrev pub is_empty_list : {F : Type 0} → Answer ReadDirSuccess F → Bool
is_empty_list (Done list) = length list.entries == 0 && not list.eof
is_empty_list (Failed failure rest) = false

abbrev pub is_empty_list_plus : {F : Type 0} → Answer ReadDirPlusSuccess F → Bool
is_empty_list_plus (Done list) = length list.entries == 0 && not list.eof
is_empty_list_plus (Failed failure rest) = false

-- a success that gives or takes nothing
abbrev pub gives_nothing : NfsReply → Bool
gives_nothing (replies.Read answer) = is_empty_read answer
gives_nothing (replies.Write answer) = is_empty_write answer
gives_nothing (replies.ReadDir answer) = is_empty_list answer
gives_nothing (replies.ReadDirPlus answer) = is_empty_list_plus answer
gives_nothing reply = false

-- a list in which any name has room: one of 1,024 bytes
abbrev pub asks_for_names : NfsCall → Bool
asks_for_names (calls.ReadDir list) = nat_le 1024 list.count
asks_for_names (calls.ReadDirPlus list) = nat_le 1024 list.directory_count && nat_le 1024 list.whole_count
asks_for_names call = false

-- a failure whose status may answer any call
abbrev pub is_excused_reply : NfsReply → Bool
is_excused_reply reply = option_map_or is_excused_status (failure_in reply) false

-- a failure of this status
abbrev pub has_status : NfsReply → Failure → Bool
has_status reply wanted = option_map_or (λ failure. same_status failure wanted) (failure_in reply) false

-- a failure that may answer any call, but for INVAL, which is also what a call gets that asks for what can't be, and JUKEBOX, behind which it may be
-- made again
abbrev pub is_vain : NfsReply → Bool
is_vain reply = is_excused_reply reply && (not (has_status reply status.Invalid) && not (has_status reply status.Jukebox))

-- nothing was done: such a failure; TOOSMALL of a list that has room for any name; or a success that gave or took nothing
abbrev pub was_idle : NfsCall → NfsReply → Bool
was_idle call reply = is_vain reply || ((has_status reply status.TooSmall && asks_for_names call) || (asks_for_bytes call && gives_nothing reply))
