-- For the prover, and for callers.
-- The words that are printed of a trouble (words of this project's own).
use Rattle.std.specs.Prelude.{ℕ, List, [], ◌++◌, codes, decimal, Option, Some, None}
use Rattle.rpc_reader.specs.FaultText.{rpc_fault_words}
use Rattle.nfs3_values.specs.FaultText.{kind_words}
use Rattle.nfs_tap.specs.FaultText.{note_fault_words}
use Rattle.rpc_client.specs.Words.{refusal_words}
use Rattle.night_lanes.specs.declared.troubles.TroubleKind.{TroubleKind}
use Rattle.night_lanes.specs.declared.troubles.TroubleKind.TheVariants as kinds
use Rattle.night_lanes.specs.declared.troubles.Trouble.{Trouble}

abbrev pub kind_of_trouble_words : TroubleKind → List ℕ
kind_of_trouble_words kinds.CannotConnect = codes "the server takes no connection"
kind_of_trouble_words kinds.Ended = codes "the server ended the connection"
kind_of_trouble_words kinds.NoReply = codes "no reply came in time"
kind_of_trouble_words kinds.SecondReply = codes "a second reply came"
kind_of_trouble_words kinds.UnknownReply = codes "a reply came to no call"
kind_of_trouble_words kinds.RecordTooLong = codes "a record is too long"
kind_of_trouble_words (kinds.NotRpc fault) = codes "a record is no RPC reply: " ++ rpc_fault_words fault
kind_of_trouble_words (kinds.BadResult at kind) = codes "the result isn't in the grammar of RFC 1813, at byte " ++ (decimal at ++ (codes ": " ++ kind_words kind))
kind_of_trouble_words (kinds.Refused refusal) = codes "RPC refused the call: " ++ refusal_words refusal
kind_of_trouble_words (kinds.LogRefuses fault) = codes "the log refuses the event: " ++ note_fault_words fault
kind_of_trouble_words kinds.LogFull = codes "the log is full"
kind_of_trouble_words kinds.NoSocket = codes "no connection can be made here"
kind_of_trouble_words kinds.NoMemory = codes "out of memory"

-- what a number is of, and the number, where there is one
abbrev pub number_words : List ℕ → Option ℕ → List ℕ
number_words what (Some number) = what ++ (decimal number ++ codes ": ")
number_words what None = []

abbrev pub trouble_words : Trouble → List ℕ
trouble_words trouble =
    number_words (codes "client ") trouble.client ++ (number_words (codes "lane ") trouble.lane
    ++ (number_words (codes "transaction ") trouble.xid ++ (number_words (codes "call ") trouble.call ++ kind_of_trouble_words trouble.kind)))
