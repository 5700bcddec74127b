-- For the prover, and for callers.
-- The words that are printed of a fault (words of this project's own).
use Rattle.std.specs.Prelude.{ℕ, List, ◌++◌, codes, decimal}
use Rattle.nfs3_values.specs.declared.fault.Kind.{Kind}
use Rattle.nfs3_values.specs.declared.fault.Kind.TheVariants as kinds
use Rattle.nfs3_values.specs.declared.fault.MessageFault.{MessageFault}
use Rattle.nfs3_values.specs.declared.fault.MessageFault.TheVariants as message_faults

abbrev pub kind_words : Kind → List ℕ
kind_words kinds.Short = codes "bytes are missing"
kind_words kinds.BadFlag = codes "a flag is neither 0 nor 1"
kind_words kinds.TooLong = codes "a length is over its limit"
kind_words kinds.Trailing = codes "bytes stand behind the last item"
kind_words kinds.BadEnum = codes "a word is outside its list"
kind_words kinds.NotJudged = codes "the procedure is not judged"

abbrev pub message_fault_words : MessageFault → List ℕ
message_fault_words (message_faults.BadMessage at kind) = codes "at byte " ++ (decimal at ++ (codes ": " ++ kind_words kind))
message_fault_words message_faults.NoMemory = codes "out of memory"
