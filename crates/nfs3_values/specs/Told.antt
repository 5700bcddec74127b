-- For the prover, and for callers.
-- What an error says of the bytes.
use Rattle.std.specs.Prelude.{Option, Some, None, Result}
use Rattle.xdr_records.specs.Unread.{Unread, At}
use Rattle.xdr_records.specs.Grammar.{Grammar}
use Rattle.xdr_records.specs.Reading.{reading, Answers, AnswersAll}
use Rattle.xdr_records.specs.declared.fault.XdrFault.{XdrFault}
use Rattle.xdr_records.specs.declared.fault.XdrFault.TheVariants as items
use Rattle.nfs3_values.specs.declared.fault.Kind.{Kind}
use Rattle.nfs3_values.specs.declared.fault.Kind.TheVariants as kinds
use Rattle.nfs3_values.specs.declared.fault.MessageFault.{MessageFault}
use Rattle.nfs3_values.specs.declared.fault.MessageFault.TheVariants as faults

-- the kind of a fault of an item of RFC 4506
abbrev pub kind_of : XdrFault → Kind
kind_of items.Short = kinds.Short
kind_of items.BadFlag = kinds.BadFlag
kind_of items.TooLong = kinds.TooLong
kind_of items.Trailing = kinds.Trailing

-- the fault of the bytes that an error names; want of memory names none
abbrev pub told : MessageFault → Option (At Kind)
told (faults.BadMessage at kind) = Some (record { at = at; kind = kind })
told faults.NoMemory = None

-- the result is what the grammar reads from the front, memory aside, and the reader stands behind it
abbrev pub Reads : {A : Type 0} → Grammar Kind A → Unread → Unread → Result A MessageFault → Type 0
Reads g old new result = Answers told (λ x. x) new result (reading kind_of g old)

-- the result is this answer, memory aside
abbrev pub IsButForMemory : {A : Type 0} → Result A MessageFault → Result A (At Kind) → Type 0
IsButForMemory result answer = AnswersAll told (λ x. x) result answer
