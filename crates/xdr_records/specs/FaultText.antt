-- For the prover, and for callers.
-- The words that are printed of a fault (words of this project's own).
use Rattle.std.specs.Prelude.{ℕ, List, codes}
use Rattle.xdr_records.specs.declared.fault.XdrFault.{XdrFault}
use Rattle.xdr_records.specs.declared.fault.XdrFault.TheVariants as xdr_faults
use Rattle.xdr_records.specs.declared.fault.FeedFault.{FeedFault}
use Rattle.xdr_records.specs.declared.fault.FeedFault.TheVariants as feed_faults

abbrev pub xdr_fault_words : XdrFault → List ℕ
xdr_fault_words xdr_faults.Short = codes "bytes are missing"
xdr_fault_words xdr_faults.BadFlag = codes "a flag is neither 0 nor 1"
xdr_fault_words xdr_faults.TooLong = codes "a length is over its limit"
xdr_fault_words xdr_faults.Trailing = codes "bytes stand behind the last item"

abbrev pub feed_fault_words : FeedFault → List ℕ
feed_fault_words feed_faults.RecordTooLong = codes "a record is over its limit"
feed_fault_words feed_faults.NoMemory = codes "out of memory"
