-- Believed.
-- What is wrong where an item of a file can't be read.
use Rattle.xdr_records.specs.declared.fault.XdrFault.{XdrFault}
use Rattle.xdr_records.specs.declared.fault.XdrFault.TheVariants as xdr
use Rattle.history_file.specs.declared.fault.FileFault.{FileFault}
use Rattle.history_file.specs.declared.fault.FileFault.TheVariants as faults

abbrev pub kind_of : XdrFault → FileFault
kind_of xdr.Short = faults.Truncated
kind_of xdr.BadFlag = faults.Truncated
kind_of xdr.TooLong = faults.TooLarge
kind_of xdr.Trailing = faults.Trailing
