-- How long the bytes are that were read.
use Rattle.std.proofs.Common.{◌≡◌, ℕ, ◌≤◌, List, length, Ok, ap}
use Rattle.xdr_records.specs.declared.fault.XdrFault.{XdrFault}
use Rattle.xdr_records.specs.Unread.{Unread}
use Rattle.xdr_records.specs.Grammar.Grammar.{one_opaque}
use Rattle.xdr_records.specs.Items.{opaque_at}
use Rattle.xdr_records.specs.Reading.{item_here}
use Rattle.xdr_records.proofs.Laws.{found}

pub opaque_bound : (max : ℕ) (old new : Unread) (bytes : List ℕ) → opaque_at max old ≡ Ok (bytes, new) → length bytes ≤ max
opaque_bound max old new bytes e =
    let same : XdrFault → XdrFault = λ fault. fault in
    (found same (one_opaque max) bytes old new (ap (item_here same old.at) e)).item.within
