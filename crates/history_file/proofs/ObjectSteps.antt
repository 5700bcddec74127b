-- What one starting object is, as it is read.
use Rattle.std.proofs.Common.{◌≡◌, ℕ, true, nat_le, List, length, Result, Ok, Err, IfOk, Bor}
use Rattle.std.proofs.lemmas.Bool.{le-leb}
use Rattle.xdr_records.specs.Grammar.Grammar.{one_opaque}
use Rattle.xdr_records.specs.Unread.{Unread}
use Rattle.xdr_records.specs.Reading.{Answers}
use Rattle.xdr_records.proofs.Laws.{found}
use Rattle.history_file.specs.declared.items.ItemFault.{ItemFault}
use Rattle.history_file.specs.Kinds.{kind_of}
use Rattle.history_file.specs.FileReading.{reading_of, told}

-- bytes that are read are within their limit
pub bytes_within : (limit : ℕ) (r : Result (Bor (List ℕ)) ItemFault) (old new : Unread) → Answers told (λ (b : Bor (List ℕ)). b.now) new r (reading_of (one_opaque limit) old) → IfOk r (λ b. nat_le (length b.now) limit ≡ true)
bytes_within limit (Err fault) old new read = tt
bytes_within limit (Ok b) old new read = le-leb (length b.now) limit (found kind_of (one_opaque limit) b.now old new read).item.within
