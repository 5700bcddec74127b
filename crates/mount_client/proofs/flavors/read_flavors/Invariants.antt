use Rattle.std.proofs.Common.{◌≡◌, ◌-◌}
use Rattle.xdr_records.specs.Kinds.{kind_reading}
use Rattle.mount_client.specs.Mounting.{flavors}
use Rattle.mount_client.proofs.Counted.{told, read_words}
use Rattle.mount_client.proofs.flavors.read_flavors.Given as goal

-- the flavors so far, and those that are left
abbrev pub invariant-loop : goal.invariant-loop
invariant-loop l = told l.is_taken (read_words (l.count - l.counter) l.reader) ≡ kind_reading (λ fault. fault) (flavors l.count) l.fn.reader
