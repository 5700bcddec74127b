-- Believed.
-- The limits of a history file, this project's own; that of a record is `xdr_records` Record's.
use Rattle.std.specs.Prelude.{ℕ}

-- the most bytes of the file
abbrev pub history_limit : ℕ
history_limit = 268435456

-- the most events
abbrev pub event_limit : ℕ
event_limit = 1000000

-- the most bytes of the root handle: RFC 1813, section 2.4, NFS3_FHSIZE
abbrev pub root_limit : ℕ
root_limit = 64
