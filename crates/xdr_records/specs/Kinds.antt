-- For the prover, and for callers.
-- Reading without where a fault stands, for messages whose faults have no offset.
use Rattle.std.specs.Prelude.{◌≡◌, length, Result, Ok, Err}
use Rattle.xdr_records.specs.declared.fault.XdrFault.{XdrFault}
use Rattle.xdr_records.specs.Unread.{Unread}
use Rattle.xdr_records.specs.Grammar.{Grammar}
use Rattle.xdr_records.specs.Grammar.Grammar.{one_word, one_long, one_flag, one_fixed, one_opaque, named, nothing, refused, many, both}
use Rattle.xdr_records.specs.Items.{word_at, long_at, flag_at, fixed_at, opaque_at}
use Rattle.xdr_records.specs.Reading.{bound, kinds, items_at, reading}

abbrev pub item_kind : {A K : Type 0} → (XdrFault → K) → Result A XdrFault → Result A K
item_kind kind_of (Ok x) = Ok x
item_kind kind_of (Err fault) = Err (kind_of fault)

abbrev pub name_before : {A K : Type 0} → Result A K → Unread → Result (A × Unread) K
name_before (Ok x) after = Ok (x, after)
name_before (Err kind) after = Err kind

-- what a grammar reads from the front, or what is wrong with the first item at fault
abbrev pub kind_reading : {K A : Type 0} → (XdrFault → K) → Grammar K A → Unread → Result (A × Unread) K
kind_reading kind_of one_word unread = item_kind kind_of (word_at unread)
kind_reading kind_of one_long unread = item_kind kind_of (long_at unread)
kind_reading kind_of one_flag unread = item_kind kind_of (flag_at unread)
kind_reading kind_of (one_fixed n) unread = item_kind kind_of (fixed_at n unread)
kind_reading kind_of (one_opaque max) unread = item_kind kind_of (opaque_at max unread)
kind_reading kind_of (named name) unread = bound (item_kind kind_of (word_at unread)) (λ word. name_before (name word.0) word.1)
kind_reading kind_of (nothing x) unread = Ok (x, unread)
kind_reading kind_of (refused kind) unread = Err kind
kind_reading kind_of (many g) unread = kinds (items_at kind_of (reading kind_of g) (length unread.rest) unread)
kind_reading kind_of (both g f) unread = bound (kind_reading kind_of g unread) (λ x. kind_reading kind_of (f x.0) x.1)

-- a value is what is read from the front, and the reader stands behind it; an error is what is wrong there
abbrev pub Tells : {F X Y : Type 0} → (X → Y) → Unread → Result X F → Result (Y × Unread) F → Type 0
Tells view new (Ok x) answer = answer ≡ Ok (view x, new)
Tells view new (Err fault) answer = answer ≡ Err fault
