-- For the prover, and for callers.
-- How a record goes on in the bytes that stand.
use Rattle.std.specs.Prelude.{◌≡◌, ◌≤◌, ℕ, List, length, take}
use Rattle.xdr_records.specs.declared.scan.Scan.{Scan}
use Rattle.xdr_records.specs.declared.scan.Scan.TheVariants.{Open, Whole, TooLong}
use Rattle.xdr_records.specs.Record.{Begun, IsPart, PassesLimit, IsRecord}

-- fragments in the first `at` bytes, none of them the record's last, which bring `size` bytes
abbrev pub Passed : ℕ → ℕ → List ℕ → Type 0
Passed at size bytes = Begun (λ _ _. Unit {0}) at size bytes

-- the first `end` bytes are a whole record
pub record EndsAt (end size : ℕ) (bytes : List ℕ) : Type 0 where
  pub content : List ℕ
  pub within : end ≤ length bytes
  pub whole : IsRecord (take end bytes) content
  pub size_is : length content ≡ size

-- what a scan tells of the record that begins the bytes
abbrev pub Tells : Scan → List ℕ → Type 0
Tells (Open at size) bytes = Begun IsPart at size bytes
Tells (Whole end size) bytes = EndsAt end size bytes
Tells TooLong bytes = (at : ℕ) × (size : ℕ) × Begun PassesLimit at size bytes
