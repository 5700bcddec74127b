-- For the prover, and for callers.
-- What a client of a night asks: calls of the judged procedures, within limits that are this project's own. A name of 255 bytes is the
-- longest that common file systems take; RFC 1813, section 2.5, sets no limit.
use Rattle.std.specs.Prelude.{◌≡◌, ◌≤◌, ◌==◌, ◌||◌, ◌&&◌, not, ℕ, ◌+◌, Bool, IsTrue, List, length, IfSome, nat_le}
use Rattle.std.specs.List.{list_all}
use Rattle.nfs3_types.specs.Limits.{file_limit, transfer_limit}
use Rattle.nfs3_types.specs.declared.attributes.SetAttributes.{SetAttributes}
use Rattle.nfs3_types.specs.declared.calls.CreateMode.{CreateMode}
use Rattle.nfs3_types.specs.declared.calls.CreateMode.TheVariants.{Unchecked, Guarded, Exclusive}
use Rattle.nfs3_types.specs.declared.calls.DirectoryName.{DirectoryName}
use Rattle.nfs3_types.specs.declared.calls.NfsCall.{NfsCall}
use Rattle.nfs3_types.specs.declared.calls.NfsCall.TheVariants as calls
use Rattle.nfs3_types.specs.declared.calls.WriteArguments.{WriteArguments}
use Rattle.call_making.specs.declared.stamp.Stamp.{Stamp}
use Rattle.call_making.specs.Tag.{tags}

-- neither NUL nor a slash
abbrev pub is_name_byte : ℕ → Bool
is_name_byte byte = not (byte == 0 || byte == 47)

-- a name: 1 to 255 bytes
abbrev pub is_name : List ℕ → Bool
is_name name = nat_le 1 (length name) && nat_le (length name) 255 && list_all is_name_byte name

-- not NUL
abbrev pub is_text_byte : ℕ → Bool
is_text_byte byte = not (byte == 0)

-- a link's text: 1 to 1,023 bytes, none of them NUL
abbrev pub is_link_text : List ℕ → Bool
is_link_text text = nat_le 1 (length text) && nat_le (length text) 1023 && list_all is_text_byte text

abbrev pub IsNamed : DirectoryName → Type 0
IsNamed place = IsTrue (is_name place.name)

-- a range of a file that ends within the limit of files
abbrev pub IsWithin : ℕ → ℕ → Type 0
IsWithin offset count = offset + count ≤ file_limit

-- the size that is set, if one is
abbrev pub IsSized : SetAttributes → Type 0
IsSized attributes = IfSome attributes.size (λ size. size ≤ file_limit)

abbrev pub IsMade : CreateMode → Type 0
IsMade (Unchecked attributes) = IsSized attributes
IsMade (Guarded attributes) = IsSized attributes
IsMade (Exclusive verifier) = Unit {0}

-- a WRITE of few bytes, each of which tells the call
pub record IsTagged (stamp : Stamp) (write : WriteArguments) : Type 0 where
  pub few : write.count ≤ 4096
  pub within : IsWithin write.offset write.count
  pub told : write.bytes ≡ tags stamp write.offset write.count

-- a call that the client may ask under this stamp
abbrev pub IsAsked : Stamp → NfsCall → Type 0
IsAsked stamp (calls.GetAttr object) = Unit {0}
IsAsked stamp (calls.SetAttr arguments) = IsSized arguments.attributes
IsAsked stamp (calls.Lookup place) = IsNamed place
IsAsked stamp (calls.ReadLink object) = Unit {0}
IsAsked stamp (calls.Read arguments) = (arguments.count ≤ transfer_limit) × IsWithin arguments.offset arguments.count
IsAsked stamp (calls.Write arguments) = IsTagged stamp arguments
IsAsked stamp (calls.Create arguments) = IsNamed arguments.place × IsMade arguments.mode
IsAsked stamp (calls.MkDir arguments) = IsNamed arguments.place × IsSized arguments.attributes
IsAsked stamp (calls.SymLink arguments) = IsNamed arguments.place × IsTrue (is_link_text arguments.target) × IsSized arguments.attributes
IsAsked stamp (calls.Remove place) = IsNamed place
IsAsked stamp (calls.RmDir place) = IsNamed place
IsAsked stamp (calls.Rename arguments) = IsNamed arguments.from × IsNamed arguments.to
IsAsked stamp (calls.ReadDir arguments) = arguments.count ≤ transfer_limit
IsAsked stamp (calls.ReadDirPlus arguments) = (arguments.directory_count ≤ transfer_limit) × (arguments.whole_count ≤ transfer_limit)
IsAsked stamp (calls.Commit arguments) = IsWithin arguments.offset arguments.count
