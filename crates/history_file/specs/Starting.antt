-- Believed.
-- The starting objects of a file, in the items of RFC 4506 (this project's own format; kind words as RFC 1813's `ftype3`, section 2.6).
use Rattle.std.specs.Prelude.{ℕ, zero, suc, ◌+◌, nat_le, Bool, if◌then◌else◌, List, [], ◌∷◌, ◌++◌, Result, Ok, Err}
use Rattle.xdr_records.specs.Grammar.{Grammar, ◌>>=◌, either}
use Rattle.xdr_records.specs.Grammar.Grammar.{one_long, one_opaque, named, nothing, refused}
use Rattle.tree_starts.specs.nfs3_types_specs.Limits.{file_limit}
use Rattle.tree_starts.specs.Start.{Key, key_of, is_parent, may_be_named, start_limit, text_limit}
use Rattle.tree_starts.specs.declared.object.StartObject.{StartObject}
use Rattle.tree_starts.specs.declared.object.StartNode.{StartNode}
use Rattle.tree_starts.specs.declared.object.StartNode.TheVariants as nodes
use Rattle.tree_starts.specs.declared.profile.Profile.{Profile}
use Rattle.tree_starts.specs.declared.profile.Profile.TheVariants.{Plain, Strict}
use Rattle.history_file.specs.declared.fault.FileFault.{FileFault}
use Rattle.history_file.specs.declared.fault.FileFault.TheVariants as faults
use Rattle.history_file.specs.declared.starting.StartKind.{StartKind}
use Rattle.history_file.specs.declared.starting.StartKind.TheVariants as kinds

-- how strictly replies are judged
abbrev pub profile_word : ℕ → Result Profile FileFault
profile_word zero = Ok Plain
profile_word (suc zero) = Ok Strict
profile_word (suc (suc n)) = Err faults.BadProfile

-- the number of starting objects, within its limit
abbrev pub object_count : ℕ → Result ℕ FileFault
object_count n = if nat_le n start_limit then Ok n else Err faults.TooLarge

-- the kind word of object k
abbrev pub start_kind : ℕ → ℕ → Result StartKind FileFault
start_kind k zero = Err (faults.BadStart k)
start_kind k (suc zero) = Ok kinds.File
start_kind k (suc (suc zero)) = Ok kinds.Directory
start_kind k (suc (suc (suc zero))) = Err (faults.BadStart k)
start_kind k (suc (suc (suc (suc zero)))) = Err (faults.BadStart k)
start_kind k (suc (suc (suc (suc (suc zero))))) = Ok kinds.Link
start_kind k (suc (suc (suc (suc (suc (suc n)))))) = Err (faults.BadStart k)

-- what was read before is right, or object k is at fault there
abbrev pub checked : Bool → ℕ → Grammar FileFault (Unit {0})
checked b k = either b (nothing tt) (refused (faults.BadStart k))

abbrev pub node_of : StartKind → Grammar FileFault StartNode
node_of kinds.File = do
  bytes ← one_opaque file_limit
  nothing (nodes.File bytes)
node_of kinds.Directory = nothing nodes.Directory
node_of kinds.Link = do
  text ← one_opaque text_limit
  nothing (nodes.Link text)

-- object k behind those of these keys
unfoldable pub object : List Key → ℕ → Grammar FileFault StartObject
object ahead k = do
  parent ← one_long
  _ ← checked (is_parent ahead parent) k
  name ← one_opaque text_limit
  _ ← checked (may_be_named ahead parent name) k
  kind ← named (start_kind k)
  node ← node_of kind
  nothing (record { parent = parent; name = name; node = node })

-- so many objects, numbered from k on
unfoldable pub objects : ℕ → List Key → ℕ → Grammar FileFault (List StartObject)
objects zero ahead k = nothing []
objects (suc n) ahead k = do
  first ← object ahead k
  others ← objects n (ahead ++ key_of first ∷ []) (k + 1)
  nothing (first ∷ others)
