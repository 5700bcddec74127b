-- Believed.
-- What a server held before the first event, object by object (this project's own; kinds and names as in RFC 1813, sections 2.6 and
-- 3.2). The root is object 0. The objects are numbered from 1 in their order, and each lies in the root or in one ahead of it.
use Rattle.std.specs.Prelude.{◌≡◌, ℕ, zero, suc, ◌+◌, ◌==◌, ◌&&◌, not, nat_le, Bool, true, false, if◌then◌else◌, List, [], ◌∷◌, ◌++◌, length, slice_get, map, Option, Some, None, Result, Ok, Err}
use Rattle.std.specs.Option.{option_map_or, option_or}
use Rattle.std.specs.List.{list_any}
use Rattle.nfs3_types.specs.Limits.{file_limit}
use Rattle.tree_starts.specs.Names.{same_bytes, is_plain}
use Rattle.tree_starts.specs.declared.object.StartObject.{StartObject}
use Rattle.tree_starts.specs.declared.object.StartNode.{StartNode}
use Rattle.tree_starts.specs.declared.object.StartNode.TheVariants as nodes
use Rattle.tree_starts.specs.declared.fault.StartFault.{StartFault}
use Rattle.tree_starts.specs.declared.fault.StartFault.TheVariants.{BadStart, TooLarge, NoMemory}

-- the most objects, and the most bytes of a name or of a link's text; those of a file are `file_limit`
abbrev pub start_limit : ℕ
start_limit = 1000000

abbrev pub text_limit : ℕ
text_limit = 1048576

-- what of an object decides where others may lie: its directory, its name, and whether it is a directory
pub record Key : Type 0 where
  pub parent : ℕ
  pub name : List ℕ
  pub is_directory : Bool

abbrev pub is_directory : StartNode → Bool
is_directory (nodes.File bytes) = false
is_directory nodes.Directory = true
is_directory (nodes.Link text) = false

abbrev pub key_of : StartObject → Key
key_of o = record { parent = o.parent; name = o.name; is_directory = is_directory o.node }

abbrev pub keys_of : List StartObject → List Key
keys_of objects = map key_of objects

-- the root, or a directory ahead
unfoldable pub is_parent : List Key → ℕ → Bool
is_parent ahead zero = true
is_parent ahead (suc index) = option_map_or (λ key. key.is_directory) (slice_get ahead index) false

-- no object ahead has this name in this directory
unfoldable pub is_free : List Key → ℕ → List ℕ → Bool
is_free ahead parent name = not (list_any (λ key. (parent == key.parent) && same_bytes name key.name) ahead)

-- the name can be given there: it is plain and free
abbrev pub may_be_named : List Key → ℕ → List ℕ → Bool
may_be_named ahead parent name = is_plain name && is_free ahead parent name

-- a file's bytes and a link's text are within their limits
abbrev pub fits : StartNode → Bool
fits (nodes.File bytes) = nat_le (length bytes) file_limit
fits nodes.Directory = true
fits (nodes.Link text) = nat_le (length text) text_limit

-- what is wrong with object k behind these: with its directory, its name's length, its name, or its bytes; the first one decides
abbrev pub object_fault : List Key → ℕ → StartObject → Option StartFault
object_fault ahead k o =
    if not (is_parent ahead o.parent) then Some (BadStart k)
    else if not (nat_le (length o.name) text_limit) then Some (TooLarge k)
    else if not (may_be_named ahead o.parent o.name) then Some (BadStart k)
    else if not (fits o.node) then Some (TooLarge k) else None

-- of objects from number k on, the first one decides
unfoldable pub fault_from : List Key → ℕ → List StartObject → Option StartFault
fault_from ahead k [] = None
fault_from ahead k (o ∷ objects) = option_or (object_fault ahead k o) (fault_from (ahead ++ key_of o ∷ []) (k + 1) objects)

-- what is wrong with a start, if anything is: that it has too many objects, or its first object that is at fault
abbrev pub start_fault : List StartObject → Option StartFault
start_fault objects = if nat_le (length objects) start_limit then fault_from [] 1 objects else Some (TooLarge 1000001)

-- each of these may stand where it is, behind those ahead of it
abbrev pub AllMayStand : List StartObject → Type 0
AllMayStand objects = fault_from [] 1 objects ≡ None

-- a server can have held these
abbrev pub IsStart : List StartObject → Type 0
IsStart objects = start_fault objects ≡ None

-- an Ok where nothing is wrong, else this fault, or want of memory
abbrev pub IsJudged : {X : Type 0} → Option StartFault → Result X StartFault → Type 0
IsJudged fault (Ok x) = fault ≡ None
IsJudged fault (Err (BadStart k)) = fault ≡ Some (BadStart k)
IsJudged fault (Err (TooLarge k)) = fault ≡ Some (TooLarge k)
IsJudged fault (Err NoMemory) = Unit {0}

-- the number of the object that call n makes, where so many objects stood at first
abbrev pub object_made : ℕ → ℕ → ℕ
object_made zero n = n
object_made (suc first) n = suc first + n
