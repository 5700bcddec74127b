-- For the prover.
-- the objects of handles: those whose handles are their numbers in eight bytes, and the others by the places of their handles, the
-- short handles in one list and the long ones in another
use Rattle.std.specs.Prelude.{◌≡◌, ℕ, Bool, false, List, [], ◌∷◌, Option, Some, None, option_and_then, get_or, if◌then◌else◌}
use Rattle.std.specs.Arc.{arc_value}
use Rattle.std.specs.Int.{w64, to_be_bytes, from_be_bytes}
use Rattle.std.specs.Map.{lookup}
use Rattle.tree_handles.specs.declared.handle_table.HandleTable.{HandleTable}
use Rattle.tree_handles.specs.declared.objects.Objects.{Objects}
use Rattle.tree_handles.specs.Binding.{same_bytes}
use Rattle.tree_handles.specs.Places.{Handles, of_length, place_of}

-- the number that a handle is in eight bytes, the first byte the greatest
unfoldable pub number_of : List ℕ → Option ℕ
number_of handle = let number = from_be_bytes w64 handle in if same_bytes handle (to_be_bytes w64 number) then Some number else None

-- the first of two that is there
abbrev pub first_of : {X : Type 0} → Option X → Option X → Option X
first_of None other = other
first_of (Some x) other = Some x

-- a number that is a handle, by a list that says of each whether it is one
abbrev pub taken : List Bool → ℕ → Option ℕ
taken own number = if get_or own number false then Some number else None

-- the object of a handle that is its number
abbrev pub own_object : List Bool → List ℕ → Option ℕ
own_object own handle = option_and_then (taken own) (number_of handle)

-- the object at a place
abbrev pub object_at : List (Option ℕ) → Option ℕ → Option ℕ
object_at objects place = option_and_then (λ p. get_or objects p None) place

-- the object of a handle that has a place
abbrev pub stored : Handles → List (Option ℕ) → List (Option ℕ) → List ℕ → Option ℕ
stored handles short long handle = object_at (of_length handle short long) (place_of handles handle)

abbrev pub tabled : HandleTable → List ℕ → Option ℕ
tabled table = stored (arc_value table.places) table.short.items table.long.items

abbrev pub found : Objects → List ℕ → Option ℕ
found objects handle = first_of (own_object objects.own handle) (tabled objects.others handle)

-- each handle is found with the object of its first pair
abbrev pub GivesFirst : Objects → List (List ℕ × ℕ) → Type 0
GivesFirst objects pairs = (handle : List ℕ) → found objects handle ≡ lookup (same_bytes handle) pairs

-- a handle has this object now, where it had none, and each handle what it had
abbrev pub Gains : (List ℕ → Option ℕ) → (List ℕ → Option ℕ) → List ℕ → ℕ → Type 0
Gains before after handle object = (other : List ℕ) → after other ≡ first_of (before other) (lookup (same_bytes other) ((handle, object) ∷ []))

-- a handle has none now, and each other one what it had
abbrev pub Lacks : (List ℕ → Option ℕ) → (List ℕ → Option ℕ) → List ℕ → Type 0
Lacks before after handle = (other : List ℕ) → after other ≡ (if same_bytes other handle then None else before other)

-- each handle has what it had
abbrev pub Keeps : (List ℕ → Option ℕ) → (List ℕ → Option ℕ) → Type 0
Keeps before after = (other : List ℕ) → after other ≡ before other
