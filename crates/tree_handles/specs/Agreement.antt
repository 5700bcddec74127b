-- For the prover.
-- bindings that give handles the objects that others give them
use Rattle.std.specs.Prelude.{◌≡◌, ◌⊎◌, ◌==◌, ℕ, Bool, true, false, List, Option, Some, None, get_or, slice_get}
use Rattle.std.specs.Int.{w64, to_be_bytes}
use Rattle.tree_handles.specs.Binding.{Bindings, object_of}

-- whether the object of the first, if there is one, is that of the second
abbrev pub is_kept : Option ℕ → Option ℕ → Bool
is_kept None other = true
is_kept (Some object) None = false
is_kept (Some object) (Some named) = named == object

-- whether what a handle names, if anything, is what it names in another binding
abbrev pub agrees : Bindings → Bindings → List ℕ → Bool
agrees binds other handle = is_kept (object_of binds handle) (object_of other handle)

-- so it is with each number that is a handle
abbrev pub OwnAgree : Bindings → Bindings → List Bool → Type 0
OwnAgree binds other taken = (number : ℕ) → get_or taken number false ≡ true → agrees binds other (to_be_bytes w64 number) ≡ true

-- what a handle names, if it is this object, is what it names in another binding
abbrev pub AgreesAt : Bindings → Bindings → List ℕ → Option ℕ → Type 0
AgreesAt binds other handle object = (is_kept object (object_of other handle) ≡ true) ⊎ (agrees binds other handle ≡ true)

-- so it is with each handle, by the object at its place
abbrev pub AllAgree : Bindings → Bindings → List (List ℕ) → List (Option ℕ) → Type 0
AllAgree binds other handles objects = (place : ℕ) (handle : List ℕ) → slice_get handles place ≡ Some handle → AgreesAt binds other handle (get_or objects place None)
