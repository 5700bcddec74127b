-- Believed.
-- handles that are bound after others
use Rattle.std.specs.Prelude.{ℕ, ◌==◌, Bool, false, not, if◌then◌else◌, List, [], ◌∷◌, ◌++◌, Option, Some, None, option_and_then}
use Rattle.std.specs.Option.{option_map_or}
use Rattle.std.specs.List.{list_all, list_any}
use Rattle.tree_handles.specs.Binding.{Bindings, object_of, is_bound}

-- pairs behind those that stand
abbrev pub bound_behind : Bindings → List (List ℕ × ℕ) → Bindings
bound_behind known pairs = record known { pairs = known.pairs ++ pairs }

-- a handle bound to an object: where it is bound to it already nothing changes, and where it is bound to another one this can't be
abbrev pub bound_where : Bindings → List ℕ × ℕ → Option ℕ → Option Bindings
bound_where known pair None = Some (bound_behind known (pair ∷ []))
bound_where known pair (Some object) = if object == pair.1 then Some known else None

abbrev pub with_handle : Bindings → List ℕ × ℕ → Option Bindings
with_handle known pair = bound_where known pair (object_of known pair.0)

-- the same of several in turn
abbrev pub with_handles : Bindings → List (List ℕ × ℕ) → Option Bindings
with_handles known [] = Some known
with_handles known (pair ∷ pairs) = option_and_then (λ more. with_handles more pairs) (with_handle known pair)

-- ---- for the prover

-- whether each pair is one of a handle and the object that it names
abbrev pub are_bound : Bindings → List (List ℕ × ℕ) → Bool
are_bound binds pairs = list_all (λ pair. is_bound binds pair.0 pair.1) pairs

-- whether a pair's handle names another object
abbrev pub names_other : Bindings → List ℕ × ℕ → Bool
names_other binds pair = option_map_or (λ object. not (object == pair.1)) (object_of binds pair.0) false

-- whether one of these pairs' does
abbrev pub has_other : Bindings → List (List ℕ × ℕ) → Bool
has_other binds pairs = list_any (names_other binds) pairs
