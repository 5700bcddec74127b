-- Believed.
-- what a file handle names: RFC 1813, `nfs_fh3`
use Rattle.std.specs.Prelude.{ℕ, Bool, List, filter, nat_eq, not, ◌==◌, ◌||◌, Option, Some, None, true, false, if◌then◌else◌}
use Rattle.std.specs.Option.{option_map_or}
use Rattle.std.specs.Cmp.Lexicographic.{pointwise}
use Rattle.std.specs.List.{list_any}
use Rattle.std.specs.Map.{lookup}

-- the root's handle, and the objects of other handles
pub record Bindings : Type 0 where
  pub root : List ℕ
  pub pairs : List (List ℕ × ℕ)

-- whether two byte strings are the same
abbrev pub same_bytes : List ℕ → List ℕ → Bool
same_bytes = pointwise nat_eq

-- the root's handle names object 0, another one the object of its first pair, where it has one
abbrev pub object_of : Bindings → List ℕ → Option ℕ
object_of binds handle = if same_bytes handle binds.root then Some 0 else lookup (same_bytes handle) binds.pairs

-- the pairs without those of a handle
abbrev pub pairs_without : List ℕ → List (List ℕ × ℕ) → List (List ℕ × ℕ)
pairs_without handle = filter (λ p. not (same_bytes handle p.0))

-- whether a handle names this object
abbrev pub is_bound : Bindings → List ℕ → ℕ → Bool
is_bound binds handle object = option_map_or (λ named. named == object) (object_of binds handle) false

-- whether a reply that gives this handle, if any, gives one of this object
abbrev pub gives_object : Bindings → Option (List ℕ) → ℕ → Bool
gives_object binds None object = true
gives_object binds (Some handle) object = is_bound binds handle object

-- whether some handle names this object: the root's, or that of a pair
abbrev pub is_named : Bindings → ℕ → Bool
is_named binds object = is_bound binds binds.root object || list_any (λ pair. is_bound binds pair.0 object) binds.pairs
