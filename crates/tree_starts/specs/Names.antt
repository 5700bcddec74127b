-- Believed.
-- names of entries: RFC 1813, section 3.2 and section 3.3.3
use Rattle.std.specs.Prelude.{ℕ, ◌==◌, ◌||◌, not, nat_eq, Bool, List, [], ◌∷◌, length}
use Rattle.std.specs.Cmp.Lexicographic.{pointwise}

-- whether two byte strings are the same
abbrev pub same_bytes : List ℕ → List ℕ → Bool
same_bytes = pointwise nat_eq

-- `.`, the directory itself, and `..`, the one it lies in
abbrev pub is_dot : List ℕ → Bool
is_dot name = same_bytes name (46 ∷ [])

abbrev pub is_two_dots : List ℕ → Bool
is_two_dots name = same_bytes name (46 ∷ 46 ∷ [])

-- a name that an entry can have: not empty, `.` or `..`
abbrev pub is_plain : List ℕ → Bool
is_plain name = not (length name == 0 || is_dot name || is_two_dots name)
