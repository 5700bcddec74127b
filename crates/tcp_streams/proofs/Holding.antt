-- Which bytes a run holds, and a list of runs.
use Rattle.std.proofs.Common.{◌≡◌, ◌<◌, ◌≤◌, ℕ, ◌-◌, min, max, List, [], ◌∷◌, ◌++◌, refl, ap, ◌∙◌, sym, arith}
use Rattle.std.specs.Prelude.{Option, Some, None, nat_lt, nat_le, Bool, true, false}
use Rattle.std.specs.Option.{option_or}
use Rattle.std.proofs.lemmas.Bool.Decides.{nat_tests}
use Rattle.tcp_streams.specs.declared.span.Span.{Span}
use Rattle.tcp_streams.specs.Places.{place_of, place_in, Place}
use Rattle.tcp_streams.specs.Orders.{IsBehind, or_none}

pub option_or-none : (x : Option Place) → option_or x None ≡ x
option_or-none None = refl
option_or-none (Some p) = refl

pub option_or-assoc : (x y z : Option Place) → option_or (option_or x y) z ≡ option_or x (option_or y z)
option_or-assoc None y z = refl
option_or-assoc (Some p) y z = refl

pub place_in-append : (xs ys : List Span) (n : ℕ) → place_in (xs ++ ys) n ≡ option_or (place_in xs n) (place_in ys n)
place_in-append [] ys n = refl
place_in-append (x ∷ xs) ys n = ap (option_or (place_of x n)) (place_in-append xs ys n) ∙ sym (option_or-assoc (place_of x n) (place_in xs n) (place_in ys n))

-- a run ahead of a number, or behind it, doesn't hold it
pub held_below : (s : Span) (n : ℕ) → n < s.at → place_of s n ≡ None
held_below s n h = grind (arith, nat_tests)

pub held_past : (s : Span) (n : ℕ) → s.«end» ≤ n → place_of s n ≡ None
held_past s n h = grind (arith, nat_tests)

pub held_in : (s : Span) (n : ℕ) → s.at ≤ n → n < s.«end» → place_of s n ≡ Some (s.source, n - s.begin)
held_in s n low high = grind (arith, nat_tests)

-- what stands below a limit is held by the part below it
lt_min : (n e limit : ℕ) → n < limit → nat_lt n (min e limit) ≡ nat_lt n e
lt_min n e limit h = grind (arith, nat_tests)

le_max : (n a limit : ℕ) → limit ≤ n → nat_le (max a limit) n ≡ nat_le a n
le_max n a limit h = grind (arith, nat_tests)

pub held_part_below : (s : Span) (limit n : ℕ) → n < limit → place_of (record s { «end» = min s.«end» limit }) n ≡ place_of s n
held_part_below s limit n h = rw (lt_min n s.«end» limit h) refl

pub held_part_from : (s : Span) (limit n : ℕ) → limit ≤ n → place_of (record s { at = max s.at limit }) n ≡ place_of s n
held_part_from s limit n h = rw (le_max n s.at limit h) refl

pub place_in-below : (low n : ℕ) (runs : List Span) → IsBehind low runs → n < low → place_in runs n ≡ None
place_in-below low n [] h lt = refl
place_in-below low n (s ∷ ss) h lt =
    let below : n < s.at = omega (arith, h.0) in
    let later : n < s.«end» = omega (arith, h.0, h.1) in
    rw (held_below s n below) (place_in-below s.«end» n ss h.2 later)

pub place_in-or_none : (s : Span) (runs : List Span) (n : ℕ) → place_in (or_none s ++ runs) n ≡ option_or (place_of s n) (place_in runs n)
place_in-or_none s runs n = by_test (nat_lt s.at s.«end») refl
  where
    empty : nat_lt s.at s.«end» ≡ false → place_of s n ≡ None
    empty e = grind (arith, nat_tests)

    by_test : (b : Bool) → nat_lt s.at s.«end» ≡ b → place_in (or_none s ++ runs) n ≡ option_or (place_of s n) (place_in runs n)
    by_test true e = rw e refl
    by_test false e = rw (e, empty e) refl
