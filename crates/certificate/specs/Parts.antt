-- For the prover, and for callers.
-- The parts that make a certificate: the first bind, and the first era, that may not stand where it stands (by the rules
-- of this project's own format).
use Rattle.std.specs.Prelude.{ℕ, suc, ◌<◌, ◌≤◌, ◌^◌, length, Bool, not, cond, map, List, [], ◌∷◌, Option, Some, None, is_some, option_map}
use Rattle.std.specs.List.{zip, position_from}
use Rattle.std.specs.Ordering.{nat_cmp, is_lt}
use Rattle.std.specs.Cmp.Lexicographic.{slice_cmp}
use Rattle.hex.specs.Hex.{IsBytes}
use Rattle.certificate.specs.declared.plan.Bind.{Bind}
use Rattle.certificate.specs.declared.plan.EraPlan.{EraPlan}

-- one handle is below another in the order of bytes
abbrev pub is_below : List ℕ → List ℕ → Bool
is_below x y = is_lt (slice_cmp nat_cmp x y)

-- each bind's handle, and beside it the one ahead of it: ahead of the first bind stands this handle
abbrev pub with_ahead : List ℕ → List Bind → List (List ℕ × List ℕ)
with_ahead ahead binds = zip (ahead ∷ map (λ b. b.handle) binds) (map (λ b. b.handle) binds)

-- The first bind whose handle isn't above the one ahead of it, from 1. Ahead of the first bind stands the empty
-- handle, so no bind's is empty.
abbrev pub is_no_rise : List ℕ × List ℕ → Bool
is_no_rise pair = not (is_below pair.0 pair.1)

abbrev pub first_bad_bind : List Bind → Option ℕ
first_bad_bind binds = position_from is_no_rise 1 (with_ahead [] binds)

-- the first era that has a cut as the last one, or none ahead of another, from 1
abbrev pub first_wrong_cut : List EraPlan → Option ℕ
first_wrong_cut [] = None
first_wrong_cut (era ∷ []) = cond (is_some era.cut) (Some 1) None
first_wrong_cut (era ∷ next ∷ eras) =
    cond (is_some era.cut) (option_map (λ e. suc e) (first_wrong_cut (next ∷ eras))) (Some 1)

-- where there is no era at all, the first one is at fault
abbrev pub first_bad_era : List EraPlan → Option ℕ
first_bad_era [] = Some 1
first_bad_era (era ∷ eras) = first_wrong_cut (era ∷ eras)

-- what a bind's type says of it: its handle is at most 64 bytes, and its object has a number of 64 bits
abbrev pub InRange : Bind → Type 0
InRange bind = (length bind.handle ≤ 64) × IsBytes bind.handle × (bind.object < 2 ^ 64)
