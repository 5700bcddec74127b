-- Believed.
-- The first fault of a plan's shape: the kinds in the order of their names, and of one kind the first place (an order of
-- this project's own).
use Rattle.std.specs.Prelude.{◌≡◌, ◌⊎◌, ◌==◌, ◌&&◌, not, nat_lt, ℕ, ◌+◌, ◌<◌, slice_index_or, take, drop, false, Bool, if◌then◌else◌, List, length, find, Option, Some, None, Result, Ok, Err, unwrap_or, option_map}
use Rattle.std.specs.List.{enumerate_from, range_with_len, position_from}
use Rattle.nfs_history.specs.declared.recorded.RecordedCall.{RecordedCall}
use Rattle.certificate.specs.declared.plan.EraPlan.{EraPlan}
use Rattle.order_check.specs.declared.places.OrderedPlace.{OrderedPlace}
use Rattle.order_check.specs.declared.fault.ShapeFault.{ShapeFault}
use Rattle.order_check.specs.declared.fault.ShapeFault.TheVariants as faults
use Rattle.nfs_history.specs.Precedence.{call_at}
use Rattle.order_check.specs.Places.{order_from, number_of, passes, is_known, is_of_era, is_placeable, is_wanted}
use Rattle.order_check.specs.Shape.{is_named}

-- the fault of the call at a place
abbrev pub at_place : (ℕ → ShapeFault) → Option OrderedPlace → Option ShapeFault
at_place fault None = None
at_place fault (Some p) = Some (fault (number_of p))

-- the first place that fails a test
abbrev pub failing : (OrderedPlace → Bool) → List OrderedPlace → Option OrderedPlace
failing test order = find (λ p. not (test p)) order

-- whether the place with this index names a call that a place ahead of it names
abbrev pub is_repeat : List OrderedPlace → ℕ × OrderedPlace → Bool
is_repeat order e = is_named (take e.0 order) (number_of e.1)

-- the first such place
abbrev pub first_repeat : List OrderedPlace → Option OrderedPlace
first_repeat order = option_map (λ e. e.1) (find (is_repeat order) (enumerate_from 0 order))

-- whether the call of this number has to have a place, and has none
abbrev pub is_missing : List RecordedCall → List OrderedPlace → ℕ → Bool
is_missing calls order n = passes is_wanted (call_at calls n) && not (is_named order n)

-- the least number of such a call
abbrev pub first_missing : List RecordedCall → List OrderedPlace → Option ℕ
first_missing calls order = find (is_missing calls order) (range_with_len 1 (length calls))

-- whether an era keeps more places than it has
abbrev pub keeps_too_many : EraPlan → Bool
keeps_too_many era = nat_lt (length era.places) (unwrap_or era.cut 0)

-- the first such era, from 1
abbrev pub first_bad_cut : List EraPlan → Option ℕ
first_bad_cut plan = position_from keeps_too_many 1 plan

abbrev pub or_else : Option ShapeFault → Option ShapeFault → Option ShapeFault
or_else (Some fault) other = Some fault
or_else None other = other

abbrev pub shape_fault_of_order : List RecordedCall → List EraPlan → List OrderedPlace → Option ShapeFault
shape_fault_of_order calls plan order =
    or_else (at_place faults.Unknown (failing (is_known calls) order))
    (or_else (at_place faults.WrongEra (failing (is_of_era calls) order))
    (or_else (at_place faults.Twice (first_repeat order))
    (or_else (at_place faults.NotToPlace (failing (is_placeable calls) order))
    (or_else (option_map faults.Missing (first_missing calls order))
    (option_map faults.BadCut (first_bad_cut plan))))))

abbrev pub shape_fault : ℕ → List RecordedCall → List EraPlan → Option ShapeFault
shape_fault eras calls plan = if length plan == eras then shape_fault_of_order calls plan (order_from 1 plan) else Some faults.WrongEras

-- a check is passed where there is no fault, and an error is the fault, or want of memory
abbrev pub IsCheck : {X : Type 0} → Result X ShapeFault → Option ShapeFault → Type 0
IsCheck (Ok x) found = found ≡ None
IsCheck (Err fault) found = (fault ≡ faults.NoMemory) ⊎ (found ≡ Some fault)

-- ---- what private functions say to the prover

-- of each call, whether some place names it
pub record Marks (order : List OrderedPlace) (named : List Bool) (calls : ℕ) : Type 0 where
  pub as_many : length named ≡ calls
  pub marked : (k : ℕ) → k < calls → slice_index_or named k false ≡ is_named order (k + 1)

-- the marks of the first i places, none of which repeats a call
pub record MarkedSoFar (order : List OrderedPlace) (i : ℕ) (named : List Bool) (calls : ℕ) : Type 0 where
  pub marks : Marks (take i order) named calls
  pub others : find (is_repeat order) (enumerate_from i (drop i order)) ≡ find (is_repeat order) (enumerate_from 0 order)
