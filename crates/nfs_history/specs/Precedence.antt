-- Believed.
-- Which call came before which (Herlihy and Wing 1990, section 2.2: an operation precedes another if its
-- response comes before the other's invocation).
use Rattle.std.specs.Prelude.{◌≡◌, ℕ, zero, suc, ◌<◌, List, Option, Some, None, option_and_then, option_map, unwrap_or}
use Rattle.std.specs.List.{slice_get}
use Rattle.nfs_history.specs.declared.recorded.RecordedCall.{RecordedCall}

-- call n of a list, from 1 on
abbrev pub call_at : List RecordedCall → ℕ → Option RecordedCall
call_at calls zero = None
call_at calls (suc n) = slice_get calls n

abbrev pub begin_of : List RecordedCall → ℕ → ℕ
begin_of calls n = unwrap_or (option_map (λ call. call.begin) (call_at calls n)) 0

-- none, where the call got no reply
abbrev pub end_of : List RecordedCall → ℕ → Option ℕ
end_of calls n = option_and_then (λ call. call.«end») (call_at calls n)

-- the reply of the first came before the second was sent
abbrev pub Precedes : List RecordedCall → ℕ → ℕ → Type 0
Precedes calls first second = (at : ℕ) × (end_of calls first ≡ Some at) × (at < begin_of calls second)
