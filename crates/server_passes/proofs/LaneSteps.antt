-- The answered calls of a lane as a table holds them give the exchanges that were recorded on it.
use Rattle.std.proofs.Common.{◌≡◌, ℕ, ◌+◌, ◌<◌, ◌==◌, Bool, true, false, if◌then◌else◌, List, [], ◌∷◌, ◌++◌, take, length, get_or, map, Option, Some, None, option_map, refl, sym, ap, ◌∙◌}
use Rattle.std.specs.List.{filter_map, cons_option}
use Rattle.std.specs.Option.{option_to_list}
use Rattle.std.proofs.lemmas.List.{take_more}
use Rattle.std.proofs.lemmas.List.Elements.{filter_map-append}
use Rattle.history_file.specs.declared.event.Event.{Event}
use Rattle.nfs_history.specs.declared.recorded.RecordedCall.{RecordedCall}
use Rattle.nfs_history.specs.HistoryValue.{HistoryValue}
use Rattle.server_passes.specs.Matching.{message_at, exchange_of, exchanges_on}
use Rattle.server_passes.specs.Lanes.{answered_on, calls_on, exchange_in, exchanges_in}
use Rattle.server_passes.specs.declared.lanes.LaneCalls.{LaneCalls}

module _ {X Y : Type 0} (h : X → Option Y) where
  one_kept : (found : Option Y) → cons_option found [] ≡ option_to_list found
  one_kept None = refl
  one_kept (Some y) = refl

  -- one item more
  pub filter_map_more : (xs : List X) (i : ℕ) (x : X) → i < length xs → x ≡ get_or xs i x → filter_map h (take (i + 1) xs) ≡ filter_map h (take i xs) ++ option_to_list (h x)
  filter_map_more xs i x within is =
      ap (filter_map h) (take_more xs i x within ∙ ap (λ y. take i xs ++ y ∷ []) (sym is))
      ∙ filter_map-append h (take i xs) (x ∷ []) ∙ ap (λ ys. filter_map h (take i xs) ++ ys) (one_kept (h x))

-- what is kept, and then mapped
module _ {X Y Z : Type 0} (g : X → Option Y) (f : Y → Z) (h : X → Option Z) (same : (x : X) → option_map f (g x) ≡ h x) where
  one_mapped : (found : Option Y) (ys : List Y) → map f (cons_option found ys) ≡ cons_option (option_map f found) (map f ys)
  one_mapped None ys = refl
  one_mapped (Some y) ys = refl

  map-filter_map : (xs : List X) → map f (filter_map g xs) ≡ filter_map h xs
  map-filter_map [] = refl
  map-filter_map (x ∷ xs) =
      one_mapped (g x) (filter_map g xs) ∙ ap (λ zs. cons_option (option_map f (g x)) zs) (map-filter_map xs) ∙ ap (λ found. cons_option found (filter_map h xs)) (same x)

module _ (events : List Event) (begin : ℕ) where
  same_exchange : (b : Bool) (reply : Option ℕ) →
      option_map (exchange_in events) (if b then option_map (λ number. record { begin = begin; «end» = number }) reply else None)
      ≡ (if b then option_map (λ number. record { message = message_at events begin; reply = message_at events number }) reply else None)
  same_exchange false reply = refl
  same_exchange true None = refl
  same_exchange true (Some number) = refl

exchanges_are : (history : HistoryValue) (lane : ℕ) → exchanges_in history.events (filter_map (answered_on lane) history.known.calls) ≡ exchanges_on history lane
exchanges_are history lane =
    map-filter_map (answered_on lane) (exchange_in history.events) (λ call. if call.lane == lane then exchange_of history call else None)
    (λ call. same_exchange history.events call.begin (call.lane == lane) call.«end»)
    history.known.calls

-- a table of the history's calls has the exchanges of each lane
pub table_is : (history : HistoryValue) (events : List Event) (calls : List RecordedCall) (lanes : LaneCalls) → events ≡ history.events → calls ≡ history.known.calls
    → ((lane : ℕ) → calls_on lanes lane ≡ filter_map (answered_on lane) calls) → (lane : ℕ) → exchanges_in events (calls_on lanes lane) ≡ exchanges_on history lane
table_is history events calls lanes same_events same_calls holds lane =
    ap (λ e. exchanges_in e (calls_on lanes lane)) same_events
    ∙ ap (exchanges_in history.events) (holds lane ∙ ap (filter_map (answered_on lane)) same_calls) ∙ exchanges_are history lane
