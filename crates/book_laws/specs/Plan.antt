-- Believed.
-- The certificate of a book: its own commit order.
use Rattle.std.specs.Prelude.{ℕ, List, [], ◌∷◌, ◌++◌, length, map, take, if◌then◌else◌, is_some, Option, Some, None, option_and_then}
use Rattle.std.specs.List.{filter_map}
use Rattle.nfs3_types.specs.declared.calls.NfsCall.{NfsCall}
use Rattle.nfs3_types.specs.declared.replies.Outcome.{Outcome}
use Rattle.replay_law.specs.Run as run
use Rattle.nfs_history.specs.declared.recorded.RecordedCall.{RecordedCall}
use Rattle.nfs_history.specs.Precedence.{call_at}
use Rattle.certificate.specs.declared.plan.Bind.{Bind}
use Rattle.certificate.specs.declared.plan.Place.{Place}
use Rattle.certificate.specs.declared.plan.Place.TheVariants.{Answered, Taken}
use Rattle.certificate.specs.declared.plan.EraPlan.{EraPlan}
use Rattle.certificate.specs.declared.plan.Certificate.{Certificate}
use Rattle.tree_laws.specs.Outcomes.{count_written}
use Rattle.book_laws.specs.Placing.{Placed, is_recorded}
use Rattle.book_laws.specs.Book.{Book, handle_of}

-- the place of a call: with its reply where one was sent; else as taken, if it changed the tree; what changed nothing and got no reply
-- has none
abbrev pub place_as : Placed → RecordedCall → Option Place
place_as step call =
    if is_some call.«end» then Some (Answered step.number)
    else if is_recorded step then Some (Taken step.number (count_written step.outcome)) else None

abbrev pub place_of : List RecordedCall → Placed → Option Place
place_of calls step = option_and_then (place_as step) (call_at calls step.number)

abbrev pub places_of : List RecordedCall → List Placed → List Place
places_of calls steps = filter_map (place_of calls) steps

-- an era that is over keeps the places of what its crash kept
abbrev pub plan_over : List RecordedCall → run.Era NfsCall Outcome → EraPlan
plan_over calls era = record { places = places_of calls era.steps; cut = Some (length (places_of calls (take era.kept era.steps))) }

abbrev pub plan_now : List RecordedCall → List Placed → EraPlan
plan_now calls steps = record { places = places_of calls steps; cut = None }

abbrev pub bind_of : ℕ → Bind
bind_of object = record { handle = handle_of object; object = object }

abbrev pub plan_of : Book → Certificate
plan_of book =
    record {
      binds = map bind_of book.made;
      eras = map (plan_over book.history.known.calls) book.over ++ plan_now book.history.known.calls book.placed ∷ [];
    }
