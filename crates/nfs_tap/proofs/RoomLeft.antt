-- How many bytes the events of a log take in a file.
use Rattle.std.proofs.Common.{◌≡◌, ℕ, ◌+◌, ◌-◌, List, [], ◌∷◌, ◌++◌, length, refl, arith, length-append}
use Rattle.xdr_records.specs.Items.{padded}
use Rattle.xdr_records.specs.Texts.{word_text, opaque_text}
use Rattle.xdr_records.proofs.Written.{length-word_text, length-opaque_text}
use Rattle.history_file.specs.Event.{Event}
use Rattle.history_file.specs.HistoryFile.{magic}
use Rattle.history_file.specs.declared.version.Version.TheVariants.{First}
use Rattle.history_file.specs.Writing.{event_text, events_text, file_text}

pub length-message_text : (kind lane : ℕ) (message : List ℕ) → length (word_text kind ++ (word_text lane ++ opaque_text message)) ≡ 12 + padded (length message)
length-message_text kind lane message =
    omega (arith, length-append (word_text kind) (word_text lane ++ opaque_text message), length-append (word_text lane) (opaque_text message), length-word_text kind, length-word_text lane, length-opaque_text message)

pub length-close_text : (kind lane : ℕ) → length (word_text kind ++ word_text lane) ≡ 8
length-close_text kind lane = omega (arith, length-append (word_text kind) (word_text lane), length-word_text kind, length-word_text lane)

length-events_text : (events : List Event) (e : Event) → length (events_text (events ++ e ∷ [])) ≡ length (events_text events) + length (event_text e)
length-events_text [] e = omega (arith, length-append (event_text e) [])
length-events_text (f ∷ events) e =
    omega (arith, length-append (event_text f) (events_text (events ++ e ∷ [])), length-append (event_text f) (events_text events), length-events_text events e)

length-file_text : (root : List ℕ) (events : List Event) → length (file_text root events) ≡ (16 + padded (length root)) + length (events_text events)
length-file_text root events =
    let head : length (magic First) ≡ 8 = refl in
    omega (
      arith,
      head,
      length-append (magic First) (opaque_text root ++ (word_text (length events) ++ events_text events)),
      length-append (opaque_text root) (word_text (length events) ++ events_text events),
      length-append (word_text (length events)) (events_text events),
      length-opaque_text root,
      length-word_text (length events),
    )

-- ahead of the first event
pub length-head : (root : List ℕ) → length (file_text root []) ≡ 16 + padded (length root)
length-head root = omega (arith, length-file_text root [])

-- behind one event more
pub length-more : (root : List ℕ) (events : List Event) (e : Event) → length (file_text root (events ++ e ∷ [])) ≡ length (file_text root events) + length (event_text e)
length-more root events e = omega (arith, length-file_text root (events ++ e ∷ []), length-file_text root events, length-events_text events e)

pub left-more : (root : List ℕ) (events : List Event) (e : Event) (limit : ℕ) → limit - length (file_text root (events ++ e ∷ [])) ≡ limit - length (file_text root events) - length (event_text e)
left-more root events e limit = omega (arith, length-more root events e)
