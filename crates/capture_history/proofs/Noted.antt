-- Events noted one behind the other, in a log that was empty.
use Rattle.std.proofs.Common.{◌≡◌, ◌<◌, inl, inr, ℕ, ◌+◌, List, [], ◌∷◌, ◌++◌, ◌∙◌, ap, sym, subst, refl, take, length, get_or, append-nil, append_assoc}
use Rattle.history_file.specs.Event.{Event, Recording}
use Rattle.nfs_history.specs.Standing.{MayFollow}
use Rattle.nfs_tap.specs.Noting.{with_event}
use Rattle.capture_history.specs.declared.found.Found.{Found}
use Rattle.capture_history.specs.declared.notes.LaneNote.{LaneNote}
use Rattle.capture_history.specs.Imports.{event_of, IsWhy, AreNoted}
use Rattle.capture_history.specs.Imports.AreNoted.{none, noted, left_out}
use Rattle.capture_history.specs.Noting.{IsNoted, AreInOrder}
use Rattle.capture_history.proofs.Rows.{take_one}

pub noted_none : (log : Recording) (told : List LaneNote) → AreInOrder log told [] log told
noted_none log told = ([], sym (append-nil told), refl, λ empty. subst (λ (events : List Event). AreNoted log.head [] events []) (sym empty) none)

noted_more : (old : Recording) (told : List LaneNote) (found : List Found) (f : Found) (log : Recording) (told' : List LaneNote) → AreInOrder old told found log told' → (log' : Recording) → MayFollow log.events (event_of f) → log' ≡ with_event log (event_of f) → AreInOrder old told (found ++ f ∷ []) log' told'
noted_more old told found f log told' so_far log' may is =
    rw is (so_far.0, so_far.1, so_far.2, λ empty. noted f (so_far.3 empty) may)

left_out_more : (old : Recording) (told : List LaneNote) (found : List Found) (f : Found) (log : Recording) (told' : List LaneNote) → AreInOrder old told found log told' → (note : LaneNote) → note.lane ≡ f.lane → IsWhy log f note.kind → AreInOrder old told (found ++ f ∷ []) log (told' ++ note ∷ [])
left_out_more old told found f log told' so_far note lane why =
    (so_far.0 ++ note ∷ [], ap (λ (ts : List LaneNote). ts ++ note ∷ []) so_far.1 ∙ append_assoc told so_far.0 (note ∷ []), so_far.2, λ empty. left_out log f note refl (so_far.3 empty) lane why)

noted_one : (old : Recording) (told : List LaneNote) (found : List Found) (f : Found) (log : Recording) (told' : List LaneNote) (log' : Recording) (told'' : List LaneNote) → AreInOrder old told found log told' → IsNoted log told' f log' told'' → AreInOrder old told (found ++ f ∷ []) log' told''
noted_one old told found f log told' log' told'' so_far (inl now) = rw now.1 (noted_more old told found f log told' so_far log' now.0.0 now.0.1)
noted_one old told found f log told' log' told'' so_far (inr now) = rw (now.3, now.2.1) (left_out_more old told found f log told' so_far now.0 now.1 now.2.0)

pub noted_on : (old : Recording) (told : List LaneNote) (all : List Found) (i : ℕ) (d : Found) (log : Recording) (told' : List LaneNote) (log' : Recording) (told'' : List LaneNote) → i < length all → AreInOrder old told (take i all) log told' → IsNoted log told' (get_or all i d) log' told'' → AreInOrder old told (take (i + 1) all) log' told''
noted_on old told all i d log told' log' told'' h so_far now = rw (take_one all i d h) (noted_one old told (take i all) (get_or all i d) log told' log' told'' so_far now)

pub noted_at : (old : Recording) (told : List LaneNote) (all : List Found) (i : ℕ) (f : Found) (log : Recording) (told' : List LaneNote) (log' : Recording) (told'' : List LaneNote) → i < length all → f ≡ get_or all i f → AreInOrder old told (take i all) log told' → IsNoted log told' f log' told'' → AreInOrder old told (take (i + 1) all) log' told''
noted_at old told all i f log told' log' told'' h is so_far now = noted_on old told all i f log told' log' told'' h so_far (subst (λ (g : Found). IsNoted log told' g log' told'') is now)
