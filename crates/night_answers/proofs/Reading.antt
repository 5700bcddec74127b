-- One call more is noted.
use Rattle.std.proofs.Common.{◌≡◌, ℕ, ◌+◌, ◌<◌, List, [], ◌∷◌, ◌++◌, get_or, length, map, take, Option, Some, sym, ap, ◌∙◌, add-one}
use Rattle.std.proofs.lemmas.List.{map_more}
use Rattle.std.proofs.lemmas.Option.{get_or_from_slice_get}
use Rattle.nfs_history.specs.declared.recorded.RecordedCall.{RecordedCall}
use Rattle.nfs_history.specs.Precedence.{call_at}
use Rattle.night_answers.specs.Noting.{note_of}
use Rattle.night_answers.specs.declared.answers.Note.{Note}

pub one_more_noted : (calls : List RecordedCall) (old new : List Note) (i : ℕ) (o : Option RecordedCall) (call : RecordedCall) (note : Note)
    → i < length calls → o ≡ call_at calls (i + 1) → o ≡ Some call → note ≡ note_of call → old ≡ map note_of (take i calls) → new ≡ old ++ note ∷ [] → new ≡ map note_of (take (i + 1) calls)
one_more_noted calls old new i o call note lt is some noted so_far pushed =
    let here : get_or calls i call ≡ call = get_or_from_slice_get calls i call call (sym (is ∙ ap (call_at calls) (add-one i)) ∙ some) in
    pushed ∙ ap (λ (xs : List Note). xs ++ note ∷ []) so_far ∙ ap (λ (x : Note). map note_of (take i calls) ++ x ∷ []) (noted ∙ ap note_of (sym here)) ∙ sym (map_more note_of calls i call lt)
