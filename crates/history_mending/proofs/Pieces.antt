-- Events that are put into a text, one by one, and which of a log's they are.
use Rattle.std.proofs.Common.{◌≡◌, ℕ, ◌+◌, ◌<◌, ◌≤◌, List, [], ◌∷◌, ◌++◌, length, take, drop, get_or, refl, sym, ap, ◌∙◌, arith, append_assoc, append-nil}
use Rattle.std.proofs.lemmas.List.{map_push, take_more, take_all, take-map, drop-map, length-drop}
use Rattle.history_file.specs.declared.event.Event as owned
use Rattle.history_file.specs.Event.{Event}
use Rattle.history_file.specs.Owning.{happened, all_happened}
use Rattle.history_file.specs.Writing.{event_text, events_text}

events_text-push : (es : List Event) (e : Event) → events_text (es ++ e ∷ []) ≡ events_text es ++ event_text e
events_text-push [] e = append-nil (event_text e)
events_text-push (x ∷ es) e = ap (λ t. event_text x ++ t) (events_text-push es e) ∙ sym (append_assoc (event_text x) (events_text es) (event_text e))

pub put_more : (es : List owned.Event) (i : ℕ) (x : owned.Event) (old new : List ℕ) → i < length es → x ≡ get_or es i x → new ≡ old ++ event_text (happened x)
    → old ≡ events_text (all_happened (take i es)) → new ≡ events_text (all_happened (take (i + 1) es))
put_more es i x old new lt is pushed so_far =
    let before = all_happened (take i es) in
    let taken : all_happened (take (i + 1) es) ≡ before ++ happened x ∷ [] =
    ap all_happened (take_more es i x lt) ∙ map_push happened (take i es) (get_or es i x) ∙ ap (λ (y : owned.Event). before ++ happened y ∷ []) (sym is) in
    pushed ∙ ap (λ (l : List ℕ). l ++ event_text (happened x)) so_far ∙ sym (events_text-push before (happened x)) ∙ ap events_text (sym taken)

pub put_all : (es : List owned.Event) (i : ℕ) (text : List ℕ) → length es ≤ i → text ≡ events_text (all_happened (take i es)) → text ≡ events_text (all_happened es)
put_all es i text le so_far = so_far ∙ ap (λ (l : List owned.Event). events_text (all_happened l)) (take_all i es le)

-- the first of those that are left
pub next_put : (es rest piece : List owned.Event) (from count : ℕ) (text : List ℕ) → rest ≡ drop from es → piece ≡ take count rest
    → text ≡ events_text (all_happened piece) → text ≡ events_text (take count (drop from (all_happened es)))
next_put es rest piece from count text at front put =
    let taken : take count (drop from (all_happened es)) ≡ all_happened piece =
    ap (λ (l : List Event). take count l) (drop-map happened from es) ∙ take-map happened count (drop from es)
    ∙ ap (λ (l : List owned.Event). all_happened (take count l)) (sym at) ∙ ap all_happened (sym front) in
    put ∙ ap events_text (sym taken)

pub none_left : (es rest : List owned.Event) (from count : ℕ) → rest ≡ drop from es → (count ≡ 0 → length rest ≡ 0) → count ≡ 0 → length es ≤ from
none_left es rest from count at some none = omega (arith, some none, ap length at, length-drop from es)
