-- What is written of a start spells it.
use Rattle.std.proofs.Common.{◌≡◌, ℕ, zero, suc, ◌+◌, ◌<◌, ◌≤◌, List, [], ◌∷◌, ◌++◌, length, take, get_or, subst, sym, ap, ◌∙◌, arith, append_assoc, append-nil, length-append}
use Rattle.std.proofs.lemmas.List.{take_more, take_all}
use Rattle.tree_starts.specs.declared.object.StartObject.{StartObject}
use Rattle.history_file.specs.Writing.{object_text, objects_text}
use Rattle.xdr_records.specs.Texts.{word_text}

pub objects_text-push : (os : List StartObject) (o : StartObject) → objects_text (os ++ o ∷ []) ≡ objects_text os ++ object_text o
objects_text-push [] o = append-nil (object_text o)
objects_text-push (x ∷ os) o = ap (λ t. object_text x ++ t) (objects_text-push os o) ∙ sym (append_assoc (object_text x) (objects_text os) (object_text o))

text_at : (front : List ℕ) (os : List StartObject) (i : ℕ) (d : StartObject) (old new : List ℕ) → i < length os → new ≡ old ++ object_text (get_or os i d) → old ≡ front ++ objects_text (take i os) → new ≡ front ++ objects_text (take (i + 1) os)
text_at front os i d old new lt pushed so_far =
    pushed ∙ ap (λ t. t ++ object_text (get_or os i d)) so_far ∙ append_assoc front (objects_text (take i os)) (object_text (get_or os i d))
    ∙ ap (λ t. front ++ t) (sym (objects_text-push (take i os) (get_or os i d))) ∙ ap (λ xs. front ++ objects_text xs) (sym (take_more os i d lt))

pub object_more : (front : List ℕ) (os : List StartObject) (i : ℕ) (o : StartObject) (old new : List ℕ) → i < length os → o ≡ get_or os i o → new ≡ old ++ object_text o → old ≡ front ++ objects_text (take i os) → new ≡ front ++ objects_text (take (i + 1) os)
object_more front os i o old new lt is pushed so_far = text_at front os i o old new lt (subst (λ (x : StartObject). new ≡ old ++ object_text x) is pushed) so_far

pub objects_done : (old front : List ℕ) (os : List StartObject) (i : ℕ) (out : List ℕ) → front ≡ old ++ word_text (length os) → length os ≤ i → out ≡ front ++ objects_text (take i os) → out ≡ old ++ (word_text (length os) ++ objects_text os)
objects_done old front os i out begun le so_far =
    so_far ∙ ap (λ xs. front ++ objects_text xs) (take_all i os le) ∙ ap (λ t. t ++ objects_text os) begun ∙ append_assoc old (word_text (length os)) (objects_text os)

front_shorter : (os : List StartObject) (i : ℕ) → length (objects_text (take i os)) ≤ length (objects_text os)
front_shorter [] zero = omega arith
front_shorter [] (suc i) = omega arith
front_shorter (o ∷ os) zero = omega arith
front_shorter (o ∷ os) (suc i) = omega (arith, front_shorter os i, length-append (object_text o) (objects_text (take i os)), length-append (object_text o) (objects_text os))

pub objects_over : (old front : List ℕ) (os : List StartObject) (i : ℕ) (o : StartObject) (before new : List ℕ) → front ≡ old ++ word_text (length os) → i < length os → o ≡ get_or os i o → new ≡ before ++ object_text o → 268435456 < length new
    → before ≡ front ++ objects_text (take i os) → 268435456 < length (old ++ (word_text (length os) ++ objects_text os))
objects_over old front os i o before new begun lt is pushed large so_far =
    let text : new ≡ front ++ objects_text (take (i + 1) os) = object_more front os i o before new lt is pushed so_far in
    let new_length : length new ≡ length front + length (objects_text (take (i + 1) os)) = ap length text ∙ length-append front (objects_text (take (i + 1) os)) in
    let grouped : front ++ objects_text os ≡ old ++ (word_text (length os) ++ objects_text os) = ap (λ t. t ++ objects_text os) begun ∙ append_assoc old (word_text (length os)) (objects_text os) in
    let all_length : length (old ++ (word_text (length os) ++ objects_text os)) ≡ length front + length (objects_text os) = ap length (sym grouped) ∙ length-append front (objects_text os) in
    omega (arith, large, new_length, all_length, front_shorter os (i + 1))
