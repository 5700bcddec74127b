-- Two lists of events, one made of the other.
use Rattle.std.proofs.Common.{◌≡◌, ℕ, ◌+◌, ◌<◌, List, [], ◌∷◌, ◌++◌, length, map, take, get_or, sym, ap, ◌∙◌}
use Rattle.std.proofs.lemmas.List.{take_more, map_push}
use Rattle.history_file.specs.Event.{Event}

pub one_more : {A B : Type 0} → (f : A → Event) (g : B → Event) (made : List A) (given : List B) (i : ℕ) (a : A) (d : B) → i < length given → f a ≡ g (get_or given i d)
    → map f made ≡ map g (take i given) → map f (made ++ a ∷ []) ≡ map g (take (i + 1) given)
one_more f g made given i a d lt same so_far =
    map_push f made a ∙ ap (λ es. es ++ f a ∷ []) so_far ∙ ap (λ e. map g (take i given) ++ e ∷ []) same
    ∙ sym (map_push g (take i given) (get_or given i d)) ∙ ap (map g) (sym (take_more given i d lt))
