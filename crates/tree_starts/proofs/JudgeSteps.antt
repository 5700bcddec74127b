-- Objects that are judged one after the other.
use Rattle.std.proofs.Common.{◌≡◌, ℕ, suc, ◌+◌, ◌<◌, ◌≤◌, List, [], ◌∷◌, ◌++◌, length, drop, get_or, Option, Some, None, Err, refl, sym, ap, ◌∙◌, add-one, drop-cons}
use Rattle.std.specs.Option.{option_or}
use Rattle.std.proofs.lemmas.Bool.{le-leb}
use Rattle.std.proofs.lemmas.List.{map_push, drop_all}
use Rattle.tree_starts.specs.declared.object.StartObject.{StartObject}
use Rattle.tree_starts.specs.declared.fault.StartFault.{StartFault}
use Rattle.tree_starts.specs.declared.fault.StartFault.TheVariants.{BadStart, TooLarge, NoMemory}
use Rattle.tree_starts.specs.Start.{key_of, keys_of, object_fault, fault_from, start_fault, IsJudged}

-- the same fault, said of something else
pub judged_as : (X : Type 0) (a b : Option StartFault) (fault : StartFault) → ((f : StartFault) → a ≡ Some f → b ≡ Some f) → IsJudged {X = X} a (Err fault) → IsJudged {X = X} b (Err fault)
judged_as X a b (BadStart k) same is = same (BadStart k) is
judged_as X a b (TooLarge k) same is = same (TooLarge k) is
judged_as X a b NoMemory same is = tt

within_limit : (xs : List StartObject) → length xs ≤ 1000000 → start_fault xs ≡ fault_from [] 1 xs
within_limit xs small = rw (le-leb (length xs) 1000000 small) refl

-- an object is at fault, so the start is
pub at_fault : (xs table : List StartObject) (i : ℕ) (x d : StartObject) (f : StartFault) → length xs ≤ 1000000 → i < length xs → x ≡ get_or xs i d
    → fault_from (keys_of table) (i + 1) (drop i xs) ≡ fault_from [] 1 xs → object_fault (keys_of table) (i + 1) x ≡ Some f → start_fault xs ≡ Some f
unfolding fault_from
at_fault xs table i x d f small lt is before here =
    within_limit xs small ∙ sym before ∙ ap (fault_from (keys_of table) (i + 1)) (drop-cons xs i d lt)
    ∙ ap (λ y. option_or (object_fault (keys_of table) (i + 1) y) (fault_from (keys_of table ++ key_of y ∷ []) (i + 1 + 1) (drop (suc i) xs))) (sym is)
    ∙ ap (λ o. option_or o (fault_from (keys_of table ++ key_of x ∷ []) (i + 1 + 1) (drop (suc i) xs))) here

-- an object more is fine
pub one_fine : (xs table : List StartObject) (i : ℕ) (x d : StartObject) → i < length xs → x ≡ get_or xs i d
    → fault_from (keys_of table) (i + 1) (drop i xs) ≡ fault_from [] 1 xs → object_fault (keys_of table) (i + 1) x ≡ None
    → fault_from (keys_of (table ++ x ∷ [])) (i + 1 + 1) (drop (i + 1) xs) ≡ fault_from [] 1 xs
unfolding fault_from
one_fine xs table i x d lt is before here =
    ap (λ ks. fault_from ks (i + 1 + 1) (drop (i + 1) xs)) (map_push key_of table x)
    ∙ ap (λ o. option_or o (fault_from (keys_of table ++ key_of x ∷ []) (i + 1 + 1) (drop (i + 1) xs))) (sym here)
    ∙ ap (λ y. option_or (object_fault (keys_of table) (i + 1) y) (fault_from (keys_of table ++ key_of y ∷ []) (i + 1 + 1) (drop (i + 1) xs))) is
    ∙ ap (λ n. fault_from (keys_of table) (i + 1) (get_or xs i d ∷ drop n xs)) (add-one i)
    ∙ ap (fault_from (keys_of table) (i + 1)) (sym (drop-cons xs i d lt)) ∙ before

-- all are fine
pub all_fine : (xs table : List StartObject) (i : ℕ) → length xs ≤ 1000000 → length xs ≤ i → fault_from (keys_of table) (i + 1) (drop i xs) ≡ fault_from [] 1 xs → start_fault xs ≡ None
unfolding fault_from
all_fine xs table i small past before = within_limit xs small ∙ sym before ∙ ap (fault_from (keys_of table) (i + 1)) (drop_all i xs past)
