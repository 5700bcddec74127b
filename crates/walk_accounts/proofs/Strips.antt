-- Accounts that are stripped by one item of a list after the other, and lists that are put together so.
use Rattle.std.proofs.Common.{◌≡◌, ℕ, ◌+◌, ◌<◌, ◌≤◌, List, [], ◌∷◌, ◌++◌, length, take, drop, map, get_or, sym, ap, ◌∙◌, append_assoc}
use Rattle.std.specs.List.{flat_map}
use Rattle.std.proofs.lemmas.List.{append-nil, flat_map_more, take_more, at_drop_more, at_drop_all}
use Rattle.walk_accounts.specs.declared.account.Account.{Account}
use Rattle.walk_accounts.specs.declared.exchange.Exchange.{Exchange}
use Rattle.walk_accounts.specs.Accounts.{place_of, places_told, all_places}
use Rattle.walk_accounts.specs.Stripping.{IsStripped}

-- what a list's items give, with one item more
pub flat_more : {X A : Type 0} (f : X → List A) (xs : List X) (i : ℕ) (x d : X) → i < length xs → x ≡ get_or xs i d
    → flat_map f (take i xs) ++ f x ≡ flat_map f (take (i + 1) xs)
flat_more f xs i x d lt is =
    flat_map_more f [] (take i xs) x ∙ ap (flat_map f) (ap (λ y. take i xs ++ y ∷ []) is ∙ sym (take_more xs i d lt))

pub strip_more : {X : Type 0} (f : X → List (ℕ × List ℕ)) (xs : List X) (i : ℕ) (x d : X) (rest left more : List Account) → i < length xs
    → x ≡ get_or xs i d → IsStripped (flat_map f (take i xs)) rest left → IsStripped (f x) left more
    → IsStripped (flat_map f (take (i + 1) xs)) rest more
strip_more f xs i x d rest left more lt is before here =
    before ∙ ap (λ t. flat_map f (take i xs) ++ t) here ∙ sym (append_assoc (flat_map f (take i xs)) (f x) (map place_of more))
    ∙ ap (λ t. t ++ map place_of more) (flat_more f xs i x d lt is)

-- the places of an account's part, ahead of those of the accounts behind it
pub places_more : (exchanges : List Exchange) (accounts : List Account) (i : ℕ) (a d : Account) (left more : List Account)
    (behind : List (ℕ × List ℕ)) → i < length accounts → a ≡ get_or accounts i d → IsStripped (places_told exchanges i a) left more
    → map place_of more ≡ all_places exchanges (i + 1) (drop (i + 1) accounts) ++ behind
    → map place_of left ≡ all_places exchanges i (drop i accounts) ++ behind
unfolding all_places
places_more exchanges accounts i a d left more behind lt is here after =
    here ∙ ap (λ t. places_told exchanges i a ++ t) after
    ∙ sym (append_assoc (places_told exchanges i a) (all_places exchanges (i + 1) (drop (i + 1) accounts)) behind)
    ∙ ap (λ x. (places_told exchanges i x ++ all_places exchanges (i + 1) (drop (i + 1) accounts)) ++ behind) is
    ∙ ap (λ t. t ++ behind) (sym (at_drop_more (all_places exchanges i) accounts i d lt))

-- behind the last account nothing is left
pub places_done : (exchanges : List Exchange) (accounts found : List Account) (i : ℕ) → length accounts ≤ i
    → ((behind : List (ℕ × List ℕ)) → [] ≡ all_places exchanges i (drop i accounts) ++ behind → map place_of found ≡ all_places exchanges 0 accounts ++ behind)
    → map place_of found ≡ all_places exchanges 0 accounts
unfolding all_places
places_done exchanges accounts found i past so_far =
    so_far [] (ap (λ t. t ++ []) (sym (at_drop_all (all_places exchanges i) accounts i past))) ∙ append-nil (all_places exchanges 0 accounts)
