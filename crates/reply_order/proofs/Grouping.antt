-- Replies era by era: what a stable sort leaves, and what stands up to an era and behind it.
use Rattle.std.proofs.Common.{◌≡◌, ◌==◌, ℕ, ◌+◌, ◌<◌, ◌≤◌, ◌&&◌, not, Bool, true, false, leb, leb-true, leb-false, ◌≢◌, List, [], ◌∷◌, ◌++◌, length, take, drop, refl, sym, ap, ◌∙◌, arith, append-nil, length-drop}
use Rattle.std.specs.List.{filter, All, AllWithin, AllByRecursion}
use Rattle.std.specs.List.Sorted.{IsStableBy, ties}
use Rattle.std.specs.Ordering.{nat_cmp, is_lt}
use Rattle.std.proofs.lemmas.Bool.{ne_eqb, cond-false}
use Rattle.std.proofs.lemmas.Bool.Decides.{nat_tests}
use Rattle.std.proofs.lemmas.List.{take-append-drop, get_or-drop, get_or-take, length-take-le}
use Rattle.std.proofs.lemmas.List.Elements.{All-weaker, filter_agree, filter-append, recursion_from_All}
use Rattle.reply_order.specs.declared.replies.Reply.{Reply}
use Rattle.reply_order.specs.Making.{is_of_era}

-- two numbers tie where they are equal
tie_is : (x y : ℕ) → (not (is_lt (nat_cmp x y)) && not (is_lt (nat_cmp y x))) ≡ (y == x)
tie_is x y = grind (arith, nat_tests)

-- a stable sort by eras keeps the order within each
pub kept_in_eras : (xs ys : List Reply) → IsStableBy (λ (a b : Reply). is_lt (nat_cmp a.era b.era)) xs ys → (e : ℕ) → filter (is_of_era e) ys ≡ filter (is_of_era e) xs
kept_in_eras xs ys stable e =
    let one : Reply = record { number = 0; «end» = 0; era = e } in
    let agree = filter_agree (is_of_era e) (ties (λ (a b : Reply). is_lt (nat_cmp a.era b.era)) one) (λ (r : Reply). sym (tie_is e r.era)) in
    agree ys ∙ stable one ∙ sym (agree xs)

-- nothing passes, so nothing is kept
none_kept : (test : Reply → Bool) (rs : List Reply) → AllByRecursion (λ r. test r ≡ false) rs → filter test rs ≡ []
none_kept test [] none = refl
none_kept test (r ∷ rs) none = cond-false (test r) (r ∷ filter test rs) (filter test rs) none.0 ∙ none_kept test rs none.1

within_take : (P : Reply → Type 0) (xs : List Reply) (k : ℕ) → k ≤ length xs → AllWithin P xs 0 k → All P (take k xs)
within_take P xs k le all =
    λ i d lt. let short : i < k = omega (arith, lt, length-take-le k xs le) in rw get_or-take (all i d (omega arith) short)

within_drop : (P : Reply → Type 0) (xs : List Reply) (k : ℕ) → AllWithin P xs k (length xs) → All P (drop k xs)
within_drop P xs k all = λ i d lt. rw get_or-drop (all (k + i) d (omega arith) (omega (arith, lt, length-drop k xs)))

other_era : (e : ℕ) (r : Reply) → r.era ≢ e → is_of_era e r ≡ false
other_era e r other = ne_eqb r.era e other

joined : (e : ℕ) (xs : List Reply) (k : ℕ) → filter (is_of_era e) xs ≡ filter (is_of_era e) (take k xs) ++ filter (is_of_era e) (drop k xs)
joined e xs k = ap (filter (is_of_era e)) (sym (take-append-drop k xs)) ∙ filter-append (is_of_era e) (take k xs) (drop k xs)

-- up to a place behind which all eras are later
pub here_is : (e : ℕ) (xs : List Reply) (k : ℕ) → AllWithin (λ r. leb r.era e ≡ false) xs k (length xs)
    → filter (is_of_era e) (take k xs) ≡ filter (is_of_era e) xs
here_is e xs k later =
    let none = none_kept (is_of_era e) (drop k xs) (recursion_from_All (λ r. is_of_era e r ≡ false) (drop k xs)
    (All-weaker (λ (r : Reply). leb r.era e ≡ false) (λ (r : Reply). is_of_era e r ≡ false) (λ r h. other_era e r (λ same. let above = leb-false r.era e h in omega arith)) (drop k xs) (within_drop (λ (r : Reply). leb r.era e ≡ false) xs k later))) in
    sym (joined e xs k ∙ ap (λ rs. filter (is_of_era e) (take k xs) ++ rs) none ∙ append-nil (filter (is_of_era e) (take k xs)))

-- behind a place up to which all eras are earlier
pub later_is : (e more : ℕ) (xs : List Reply) (k : ℕ) → k ≤ length xs → e < more → AllWithin (λ r. leb r.era e ≡ true) xs 0 k
    → filter (is_of_era more) (drop k xs) ≡ filter (is_of_era more) xs
later_is e more xs k le lt early =
    let none = none_kept (is_of_era more) (take k xs) (recursion_from_All (λ r. is_of_era more r ≡ false) (take k xs)
    (All-weaker (λ (r : Reply). leb r.era e ≡ true) (λ (r : Reply). is_of_era more r ≡ false) (λ r h. other_era more r (λ same. let below = leb-true r.era e h in omega arith)) (take k xs) (within_take (λ (r : Reply). leb r.era e ≡ true) xs k le early))) in
    sym (joined more xs k ∙ ap (λ rs. rs ++ filter (is_of_era more) (drop k xs)) none)
