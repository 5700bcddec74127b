-- the bytes of a short name with what stands behind them
use Rattle.std.proofs.Common.{◌≡◌, ℕ, zero, suc, ◌+◌, ◌<◌, ◌≤◌, List, [], ◌∷◌, ◌++◌, length, take, drop, replicate, refl, sym, ap, subst, ◌∙◌, arith}
use Rattle.std.specs.Prelude.{slice_index, slice_set}
use Rattle.std.specs.declared.cmp.Ordering.TheVariants.{Less, Equal, Greater}
use Rattle.std.specs.Ordering.{nat_cmp, ordering_then}
use Rattle.std.specs.Cmp.Lexicographic.{slice_cmp}
use Rattle.tree_stores.specs.Padding.{padded, name_in, IsPadded}
use Rattle.tree_stores.proofs.Words.{below, above, same}

-- a name that has ended is below one that goes on
ended : (room low high : ℕ) (name : List ℕ) → low < high → slice_cmp nat_cmp (padded room [] low) (padded room name high) ≡ Less
ended zero low high name l = ap (λ o. ordering_then o Equal) (below low high l)
ended (suc room) low high [] l = ended room low high [] l
ended (suc room) low high (zero ∷ name) l = ended room low high name l
ended (suc room) low high (suc byte ∷ name) l = ap (λ o. ordering_then o (slice_cmp nat_cmp (padded room [] low) (padded room name high))) (below 0 (suc byte) (omega arith))

ended_above : (room low high : ℕ) (name : List ℕ) → low < high → slice_cmp nat_cmp (padded room name high) (padded room [] low) ≡ Greater
ended_above zero low high name l = ap (λ o. ordering_then o Equal) (above high low l)
ended_above (suc room) low high [] l = ended_above room low high [] l
ended_above (suc room) low high (zero ∷ name) l = ended_above room low high name l
ended_above (suc room) low high (suc byte ∷ name) l = ap (λ o. ordering_then o (slice_cmp nat_cmp (padded room name high) (padded room [] low))) (above (suc byte) 0 (omega arith))

level : (room last : ℕ) → slice_cmp nat_cmp (padded room [] last) (padded room [] last) ≡ Equal
level zero last = ap (λ o. ordering_then o Equal) (same last last refl)
level (suc room) last = level room last

-- names lie as their bytes with zeros and their lengths behind
pub as_padded : (room more : ℕ) (xs ys : List ℕ) → length xs ≤ room → length ys ≤ room
    → slice_cmp nat_cmp (padded room xs (more + length xs)) (padded room ys (more + length ys)) ≡ slice_cmp nat_cmp xs ys
as_padded room more [] [] p q = level room (more + 0)
as_padded room more [] (y ∷ ys) p q = ended room (more + 0) (more + suc (length ys)) (y ∷ ys) (omega arith)
as_padded room more (x ∷ xs) [] p q = ended_above room (more + 0) (more + suc (length xs)) (x ∷ xs) (omega arith)
as_padded zero more (x ∷ xs) (y ∷ ys) p q = absurd (omega arith)
as_padded (suc room) more (x ∷ xs) (y ∷ ys) p q = ap (ordering_then (nat_cmp x y)) (
    ap (λ z. slice_cmp nat_cmp (padded room xs z) (padded room ys (more + suc (length ys)))) (omega arith)
    ∙ ap (λ z. slice_cmp nat_cmp (padded room xs (suc more + length xs)) (padded room ys z)) (omega arith)
    ∙ as_padded room (suc more) xs ys (omega arith) (omega arith)
    )

-- a name put over zeros, and its length behind
pub written : (room last : ℕ) (name : List ℕ) → length name ≤ room → slice_set (name ++ drop (length name) (replicate (suc room) 0)) room last ≡ padded room name last
written zero last [] p = refl
written zero last (x ∷ name) p = absurd (omega arith)
written (suc room) last [] p = ap (λ (z : List ℕ). 0 ∷ z) (written room last [] (omega arith))
written (suc room) last (x ∷ name) p = ap (λ (z : List ℕ). x ∷ z) (written room last name (omega arith))

last_of : (room last : ℕ) (name : List ℕ) → length name ≤ room → slice_index (padded room name last) room ≡ last
last_of zero last name p = refl
last_of (suc room) last [] p = last_of room last [] (omega arith)
last_of (suc room) last (x ∷ name) p = last_of room last name (omega arith)

front_of : (room last : ℕ) (name : List ℕ) → length name ≤ room → take (length name) (padded room name last) ≡ name
front_of room last [] p = refl
front_of zero last (x ∷ name) p = absurd (omega arith)
front_of (suc room) last (x ∷ name) p = ap (λ (z : List ℕ). x ∷ z) (front_of room last name (omega arith))

-- what is read back is the name
pub read_back : (name : List ℕ) → length name ≤ 23 → name_in (padded 23 name (length name)) ≡ name
read_back name p = ap (λ n. take n (padded 23 name (length name))) (last_of 23 (length name) name p) ∙ front_of 23 (length name) name p

pub is_padded : (name : List ℕ) → length name ≤ 23 → IsPadded (padded 23 name (length name))
is_padded name p =
    let back = sym (read_back name p) in
    (subst (λ (z : List ℕ). length z ≤ 23) back p, ap (λ (z : List ℕ). padded 23 z (length z)) back)

-- padded bytes lie as the names in them
pub as_names : (one other : List ℕ) → IsPadded one → IsPadded other → slice_cmp nat_cmp one other ≡ slice_cmp nat_cmp (name_in one) (name_in other)
as_names one other p q =
    let plain : (n : ℕ) → n ≡ 0 + n = λ n. omega arith in
    (λ i. slice_cmp nat_cmp (p.1 i) (q.1 i))
    ∙ (λ i. slice_cmp nat_cmp (padded 23 (name_in one) (plain (length (name_in one)) i)) (padded 23 (name_in other) (plain (length (name_in other)) i)))
    ∙ as_padded 23 0 (name_in one) (name_in other) p.0 q.0
