-- Runs one behind the other.
use Rattle.std.proofs.Common.{◌≡◌, ◌<◌, ◌≤◌, ◌≢◌, inl, inr, ℕ, ◌+◌, List, [], ◌∷◌, ◌++◌, take, drop, length, get_or, refl, subst, sym, arith}
use Rattle.std.specs.Prelude.{None, IsSome}
use Rattle.std.proofs.lemmas.Bool.{cases_lt}
use Rattle.tcp_streams.specs.declared.span.Span.{Span}
use Rattle.tcp_streams.specs.Places.{place_in}
use Rattle.tcp_streams.specs.Orders.{IsBehind, Stops}
use Rattle.tcp_streams.specs.Streams.{IsChain}
use Rattle.tcp_streams.proofs.Rows.{take_one, drop_one}
use Rattle.tcp_streams.proofs.Holding.{held_past, held_in}

pub chain-append : (a b c : ℕ) (xs ys : List Span) → IsChain a b xs → IsChain b c ys → IsChain a c (xs ++ ys)
chain-append a b c [] ys first second = subst (λ n. IsChain n c ys) (sym first) second
chain-append a b c (x ∷ xs) ys first second = (first.0, first.1, chain-append x.«end» b c xs ys first.2 second)

pub chain-last : (a b : ℕ) (xs : List Span) (x : Span) → IsChain a b xs → x.at ≡ b → x.at < x.«end» → IsChain a x.«end» (xs ++ x ∷ [])
chain-last a b xs x chain at some = chain-append a b x.«end» xs (x ∷ []) chain (at, omega arith, refl)

pub chain_rises : (a b : ℕ) (xs : List Span) → IsChain a b xs → a ≤ b
chain_rises a b [] h = omega arith
chain_rises a b (x ∷ xs) h = omega (arith, h.1, chain_rises x.«end» b xs h.2)

-- a chain holds each number from where it begins up to where it ends, and none from there on
pub chain_holds : (a b n : ℕ) (xs : List Span) → IsChain a b xs → a ≤ n → n < b → IsSome (place_in xs n)
chain_holds a b n [] h low high = absurd (omega arith)
chain_holds a b n (x ∷ xs) h low high = elim (cases_lt n x.«end») [ inl lt ↦ (let from : x.at ≤ n = omega (arith, h.0) in rw (held_in x n from lt) refl) | inr over ↦ (rw (held_past x n over) (chain_holds x.«end» b n xs h.2 over high)) ]

pub chain_ends : (a b n : ℕ) (xs : List Span) → IsChain a b xs → b ≤ n → place_in xs n ≡ None
chain_ends a b n [] h le = refl
chain_ends a b n (x ∷ xs) h le = let over : x.«end» ≤ n = omega (arith, chain_rises x.«end» b xs h.2) in rw (held_past x n over) (chain_ends x.«end» b n xs h.2 le)

pub stops_at : (next : ℕ) (run : Span) (tail : List Span) → IsBehind next (run ∷ tail) → run.at ≢ next → Stops next (run ∷ tail)
stops_at next run tail h ne = (omega (arith, h.0), h.1, h.2)

pub behind_less : (low high : ℕ) (runs : List Span) → IsBehind high runs → low ≤ high → IsBehind low runs
behind_less low high [] h le = tt
behind_less low high (x ∷ xs) h le = (omega (arith, h.0), h.1, h.2)

-- ---- along a list

pub chain_on : (runs : List Span) (i first next : ℕ) (d : Span) → i < length runs → IsChain first next (take i runs) × IsBehind next (drop i runs) → (get_or runs i d).at ≡ next → IsChain first (get_or runs i d).«end» (take (i + 1) runs) × IsBehind (get_or runs i d).«end» (drop (i + 1) runs)
chain_on runs i first next d h so_far at =
    let behind = subst (λ xs. IsBehind next xs) (drop_one runs i d h) so_far.1 in
    (subst (λ xs. IsChain first (get_or runs i d).«end» xs) (sym (take_one runs i d h)) (chain-last first next (take i runs) (get_or runs i d) so_far.0 at behind.1), behind.2)

pub gap_at : (runs : List Span) (i next : ℕ) (d : Span) → i < length runs → IsBehind next (drop i runs) → (get_or runs i d).at ≢ next → Stops next (drop i runs)
gap_at runs i next d h behind ne = subst (λ xs. Stops next xs) (sym (drop_one runs i d h)) (stops_at next (get_or runs i d) (drop (i + 1) runs) (subst (λ xs. IsBehind next xs) (drop_one runs i d h) behind) ne)
