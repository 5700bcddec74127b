-- How the least number of which a fact holds is found.
use Rattle.std.proofs.Common.{◌≡◌, ◌⊎◌, inl, inr, ℕ, ◌<◌, ◌≤◌, Bool, true, false, cond, nat_le, Option, Some, None, refl, arith}
use Rattle.std.proofs.lemmas.Bool.Decides.{nat_tests}
use Rattle.server_passes.specs.Least.{IsLeast, least_with, least_of}

below_other : (other lane : ℕ) → nat_le other lane ≡ true → other ≤ lane
below_other other lane e = grind (arith, nat_tests)

below_lane : (other lane : ℕ) → nat_le other lane ≡ false → lane < other
below_lane other lane e = grind (arith, nat_tests)

-- the fact comes to hold of a number more, and of no lesser one
pub put_least : (P Q : ℕ → Type 0) (least : Option ℕ) (lane : ℕ) → ((n : ℕ) → P n → Q n) → Q lane → ((n : ℕ) → n < lane → Q n → P n)
    → IsLeast P least → IsLeast Q (Some (least_with least lane))
put_least P Q None lane up new down none = (new, λ n below q. none n (down n below q))
put_least P Q (Some other) lane up new down found = by (nat_le other lane) refl
  where
    by : (b : Bool) → nat_le other lane ≡ b → Q (cond b other lane) × ((n : ℕ) → n < cond b other lane → ¬ Q n)
    by true e = (up other found.0, λ n below q. let le : other ≤ lane = below_other other lane e in found.1 n below (down n (omega arith) q))
    by false e = (new, λ n below q. let lt : lane < other = below_lane other lane e in found.1 n (omega arith) (down n below q))

-- it holds of the same numbers as before
pub keep_least : (P Q : ℕ → Type 0) (least : Option ℕ) → ((n : ℕ) → P n → Q n) → ((n : ℕ) → Q n → P n) → IsLeast P least → IsLeast Q least
keep_least P Q None up down none = λ n q. none n (down n q)
keep_least P Q (Some lane) up down found = (up lane found.0, λ n below q. found.1 n below (down n q))

-- the lesser of two least numbers
pub join_least : (P Q : ℕ → Type 0) (one other : Option ℕ) → IsLeast P one → IsLeast Q other → IsLeast (λ n. P n ⊎ Q n) (least_of one other)
join_least P Q one None p none = keep_least P (λ n. P n ⊎ Q n) one (λ n h. inl h) (λ n h. elim h [ inl a ↦ a | inr b ↦ absurd (none n b) ]) p
join_least P Q one (Some lane) p q =
    put_least P (λ n. P n ⊎ Q n) one lane (λ n h. inl h) (inr q.0) (λ n below h. elim h [ inl a ↦ a | inr b ↦ absurd (q.1 n below b) ]) p
