-- The least torn lane, and what it means that there is none.
use Rattle.std.proofs.Common.{◌≡◌, ◌⊎◌, inl, inr, ℕ, ◌<◌, ◌≤◌, List, length, get_or, Option, Some, All, refl, sym, subst, ⊎_elim, arith}
use Rattle.std.proofs.lemmas.Bool.{cases_lt}
use Rattle.std.proofs.lemmas.List.{get_or_default}
use Rattle.nfs_history.specs.HistoryValue.{HistoryValue}
use Rattle.server_passes.specs.PassValue.{PassValue, ExchangeValue}
use Rattle.server_passes.specs.Matching.{exchanges_on, answered, told, AreCovered, IsToldTwice, IsToldOther, IsTorn, IsLeastTorn}
use Rattle.server_passes.specs.Least.{IsLeast, least_of}
use Rattle.server_passes.proofs.LeastLaws.{keep_least, join_least}
use Rattle.server_passes.proofs.LeastSteps.{count_on}
use Rattle.server_passes.proofs.Apart.{exchanges_same}
use Rattle.server_passes.proofs.Covering.{covered}

-- the lesser of the two
pub least_torn_is : (history : HistoryValue) (passes : List PassValue) (exchanges : ℕ → List ExchangeValue) (twice other : Option ℕ) → ((lane : ℕ) → exchanges lane ≡ exchanges_on history lane)
    → IsLeast (IsToldTwice passes) twice → IsLeast (λ lane. IsToldOther (exchanges lane) passes lane) other → IsLeast (IsTorn history passes) (least_of twice other)
least_torn_is history passes exchanges twice other same first second =
    keep_least (λ lane. IsToldTwice passes lane ⊎ IsToldOther (exchanges lane) passes lane) (IsTorn history passes) (least_of twice other)
    (λ lane. subst (λ found. IsToldTwice passes lane ⊎ IsToldOther found passes lane) (same lane))
    (λ lane. subst (λ found. IsToldTwice passes lane ⊎ IsToldOther found passes lane) (sym (same lane)))
    (join_least (IsToldTwice passes) (λ lane. IsToldOther (exchanges lane) passes lane) twice other first second)

-- where no lane is torn, each pass tells what was recorded
pub told_right : (history : HistoryValue) (passes : List PassValue) → ((lane : ℕ) → ¬ IsTorn history passes lane) → All (λ pass. pass.exchanges ≡ exchanges_on history pass.lane) passes
told_right history passes whole = λ k d within.
    let pass = get_or passes k d in
    exchanges_same pass.exchanges (exchanges_on history pass.lane) (λ apart. whole pass.lane (inr (k, pass, within, at k d within, (refl, apart))))
  where
    at : (k : ℕ) (d : PassValue) → k < length passes → get_or passes k (get_or passes k d) ≡ get_or passes k d
    at k d within = get_or_default passes k (get_or passes k d) d within

-- and so no answered call's lane is left out
pub all_covered : (history : HistoryValue) (passes : List PassValue) → told passes ≡ answered history → ((lane : ℕ) → ¬ IsTorn history passes lane) → AreCovered history passes
all_covered history passes all whole = covered history passes all once (told_right history passes whole)
  where
    once : (lane : ℕ) → count_on passes lane ≤ 1
    once lane = ⊎_elim (λ few. omega arith) (λ many. absurd (whole lane (inl many))) (cases_lt (count_on passes lane) 2)

-- there is one least torn lane
pub one_least : (history : HistoryValue) (passes : List PassValue) (lane other : ℕ) → IsLeast (IsTorn history passes) (Some lane) → IsLeastTorn history passes other → lane ≡ other
one_least history passes lane other found least =
    ⊎_elim (λ below. absurd (least.least lane below found.0))
    (λ not_below. ⊎_elim (λ above. absurd (found.1 other above least.torn)) (λ not_above. omega arith) (cases_lt other lane))
    (cases_lt lane other)
