-- What one pass more does to the least lane that two passes have, and to the least that is told of otherwise than it was.
use Rattle.std.proofs.Common.{◌≡◌, ◌≢◌, ◌⊎◌, inl, inr, ℕ, ◌+◌, ◌<◌, ◌==◌, Bool, true, false, cond, not, nat_eq, nat_lt, count_by, if◌then◌else◌, List, [], ◌∷◌, ◌++◌, take, length, get_or, Option, Some, Any, refl, sym, ap, subst, ◌∙◌, ⊎_elim, arith}
use Rattle.std.proofs.lemmas.Bool.{cases_lt, eqb-true, eq-eqb}
use Rattle.std.proofs.lemmas.Bool.Decides.{nat_tests}
use Rattle.std.proofs.lemmas.List.{get_or_append_left, get_or_at, length_push, take_more}
use Rattle.std.proofs.lemmas.List.Quantifiers.{Any-push}
use Rattle.std.proofs.lemmas.List.Sums.{sum_by_more}
use Rattle.server_passes.specs.PassValue.{PassValue, ExchangeValue}
use Rattle.server_passes.specs.Matching.{IsToldTwice, IsToldOther}
use Rattle.server_passes.specs.Least.{IsLeast, least_with}
use Rattle.server_passes.proofs.LeastLaws.{put_least, keep_least}

-- how many passes have the lane
abbrev pub count_on : List PassValue → ℕ → ℕ
count_on passes lane = count_by (λ pass. pass.lane == lane) passes

-- the test knows the lanes of the passes
abbrev pub AreMet : List PassValue → (ℕ → Bool) → Type 0
AreMet passes has = (lane : ℕ) → has lane ≡ nat_lt 0 (count_on passes lane)

abbrev pub one_if : Bool → ℕ
one_if b = if b then 1 else 0

any_more : (b : Bool) (n : ℕ) → cond b true (nat_lt 0 n) ≡ nat_lt 0 (n + one_if b)
any_more true n = grind (arith, nat_tests)
any_more false n = ap (nat_lt 0) (omega arith)

positive : (n : ℕ) → nat_lt 0 n ≡ true → 0 < n
positive n e = grind (arith, nat_tests)

not_false : (b : Bool) → not b ≡ false → b ≡ true
not_false true e = refl
not_false false e = sym e

not_true : (b : Bool) → not b ≡ true → b ≡ false
not_true true e = sym e
not_true false e = refl

none_there : (n : ℕ) → nat_lt 0 n ≡ false → n ≡ 0
none_there n e = grind (arith, nat_tests)

module _ (xs : List PassValue) (i : ℕ) (x : PassValue) (within : i < length xs) (is : x ≡ get_or xs i x) where
  one_more : (lane : ℕ) → count_on (take (i + 1) xs) lane ≡ count_on (take i xs) lane + one_if (x.lane == lane)
  one_more lane =
      sum_by_more (λ pass. one_if (pass.lane == lane)) xs i x within ∙ ap (λ y. count_on (take i xs) lane + one_if (y.lane == lane)) (sym is)

  one_other : (lane : ℕ) → (x.lane == lane) ≡ false → count_on (take (i + 1) xs) lane ≡ count_on (take i xs) lane
  one_other lane e = let more = one_more lane ∙ ap (λ b. count_on (take i xs) lane + one_if b) e in omega (arith, more)

  one_same : (lane : ℕ) → (x.lane == lane) ≡ true → count_on (take (i + 1) xs) lane ≡ count_on (take i xs) lane + 1
  one_same lane e = one_more lane ∙ ap (λ b. count_on (take i xs) lane + one_if b) e

  -- the lane of one more is met
  pub met_more : (has known : ℕ → Bool) → ((lane : ℕ) → known lane ≡ cond (nat_eq x.lane lane) true (has lane)) → AreMet (take i xs) has → AreMet (take (i + 1) xs) known
  met_more has known put met = λ lane.
      put lane ∙ ap (cond (nat_eq x.lane lane) true) (met lane) ∙ any_more (x.lane == lane) (count_on (take i xs) lane) ∙ ap (nat_lt 0) (sym (one_more lane))

  -- the lane was met before
  pub twice_put : (least : Option ℕ) → nat_lt 0 (count_on (take i xs) x.lane) ≡ true → IsLeast (IsToldTwice (take i xs)) least
      → IsLeast (IsToldTwice (take (i + 1) xs)) (Some (least_with least x.lane))
  twice_put least met found =
      put_least (IsToldTwice (take i xs)) (IsToldTwice (take (i + 1) xs)) least x.lane
      (λ lane two. let more = one_more lane in omega (arith, more, two))
      (let more = one_same x.lane (eq-eqb x.lane x.lane refl) in omega (arith, more, positive (count_on (take i xs) x.lane) met))
      (λ lane below two. other lane below two (x.lane == lane) refl)
      found
    where
      other : (lane : ℕ) → lane < x.lane → IsToldTwice (take (i + 1) xs) lane → (b : Bool) → (x.lane == lane) ≡ b → IsToldTwice (take i xs) lane
      other lane below two true e = let same : x.lane ≡ lane = eqb-true x.lane lane e in absurd (omega arith)
      other lane below two false e = let more = one_other lane e in omega (arith, more, two)

  -- the lane wasn't met before
  pub twice_keep : (least : Option ℕ) → nat_lt 0 (count_on (take i xs) x.lane) ≡ false → IsLeast (IsToldTwice (take i xs)) least → IsLeast (IsToldTwice (take (i + 1) xs)) least
  twice_keep least unmet found =
      keep_least (IsToldTwice (take i xs)) (IsToldTwice (take (i + 1) xs)) least
      (λ lane two. let more = one_more lane in omega (arith, more, two))
      (λ lane two. by lane two (x.lane == lane) refl)
      found
    where
      by : (lane : ℕ) → IsToldTwice (take (i + 1) xs) lane → (b : Bool) → (x.lane == lane) ≡ b → IsToldTwice (take i xs) lane
      by lane two true e =
          let same : x.lane ≡ lane = eqb-true x.lane lane e in
          let more = one_same lane e in
          let none = none_there (count_on (take i xs) x.lane) unmet in
          let here : count_on (take i xs) lane ≡ 0 = subst (λ n. count_on (take i xs) n ≡ 0) same none in
          absurd (omega (arith, more, two, here))
      by lane two false e = let more = one_other lane e in omega (arith, more, two)

  -- as the code knows it: the lane was put into the set of those that were met, where it was already
  pub met_before : (has : ℕ → Bool) (lane : ℕ) (fresh : Bool) (least new : Option ℕ) → lane ≡ x.lane → fresh ≡ not (has lane) → AreMet (take i xs) has → fresh ≡ false
      → new ≡ Some (least_with least lane) → IsLeast (IsToldTwice (take i xs)) least → IsLeast (IsToldTwice (take (i + 1) xs)) new
  met_before has lane fresh least new named put met stale is_new found =
      subst (IsLeast (IsToldTwice (take (i + 1) xs))) (sym (is_new ∙ ap (λ l. Some (least_with least l)) named))
      (twice_put least (sym (met x.lane) ∙ ap has (sym named) ∙ not_false (has lane) (sym put ∙ stale)) found)

  -- or where it wasn't
  pub unmet_before : (has : ℕ → Bool) (lane : ℕ) (fresh : Bool) (least new : Option ℕ) → lane ≡ x.lane → fresh ≡ not (has lane) → AreMet (take i xs) has → fresh ≡ true → new ≡ least
      → IsLeast (IsToldTwice (take i xs)) least → IsLeast (IsToldTwice (take (i + 1) xs)) new
  unmet_before has lane fresh least new named put met stale is_new found =
      subst (IsLeast (IsToldTwice (take (i + 1) xs))) (sym is_new)
      (twice_keep least (sym (met x.lane) ∙ ap has (sym named) ∙ not_true (has lane) (sym put ∙ stale)) found)

module _ {X : Type 0} (P : X → Type 0) where
  any_left : (xs : List X) (y : X) → Any P xs → Any P (xs ++ y ∷ [])
  any_left xs y (k, x, below, at, holds) =
      (k, x, omega (arith, length_push xs y), get_or_append_left xs (y ∷ []) x k below ∙ at, holds)

  any_cases : (xs : List X) (y : X) → Any P (xs ++ y ∷ []) → Any P xs ⊎ P y
  any_cases xs y (k, x, below, at, holds) =
      ⊎_elim (λ before. inl (k, x, before, sym (get_or_append_left xs (y ∷ []) x k before) ∙ at, holds))
      (λ behind.
      let last : length xs ≡ k = omega (arith, length_push xs y) in
      inr (subst P (sym at ∙ get_or_at xs y [] x k last) holds))
      (cases_lt k (length xs))

module _ (exchanges : ℕ → List ExchangeValue) (xs : List PassValue) (i : ℕ) (x : PassValue) (within : i < length xs) (is : x ≡ get_or xs i x) where
  abbrev Other : ℕ → PassValue → Type 0
  Other lane pass = (pass.lane ≡ lane) × (pass.exchanges ≢ exchanges lane)

  one_behind : take (i + 1) xs ≡ take i xs ++ x ∷ []
  one_behind = take_more xs i x within ∙ ap (λ y. take i xs ++ y ∷ []) (sym is)

  up : (lane : ℕ) → IsToldOther (exchanges lane) (take i xs) lane → IsToldOther (exchanges lane) (take (i + 1) xs) lane
  up lane some = subst (Any (Other lane)) (sym one_behind) (any_left (Other lane) (take i xs) x some)

  down : (lane : ℕ) → IsToldOther (exchanges lane) (take (i + 1) xs) lane → IsToldOther (exchanges lane) (take i xs) lane ⊎ Other lane x
  down lane some = any_cases (Other lane) (take i xs) x (subst (Any (Other lane)) one_behind some)

  -- one more tells otherwise
  pub other_put : (least : Option ℕ) → x.exchanges ≢ exchanges x.lane → IsLeast (λ lane. IsToldOther (exchanges lane) (take i xs) lane) least
      → IsLeast (λ lane. IsToldOther (exchanges lane) (take (i + 1) xs) lane) (Some (least_with least x.lane))
  other_put least wrong found =
      put_least (λ lane. IsToldOther (exchanges lane) (take i xs) lane) (λ lane. IsToldOther (exchanges lane) (take (i + 1) xs) lane) least x.lane
      up
      (subst (Any (Other x.lane)) (sym one_behind) (Any-push (Other x.lane) (take i xs) x (refl, wrong)))
      (λ lane below some. ⊎_elim (λ before. before) (λ here. let same : x.lane ≡ lane = here.0 in absurd (omega arith)) (down lane some))
      found

  -- one more tells what was recorded
  pub other_keep : (least : Option ℕ) → x.exchanges ≡ exchanges x.lane → IsLeast (λ lane. IsToldOther (exchanges lane) (take i xs) lane) least
      → IsLeast (λ lane. IsToldOther (exchanges lane) (take (i + 1) xs) lane) least
  other_keep least right found =
      keep_least (λ lane. IsToldOther (exchanges lane) (take i xs) lane) (λ lane. IsToldOther (exchanges lane) (take (i + 1) xs) lane) least
      up
      (λ lane some. ⊎_elim (λ before. before) (λ here. absurd (here.1 (right ∙ ap exchanges here.0))) (down lane some))
      found

  -- as the code knows it
  pub other_before : (least new : Option ℕ) (lane : ℕ) → lane ≡ x.lane → x.exchanges ≢ exchanges x.lane → new ≡ Some (least_with least lane)
      → IsLeast (λ lane. IsToldOther (exchanges lane) (take i xs) lane) least → IsLeast (λ lane. IsToldOther (exchanges lane) (take (i + 1) xs) lane) new
  other_before least new lane named wrong is_new found =
      subst (IsLeast (λ lane. IsToldOther (exchanges lane) (take (i + 1) xs) lane)) (sym (is_new ∙ ap (λ l. Some (least_with least l)) named)) (other_put least wrong found)
