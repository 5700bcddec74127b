-- Where no lane is torn, and as many calls are told of as were answered, no answered call's lane is left out: the passes' lanes
-- differ, so that what they tell of adds up to the answered calls of these lanes.
use Rattle.std.proofs.Common.{◌≡◌, ◌⊎◌, inl, inr, ℕ, zero, suc, ◌+◌, ◌<◌, ◌≤◌, ◌==◌, ◌&&◌, Bool, true, false, if◌then◌else◌, List, [], ◌∷◌, length, count_by, Option, Some, None, is_some, option_map, All, Any, refl, sym, ap, subst, ◌∙◌, arith}
use Rattle.std.specs.List.{filter_map, cons_option}
use Rattle.std.proofs.lemmas.Bool.{cases_eq, eq-eqb}
use Rattle.std.proofs.lemmas.Bool.Decides.{nat_tests}
use Rattle.std.proofs.lemmas.List.Elements.{All-head, All-tail}
use Rattle.std.proofs.lemmas.Option.{get_or_from_slice_get, slice_get_within}
use Rattle.std.proofs.lemmas.List.Sums.{sum_by-cons, get_or-le-sum_by}
use Rattle.nfs_history.specs.declared.recorded.RecordedCall.{RecordedCall}
use Rattle.nfs_history.specs.HistoryValue.{HistoryValue}
use Rattle.server_passes.specs.PassValue.{PassValue, ExchangeValue}
use Rattle.server_passes.specs.Matching.{message_at, exchange_of, exchanges_on, answered, told, AreCovered}
use Rattle.server_passes.proofs.LeastSteps.{count_on, one_if}

not_same : (a b : ℕ) → (a ≡ b → ⊥) → (a == b) ≡ false
not_same a b other = grind (arith, nat_tests)

not_none : (n : ℕ) → (n + 1 == 0) ≡ false
not_none n = grind (arith, nat_tests)

-- how many passes have a lane, one pass more
on_cons : (pass : PassValue) (passes : List PassValue) (lane : ℕ) → count_on (pass ∷ passes) lane ≡ one_if (pass.lane == lane) + count_on passes lane
on_cons pass passes lane = sum_by-cons (λ p. one_if (p.lane == lane)) pass passes

-- some pass has the lane
has_lane : (passes : List PassValue) (lane : ℕ) → 0 < count_on passes lane → Any (λ pass. pass.lane ≡ lane) passes
has_lane [] lane some = absurd (omega arith)
has_lane (pass ∷ passes) lane some = by (cases_eq pass.lane lane) (has_lane passes lane)
  where
    by : (pass.lane ≡ lane) ⊎ (pass.lane ≡ lane → ⊥) → (0 < count_on passes lane → Any (λ p. p.lane ≡ lane) passes) → Any (λ p. p.lane ≡ lane) (pass ∷ passes)
    by (inl same) later = (0, pass, omega arith, refl, same)
    by (inr other) later = there (later rest)
      where
        rest : 0 < count_on passes lane
        rest = let more = on_cons pass passes lane ∙ ap (λ b. one_if b + count_on passes lane) (not_same pass.lane lane other) in omega (arith, more, some)

        there : Any (λ p. p.lane ≡ lane) passes → Any (λ p. p.lane ≡ lane) (pass ∷ passes)
        there (k, found, within, at, same) = (suc k, found, omega arith, at, same)

-- the call was answered, and no pass has its lane
abbrev is_left : List PassValue → RecordedCall → Bool
is_left passes call = (count_on passes call.lane == 0) && is_some call.«end»

-- of a call on the lane, and of one on another
at_lane : (a b on : Bool) (f : ℕ → ExchangeValue) (reply : Option ℕ) → a ≡ false → b ≡ true → on ≡ true
    → one_if (a && is_some reply) + one_if (is_some (if on then option_map f reply else None)) ≤ one_if (b && is_some reply)
at_lane false true true f None _ _ _ = omega arith
at_lane false true true f (Some number) _ _ _ = omega arith
at_lane a b on f reply first second third = absurd cc

elsewhere : (a b on : Bool) (f : ℕ → ExchangeValue) (reply : Option ℕ) → a ≡ b → on ≡ false
    → one_if (a && is_some reply) + one_if (is_some (if on then option_map f reply else None)) ≤ one_if (b && is_some reply)
elsewhere a b false f reply same _ = let equal = ap (λ x. one_if (x && is_some reply)) same in omega (arith, equal)
elsewhere a b true f reply same apart = absurd cc

one_first : (n : ℕ) → 1 + n ≡ n + 1
one_first n = omega arith

zero_first : (n : ℕ) → 0 + n ≡ n
zero_first n = omega arith

abbrev exchange_with : HistoryValue → RecordedCall → ℕ → ExchangeValue
exchange_with history call = λ number. record { message = message_at history.events call.begin; reply = message_at history.events number }

module _ (history : HistoryValue) where
  abbrev on_lane : ℕ → RecordedCall → Option ExchangeValue
  on_lane lane call = if call.lane == lane then exchange_of history call else None

  one_call : (pass : PassValue) (passes : List PassValue) → count_on passes pass.lane ≡ 0 → (call : RecordedCall)
      → one_if (is_left (pass ∷ passes) call) + one_if (is_some (on_lane pass.lane call)) ≤ one_if (is_left passes call)
  one_call pass passes alone call = by (cases_eq pass.lane call.lane)
    where
      by : (pass.lane ≡ call.lane) ⊎ (pass.lane ≡ call.lane → ⊥) → one_if (is_left (pass ∷ passes) call) + one_if (is_some (on_lane pass.lane call)) ≤ one_if (is_left passes call)
      by (inl same) =
          at_lane (count_on (pass ∷ passes) call.lane == 0) (count_on passes call.lane == 0) (call.lane == pass.lane) (exchange_with history call) call.«end»
          (ap (λ n. n == 0) (on_cons pass passes call.lane ∙ ap (λ b. one_if b + count_on passes call.lane) (eq-eqb pass.lane call.lane same) ∙ one_first (count_on passes call.lane)) ∙ not_none (count_on passes call.lane))
          (eq-eqb (count_on passes call.lane) 0 (subst (λ lane. count_on passes lane ≡ 0) same alone))
          (eq-eqb call.lane pass.lane (sym same))
      by (inr other) =
          elsewhere (count_on (pass ∷ passes) call.lane == 0) (count_on passes call.lane == 0) (call.lane == pass.lane) (exchange_with history call) call.«end»
          (ap (λ n. n == 0) (on_cons pass passes call.lane ∙ ap (λ b. one_if b + count_on passes call.lane) (not_same pass.lane call.lane other) ∙ zero_first (count_on passes call.lane)))
          (not_same call.lane pass.lane (λ e. other (sym e)))

  length_kept : (found : Option ExchangeValue) (xs : List ExchangeValue) → length (cons_option found xs) ≡ one_if (is_some found) + length xs
  length_kept None xs = omega arith
  length_kept (Some x) xs = omega arith

  of_one_pass : (pass : PassValue) (passes : List PassValue) → count_on passes pass.lane ≡ 0 → (calls : List RecordedCall)
      → count_by (is_left (pass ∷ passes)) calls + length (filter_map (on_lane pass.lane) calls) ≤ count_by (is_left passes) calls
  of_one_pass pass passes alone [] = omega arith
  of_one_pass pass passes alone (call ∷ calls) =
      let first = sum_by-cons (λ c. one_if (is_left (pass ∷ passes) c)) call calls in
      let second = sum_by-cons (λ c. one_if (is_left passes c)) call calls in
      let kept = length_kept (on_lane pass.lane call) (filter_map (on_lane pass.lane) calls) in
      let here = one_call pass passes alone call in
      let rest = of_one_pass pass passes alone calls in
      omega (arith, first, second, kept, here, rest)

  of_all : (passes : List PassValue) → ((lane : ℕ) → count_on passes lane ≤ 1) → All (λ pass. pass.exchanges ≡ exchanges_on history pass.lane) passes
      → told passes + count_by (is_left passes) history.known.calls ≤ answered history
  of_all [] once right = omega arith
  of_all (pass ∷ passes) once right =
      let all = sum_by-cons (λ (p : PassValue). length p.exchanges) pass passes in
      let here = on_cons pass passes pass.lane ∙ ap (λ b. one_if b + count_on passes pass.lane) (eq-eqb pass.lane pass.lane refl) in
      let alone : count_on passes pass.lane ≡ 0 = omega (arith, here, once pass.lane) in
      let one = of_one_pass pass passes alone history.known.calls in
      let same = ap length (All-head (λ p. p.exchanges ≡ exchanges_on history p.lane) pass passes right) in
      let rest = of_all passes (λ lane. let more = on_cons pass passes lane in omega (arith, more, once lane)) (All-tail (λ p. p.exchanges ≡ exchanges_on history p.lane) pass passes right) in
      omega (arith, all, one, same, rest)

  pub covered : (passes : List PassValue) → told passes ≡ answered history → ((lane : ℕ) → count_on passes lane ≤ 1) → All (λ pass. pass.exchanges ≡ exchanges_on history pass.lane) passes
      → AreCovered history passes
  covered passes all once right zero call at ended = absurd cc
  covered passes all once right (suc n) call at ended = by (cases_eq (count_on passes call.lane) 0)
    where
      by : (count_on passes call.lane ≡ 0) ⊎ (count_on passes call.lane ≡ 0 → ⊥) → Any (λ pass. pass.lane ≡ call.lane) passes
      by (inl none) =
          let most = of_all passes once right in
          let left : is_left passes call ≡ true = ap (λ b. b && is_some call.«end») (eq-eqb (count_on passes call.lane) 0 none) ∙ ended in
          let one = get_or-le-sum_by (λ c. one_if (is_left passes c)) history.known.calls n call (slice_get_within history.known.calls n call at) in
          let same = ap (λ c. one_if (is_left passes c)) (get_or_from_slice_get history.known.calls n call call at) ∙ ap one_if left in
          absurd (omega (arith, most, one, same, all))
      by (inr some) = has_lane passes call.lane (omega arith)
