-- Which place is found by a call's number.
use Rattle.std.proofs.Common.{◌≡◌, ◌==◌, ℕ, ◌+◌, ◌<◌, nat_lt, get_or, Bool, true, false, not, cond, List, [], ◌∷◌, ◌++◌, length, drop, position, Option, Some, None, refl, ap, sym, ◌∙◌, arith}
use Rattle.std.specs.List.{IsSplitAt, IsFirstAndRest, position_or_len}
use Rattle.std.proofs.lemmas.List.{take-append-drop}
use Rattle.std.proofs.lemmas.List.Quantifiers.{position-Some}
use Rattle.certificate.specs.declared.plan.Place.{Place}
use Rattle.certificate.specs.Plan.{call_of}

module _ {A : Type 0} (p : A → Bool) where
  one_more : (b : Bool) (rest many : ℕ) → rest < many → cond (not b) (1 + rest) 0 < 1 + many
  one_more true rest many less = omega arith
  one_more false rest many less = omega (arith, less)

  inside : (front back : List A) (x : A) → p x ≡ true → position_or_len p (front ++ x ∷ back) < length (front ++ x ∷ back)
  inside [] back x is =
      let at : position_or_len p (x ∷ back) ≡ 0 = ap (λ b. cond (not b) (1 + position_or_len p back) 0) is in
      omega (arith, at)
  inside (y ∷ front) back x is =
      let rest = position_or_len p (front ++ x ∷ back) in
      let at : position_or_len p (y ∷ (front ++ x ∷ back)) ≡ cond (not (p y)) (1 + rest) 0 = refl in
      let less = one_more (p y) rest (length (front ++ x ∷ back)) (inside front back x is) in
      omega (arith, at, less)

  some_there : (at many : ℕ) → at < many → cond (nat_lt at many) (Some at) None ≡ Some at
  some_there at many less = let is : nat_lt at many ≡ true = grind (arith, less) in ap (λ b. cond b (Some at) None) is

  found_there : (xs front back : List A) (x : A) → xs ≡ front ++ x ∷ back → p x ≡ true → position p xs ≡ None → ⊥
  found_there xs front back x parts is none =
      let at = position_or_len p (front ++ x ∷ back) in
      let some : position p (front ++ x ∷ back) ≡ Some at = some_there at (length (front ++ x ∷ back)) (inside front back x is) in
      absurd (let both : Some at ≡ None = sym some ∙ ap (position p) (sym parts) ∙ none in cc)

  here : (front back : List A) (x d : A) → get_or (front ++ x ∷ back) (length front) d ≡ x
  here [] back x d = refl
  here (y ∷ front) back x d = here front back x d

  -- what stands behind the front of a list that was split at the place that was found
  passes_there : (xs front rest back : List A) (x : A) (i : ℕ) → position p xs ≡ Some i → IsSplitAt xs i front rest → IsFirstAndRest rest x back → p x ≡ true
  passes_there xs front rest back x i found split first =
      let parts : xs ≡ front ++ x ∷ back = sym (take-append-drop i xs) ∙ ap (λ ys. ys ++ drop i xs) (sym split.1) ∙ ap (λ ys. front ++ ys) (sym split.2 ∙ first.0) in
      let at : get_or xs i x ≡ x = ap (λ ys. get_or ys i x) parts ∙ ap (λ k. get_or (front ++ x ∷ back) k x) (sym split.3) ∙ here front back x x in
      sym (ap p at) ∙ (position-Some p xs i x found).1

equal : (a b : ℕ) → (a == b) ≡ true → a ≡ b
equal a b is = grind (arith, is)

alike : (a b : ℕ) → a ≡ b → (a == b) ≡ true
alike a b is = grind (arith, is)

-- the place that is found is of the call
pub named_at : (places front rest back : List Place) (place : Place) (i n : ℕ) (found : Option ℕ) → found ≡ position (λ p. call_of p == n) places → found ≡ Some i
    → IsSplitAt places i front rest → IsFirstAndRest rest place back → call_of place ≡ n
named_at places front rest back place i n found is some split first =
    equal (call_of place) n (passes_there (λ (p : Place). call_of p == n) places front rest back place i (sym is ∙ some) split first)

-- and it is found where there is one
pub one_found : (places front back : List Place) (place : Place) (n : ℕ) (found : Option ℕ) → found ≡ position (λ p. call_of p == n) places → found ≡ None
    → places ≡ front ++ place ∷ back → call_of place ≡ n → ⊥
one_found places front back place n found is none parts named =
    found_there (λ (p : Place). call_of p == n) places front back place parts (alike (call_of place) n named) (sym is ∙ none)
