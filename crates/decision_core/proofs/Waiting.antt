-- The list of open calls, and what it loses.
use Rattle.std.proofs.Common.{◌≡◌, ◌≢◌, ◌⊎◌, inl, inr, ℕ, ◌+◌, ◌<◌, ◌≤◌, List, [], ◌∷◌, ◌++◌, length, take, get_or, sym, subst, ◌∙◌}
use Rattle.std.proofs.lemmas.List.{take_more, take_all}
use Rattle.decision_core.specs.Times.{IsAmong}
use Rattle.decision_core.specs.Events.{IsAdded, IsWithout}
use Rattle.decision_core.proofs.Orders.{which_part}
use Rattle.decision_core.proofs.Walk.{among_ahead, among_last}

-- the last of a list, or ahead of it
pub or_last : (xs : List ℕ) (n m : ℕ) → IsAmong (xs ++ n ∷ []) m → IsAmong xs m ⊎ (n ≡ m)
or_last xs n m among = elim (which_part xs n [] m among) [ inl ahead ↦ inl ahead | inr it ↦ elim it [ inl same ↦ inr same | inr none ↦ absurd none ] ]

pub added_same : (call n : ℕ) (left : List ℕ) → call ≡ n → IsAdded call n left left
added_same call n left same = record { keeps = λ m among. among; adds = λ other. absurd (other same); only = λ m among. inl among }

pub added_last : (call n : ℕ) (left : List ℕ) → call ≢ n → IsAdded call n left (left ++ call ∷ [])
added_last call n left other = record {
  keeps = λ m among. among_ahead left (call ∷ []) m among;
  adds = λ _. among_last left call;
  only = λ m among. elim (or_last left call m among) [ inl ahead ↦ inl ahead | inr same ↦ inr (sym same, (λ is. other (same ∙ is))) ];
}

pub added_push : (call n : ℕ) (old new : List ℕ) → new ≡ old ++ call ∷ [] → call ≢ n → IsAdded call n old new
added_push call n old new is other = subst (IsAdded call n old) (sym is) (added_last call n old other)

-- one more of a list
without_last : (n x : ℕ) (xs old new : List ℕ) → IsAdded x n old new → IsWithout n xs old → IsWithout n (xs ++ x ∷ []) new
without_last n x xs old new added without = record {
  keeps = λ m among other. elim (or_last xs x m among) [
    | inl ahead ↦ added.keeps m (without.keeps m ahead other)
    | inr same ↦ subst (IsAmong new) same (added.adds (λ is. other (sym same ∙ is)))
  ];
  only = λ m among. elim (added.only m among) [
    | inl ahead ↦ let w = without.only m ahead in (among_ahead xs (x ∷ []) m w.0, w.1)
    | inr it ↦ (subst (IsAmong (xs ++ x ∷ [])) (sym it.0) (among_last xs x), it.1)
  ];
}

pub without_more : (n i : ℕ) (xs old new : List ℕ) → i < length xs → IsAdded (get_or xs i 0) n old new → IsWithout n (take i xs) old → IsWithout n (take (i + 1) xs) new
without_more n i xs old new inside added without =
    subst (λ l. IsWithout n l new) (sym (take_more xs i 0 inside)) (without_last n (get_or xs i 0) (take i xs) old new added without)

pub without_all : (n i : ℕ) (xs left : List ℕ) → length xs ≤ i → IsWithout n (take i xs) left → IsWithout n xs left
without_all n i xs left past without = subst (λ l. IsWithout n l left) (take_all i xs past) without

pub without_none : (n : ℕ) → IsWithout n [] []
without_none n = record { keeps = λ m among other. among; only = λ m among. absurd among }
