-- Exchanges are the same or they aren't.
use Rattle.std.proofs.Common.{◌≡◌, ◌≢◌, ◌⊎◌, inl, inr, ℕ, List, [], ◌∷◌, refl, ap, ⊎_elim}
use Rattle.std.proofs.lemmas.Bool.{cases_eq}
use Rattle.server_passes.specs.PassValue.{ExchangeValue}

module _ {X : Type 0} (decide : (x y : X) → (x ≡ y) ⊎ (x ≢ y)) where
  same_lists : (xs ys : List X) → (xs ≡ ys) ⊎ (xs ≢ ys)
  same_lists [] [] = inl refl
  same_lists [] (y ∷ ys) = inr (λ e. cc)
  same_lists (x ∷ xs) [] = inr (λ e. cc)
  same_lists (x ∷ xs) (y ∷ ys) = by (decide x y) (same_lists xs ys)
    where
      by : (x ≡ y) ⊎ (x ≢ y) → (xs ≡ ys) ⊎ (xs ≢ ys) → (x ∷ xs ≡ y ∷ ys) ⊎ (x ∷ xs ≢ y ∷ ys)
      by (inl a) (inl b) = inl cc
      by (inl a) (inr b) = inr (λ e. b cc)
      by (inr a) other = inr (λ e. a cc)

same_bytes : (xs ys : List ℕ) → (xs ≡ ys) ⊎ (xs ≢ ys)
same_bytes = same_lists (λ x y. cases_eq x y)

same_exchange : (x y : ExchangeValue) → (x ≡ y) ⊎ (x ≢ y)
same_exchange x y = by (same_bytes x.message y.message) (same_bytes x.reply y.reply)
  where
    by : (x.message ≡ y.message) ⊎ (x.message ≢ y.message) → (x.reply ≡ y.reply) ⊎ (x.reply ≢ y.reply) → (x ≡ y) ⊎ (x ≢ y)
    by (inl a) (inl b) = inl (λ i. record { message = a i; reply = b i })
    by (inl a) (inr b) = inr (λ e. b (ap (λ z. z.reply) e))
    by (inr a) other = inr (λ e. a (ap (λ z. z.message) e))

-- what isn't otherwise is so
pub exchanges_same : (xs ys : List ExchangeValue) → ¬ (xs ≢ ys) → xs ≡ ys
exchanges_same xs ys h = ⊎_elim (λ e. e) (λ apart. absurd (h apart)) (same_lists same_exchange xs ys)
