-- two places of one list
use Rattle.std.proofs.Common.{◌≡◌, ℕ, ◌+◌, ◌<◌, ◌⊎◌, inl, inr, List, [], ◌∷◌, ◌++◌, take, drop, length, get_or, refl, sym, ap, ◌∙◌, append_assoc}
use Rattle.std.proofs.lemmas.List.{take_more, drop_more, take-append-drop}

module _ {A : Type 0} where
  first_item : {x y : A} {xs ys : List A} → x ∷ xs ≡ y ∷ ys → x ≡ y
  first_item e = cc

  other_items : {x y : A} {xs ys : List A} → x ∷ xs ≡ y ∷ ys → xs ≡ ys
  other_items e = cc

  -- the same place
  pub record IsSamePlace (xs zs : List A) (x y : A) (ys ws : List A) : Type 0 where
    pub ahead : xs ≡ zs
    pub item : x ≡ y
    pub behind : ys ≡ ws

  -- one that stands among what is ahead of the other
  abbrev pub IsAhead : List A → A → List A → Type 0
  IsAhead xs x zs = (more : List A) × (zs ≡ xs ++ x ∷ more)

  more_ahead : (xs zs : List A) (x u v : A) → u ≡ v → IsAhead xs x zs → IsAhead (u ∷ xs) x (v ∷ zs)
  more_ahead xs zs x u v same h = (h.0, cc (same, h.1))

  pub two_places : (xs zs ys ws : List A) (x y : A) → xs ++ x ∷ ys ≡ zs ++ y ∷ ws
      → IsSamePlace xs zs x y ys ws ⊎ (IsAhead xs x zs ⊎ IsAhead zs y xs)
  two_places [] [] ys ws x y e = inl (record { ahead = refl; item = first_item e; behind = other_items e })
  two_places [] (z ∷ zs) ys ws x y e = inr (inl (zs, ap (λ w. w ∷ zs) (sym (first_item e))))
  two_places (u ∷ xs) [] ys ws x y e = inr (inr (xs, ap (λ w. w ∷ xs) (first_item e)))
  two_places (u ∷ xs) (z ∷ zs) ys ws x y e = go (two_places xs zs ys ws x y (other_items e)) where
    go : IsSamePlace xs zs x y ys ws ⊎ (IsAhead xs x zs ⊎ IsAhead zs y xs)
        → IsSamePlace (u ∷ xs) (z ∷ zs) x y ys ws ⊎ (IsAhead (u ∷ xs) x (z ∷ zs) ⊎ IsAhead (z ∷ zs) y (u ∷ xs))
    go (inl h) = inl (record { ahead = cc (first_item e, h.ahead); item = h.item; behind = h.behind })
    go (inr (inl h)) = inr (inl (more_ahead xs zs x u z (first_item e) h))
    go (inr (inr h)) = inr (inr (more_ahead zs xs y z u (sym (first_item e)) h))

  -- the items as far as one more
  pub take_one_more : (xs : List A) (i : ℕ) (x : A) → i < length xs → x ≡ get_or xs i x → take (i + 1) xs ≡ take i xs ++ x ∷ []
  take_one_more xs i x in_range is = take_more xs i x in_range ∙ ap (λ y. take i xs ++ y ∷ []) (sym is)

  -- the place of an item ahead of the last one
  pub place_ahead : (all xs : List A) (i : ℕ) (x last : A) → all ≡ xs ++ last ∷ [] → i < length xs → x ≡ get_or xs i x
      → all ≡ take i xs ++ x ∷ (drop (i + 1) xs ++ last ∷ [])
  place_ahead all xs i x last whole in_range is =
      let parts : xs ≡ take i xs ++ x ∷ drop (i + 1) xs = sym (take-append-drop i xs) ∙ ap (λ ys. take i xs ++ ys) (drop_more xs i x in_range ∙ ap (λ y. y ∷ drop (i + 1) xs) (sym is)) in
      whole ∙ ap (λ ys. ys ++ last ∷ []) parts ∙ append_assoc (take i xs) (x ∷ drop (i + 1) xs) (last ∷ [])
