-- a tree with an object less
use Rattle.std.proofs.Common.{◌≡◌, ℕ, ◌⊎◌, inl, inr, cond, List, [], ◌∷◌, ◌++◌, Option, Some, None, refl, sym, ap, ◌∙◌, subst, append-nil}
use Rattle.std.specs.Prelude.{IsSome, option_and_then, option_map}
use Rattle.std.specs.Ordering.{eq_by_cmp}
use Rattle.tree_nodes.specs.Tree.{Names, path_cmp}
use Rattle.tree_nodes.specs.Walk.{Steps, Held, Holds, walk, node_of, seen, IsTree}
use Rattle.tree_nodes.specs.Moves.{IsOutside}
use Rattle.tree_nodes.specs.Changes.{Cuts}
use Rattle.tree_nodes.proofs.Chains.{same_some}
use Rattle.tree_nodes.proofs.Found.{tied, untied}
use Rattle.tree_nodes.proofs.Walks.{walk_on, walk_last, once, one_path}
use Rattle.tree_nodes.proofs.Beside.{same_number, same_place, no_longer, beside, from_or_outside}
use Rattle.tree_nodes.proofs.Putting.{outside_same, directory_same, none_from}

module _ (c d : Steps) (v w : Holds) (tree : IsTree c v) (p : Names) (o : ℕ) (x : List ℕ) (m : ℕ)
    (leads : walk c 0 p ≡ Some o) (lies : c o x ≡ Some m) (bare : (y : List ℕ) → c m y ≡ None) (cuts : Cuts o x m c d v w) where
  stood : walk c 0 (p ++ x ∷ []) ≡ Some m
  stood = walk_last c 0 p x o leads ∙ lies

  none_below : (n : List ℕ) (r : Names) → walk c 0 ((p ++ x ∷ []) ++ n ∷ r) ≡ None
  none_below n r = walk_on c 0 (p ++ x ∷ []) (n ∷ r) m stood ∙ ap (option_and_then (λ k. walk c k r)) (bare n)

  take_here : (r : Names) → walk d 0 ((p ++ x ∷ []) ++ r) ≡ None
  take_here r = none_from d 0 (p ++ x ∷ []) r (walk_last d 0 p x o (directory_same c d v tree p o x leads cuts.others) ∙ cuts.here)

  pub isnt_root : 0 ≡ m → ⊥
  isnt_root same = tree.above o x (lies ∙ ap Some (sym same))

  -- what a path outside leads to isn't the object
  other : (path : Names) (n : ℕ) → walk c 0 path ≡ Some n → IsOutside (p ++ x ∷ []) path → n ≡ m → ⊥
  other path n is outside same = outside [] (one_path c (once c v tree) path (p ++ x ∷ []) m (is ∙ ap Some same) stood ∙ sym (append-nil (p ++ x ∷ [])))

  pub take_seen : (path : Names) → seen d w path ≡ cond (eq_by_cmp path_cmp path (p ++ x ∷ [])) None (seen c v path)
  take_seen path = go (beside path (p ++ x ∷ [])) where
    kept : (s : Option ℕ) → walk c 0 path ≡ s → IsOutside (p ++ x ∷ []) path → option_and_then (node_of w) s ≡ option_and_then (node_of v) s
    kept None e outside = refl
    kept (Some n) e outside = ap (option_map {T = Held} (λ x. x.2)) (cuts.kept n (other path n e outside))

    go : (path ≡ p ++ x ∷ []) ⊎ (((n : List ℕ) × (r : Names) × (path ≡ (p ++ x ∷ []) ++ n ∷ r)) ⊎ IsOutside (p ++ x ∷ []) path)
        → seen d w path ≡ cond (eq_by_cmp path_cmp path (p ++ x ∷ [])) None (seen c v path)
    go (inl same) =
        ap (seen d w) (same ∙ sym (append-nil (p ++ x ∷ []))) ∙ ap (option_and_then (node_of w)) (take_here [])
        ∙ sym (ap (λ b. cond b None (seen c v path)) (tied path (p ++ x ∷ []) same))
    go (inr (inl b)) =
        ap (seen d w) b.2 ∙ ap (option_and_then (node_of w)) (take_here (b.0 ∷ b.1))
        ∙ sym (ap (λ b. cond b None (seen c v path)) (untied path (p ++ x ∷ []) (λ s. no_longer (p ++ x ∷ []) b.0 b.1 (sym b.2 ∙ s)))
        ∙ ap (seen c v) b.2 ∙ ap (option_and_then (node_of v)) (none_below b.0 b.1))
    go (inr (inr outside)) =
        ap (option_and_then (node_of w)) (outside_same c d v tree p o x leads cuts.others path outside) ∙ kept (walk c 0 path) refl outside
        ∙ sym (ap (λ b. cond b None (seen c v path)) (untied path (p ++ x ∷ []) (λ s. outside [] (s ∙ sym (append-nil (p ++ x ∷ []))))))

  pub take_tree : IsTree d w
  take_tree = record {
    root = (tree.root.0, cuts.kept 0 isnt_root ∙ tree.root.1, tree.root.2);
    numbered = λ a h e. tree.numbered a h (sym (cuts.kept a (stands a h e)) ∙ e);
    down = down;
    above = above;
    hangs = hangs;
  } where
    stands : (a : ℕ) (h : Held) → w a ≡ Some h → a ≡ m → ⊥
    stands a h e same = absurd (cc (e, ap w same ∙ cuts.gone))

    down : (a : ℕ) (y : List ℕ) (n : ℕ) → d a y ≡ Some n → (h : Held) × (w n ≡ Some h) × (h.0 ≡ a) × (h.1 ≡ y)
    down a y n e = go (same_place a o y x) where
      go : ((a ≡ o) × (y ≡ x)) ⊎ (a ≡ o → y ≡ x → ⊥) → (h : Held) × (w n ≡ Some h) × (h.0 ≡ a) × (h.1 ≡ y)
      go (inl same) = absurd (cc (sym e ∙ (λ i. d (same.0 i) (same.1 i)) ∙ cuts.here))
      go (inr apart) =
          let was : c a y ≡ Some n = sym (cuts.others a y apart) ∙ e in
          let h = tree.down a y n was in
          (h.0, cuts.kept n (λ s. let twice = (once c v tree).one a o y x m (was ∙ ap Some s) lies in apart twice.0 twice.1) ∙ h.1, h.2, h.3)

    above : (a : ℕ) (y : List ℕ) → d a y ≡ Some 0 → ⊥
    above a y e = go (same_place a o y x) where
      go : ((a ≡ o) × (y ≡ x)) ⊎ (a ≡ o → y ≡ x → ⊥) → ⊥
      go (inl same) = absurd (cc (sym e ∙ (λ i. d (same.0 i) (same.1 i)) ∙ cuts.here))
      go (inr apart) = tree.above a y (sym (cuts.others a y apart) ∙ e)

    hangs : (a : ℕ) → IsSome (w a) → (path : Names) × (walk d 0 path ≡ Some a)
    hangs a there = go (same_number a m) where
      from : (path r : Names) → walk c 0 path ≡ Some a → path ≡ (p ++ x ∷ []) ++ r → (a ≡ m → ⊥) → ⊥
      from path [] is e apart = apart (same_some a m (sym is ∙ ap (walk c 0) (e ∙ append-nil (p ++ x ∷ [])) ∙ stood))
      from path (n ∷ r) is e apart = absurd (cc (sym is ∙ ap (walk c 0) e ∙ none_below n r))

      on : (path : Names) → walk c 0 path ≡ Some a → (a ≡ m → ⊥) → ((r : Names) × (path ≡ (p ++ x ∷ []) ++ r)) ⊎ IsOutside (p ++ x ∷ []) path → (q : Names) × (walk d 0 q ≡ Some a)
      on path is apart (inl f) = absurd (from path f.0 is f.1 apart)
      on path is apart (inr outside) = (path, outside_same c d v tree p o x leads cuts.others path outside ∙ is)

      go : (a ≡ m) ⊎ (a ≡ m → ⊥) → (path : Names) × (walk d 0 path ≡ Some a)
      go (inl same) = absurd (gone (w a) there (ap w same ∙ cuts.gone)) where
        gone : (s : Option Held) → IsSome s → s ≡ None → ⊥
        gone None h e = absurd (cc)
        gone (Some z) h e = absurd (cc)
      go (inr apart) =
          let path = tree.hangs a (subst IsSome (cuts.kept a apart) there) in
          on path.0 path.1 apart (from_or_outside path.0 (p ++ x ∷ []))
