-- what a rename keeps of a tree
use Rattle.std.proofs.Common.{◌≡◌, ℕ, ◌+◌, ◌≤◌, ◌⊎◌, inl, inr, Bool, true, false, cond, List, [], ◌∷◌, ◌++◌, length, drop, Some, refl, sym, ap, ◌∙◌, subst, arith, append_assoc, append-nil, length-append}
use Rattle.std.specs.Prelude.{IsSome}
use Rattle.std.specs.Ordering.{eq_by_cmp, is_eq}
use Rattle.std.specs.FinMap as map
use Rattle.std.specs.FinMap.Entries as es
use Rattle.std.proofs.lemmas.Cmp.{tied_itself}
use Rattle.tree_nodes.specs.declared.node.Node.{Node}
use Rattle.tree_nodes.specs.Tree.{Names, Tree, path_cmp, same_path as is_same, is_bare}
use Rattle.tree_nodes.specs.Moved.{is_from, moved_path, moved_entries, put_all, moved}
use Rattle.tree_nodes.specs.Sound.{IsSound}
use Rattle.tree_nodes.proofs.Entries.{path_total}
use Rattle.tree_nodes.proofs.Soundness.{same_path, bare_under, ahead_same, no_node}
use Rattle.tree_nodes.proofs.Chains.{decide, differ, isnt}
use Rattle.tree_nodes.proofs.Found.{same_lists, parts_of, from_front, behind_front, ended}

-- ---- fronts of paths

longer : (d : Names) (n : List ℕ) → d ≡ d ++ n ∷ [] → ⊥
longer d n e = omega (arith, ap length e, length-append d (n ∷ []))

-- ---- where a path comes from

skipped : (x : Names) (e : Names × Node) (xs : List (Names × Node)) → IsSome (es.find path_cmp x xs) → IsSome (es.find path_cmp x (e ∷ xs))
skipped x e xs later = go (eq_by_cmp path_cmp x e.0) where
  go : (b : Bool) → IsSome (cond b (Some e.1) (es.find path_cmp x xs))
  go true = refl
  go false = later

at_once : (e : Names × Node) (xs : List (Names × Node)) → IsSome (es.find path_cmp e.0 (e ∷ xs))
at_once e xs = subst (λ r. IsSome (cond (is_eq r) (Some e.1) (es.find path_cmp e.0 xs))) (sym (tied_itself path_total e.0)) refl

record Came (p q x : Names) (xs : List (Names × Node)) : Type 0 where
  from : Names
  stood : IsSome (es.find path_cmp from xs)
  other : is_same from q ≡ false
  leads : moved_path p q from ≡ x

came : (p q x : Names) (xs : List (Names × Node)) → IsSome (es.find path_cmp x (moved_entries p q xs)) → Came p q x xs
came p q x [] there = absurd (no_node there)
came p q x (e ∷ xs) there = go (is_same e.0 q) refl there (λ h. came p q x xs h) where
  later : Came p q x xs → Came p q x (e ∷ xs)
  later c = record { from = c.from; stood = skipped c.from e xs c.stood; other = c.other; leads = c.leads }

  here : is_same e.0 q ≡ false → (eq_by_cmp path_cmp x (moved_path p q e.0) ≡ true) × (x ≡ moved_path p q e.0) ⊎ (eq_by_cmp path_cmp x (moved_path p q e.0) ≡ false)
      → IsSome (es.find path_cmp x ((moved_path p q e.0, e.1) ∷ moved_entries p q xs)) → (IsSome (es.find path_cmp x (moved_entries p q xs)) → Came p q x xs) → Came p q x (e ∷ xs)
  here o (inl same) left rest = record { from = e.0; stood = at_once e xs; other = o; leads = sym same.1 }
  here o (inr other) left rest = later (rest (subst (λ b. IsSome (cond b (Some e.1) (es.find path_cmp x (moved_entries p q xs)))) other left))

  go : (b : Bool) → is_same e.0 q ≡ b → IsSome (es.find path_cmp x (cond b (moved_entries p q xs) ((moved_path p q e.0, e.1) ∷ moved_entries p q xs)))
      → (IsSome (es.find path_cmp x (moved_entries p q xs)) → Came p q x xs) → Came p q x (e ∷ xs)
  go true i left rest = later (rest left)
  go false i left rest = here i (same_path x (moved_path p q e.0)) left rest

-- ---- where it goes

gone_to : (p q y : Names) (xs : List (Names × Node)) → IsSome (es.find path_cmp y xs) → is_same y q ≡ false → IsSome (es.find path_cmp (moved_path p q y) (moved_entries p q xs))
gone_to p q y [] there other = absurd (no_node there)
gone_to p q y (e ∷ xs) there other = go (same_path y e.0) (λ h. gone_to p q y xs h other) where
  past : (b : Bool) → IsSome (es.find path_cmp (moved_path p q y) (moved_entries p q xs))
      → IsSome (es.find path_cmp (moved_path p q y) (cond b (moved_entries p q xs) ((moved_path p q e.0, e.1) ∷ moved_entries p q xs)))
  past true later = later
  past false later = skipped (moved_path p q y) (moved_path p q e.0, e.1) (moved_entries p q xs) later

  now : y ≡ e.0 → IsSome (es.find path_cmp (moved_path p q e.0) (cond (is_same e.0 q) (moved_entries p q xs) ((moved_path p q e.0, e.1) ∷ moved_entries p q xs)))
  now same = subst (λ b. IsSome (es.find path_cmp (moved_path p q e.0) (cond b (moved_entries p q xs) ((moved_path p q e.0, e.1) ∷ moved_entries p q xs))))
      (sym (ap (λ z. is_same z q) (sym same) ∙ other)) (at_once (moved_path p q e.0, e.1) (moved_entries p q xs))

  go : (eq_by_cmp path_cmp y e.0 ≡ true) × (y ≡ e.0) ⊎ (eq_by_cmp path_cmp y e.0 ≡ false)
      → (IsSome (es.find path_cmp y xs) → IsSome (es.find path_cmp (moved_path p q y) (moved_entries p q xs)))
      → IsSome (es.find path_cmp (moved_path p q y) (moved_entries p q (e ∷ xs)))
  go (inl same) rest = subst (λ (z : Names). IsSome (es.find path_cmp (moved_path p q z) (moved_entries p q (e ∷ xs)))) (sym same.1) (now same.1)
  go (inr apart) rest = past (is_same e.0 q) (rest (subst (λ b. IsSome (cond b (Some e.1) (es.find path_cmp y xs))) apart there))

-- ---- entries put one by one

-- the tree of entries put into none is the tree of the entries
built : (xs : List (Names × Node)) → put_all map.empty xs ≡ map.from_entries {R = path_cmp} xs
built [] = refl
built (e ∷ xs) = ap (λ (t : Tree). map.insert t e.0 e.1) (built xs)

put_behind : (tree : Tree) (a b : List (Names × Node)) → put_all tree (a ++ b) ≡ put_all (put_all tree b) a
put_behind tree [] b = refl
put_behind tree (e ∷ a) b = ap (λ (t : Tree). map.insert t e.0 e.1) (put_behind tree a b)

moved_behind : (p q : Names) (a b : List (Names × Node)) → moved_entries p q (a ++ b) ≡ moved_entries p q a ++ moved_entries p q b
moved_behind p q [] b = refl
moved_behind p q (e ∷ a) b = go (is_same e.0 q) (moved_behind p q a b) where
  go : (c : Bool) → moved_entries p q (a ++ b) ≡ moved_entries p q a ++ moved_entries p q b
      → cond c (moved_entries p q (a ++ b)) ((moved_path p q e.0, e.1) ∷ moved_entries p q (a ++ b)) ≡ cond c (moved_entries p q a) ((moved_path p q e.0, e.1) ∷ moved_entries p q a) ++ moved_entries p q b
  go true h = h
  go false h = ap (λ (t : List (Names × Node)). (moved_path p q e.0, e.1) ∷ t) h

-- one more entry from the back
pub one_moved : (p q : Names) (was now : Tree) (left rest : List (Names × Node)) (e : Names × Node) (whole : Tree) → left ≡ rest ++ e ∷ []
    → put_all was (moved_entries p q left) ≡ whole → now ≡ put_all was (moved_entries p q (e ∷ [])) → put_all now (moved_entries p q rest) ≡ whole
one_moved p q was now left rest e whole is before put =
    ap (λ (t : Tree). put_all t (moved_entries p q rest)) put ∙ sym (put_behind was (moved_entries p q rest) (moved_entries p q (e ∷ [])))
    ∙ ap (put_all was) (sym (moved_behind p q rest (e ∷ [])) ∙ ap (moved_entries p q) (sym is)) ∙ before

pub get_moved : (tree : Tree) (p q x : Names) → map.get (moved tree p q) x ≡ es.find path_cmp x (moved_entries p q (map.entries tree))
get_moved tree p q x = ap (λ (t : Tree). map.get t x) (built (moved_entries p q (map.entries tree))) ∙ map.get-from_entries path_total (moved_entries p q (map.entries tree)) x

-- ---- a sound tree stays sound

-- what stands at p may go to q: a name in a directory that stands, not from p on, and with nothing below it
pub record IsMove (tree : Tree) (p q : Names) : Type 0 where
  pub directory : Names
  pub name : List ℕ
  pub parts : q ≡ directory ++ name ∷ []
  pub stands : IsSome (map.get tree directory)
  pub outside : is_from q p ≡ false
  pub bare : is_bare tree q ≡ true

goes : (tree : Tree) (p q y : Names) → IsSome (map.get tree y) → is_same y q ≡ false → IsSome (map.get (moved tree p q) (moved_path p q y))
goes tree p q y there other = subst IsSome (sym (get_moved tree p q (moved_path p q y)))
    (gone_to p q y (map.entries tree) (subst IsSome (map.get-entries tree y) there) other)

-- a path that isn't from p on stays
stays : (tree : Tree) (p q y : Names) → IsSome (map.get tree y) → is_same y q ≡ false → is_from y p ≡ false → IsSome (map.get (moved tree p q) y)
stays tree p q y there other apart = subst (λ (z : Names). IsSome (map.get (moved tree p q) z)) (ap (λ b. cond b (q ++ drop (length p) y) y) apart) (goes tree p q y there other)

-- one that is goes along
goes_along : (tree : Tree) (p q r : Names) → IsSome (map.get tree (p ++ r)) → is_same (p ++ r) q ≡ false → IsSome (map.get (moved tree p q) (q ++ r))
goes_along tree p q r there other = subst (λ (z : Names). IsSome (map.get (moved tree p q) z))
    (ap (λ b. cond b (q ++ drop (length p) (p ++ r)) (p ++ r)) (from_front p r) ∙ ap (λ (t : Names). q ++ t) (behind_front p r)) (goes tree p q (p ++ r) there other)

module _ (tree : Tree) (p q : Names) (sound : IsSound tree) (move : IsMove tree p q) where
  -- the target's directory isn't from p on, and isn't the target
  directory_outside : is_from move.directory p ≡ false
  directory_outside = isnt _ (λ e. differ (is_from q p)
      (ap (λ (z : Names). is_from z p) (move.parts ∙ ap (λ (z : Names). z ++ move.name ∷ []) (parts_of move.directory p e) ∙ append_assoc p (drop (length p) move.directory) (move.name ∷ []))
      ∙ from_front p (drop (length p) move.directory ++ move.name ∷ [])) move.outside)

  directory_other : is_same move.directory q ≡ false
  directory_other = isnt _ (λ e. longer move.directory move.name (same_lists move.directory q e ∙ move.parts))

  below_other : (r : Names) → is_same (p ++ r) q ≡ false
  below_other r = isnt _ (λ e. differ (is_from q p) (ap (λ (z : Names). is_from z p) (sym (same_lists (p ++ r) q e)) ∙ from_front p r) move.outside)

  -- a path that went along
  front_along : (x r : Names) (n : List ℕ) → IsSome (map.get tree (p ++ r)) → q ++ r ≡ x ++ n ∷ [] → IsSome (map.get (moved tree p q) x)
  front_along x r n there leads = go (ended r) where
    go : (r ≡ []) ⊎ ((front : Names) × (last : List ℕ) × (r ≡ front ++ last ∷ [])) → IsSome (map.get (moved tree p q) x)
    go (inl none) =
        let same : move.directory ≡ x = ahead_same move.directory x move.name n (sym move.parts ∙ sym (append-nil q) ∙ ap (λ (t : Names). q ++ t) (sym none) ∙ leads) in
        subst (λ (z : Names). IsSome (map.get (moved tree p q) z)) same (stays tree p q move.directory move.stands directory_other directory_outside)
    go (inr some) =
        let same : q ++ some.0 ≡ x = ahead_same (q ++ some.0) x some.1 n (append_assoc q some.0 (some.1 ∷ []) ∙ ap (λ (t : Names). q ++ t) (sym some.2) ∙ leads) in
        let stood = sound.fronts (p ++ some.0) some.1 (subst (λ (z : Names). IsSome (map.get tree z)) (ap (λ (t : Names). p ++ t) some.2 ∙ sym (append_assoc p some.0 (some.1 ∷ []))) there) in
        subst (λ (z : Names). IsSome (map.get (moved tree p q) z)) same (goes_along tree p q some.0 stood (below_other some.0))

  -- a path that stayed
  front_stayed : (x : Names) (n : List ℕ) → IsSome (map.get tree (x ++ n ∷ [])) → is_from (x ++ n ∷ []) p ≡ false → IsSome (map.get (moved tree p q) x)
  front_stayed x n there apart = stays tree p q x (sound.fronts x n there)
      (isnt _ (λ e. bare_under tree q n move.bare (subst (λ (z : Names). IsSome (map.get tree (z ++ n ∷ []))) (same_lists x q e) there)))
      (isnt _ (λ e. differ (is_from (x ++ n ∷ []) p)
      (ap (λ (z : Names). is_from z p) (ap (λ (z : Names). z ++ n ∷ []) (parts_of x p e) ∙ append_assoc p (drop (length p) x) (n ∷ [])) ∙ from_front p (drop (length p) x ++ n ∷ [])) apart))

  front_moved : (x : Names) (n : List ℕ) → IsSome (map.get (moved tree p q) (x ++ n ∷ [])) → IsSome (map.get (moved tree p q) x)
  front_moved x n there = go (came p q (x ++ n ∷ []) (map.entries tree) (subst IsSome (get_moved tree p q (x ++ n ∷ [])) there)) where
    by : (c : Came p q (x ++ n ∷ []) (map.entries tree)) → (is_from c.from p ≡ true) ⊎ (is_from c.from p ≡ false) → IsSome (map.get tree c.from) → IsSome (map.get (moved tree p q) x)
    by c (inl along) stood = front_along x (drop (length p) c.from) n (subst (λ (z : Names). IsSome (map.get tree z)) (parts_of c.from p along) stood)
        (sym (ap (λ b. cond b (q ++ drop (length p) c.from) c.from) along) ∙ c.leads)
    by c (inr apart) stood =
        let same : c.from ≡ x ++ n ∷ [] = sym (ap (λ b. cond b (q ++ drop (length p) c.from) c.from) apart) ∙ c.leads in
        front_stayed x n (subst (λ (z : Names). IsSome (map.get tree z)) same stood) (ap (λ (z : Names). is_from z p) (sym same) ∙ apart)

    go : Came p q (x ++ n ∷ []) (map.entries tree) → IsSome (map.get (moved tree p q) x)
    go c = by c (decide (is_from c.from p)) (subst IsSome (sym (map.get-entries tree c.from)) c.stood)

entries_fewer : (p q : Names) (xs : List (Names × Node)) → length (moved_entries p q xs) ≤ length xs
entries_fewer p q [] = omega arith
entries_fewer p q (e ∷ xs) = go (is_same e.0 q) (entries_fewer p q xs) where
  go : (b : Bool) → length (moved_entries p q xs) ≤ length xs → length (cond b (moved_entries p q xs) ((moved_path p q e.0, e.1) ∷ moved_entries p q xs)) ≤ length (e ∷ xs)
  go true h = omega arith
  go false h = omega arith

len_built : (xs : List (Names × Node)) → map.len (map.from_entries {R = path_cmp} xs) ≤ length xs
len_built [] = omega (arith, map.len-empty path_cmp Node)
len_built (e ∷ xs) = subst (λ n. n ≤ length (e ∷ xs)) (sym (map.len-insert path_total (map.from_entries {R = path_cmp} xs) e.0 e.1))
    (go (map.contains_key (map.from_entries {R = path_cmp} xs) e.0) (len_built xs)) where
      go : (b : Bool) → map.len (map.from_entries {R = path_cmp} xs) ≤ length xs → cond b (map.len (map.from_entries {R = path_cmp} xs)) (map.len (map.from_entries {R = path_cmp} xs) + 1) ≤ length (e ∷ xs)
      go true h = omega arith
      go false h = omega arith

pub sound_moved : (tree : Tree) (p q : Names) → IsSound tree → IsMove tree p q → IsSound (moved tree p q)
sound_moved tree p q sound move = record {
  small = omega (arith, ap (λ (t : Tree). map.len t) (built (moved_entries p q (map.entries tree))), len_built (moved_entries p q (map.entries tree)), entries_fewer p q (map.entries tree), map.len-entries tree, sound.small);
  fronts = front_moved tree p q sound move;
}
