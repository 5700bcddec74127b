-- what a change keeps of a tree, and what follows for its paths
use Rattle.std.proofs.Common.{◌≡◌, ℕ, zero, suc, ◌+◌, ◌-◌, ltb, T, length-append, ◌<◌, ◌≤◌, ◌⊎◌, inl, inr, Bool, true, false, cond, eqb, leb, eq-eqb, add-one, List, [], ◌∷◌, ◌++◌, length, get_or, take, Option, Some, None, refl, sym, ap, ◌∙◌, subst, arith}
use Rattle.std.specs.Prelude.{IsSome, All, ◌||◌, ◌&&◌, not, nat_eq}
use Rattle.std.proofs.Math.Seq.{take-append_seam}
use Rattle.std.specs.List.{list_any}
use Rattle.std.specs.Cmp.Lexicographic.{pointwise}
use Rattle.std.proofs.lemmas.Cmp.{nat_list_eq_equiv, lists_equiv}
use Rattle.std.specs.Ordering.{eq_by_cmp, is_eq}
use Rattle.std.specs.declared.cmp.Ordering.{Ordering}
use Rattle.std.specs.declared.cmp.Ordering.TheVariants.{Less, Equal, Greater}
use Rattle.std.specs.FinMap as map
use Rattle.std.specs.FinMap.Entries as es
use Rattle.std.proofs.lemmas.Cmp.{tied_itself}
use Rattle.std.proofs.Common.{lt→ltb}
use Rattle.std.proofs.lemmas.Bool.Decides.{nat_tests}
use Rattle.std.proofs.lemmas.List.{take_more, take_all, length-take-le}
use Rattle.tree_nodes.specs.declared.node.Node.{Node}
use Rattle.tree_nodes.specs.declared.node.Content.TheVariants.{Directory}
use Rattle.tree_nodes.specs.Tree.{Names, Tree, path_cmp, is_below, is_bare, opening}
use Rattle.tree_nodes.specs.Sound.{IsSound}
use Rattle.tree_nodes.specs.Files.{node_limit}
use Rattle.tree_nodes.specs.Printed.{IsShallow}
use Rattle.tree_nodes.proofs.Entries.{path_total, path_ties}

-- the last name of a path, and what stands ahead of it
pub ahead_same : (p q : Names) (m n : List ℕ) → p ++ m ∷ [] ≡ q ++ n ∷ [] → p ≡ q
ahead_same [] [] m n e = refl
ahead_same [] (y ∷ []) m n e = absurd (cc)
ahead_same [] (y ∷ z ∷ q) m n e = absurd (cc)
ahead_same (x ∷ []) [] m n e = absurd (cc)
ahead_same (x ∷ z ∷ p) [] m n e = absurd (cc)
ahead_same (x ∷ p) (y ∷ q) m n e =
    let head : x ≡ y = cc in
    let tail : p ++ m ∷ [] ≡ q ++ n ∷ [] = cc in
    let rest = ahead_same p q m n tail in
    (λ i. head i ∷ rest i)

-- whether a path ties with another, with what that means
pub same_path : (p q : Names) → (eq_by_cmp path_cmp p q ≡ true) × (p ≡ q) ⊎ (eq_by_cmp path_cmp p q ≡ false)
same_path p q = go (path_cmp p q) refl where
  go : (o : Ordering) → path_cmp p q ≡ o → (eq_by_cmp path_cmp p q ≡ true) × (p ≡ q) ⊎ (eq_by_cmp path_cmp p q ≡ false)
  go Less e = inr (ap is_eq e)
  go Equal e = inl (ap is_eq e, path_ties p q e)
  go Greater e = inr (ap is_eq e)

-- what stood still stands
stands_on : (tree : Tree) (k : Names) (v : Node) (q : Names) → IsSome (map.get tree q) → IsSome (map.get (map.insert tree k v) q)
stands_on tree k v q there = subst IsSome (sym (map.get-insert path_total tree k v q)) (go (eq_by_cmp path_cmp q k)) where
  go : (b : Bool) → IsSome (cond b (Some v) (map.get tree q))
  go true = refl
  go false = there

-- a node put where one stands, or, where there is room, at a name in a directory that stands
pub record GrowsAt (tree : Tree) (path : Names) : Type 0 where
  pub room : map.len tree < node_limit
  pub directory : Names
  pub name : List ℕ
  pub parts : path ≡ directory ++ name ∷ []
  pub stands : IsSome (map.get tree directory)

abbrev pub FitsAt : Tree → Names → Type 0
FitsAt tree path = IsSome (map.get tree path) ⊎ GrowsAt tree path

len_after : (tree : Tree) (k : Names) (v : Node) → IsSound tree → FitsAt tree k → map.len (map.insert tree k v) ≤ node_limit
len_after tree k v sound (inl there) =
    let e = map.len-insert path_total tree k v ∙ ap (λ b. cond b (map.len tree) (map.len tree + 1)) there in
    omega (arith, sound.small, e)
len_after tree k v sound (inr grows) =
    let e = map.len-insert path_total tree k v in
    let bound : (b : Bool) → cond b (map.len tree) (map.len tree + 1) ≤ node_limit = elim [ true ↦ sound.small | false ↦ omega (arith, grows.room) ] in
    subst (λ n. n ≤ node_limit) (sym e) (bound (map.contains_key tree k))

front_after : (tree : Tree) (k : Names) (v : Node) → IsSound tree → FitsAt tree k → (p : Names) (n : List ℕ)
    → IsSome (map.get (map.insert tree k v) (p ++ n ∷ [])) → IsSome (map.get (map.insert tree k v) p)
front_after tree k v sound fits p n there = stands_on tree k v p (go (same_path (p ++ n ∷ []) k)) where
  at_key : FitsAt tree k → p ++ n ∷ [] ≡ k → IsSome (map.get tree p)
  at_key (inl stood) e = sound.fronts p n (subst (λ q. IsSome (map.get tree q)) (sym e) stood)
  at_key (inr grows) e = subst (λ q. IsSome (map.get tree q)) (sym (ahead_same p grows.directory n grows.name (e ∙ grows.parts))) grows.stands

  go : (eq_by_cmp path_cmp (p ++ n ∷ []) k ≡ true) × (p ++ n ∷ [] ≡ k) ⊎ (eq_by_cmp path_cmp (p ++ n ∷ []) k ≡ false) → IsSome (map.get tree p)
  go (inl same) = at_key fits same.1
  go (inr other) = sound.fronts p n
      (subst IsSome (map.get-insert path_total tree k v (p ++ n ∷ []) ∙ ap (λ b. cond b (Some v) (map.get tree (p ++ n ∷ []))) other) there)

pub sound_put : (tree : Tree) (k : Names) (v : Node) → IsSound tree → FitsAt tree k → IsSound (map.insert tree k v)
sound_put tree k v sound fits = record { small = len_after tree k v sound fits; fronts = front_after tree k v sound fits }

-- ---- a node taken away

any_found : (test : Names → Bool) (q : Names) (xs : List (Names × Node)) → test q ≡ true → IsSome (es.find path_cmp q xs) → list_any (λ e. test e.0) xs ≡ true
any_found test q [] passes there = absurd (absent there) where
  absent : IsSome {T = Node} None → ⊥
  absent h = absurd (cc)
any_found test q (e ∷ xs) passes there = go (same_path q e.0) (λ later. any_found test q xs passes later) where
  here : (b c : Bool) → b ≡ true → (b || c) ≡ true
  here true c e = refl
  here false c e = absurd (cc)

  behind : (b c : Bool) → c ≡ true → (b || c) ≡ true
  behind true c e = refl
  behind false c e = e

  go : (eq_by_cmp path_cmp q e.0 ≡ true) × (q ≡ e.0) ⊎ (eq_by_cmp path_cmp q e.0 ≡ false) → (IsSome (es.find path_cmp q xs) → list_any (λ e. test e.0) xs ≡ true) → (test e.0 || list_any (λ e. test e.0) xs) ≡ true
  go (inl same) later = here (test e.0) _ (ap test (sym same.1) ∙ passes)
  go (inr other) later = behind (test e.0) _ (later (subst (λ b. IsSome (cond b (Some e.1) (es.find path_cmp q xs))) other there))

is_true : (b : Bool) → T b → b ≡ true
is_true true h = refl
is_true false h = absurd h

pub same_names : (p : Names) → pointwise (pointwise nat_eq) p p ≡ true
same_names p = (lists_equiv nat_list_eq_equiv).refl p

child_below : (p : Names) (n : List ℕ) → is_below (p ++ n ∷ []) p ≡ true
child_below p n = both (ltb (length p) (length (p ++ n ∷ []))) _ (is_true _ (lt→ltb _ _ (omega (arith, length-append p (n ∷ [])))))
    (ap (pointwise (pointwise nat_eq) p) (take-append_seam p (n ∷ [])) ∙ same_names p) where
      both : (b c : Bool) → b ≡ true → c ≡ true → (b && c) ≡ true
      both true c e f = f
      both false c e f = absurd (cc)

-- nothing lies below a bare path
pub bare_under : (tree : Tree) (p : Names) (n : List ℕ) → is_bare tree p ≡ true → IsSome (map.get tree (p ++ n ∷ [])) → ⊥
bare_under tree p n bare there = differ (list_any (λ e. is_below e.0 p) (map.entries tree)) bare
    (any_found (λ q. is_below q p) (p ++ n ∷ []) (map.entries tree) (child_below p n) (subst IsSome (map.get-entries tree (p ++ n ∷ [])) there)) where
      differ : (b : Bool) → not b ≡ true → b ≡ true → ⊥
      differ true e f = absurd (cc)
      differ false e f = absurd (cc)

len_less : (tree : Tree) (k : Names) → IsSound tree → map.len (map.remove tree k) ≤ node_limit
len_less tree k sound = subst (λ n. n ≤ node_limit) (sym (map.len-remove path_total tree k)) (few (map.contains_key tree k)) where
  few : (b : Bool) → cond b (map.len tree - 1) (map.len tree) ≤ node_limit
  few true = omega (arith, sound.small)
  few false = sound.small

front_left : (tree : Tree) (k : Names) → IsSound tree → is_bare tree k ≡ true → (p : Names) (n : List ℕ)
    → IsSome (map.get (map.remove tree k) (p ++ n ∷ [])) → IsSome (map.get (map.remove tree k) p)
front_left tree k sound bare p n there = go (same_path (p ++ n ∷ []) k) (subst IsSome (map.get-remove path_total tree k (p ++ n ∷ [])) there) where
  absent : IsSome {T = Node} None → ⊥
  absent h = absurd (cc)

  kept : (eq_by_cmp path_cmp p k ≡ true) × (p ≡ k) ⊎ (eq_by_cmp path_cmp p k ≡ false) → IsSome (map.get tree (p ++ n ∷ [])) → IsSome (map.get (map.remove tree k) p)
  kept (inl same) stood = absurd (bare_under tree p n (ap (is_bare tree) same.1 ∙ bare) stood)
  kept (inr other) stood = subst IsSome (sym (map.get-remove path_total tree k p ∙ ap (λ b. cond b None (map.get tree p)) other)) (sound.fronts p n stood)

  go : (eq_by_cmp path_cmp (p ++ n ∷ []) k ≡ true) × (p ++ n ∷ [] ≡ k) ⊎ (eq_by_cmp path_cmp (p ++ n ∷ []) k ≡ false)
      → IsSome (cond (eq_by_cmp path_cmp (p ++ n ∷ []) k) None (map.get tree (p ++ n ∷ []))) → IsSome (map.get (map.remove tree k) p)
  go (inl same) left = absurd (absent (subst (λ b. IsSome (cond b None (map.get tree (p ++ n ∷ [])))) same.0 left))
  go (inr other) left = kept (same_path p k) (subst (λ b. IsSome (cond b None (map.get tree (p ++ n ∷ [])))) other left)

pub sound_removed : (tree : Tree) (k : Names) → IsSound tree → is_bare tree k ≡ true → IsSound (map.remove tree k)
sound_removed tree k sound bare = record { small = len_less tree k sound; fronts = front_left tree k sound bare }

-- the opening tree
abbrev nothing : Tree
nothing = map.empty

abbrev root : Node
root = record { object = 0; content = Directory }

no_root : (p : Names) (n : List ℕ) → eq_by_cmp path_cmp (p ++ n ∷ []) [] ≡ false
no_root [] n = refl
no_root (x ∷ p) n = refl

none_stands : {A : Type 0} (o : Option A) → o ≡ None → IsSome o → ⊥
none_stands o e h = absurd (cc)

pub no_node : IsSome {T = Node} None → ⊥
no_node h = absurd (cc)

pub sound_opening : IsSound opening
unfolding opening
sound_opening = record {
  small = subst (λ n. n ≤ node_limit) (sym (map.len-insert path_total nothing [] root)) (few (map.contains_key nothing []));
  fronts = λ p n there. absurd (none_stands _ (empty_at p n) there);
} where
  few : (b : Bool) → cond b (map.len (nothing)) (map.len (nothing) + 1) ≤ node_limit
  few true = omega (arith, map.len-empty path_cmp Node)
  few false = omega (arith, map.len-empty path_cmp Node)

  empty_at : (p : Names) (n : List ℕ) → map.get (map.insert nothing [] root) (p ++ n ∷ []) ≡ None
  empty_at p n = map.get-insert path_total nothing [] root (p ++ n ∷ []) ∙ ap (λ b. cond b (Some root) (map.get nothing (p ++ n ∷ []))) (no_root p n) ∙ map.get-empty path_cmp (p ++ n ∷ [])

-- ---- paths are shorter than the number of nodes

-- how many entries pass a test of their paths
many : (Names → Bool) → List (Names × Node) → ℕ
many test [] = 0
many test (e ∷ xs) = cond (test e.0) 1 0 + many test xs

many_le : (test : Names → Bool) (xs : List (Names × Node)) → many test xs ≤ length xs
unfolding many
many_le test [] = omega arith
many_le test (e ∷ xs) = let h = many_le test xs in elim (test e.0) as (λ b. cond b 1 0 + many test xs ≤ length (e ∷ xs)) [ true ↦ omega arith | false ↦ omega arith ]

one_found : (b : Bool) (n : ℕ) → b ≡ true → 1 ≤ cond b 1 0 + n
one_found true n e = omega arith
one_found false n e = absurd (cc)

later_found : (b : Bool) (n : ℕ) → 1 ≤ n → 1 ≤ cond b 1 0 + n
later_found true n h = omega arith
later_found false n h = omega arith

-- a path that stands and passes is one of them
many_found : (test : Names → Bool) (q : Names) (xs : List (Names × Node)) → test q ≡ true → IsSome (es.find path_cmp q xs) → 1 ≤ many test xs
unfolding many
many_found test q [] passes there = absurd (no_node there)
many_found test q (e ∷ xs) passes there =
    go (same_path q e.0) (λ later. many_found test q xs passes later) where
      go : (eq_by_cmp path_cmp q e.0 ≡ true) × (q ≡ e.0) ⊎ (eq_by_cmp path_cmp q e.0 ≡ false) → (IsSome (es.find path_cmp q xs) → 1 ≤ many test xs) → 1 ≤ cond (test e.0) 1 0 + many test xs
      go (inl same) later = one_found (test e.0) (many test xs) (ap test (sym same.1) ∙ passes)
      go (inr other) later = later_found (test e.0) (many test xs) (later (subst (λ b. IsSome (cond b (Some e.1) (es.find path_cmp q xs))) other there))

-- the paths of at most so many names, and of just as many
within : ℕ → Names → Bool
within k p = leb (length p) k

exactly : ℕ → Names → Bool
exactly k p = eqb (length p) k

one_deeper : (n k : ℕ) → cond (leb n (k + 1)) 1 0 ≡ cond (leb n k) 1 0 + cond (eqb n (k + 1)) 1 0
one_deeper n k = grind (arith, nat_tests)

many_deeper : (k : ℕ) (xs : List (Names × Node)) → many (within (k + 1)) xs ≡ many (within k) xs + many (exactly (k + 1)) xs
unfolding many within exactly
many_deeper k [] = refl
many_deeper k (e ∷ xs) = let head = one_deeper (length e.0) k in let tail = many_deeper k xs in omega (arith, head, tail)

-- below a path that stands there is one of each length
deep : (tree : Tree) → IsSound tree → (k : ℕ) (p : Names) → length p ≡ k → IsSome (map.get tree p) → k + 1 ≤ many (within k) (map.entries tree)
unfolding within exactly
deep tree sound zero p e there =
    many_found (within 0) p (map.entries tree) (ap (λ n. leb n 0) e) (subst IsSome (map.get-entries tree p) there)
deep tree sound (suc k) p e there =
    let front = take k p in
    let parts : p ≡ front ++ get_or p k [] ∷ [] = sym (take_all (k + 1) p (omega arith)) ∙ take_more p k [] (omega arith) in
    let below = deep tree sound k front (length-take-le k p (omega arith)) (sound.fronts front (get_or p k []) (subst (λ q. IsSome (map.get tree q)) parts there)) in
    let here : 1 ≤ many (exactly (k + 1)) (map.entries tree) =
    many_found (exactly (k + 1)) p (map.entries tree) (eq-eqb (length p) (k + 1) (omega arith)) (subst IsSome (map.get-entries tree p) there) in
    let both = many_deeper k (map.entries tree) in
    rw (← add-one) (omega arith)

-- each entry's path stands
stands_at : (xs : List (Names × Node)) (i : ℕ) (d : Names × Node) → i < length xs → IsSome (es.find path_cmp (get_or xs i d).0 xs)
stands_at [] i d h = absurd (omega arith)
stands_at (e ∷ xs) zero d h = subst (λ r. IsSome (cond (is_eq r) (Some e.1) (es.find path_cmp e.0 xs))) (sym (tied_itself path_total e.0)) refl
stands_at (e ∷ xs) (suc i) d h = either (eq_by_cmp path_cmp (get_or xs i d).0 e.0) (stands_at xs i d (omega arith)) where
  either : (b : Bool) → IsSome (es.find path_cmp (get_or xs i d).0 xs) → IsSome (cond b (Some e.1) (es.find path_cmp (get_or xs i d).0 xs))
  either true later = refl
  either false later = later

-- so every path has fewer names than the tree has nodes
pub shallow : (tree : Tree) → IsSound tree → All IsShallow (map.entries tree)
shallow tree sound k d h =
    let p = (get_or (map.entries tree) k d).0 in
    let there = subst IsSome (sym (map.get-entries tree p)) (stands_at (map.entries tree) k d h) in
    let counted = deep tree sound (length p) p refl there in
    let bound = many_le (within (length p)) (map.entries tree) in
    omega (arith, counted, bound, map.len-entries tree, sound.small)
