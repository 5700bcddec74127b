-- what stands in a tree, by its steps
use Rattle.std.proofs.Common.{◌≡◌, ℕ, ◌+◌, ◌-◌, ◌==◌, ◌⊎◌, inl, inr, true, false, List, [], ◌∷◌, ◌++◌, length, take, Option, Some, None, refl, sym, ap, ◌∙◌, subst, arith, eq-eqb, length-append}
use Rattle.std.specs.Prelude.{IsSome, option_and_then, option_map}
use Rattle.std.proofs.lemmas.Bool.{eqb-true}
use Rattle.std.proofs.Math.Seq.{take-append_seam}
use Rattle.std.specs.FinMap as map
use Rattle.tree_nodes.specs.declared.node.Node.{Node}
use Rattle.tree_nodes.specs.Tree.{Names, Tree, entry_of, is_bare, parent}
use Rattle.tree_nodes.specs.Walk.{Steps, Held, Holds, walk, node_of, seen, IsTree}
use Rattle.tree_nodes.specs.Place.{node_in, object_above}
use Rattle.tree_nodes.specs.Numbered.{IsNumbered}
use Rattle.tree_nodes.proofs.Chains.{chained, mapped, same_some, value_of, isnt, absent}
use Rattle.tree_nodes.proofs.Found.{ended, found_stands, found_passes, some_found, bare_below, bare_of_nothing}
use Rattle.tree_nodes.proofs.Walks.{walk_on, walk_last, last_step, once, one_path, reached_held, no_child}

pub parent_join : (p : Names) (x : List ℕ) → parent (p ++ x ∷ []) ≡ p
parent_join p x = ap (λ n. take n (p ++ x ∷ [])) (one_less (length (p ++ x ∷ [])) (length p) (length-append p (x ∷ []))) ∙ take-append_seam p (x ∷ []) where
  one_less : (m n : ℕ) → m ≡ n + 1 → m - 1 ≡ n
  one_less m n e = omega arith

module _ (t : Tree) (c : Steps) (v : Holds) (tree : IsTree c v) (agrees : (path : Names) → map.get t path ≡ seen c v path) where
  pub number_of : (o : ℕ) (n : Node) → node_of v o ≡ Some n → n.object ≡ o
  number_of o n e = let h = mapped (λ (h : Held). h.2) (v o) n e in ap (λ (x : Node). x.object) (sym h.2) ∙ tree.numbered o h.0 h.1

  pub stands : (p : Names) (n : Node) → map.get t p ≡ Some n → (walk c 0 p ≡ Some n.object) × (node_of v n.object ≡ Some n)
  stands p n e =
      let at = chained (node_of v) (walk c 0 p) n (sym (agrees p) ∙ e) in
      let number : n.object ≡ at.0 = number_of at.0 n at.2 in
      (at.1 ∙ ap Some (sym number), ap (node_of v) number ∙ at.2)

  pub reached : (o : ℕ) (e : Names × Node) → entry_of t o ≡ Some e → (walk c 0 e.0 ≡ Some o) × (node_of v o ≡ Some e.1)
  reached o e is =
      let number : e.1.object ≡ o = eqb-true e.1.object o (found_passes t (λ x. x.1.object == o) e is) in
      let at = stands e.0 e.1 (found_stands t (λ x. x.1.object == o) e is) in
      (at.0 ∙ ap Some number, ap (node_of v) (sym number) ∙ at.1)

  pub shows : (p : Names) (o : ℕ) (n : Node) → walk c 0 p ≡ Some o → node_of v o ≡ Some n → map.get t p ≡ Some n
  shows p o n leads is = agrees p ∙ ap (option_and_then (node_of v)) leads ∙ is

  pub entry_is : (p : Names) (o : ℕ) (n : Node) → walk c 0 p ≡ Some o → node_of v o ≡ Some n → entry_of t o ≡ Some (p, n)
  entry_is p o n leads is =
      let found = value_of _ (some_found t (λ x. x.1.object == o) p n (shows p o n leads is) (eq-eqb n.object o (number_of o n is))) in
      let at = reached o found.0 found.1 in
      let path : found.0.0 ≡ p = one_path c (once c v tree) found.0.0 p o at.0 leads in
      let node : found.0.1 ≡ n = same_some found.0.1 n (sym at.1 ∙ is) in
      found.1 ∙ (λ i. Some (path i, node i))

  pub entry_at : (p : Names) (n : Node) → map.get t p ≡ Some n → entry_of t n.object ≡ Some (p, n)
  entry_at p n e = let at = stands p n e in entry_is p n.object n at.0 at.1

  pub no_entry : (o : ℕ) → v o ≡ None → entry_of t o ≡ None
  no_entry o e = go (entry_of t o) refl where
    go : (s : Option (Names × Node)) → entry_of t o ≡ s → s ≡ None
    go None is = refl
    go (Some x) is = let at = reached o x is in absurd (cc (at.1, ap (option_map {T = Held} (λ h. h.2)) e))

  pub entry_held : (o : ℕ) (h : Held) → v o ≡ Some h → (p : Names) × (walk c 0 p ≡ Some o) × (entry_of t o ≡ Some (p, h.2))
  entry_held o h e =
      let path = tree.hangs o (subst IsSome (sym e) refl) in
      (path.0, path.1, entry_is path.0 o h.2 path.1 (ap (option_map {T = Held} (λ x. x.2)) e))

  -- what stands is held
  pub held_of : (o : ℕ) (e : Names × Node) → entry_of t o ≡ Some e → (h : Held) × (v o ≡ Some h) × (h.2 ≡ e.1)
  held_of o e is = mapped (λ (h : Held). h.2) (v o) e.1 (reached o e is).1

  pub node_is : (o : ℕ) → node_of v o ≡ option_map {T = Names × Node} (λ e. e.1) (entry_of t o)
  node_is o = go (v o) refl where
    go : (s : Option Held) → v o ≡ s → node_of v o ≡ option_map {T = Names × Node} (λ e. e.1) (entry_of t o)
    go None e = ap (option_map {T = Held} (λ x. x.2)) e ∙ sym (ap (option_map {T = Names × Node} (λ x. x.1)) (no_entry o e))
    go (Some h) e = ap (option_map {T = Held} (λ x. x.2)) e ∙ sym (ap (option_map {T = Names × Node} (λ x. x.1)) (entry_held o h e).2)

  pub node_in_is : (o : ℕ) (name : List ℕ) → option_and_then (node_of v) (c o name) ≡ node_in t o name
  node_in_is o name = go (v o) refl where
    go : (s : Option Held) → v o ≡ s → option_and_then (node_of v) (c o name) ≡ node_in t o name
    go None e =
        ap (option_and_then (node_of v)) (no_child c v tree o name e) ∙ sym (ap (option_and_then {T = Names × Node} (λ x. map.get t (x.0 ++ name ∷ []))) (no_entry o e))
    go (Some h) e =
        let at = entry_held o h e in
        ap (option_and_then (node_of v)) (sym (walk_last c 0 at.0 name o at.1)) ∙ sym (agrees (at.0 ++ name ∷ []))
        ∙ sym (ap (option_and_then {T = Names × Node} (λ x. map.get t (x.0 ++ name ∷ []))) at.2)

  -- the object that a name leads to is that of its node
  pub object_in_is : (o : ℕ) (name : List ℕ) → c o name ≡ option_map {T = Node} (λ n. n.object) (node_in t o name)
  object_in_is o name = go (c o name) refl where
    go : (s : Option ℕ) → c o name ≡ s → c o name ≡ option_map {T = Node} (λ n. n.object) (node_in t o name)
    go None e = e ∙ ap (option_map {T = Node} (λ n. n.object)) (sym (ap (option_and_then (node_of v)) e) ∙ node_in_is o name)
    go (Some next) e =
        let h = tree.down o name next e in
        let node : node_of v next ≡ Some h.0.2 = ap (option_map {T = Held} (λ x. x.2)) h.1 in
        e ∙ ap Some (sym (tree.numbered next h.0 h.1))
        ∙ ap (option_map {T = Node} (λ n. n.object)) (sym node ∙ sym (ap (option_and_then (node_of v)) e) ∙ node_in_is o name)

  -- the place of a name's node
  pub place_is : (o : ℕ) (name : List ℕ) → option_and_then (λ n. entry_of t n.object) (node_in t o name)
      ≡ option_and_then {T = Names × Node} (λ e. option_map {T = Node} (λ n. (e.0 ++ name ∷ [], n)) (map.get t (e.0 ++ name ∷ []))) (entry_of t o)
  place_is o name = go (entry_of t o) where
    at : (e : Names × Node) (s : Option Node) → map.get t (e.0 ++ name ∷ []) ≡ s → option_and_then (λ n. entry_of t n.object) s ≡ option_map {T = Node} (λ n. (e.0 ++ name ∷ [], n)) s
    at e None is = refl
    at e (Some n) is = entry_at (e.0 ++ name ∷ []) n is

    go : (s : Option (Names × Node))
        → option_and_then (λ n. entry_of t n.object) (option_and_then {T = Names × Node} (λ e. map.get t (e.0 ++ name ∷ [])) s)
        ≡ option_and_then {T = Names × Node} (λ e. option_map {T = Node} (λ n. (e.0 ++ name ∷ [], n)) (map.get t (e.0 ++ name ∷ []))) s
    go None = refl
    go (Some e) = at e (map.get t (e.0 ++ name ∷ [])) refl

  pub stands_there : (o : ℕ) (name : List ℕ) (e : Names × Node) (n : Node) → entry_of t o ≡ Some e → node_in t o name ≡ Some n → entry_of t n.object ≡ Some (e.0 ++ name ∷ [], n)
  stands_there o name e n is at = entry_at (e.0 ++ name ∷ []) n (sym (ap (option_and_then {T = Names × Node} (λ x. map.get t (x.0 ++ name ∷ []))) is) ∙ at)

  -- the directory that an object lies in
  pub lies_in : (o : ℕ) (p : Names) (h : Held) → walk c 0 p ≡ Some o → v o ≡ Some h → walk c 0 (parent p) ≡ Some h.0
  lies_in o p h leads e = go (ended p) where
    go : (p ≡ []) ⊎ ((front : Names) × (last : List ℕ) × (p ≡ front ++ last ∷ [])) → walk c 0 (parent p) ≡ Some h.0
    go (inl none) =
        let zero : 0 ≡ o = same_some 0 o (ap (walk c 0) (sym none) ∙ leads) in
        let same : tree.root.0 ≡ h = same_some tree.root.0 h (sym tree.root.1 ∙ ap v zero ∙ e) in
        ap (λ q. walk c 0 (parent q)) none ∙ ap Some (sym tree.root.2 ∙ ap (λ (x : Held). x.0) same)
    go (inr some) =
        let last = last_step c 0 some.0 some.1 o (ap (walk c 0) (sym some.2) ∙ leads) in
        let down = tree.down last.directory some.1 o last.ends in
        let same : down.0 ≡ h = same_some down.0 h (sym down.1 ∙ e) in
        ap (λ q. walk c 0 (parent q)) some.2 ∙ ap (walk c 0) (parent_join some.0 some.1) ∙ last.leads ∙ ap Some (sym down.2 ∙ ap (λ (x : Held). x.0) same)

  pub above_is : (o : ℕ) → option_map {T = Held} (λ h. h.0) (v o) ≡ object_above t o
  above_is o = go (v o) refl where
    go : (s : Option Held) → v o ≡ s → option_map {T = Held} (λ h. h.0) s ≡ object_above t o
    go None e = sym (ap (option_and_then {T = Names × Node} (λ x. option_map {T = Node} (λ n. n.object) (map.get t (parent x.0)))) (no_entry o e))
    go (Some h) e =
        let at = entry_held o h e in
        let leads = lies_in o at.0 h at.1 e in
        let directory = reached_held c v tree (parent at.0) h.0 leads in
        let node : node_of v h.0 ≡ Some directory.0.2 = ap (option_map {T = Held} (λ x. x.2)) directory.1 in
        ap Some (sym (number_of h.0 directory.0.2 node)) ∙ ap (option_map {T = Node} (λ n. n.object)) (sym (shows (parent at.0) h.0 directory.0.2 leads node))
        ∙ sym (ap (option_and_then {T = Names × Node} (λ x. option_map {T = Node} (λ n. n.object) (map.get t (parent x.0)))) at.2)

  -- ---- what lies below

  pub bare_if : (o : ℕ) (e : Names × Node) → entry_of t o ≡ Some e → ((x : List ℕ) → c o x ≡ None) → is_bare t e.0 ≡ true
  bare_if o e is nothing =
      let at = reached o e is in
      bare_of_nothing t e.0 (λ n r.
      agrees (e.0 ++ n ∷ r) ∙ ap (option_and_then (node_of v)) (walk_on c 0 e.0 (n ∷ r) o at.0 ∙ ap (option_and_then (λ m. walk c m r)) (nothing n)))

  pub child_stands : (o : ℕ) (e : Names × Node) (x : List ℕ) (k : ℕ) → entry_of t o ≡ Some e → c o x ≡ Some k → (h : Held) × (v k ≡ Some h) × (map.get t (e.0 ++ x ∷ []) ≡ Some h.2)
  child_stands o e x k is lies =
      let at = reached o e is in
      let leads = walk_last c 0 e.0 x o at.0 ∙ lies in
      let h = tree.down o x k lies in
      (h.0, h.1, shows (e.0 ++ x ∷ []) k h.0.2 leads (ap (option_map {T = Held} (λ y. y.2)) h.1))

  pub bare_not : (o : ℕ) (e : Names × Node) (x : List ℕ) (k : ℕ) → entry_of t o ≡ Some e → c o x ≡ Some k → is_bare t e.0 ≡ false
  bare_not o e x k is lies = isnt _ (λ bare. let there = child_stands o e x k is lies in absent _ (bare_below t e.0 bare x []) (subst IsSome (sym there.2) refl))

  pub childless : (o : ℕ) (e : Names × Node) → entry_of t o ≡ Some e → is_bare t e.0 ≡ true → (x : List ℕ) → c o x ≡ None
  childless o e is bare x = go (c o x) refl where
    go : (s : Option ℕ) → c o x ≡ s → s ≡ None
    go None lies = refl
    go (Some k) lies = absurd (cc (bare, bare_not o e x k is lies))

  -- ---- of the whole tree

  pub fronts_stand : (p : Names) (x : List ℕ) → IsSome (map.get t (p ++ x ∷ [])) → IsSome (map.get t p)
  fronts_stand p x there =
      let node = value_of _ there in
      let last = last_step c 0 p x node.0.object (stands (p ++ x ∷ []) node.0 node.1).0 in
      let h = reached_held c v tree p last.directory last.leads in
      subst IsSome (sym (shows p last.directory h.0.2 last.leads (ap (option_map {T = Held} (λ y. y.2)) h.1))) refl

  pub is_numbered : IsNumbered t
  is_numbered = record {
    root = (tree.root.0.2, shows [] 0 tree.root.0.2 refl (ap (option_map {T = Held} (λ y. y.2)) tree.root.1), tree.numbered 0 tree.root.0 tree.root.1);
    once = λ p q m n a b same. one_path c (once c v tree) p q n.object ((stands p m a).0 ∙ ap Some same) (stands q n b).0;
  }
