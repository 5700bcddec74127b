-- what keeps a tree well formed
use Rattle.std.proofs.Common.{◌≡◌, ℕ, ◌⊎◌, inl, inr, true, false, cond, eq-eqb, List, [], ◌∷◌, ◌++◌, length, drop, Some, None, refl, sym, ap, ◌∙◌, subst, arith, append_assoc, append-nil, length-append}
use Rattle.std.specs.Prelude.{IsSome, ◌==◌}
use Rattle.std.specs.FinMap as map
use Rattle.tree_nodes.specs.declared.node.Node.{Node}
use Rattle.tree_nodes.specs.declared.node.Content.TheVariants.{Directory}
use Rattle.tree_nodes.specs.Tree.{Names, Tree, path_cmp, opening}
use Rattle.tree_nodes.specs.Moved.{is_from}
use Rattle.tree_nodes.proofs.Entries.{path_total}
use Rattle.tree_nodes.proofs.Soundness.{ahead_same}
use Rattle.tree_handles.specs.Kind.{is_directory}
use Rattle.tree_laws.specs.Renaming.{IsOutside, HasMoved}
use Rattle.tree_laws.specs.WellFormed.{IsDirectoryAt, IsWellFormed}
use Rattle.tree_nodes.proofs.Chains.{same_some, differ, decide, absent, value_of}
use Rattle.tree_nodes.proofs.Found.{tied, ended, parts_of, from_front, some_found, bare_below}
use Rattle.tree_laws.proofs.Changing.{IsChild, Replaces, Grows, Shrinks, Moves}
use Rattle.tree_laws.proofs.Staying.{get_left}
use Rattle.tree_nodes.proofs.MovedLaw.{cancel}
use Rattle.file_tree.proofs.StartStep.{is_or_isnt, put_there, get_put}

-- ---- paths and directories

child_is : (directory : Names) (name : List ℕ) → [] ≡ directory ++ name ∷ [] → ⊥
child_is [] name e = absurd (cc)
child_is (x ∷ directory) name e = absurd (cc)

root_apart : (path : Names) → IsChild path → [] ≡ path → ⊥
root_apart path child e = child_is child.directory child.name (e ∙ child.parts)

root_outside : (path : Names) → IsChild path → IsOutside path []
root_outside [] child below e = root_apart [] child refl
root_outside (x ∷ path) child below e = absurd (cc)

pub stands_there : (tree : Tree) (path : Names) → IsDirectoryAt tree path → IsSome (map.get tree path)
stands_there tree path d = subst IsSome (sym d.stands) refl

pub no_directory_at : (tree : Tree) (path : Names) (node : Node) → IsDirectoryAt tree path → map.get tree path ≡ Some node → is_directory node.content ≡ false → ⊥
no_directory_at tree path node d there other =
    let same : record { object = d.object; content = Directory } ≡ node = same_some (record { object = d.object; content = Directory }) node (sym d.stands ∙ there) in
    differ (is_directory node.content) (ap (λ (n : Node). is_directory n.content) (sym same)) other

as_it_was : (before after : Tree) (p q : Names) → map.get after q ≡ map.get before p → IsDirectoryAt before p → IsDirectoryAt after q
as_it_was before after p q e d = record { object = d.object; stands = e ∙ d.stands }

-- ---- a node that is put

module _ (tree : Tree) (k : Names) (v : Node) (formed : IsWellFormed tree) where
  -- in place of a node of the same object, which is no directory
  module _ (what : Replaces tree k v) where
    stood_before : (p : Names) (x : Node) → map.get (map.insert tree k v) p ≡ Some x → (y : Node) × (map.get tree p ≡ Some y) × (y.object ≡ x.object)
    stood_before p x there = go (is_or_isnt p k) where
      go : (p ≡ k) ⊎ (p ≡ k → ⊥) → (y : Node) × (map.get tree p ≡ Some y) × (y.object ≡ x.object)
      go (inl same) = (what.old, ap (map.get tree) same ∙ what.stood, what.object ∙ ap (λ (n : Node). n.object) (same_some v x (sym (put_there tree k v p same) ∙ there)))
      go (inr other) = (x, sym (get_put tree k p v other) ∙ there, refl)

    not_the_directory : (p : Names) → IsDirectoryAt tree p → p ≡ k → ⊥
    not_the_directory p d same = no_directory_at tree k what.old (subst (IsDirectoryAt tree) same d) what.stood what.no_directory

    pub formed_replaced : IsWellFormed (map.insert tree k v)
    formed_replaced = record {
      root = get_put tree k [] v (not_the_directory [] (record { object = 0; stands = formed.root })) ∙ formed.root;
      parents = λ path name there.
          let now = value_of _ there in
          let was = stood_before (path ++ name ∷ []) now.0 now.1 in
          let d = formed.parents path name (subst IsSome (sym was.1) refl) in
          as_it_was tree (map.insert tree k v) path path (get_put tree k path v (not_the_directory path d)) d;
      objects = λ p q x y at_p at_q same.
          let a = stood_before p x at_p in
          let b = stood_before q y at_q in
          formed.objects p q a.0 b.0 a.1 b.1 (a.2 ∙ same ∙ sym b.2);
    }

  -- at a name that is absent
  module _ (what : Grows tree k v) where
    not_taken : (p : Names) → IsSome (map.get tree p) → p ≡ k → ⊥
    not_taken p there same = absent _ what.free (subst (λ (z : Names). IsSome (map.get tree z)) same there)

    pub unused : (p : Names) (x : Node) → map.get tree p ≡ Some x → x.object ≡ v.object → ⊥
    unused p x there same = absent _ what.new (some_found tree (λ e. e.1.object == v.object) p x there (eq-eqb x.object v.object same))

    is_new : (p : Names) (x : Node) → p ≡ k → map.get (map.insert tree k v) p ≡ Some x → v.object ≡ x.object
    is_new p x same there = ap (λ (n : Node). n.object) (same_some v x (sym (put_there tree k v p same) ∙ there))

    pub was_there : (p : Names) (x : Node) → (p ≡ k → ⊥) → map.get (map.insert tree k v) p ≡ Some x → map.get tree p ≡ Some x
    was_there p x other there = sym (get_put tree k p v other) ∙ there

    parent_before : (path : Names) (name : List ℕ) → IsSome (map.get (map.insert tree k v) (path ++ name ∷ [])) → IsDirectoryAt tree path
    parent_before path name there = go (is_or_isnt (path ++ name ∷ []) k) where
      go : (path ++ name ∷ [] ≡ k) ⊎ (path ++ name ∷ [] ≡ k → ⊥) → IsDirectoryAt tree path
      go (inl same) = subst (IsDirectoryAt tree) (sym (ahead_same path what.child.directory name what.child.name (same ∙ what.child.parts))) what.inside
      go (inr other) = formed.parents path name (subst IsSome (get_put tree k (path ++ name ∷ []) v other) there)

    one_path : (p q : Names) (x y : Node) → map.get (map.insert tree k v) p ≡ Some x → map.get (map.insert tree k v) q ≡ Some y → x.object ≡ y.object → p ≡ q
    one_path p q x y at_p at_q same = go (is_or_isnt p k) (is_or_isnt q k) where
      go : (p ≡ k) ⊎ (p ≡ k → ⊥) → (q ≡ k) ⊎ (q ≡ k → ⊥) → p ≡ q
      go (inl p_is) (inl q_is) = p_is ∙ sym q_is
      go (inl p_is) (inr q_isnt) = absurd (unused q y (was_there q y q_isnt at_q) (sym same ∙ sym (is_new p x p_is at_p)))
      go (inr p_isnt) (inl q_is) = absurd (unused p x (was_there p x p_isnt at_p) (same ∙ sym (is_new q y q_is at_q)))
      go (inr p_isnt) (inr q_isnt) = formed.objects p q x y (was_there p x p_isnt at_p) (was_there q y q_isnt at_q) same

    pub formed_grown : IsWellFormed (map.insert tree k v)
    formed_grown = record {
      root = get_put tree k [] v (root_apart k what.child) ∙ formed.root;
      parents = λ path name there.
          let d = parent_before path name there in
          as_it_was tree (map.insert tree k v) path path (get_put tree k path v (not_taken path (stands_there tree path d))) d;
      objects = one_path;
    }

-- ---- a node that is taken away

module _ (tree : Tree) (k : Names) (formed : IsWellFormed tree) (what : Shrinks tree k) where
  pub left : (p : Names) (x : Node) → map.get (map.remove tree k) p ≡ Some x → map.get tree p ≡ Some x
  left p x there = go (is_or_isnt p k) where
    go : (p ≡ k) ⊎ (p ≡ k → ⊥) → map.get tree p ≡ Some x
    go (inl same) =
        let gone : map.get (map.remove tree k) p ≡ None = map.get-remove path_total tree k p ∙ ap (λ b. cond b None (map.get tree p)) (tied p k same) in
        absurd (absent _ gone (subst IsSome (sym there) refl))
    go (inr other) = sym (get_left tree k p other) ∙ there

  not_bare : (path : Names) (name : List ℕ) → IsSome (map.get tree (path ++ name ∷ [])) → path ≡ k → ⊥
  not_bare path name there same = absent _ (bare_below tree k what.bare name []) (subst (λ (z : Names). IsSome (map.get tree (z ++ name ∷ []))) same there)

  pub formed_shrunk : IsWellFormed (map.remove tree k)
  formed_shrunk = record {
    root = get_left tree k [] (root_apart k what.child) ∙ formed.root;
    parents = λ path name there.
        let now = value_of _ there in
        let stood = subst IsSome (sym (left (path ++ name ∷ []) now.0 now.1)) refl in
        as_it_was tree (map.remove tree k) path path (get_left tree k path (not_bare path name stood)) (formed.parents path name stood);
    objects = λ p q x y at_p at_q same. formed.objects p q x y (left p x at_p) (left q y at_q) same;
  }

-- ---- nodes that are moved

-- a path ahead of one that is outside is outside
ahead_outside : (front path : Names) (name : List ℕ) → IsOutside front (path ++ name ∷ []) → IsOutside front path
ahead_outside front path name outside below e = outside (below ++ name ∷ []) (ap (λ (z : Names). z ++ name ∷ []) e ∙ append_assoc front below (name ∷ []))

longer : (directory : Names) (name : List ℕ) (below : Names) → directory ≡ (directory ++ name ∷ []) ++ below → ⊥
longer directory name below e = omega (arith, ap length e, length-append (directory ++ name ∷ []) below, length-append directory (name ∷ []))

module _ (tree after : Tree) (p q : Names) (formed : IsWellFormed tree) (what : Moves tree p q) (moved : HasMoved p q tree after) where
  outside_p : (x : Names) → is_from x p ≡ false → IsOutside p x
  outside_p x apart below e = differ (is_from x p) (ap (λ (z : Names). is_from z p) e ∙ from_front p below) apart

  outside_q : (x : Names) → is_from x q ≡ false → IsOutside q x
  outside_q x apart below e = differ (is_from x q) (ap (λ (z : Names). is_from z q) e ∙ from_front q below) apart

  -- where what stands came from
  abbrev pub Came : Names → Type 0
  Came x = ((r : Names) × (x ≡ q ++ r) × (map.get after x ≡ map.get tree (p ++ r))) ⊎ (IsOutside p x × IsOutside q x × (map.get after x ≡ map.get tree x))

  pub came : (x : Names) → IsSome (map.get after x) → Came x
  came x there = go (decide (is_from x q)) (decide (is_from x p)) where
    go : (is_from x q ≡ true) ⊎ (is_from x q ≡ false) → (is_from x p ≡ true) ⊎ (is_from x p ≡ false) → Came x
    go (inl from) either = let r = drop (length q) x in inl (r, parts_of x q from, ap (map.get after) (parts_of x q from) ∙ moved.along r)
    go (inr apart) (inl from) = absurd (absent _ (ap (map.get after) (parts_of x p from) ∙ moved.gone (drop (length p) x)) there)
    go (inr apart) (inr beside) = inr (outside_p x beside, outside_q x apart, moved.others x (outside_p x beside) (outside_q x apart))

  -- the target's directory stays
  directory_stays : IsDirectoryAt after what.target.directory
  directory_stays =
      let directory = what.target.directory in
      let name = what.target.name in
      let from_p : IsOutside p directory = ahead_outside p directory name (λ below e. outside_p q what.outside below (what.target.parts ∙ e)) in
      let from_q : IsOutside q directory = λ below e. longer directory name below (e ∙ ap (λ (z : Names). z ++ below) what.target.parts) in
      as_it_was tree after directory directory (moved.others directory from_p from_q) what.inside

  parent_along : (x : Names) (n : List ℕ) (r : Names) → x ++ n ∷ [] ≡ q ++ r → IsSome (map.get tree (p ++ r)) → IsDirectoryAt after x
  parent_along x n r leads there = go (ended r) where
    go : (r ≡ []) ⊎ ((front : Names) × (last : List ℕ) × (r ≡ front ++ last ∷ [])) → IsDirectoryAt after x
    go (inl none) =
        let same : what.target.directory ≡ x =
        ahead_same what.target.directory x what.target.name n (sym what.target.parts ∙ sym (append-nil q) ∙ ap (λ (t : Names). q ++ t) (sym none) ∙ sym leads) in
        subst (IsDirectoryAt after) same directory_stays
    go (inr some) =
        let same : q ++ some.0 ≡ x = ahead_same (q ++ some.0) x some.1 n (append_assoc q some.0 (some.1 ∷ []) ∙ ap (λ (t : Names). q ++ t) (sym some.2) ∙ sym leads) in
        let stood = subst (λ (z : Names). IsSome (map.get tree z)) (ap (λ (t : Names). p ++ t) some.2 ∙ sym (append_assoc p some.0 (some.1 ∷ []))) there in
        subst (IsDirectoryAt after) same (as_it_was tree after (p ++ some.0) (q ++ some.0) (moved.along some.0) (formed.parents (p ++ some.0) some.1 stood))

  parent_now : (x : Names) (n : List ℕ) → IsSome (map.get after (x ++ n ∷ [])) → IsDirectoryAt after x
  parent_now x n there = go (came (x ++ n ∷ []) there) where
    go : Came (x ++ n ∷ []) → IsDirectoryAt after x
    go (inl c) = parent_along x n c.0 c.1 (subst IsSome c.2 there)
    go (inr c) = as_it_was tree after x x (moved.others x (ahead_outside p x n c.0) (ahead_outside q x n c.1)) (formed.parents x n (subst IsSome c.2 there))

  one_place : (x y : Names) (a b : Node) → map.get after x ≡ Some a → map.get after y ≡ Some b → a.object ≡ b.object → x ≡ y
  one_place x y a b at_x at_y same = go (came x (subst IsSome (sym at_x) refl)) (came y (subst IsSome (sym at_y) refl)) where
    go : Came x → Came y → x ≡ y
    go (inl c) (inl d) =
        let origins = formed.objects (p ++ c.0) (p ++ d.0) a b (sym c.2 ∙ at_x) (sym d.2 ∙ at_y) same in
        c.1 ∙ ap (λ (t : Names). q ++ t) (cancel p c.0 d.0 origins) ∙ sym d.1
    go (inl c) (inr d) = absurd (d.0 c.0 (sym (formed.objects (p ++ c.0) y a b (sym c.2 ∙ at_x) (sym d.2 ∙ at_y) same)))
    go (inr c) (inl d) = absurd (c.0 d.0 (formed.objects x (p ++ d.0) a b (sym c.2 ∙ at_x) (sym d.2 ∙ at_y) same))
    go (inr c) (inr d) = formed.objects x y a b (sym c.2 ∙ at_x) (sym d.2 ∙ at_y) same

  pub formed_moved : IsWellFormed after
  formed_moved = record {
    root = moved.others [] (root_outside p what.source) (root_outside q what.target) ∙ formed.root;
    parents = parent_now;
    objects = one_place;
  }

-- ---- the opening tree

pub only_root : (p : Names) (x : Node) → map.get opening p ≡ Some x → p ≡ []
unfolding opening
only_root p x there = go (is_or_isnt p []) where
  go : (p ≡ []) ⊎ (p ≡ [] → ⊥) → p ≡ []
  go (inl same) = same
  go (inr other) = absurd (absent _ (get_put map.empty [] p (record { object = 0; content = Directory }) other ∙ map.get-empty path_cmp p) (subst IsSome (sym there) refl))

pub formed_opening : IsWellFormed opening
unfolding opening
formed_opening = record {
  root = put_there map.empty [] (record { object = 0; content = Directory }) [] refl;
  parents = λ path name there.
      let now = value_of _ there in
      absurd (child_is path name (sym (only_root (path ++ name ∷ []) now.0 now.1)));
  objects = λ p q x y at_p at_q same. only_root p x at_p ∙ sym (only_root q y at_q);
}
