-- one starting object more
use Rattle.std.proofs.Common.{◌≡◌, ◌≤◌, ℕ, ◌+◌, ◌⊎◌, inl, inr, Bool, true, false, cond, List, [], ◌∷◌, ◌++◌, Some, None, refl, sym, ap, ◌∙◌, subst, eq-eqb, arith}
use Rattle.std.specs.Prelude.{IsSome, ◌==◌, zero, suc, length, slice_get}
use Rattle.std.specs.Ordering.{eq_by_cmp}
use Rattle.std.specs.FinMap as map
use Rattle.std.proofs.lemmas.List.Elements.{Contains-append_left, Contains-append_right}
use Rattle.std.proofs.lemmas.List.{length-append}
use Rattle.tree_nodes.specs.declared.node.Node.{Node}
use Rattle.tree_nodes.specs.Tree.{Names, Tree, entry_of, path_cmp}
use Rattle.tree_nodes.proofs.Entries.{path_total}
use Rattle.tree_nodes.proofs.Found.{some_found, tied, untied}
use Rattle.tree_nodes.proofs.Chains.{same_some, value_of, empty_or, absent, differ}
use Rattle.tree_nodes.proofs.Soundness.{same_path}
use Rattle.tree_starts.specs.declared.object.StartObject.{StartObject}
use Rattle.file_tree.specs.StartTree.{Sits, start_node, directory_node}
use Rattle.file_tree.specs.Built.{Comes, Covered, IsFree}
use Rattle.file_tree.specs.Built.{Built}
use Rattle.file_tree.proofs.StartNames.{name_is_free, stands, numbered}

pub is_or_isnt : (p q : Names) → (p ≡ q) ⊎ (p ≡ q → ⊥)
is_or_isnt p q = go (same_path p q) where
  go : (eq_by_cmp path_cmp p q ≡ true) × (p ≡ q) ⊎ (eq_by_cmp path_cmp p q ≡ false) → (p ≡ q) ⊎ (p ≡ q → ⊥)
  go (inl tie) = inl tie.1
  go (inr other) = inr (λ e. differ _ (tied p q e) other)

pub put_there : (tree : Tree) (k : Names) (v : Node) (p : Names) → p ≡ k → map.get (map.insert tree k v) p ≡ Some v
put_there tree k v p e = map.get-insert path_total tree k v p ∙ ap (λ b. cond b (Some v) (map.get tree p)) (tied p k e)

pub get_put : (tree : Tree) (path other : Names) (node : Node) → (other ≡ path → ⊥) → map.get (map.insert tree path node) other ≡ map.get tree other
get_put tree path other node apart = map.get-insert path_total tree path node other ∙ ap (λ b. cond b (Some node) (map.get tree other)) (untied other path apart)

-- where each object stands once, what stands is what is found
pub found_at : (tree : Tree) → ((p q : Names) (x y : Node) → map.get tree p ≡ Some x → map.get tree q ≡ Some y → x.object ≡ y.object → p ≡ q)
    → (p : Names) (x : Node) → map.get tree p ≡ Some x → entry_of tree x.object ≡ Some (p, x)
found_at tree once p x there = go (value_of _ (some_found tree (λ e. e.1.object == x.object) p x there (eq-eqb x.object x.object refl))) where
  go : (g : Names × Node) × (entry_of tree x.object ≡ Some g) → entry_of tree x.object ≡ Some (p, x)
  go found =
      let g = found.0 in
      let at_g = stands tree x.object g found.1 in
      let path : g.0 ≡ p = once g.0 p g.1 x at_g there (numbered tree x.object g found.1) in
      let node : g.1 ≡ x = same_some g.1 x (sym at_g ∙ ap (map.get tree) path ∙ there) in
      found.1 ∙ ap Some (λ i. (path i, node i))

module _ (tree : Tree) (objects : List StartObject) (n : ℕ) (built : Built tree objects n) (o : StartObject) (path : Names) (above : entry_of tree o.parent ≡ Some (path, directory_node o.parent))
    (free : IsFree objects o.parent o.name) where
  abbrev at : Names
  at = path ++ o.name ∷ []

  abbrev node : Node
  node = start_node (n + 1) o

  abbrev after : Tree
  after = map.insert tree at node

  pub is_free : map.get tree at ≡ None
  is_free = name_is_free tree objects o.parent o.name (path, directory_node o.parent) built.covered above free

  not_there : (p : Names) (x : Node) → map.get tree p ≡ Some x → p ≡ at → ⊥
  not_there p x there same = absent _ is_free (subst IsSome (sym (sym (ap (map.get tree) same) ∙ there)) refl)

  stays : (p : Names) (x : Node) → map.get tree p ≡ Some x → map.get after p ≡ Some x
  stays p x there = get_put tree at p node (not_there p x there) ∙ there

  was : (p : Names) (x : Node) → (p ≡ at → ⊥) → map.get after p ≡ Some x → map.get tree p ≡ Some x
  was p x other there = sym (get_put tree at p node other) ∙ there

  is_node : (p : Names) (x : Node) → p ≡ at → map.get after p ≡ Some x → node ≡ x
  is_node p x same there = same_some node x (sym (put_there tree at node p same) ∙ there)

  pub is_new : entry_of tree (n + 1) ≡ None
  is_new = empty_or _ (λ there. go (value_of _ there)) where
    go : (g : Names × Node) × (entry_of tree (n + 1) ≡ Some g) → ⊥
    go found = omega (arith, built.few found.0.0 found.0.1 (stands tree (n + 1) found.0 found.1), numbered tree (n + 1) found.0 found.1)

  once : (p q : Names) (x y : Node) → map.get after p ≡ Some x → map.get after q ≡ Some y → x.object ≡ y.object → p ≡ q
  once p q x y at_p at_q same = go (is_or_isnt p at) (is_or_isnt q at) where
    number : (r : Names) (z : Node) → r ≡ at → map.get after r ≡ Some z → n + 1 ≡ z.object
    number r z is there = ap (λ (m : Node). m.object) (is_node r z is there)

    go : (p ≡ at) ⊎ (p ≡ at → ⊥) → (q ≡ at) ⊎ (q ≡ at → ⊥) → p ≡ q
    go (inl p_is) (inl q_is) = p_is ∙ sym q_is
    go (inl p_is) (inr q_isnt) = absurd (omega (arith, built.few q y (was q y q_isnt at_q), number p x p_is at_p, same))
    go (inr p_isnt) (inl q_is) = absurd (omega (arith, built.few p x (was p x p_isnt at_p), number q y q_is at_q, same))
    go (inr p_isnt) (inr q_isnt) = built.once p q x y (was p x p_isnt at_p) (was q y q_isnt at_q) same

  -- what was found is found
  lift : (k : ℕ) (f : Names × Node) → entry_of tree k ≡ Some f → entry_of after k ≡ Some f
  lift k f is = sym (ap (entry_of after) (numbered tree k f is)) ∙ found_at after once f.0 f.1 (stays f.0 f.1 (stands tree k f is))

  covered : Covered after (objects ++ o ∷ [])
  covered p x there = go (is_or_isnt p at) where
    new : p ≡ at → Comes after (objects ++ o ∷ []) p x
    new same =
        let is = is_node p x same there in
        let shape : x ≡ start_node x.object o = sym is ∙ ap (λ (k : ℕ). start_node k o) (ap (λ (m : Node). m.object) is) in
        let here : entry_of after x.object ≡ Some (p, x) = found_at after once p x there in
        record {
          o = o;
          listed = Contains-append_right objects (o ∷ []) o (0, omega (arith), refl);
          sits = record { path = path; above = lift o.parent _ above; here = here ∙ ap Some (λ i. (same i, shape i)) };
          at = here;
        }

    old : (p ≡ []) ⊎ Comes tree objects p x → (p ≡ []) ⊎ Comes after (objects ++ o ∷ []) p x
    old (inl root) = inl root
    old (inr c) = inr (record {
      o = c.o;
      listed = Contains-append_left objects (o ∷ []) c.o c.listed;
      sits = record { path = c.sits.path; above = lift c.o.parent _ c.sits.above; here = lift x.object _ c.sits.here };
      at = lift x.object _ c.at;
    })

    go : (p ≡ at) ⊎ (p ≡ at → ⊥) → (p ≡ []) ⊎ Comes after (objects ++ o ∷ []) p x
    go (inl same) = inr (new same)
    go (inr other) = old (built.covered p x (was p x other there))

  get_last : (xs : List StartObject) (last : StartObject) (k : ℕ) (x : StartObject) → slice_get (xs ++ last ∷ []) k ≡ Some x → (slice_get xs k ≡ Some x) ⊎ ((k ≡ length xs) × (x ≡ last))
  get_last [] last zero x is = inr (refl, cc)
  get_last [] last (suc k) x is = absurd (cc)
  get_last (y ∷ xs) last zero x is = inl is
  get_last (y ∷ xs) last (suc k) x is = go (get_last xs last k x is) where
    go : (slice_get xs k ≡ Some x) ⊎ ((k ≡ length xs) × (x ≡ last)) → (slice_get (y ∷ xs) (suc k) ≡ Some x) ⊎ ((suc k ≡ length (y ∷ xs)) × (x ≡ last))
    go (inl there) = inl there
    go (inr end) = inr (ap suc end.0, end.1)

  each : (k : ℕ) (x : StartObject) → slice_get (objects ++ o ∷ []) k ≡ Some x → Sits after (k + 1) x
  each k x is = go (get_last objects o k x is) where
    go : (slice_get objects k ≡ Some x) ⊎ ((k ≡ length objects) × (x ≡ o)) → Sits after (k + 1) x
    go (inl old) =
        let s = built.each k x old in
        record { path = s.path; above = lift x.parent _ s.above; here = lift (k + 1) _ s.here }
    go (inr last) =
        let number : n + 1 ≡ k + 1 = omega (arith, built.all, last.0) in
        let own : Sits after (n + 1) o = record { path = path; above = lift o.parent _ above; here = found_at after once at node (put_there tree at node at refl) } in
        subst (λ y. Sits after (k + 1) y) (sym last.1) (subst (λ m. Sits after m o) number own)

  pub one_more : Built after (objects ++ o ∷ []) (n + 1)
  one_more = record {
    root = lift 0 _ built.root;
    once = once;
    few = λ p x there. go p x there (is_or_isnt p at);
    covered = covered;
    each = each;
    all = omega (arith, length-append objects (o ∷ []), built.all);
    size = subst (λ m. m ≤ (n + 1) + 1) (sym (map.len-insert path_total tree at node)) (bound (map.contains_key tree at));
  } where
    go : (p : Names) (x : Node) → map.get after p ≡ Some x → (p ≡ at) ⊎ (p ≡ at → ⊥) → x.object ≤ n + 1
    go p x there (inl same) = omega (arith, ap (λ (m : Node). m.object) (is_node p x same there))
    go p x there (inr other) = omega (arith, built.few p x (was p x other there))

    bound : (b : Bool) → cond b (map.len tree) (map.len tree + 1) ≤ (n + 1) + 1
    bound true = omega (arith, built.size)
    bound false = omega (arith, built.size)
