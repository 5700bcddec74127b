-- what stands of an object once a node is put at a path, or a path has none
use Rattle.std.proofs.Common.{◌≡◌, ℕ, ◌⊎◌, inl, inr, true, cond, Option, Some, None, refl, sym, ap, ◌∙◌, eq-eqb, eqb-true}
use Rattle.std.specs.Prelude.{◌==◌}
use Rattle.std.specs.FinMap as map
use Rattle.tree_nodes.specs.declared.node.Node.{Node}
use Rattle.tree_nodes.specs.Tree.{Names, Tree, entry_of}
use Rattle.tree_nodes.proofs.Entries.{path_total}
use Rattle.tree_nodes.proofs.Found.{found_stands, found_passes, some_found, tied, untied}
use Rattle.tree_nodes.proofs.Chains.{same_some, value_of, empty_or, absent}
use Rattle.file_tree.proofs.StartStep.{is_or_isnt, put_there}

-- an object stands at one path at most
abbrev pub Once : Tree → Type 0
Once tree = (p q : Names) (x y : Node) → map.get tree p ≡ Some x → map.get tree q ≡ Some y → x.object ≡ y.object → p ≡ q

pub clash : {X : Type 0} {o : Option X} {x : X} → o ≡ None → o ≡ Some x → ⊥
clash e f = cc

pub stands : (tree : Tree) (k : ℕ) (e : Names × Node) → entry_of tree k ≡ Some e → map.get tree e.0 ≡ Some e.1
stands tree k e is = found_stands tree (λ x. x.1.object == k) e is

pub numbered : (tree : Tree) (k : ℕ) (e : Names × Node) → entry_of tree k ≡ Some e → e.1.object ≡ k
numbered tree k e is = eqb-true e.1.object k (found_passes tree (λ x. x.1.object == k) e is)

-- where each object stands once, what stands is what is found
pub found_at : (tree : Tree) → Once tree → (p : Names) (x : Node) (k : ℕ) → map.get tree p ≡ Some x → x.object ≡ k → entry_of tree k ≡ Some (p, x)
found_at tree once p x k there is = go (value_of _ (some_found tree (λ e. e.1.object == k) p x there (eq-eqb x.object k is))) where
  go : (g : Names × Node) × (entry_of tree k ≡ Some g) → entry_of tree k ≡ Some (p, x)
  go found =
      let g = found.0 in
      let at_g = stands tree k g found.1 in
      let path : g.0 ≡ p = once g.0 p g.1 x at_g there (numbered tree k g found.1 ∙ sym is) in
      let node : g.1 ≡ x = same_some g.1 x (sym at_g ∙ ap (map.get tree) path ∙ there) in
      found.1 ∙ ap Some (λ i. (path i, node i))

-- and what stands nowhere isn't found
pub found_nowhere : (tree : Tree) (k : ℕ) → ((p : Names) (x : Node) → map.get tree p ≡ Some x → x.object ≡ k → ⊥) → entry_of tree k ≡ None
found_nowhere tree k nowhere = empty_or _ (λ there. go (value_of _ there)) where
  go : (g : Names × Node) × (entry_of tree k ≡ Some g) → ⊥
  go found = nowhere found.0.0 found.0.1 (stands tree k found.0 found.1) (numbered tree k found.0 found.1)

pub isnt_found : (tree : Tree) (k : ℕ) → entry_of tree k ≡ None → (p : Names) (x : Node) → map.get tree p ≡ Some x → x.object ≡ k → ⊥
isnt_found tree k none p x there is = absent _ none (some_found tree (λ e. e.1.object == k) p x there (eq-eqb x.object k is))

pub put_elsewhere : (tree : Tree) (k : Names) (v : Node) (p : Names) → (p ≡ k → ⊥) → map.get (map.insert tree k v) p ≡ map.get tree p
put_elsewhere tree k v p other = map.get-insert path_total tree k v p ∙ ap (λ b. cond b (Some v) (map.get tree p)) (untied p k other)

gone_there : (tree : Tree) (k p : Names) → p ≡ k → map.get (map.remove tree k) p ≡ None
gone_there tree k p e = map.get-remove path_total tree k p ∙ ap (λ b. cond b None (map.get tree p)) (tied p k e)

gone_elsewhere : (tree : Tree) (k p : Names) → (p ≡ k → ⊥) → map.get (map.remove tree k) p ≡ map.get tree p
gone_elsewhere tree k p other = map.get-remove path_total tree k p ∙ ap (λ b. cond b None (map.get tree p)) (untied p k other)

-- ---- a node is put at a path, where its object stood at no other one, and no other object stood there

module _ (tree : Tree) (once : Once tree) (path : Names) (node : Node) (own : (p : Names) (x : Node) → map.get tree p ≡ Some x → x.object ≡ node.object → p ≡ path)
    (over : (x : Node) → map.get tree path ≡ Some x → x.object ≡ node.object) where
  abbrev after : Tree
  after = map.insert tree path node

  is_node : (p : Names) (x : Node) → p ≡ path → map.get after p ≡ Some x → node ≡ x
  is_node p x same there = same_some node x (sym (put_there tree path node p same) ∙ there)

  was : (p : Names) (x : Node) → (p ≡ path → ⊥) → map.get after p ≡ Some x → map.get tree p ≡ Some x
  was p x other there = sym (put_elsewhere tree path node p other) ∙ there

  number : (p : Names) (x : Node) → p ≡ path → map.get after p ≡ Some x → x.object ≡ node.object
  number p x same there = sym (ap (λ (m : Node). m.object) (is_node p x same there))

  pub put_once : Once after
  put_once p q x y at_p at_q same = go (is_or_isnt p path) (is_or_isnt q path) where
    go : (p ≡ path) ⊎ (p ≡ path → ⊥) → (q ≡ path) ⊎ (q ≡ path → ⊥) → p ≡ q
    go (inl p_is) (inl q_is) = p_is ∙ sym q_is
    go (inl p_is) (inr q_isnt) = absurd (q_isnt (own q y (was q y q_isnt at_q) (sym same ∙ number p x p_is at_p)))
    go (inr p_isnt) (inl q_is) = absurd (p_isnt (own p x (was p x p_isnt at_p) (same ∙ number q y q_is at_q)))
    go (inr p_isnt) (inr q_isnt) = once p q x y (was p x p_isnt at_p) (was q y q_isnt at_q) same

  -- it stands there
  pub put_own : (k : ℕ) → node.object ≡ k → entry_of after k ≡ Some (path, node)
  put_own k is = found_at after put_once path node k (put_there tree path node path refl) is

  -- and each other object stands where it stood
  pub put_others : (k : ℕ) → (node.object ≡ k → ⊥) → entry_of after k ≡ entry_of tree k
  put_others k other = go (entry_of tree k) refl where
    go : (o : Option (Names × Node)) → entry_of tree k ≡ o → entry_of after k ≡ o
    go None none = found_nowhere after k (λ p x there is. at p x there is (is_or_isnt p path)) where
      at : (p : Names) (x : Node) → map.get after p ≡ Some x → x.object ≡ k → (p ≡ path) ⊎ (p ≡ path → ⊥) → ⊥
      at p x there is (inl same) = other (sym (number p x same there) ∙ is)
      at p x there is (inr isnt) = isnt_found tree k none p x (was p x isnt there) is
    go (Some e) is =
        let here = stands tree k e is in
        let off : e.0 ≡ path → ⊥ = λ same. other (sym (over e.1 (sym (ap (map.get tree) same) ∙ here)) ∙ numbered tree k e is) in
        found_at after put_once e.0 e.1 k (put_elsewhere tree path node e.0 off ∙ here) (numbered tree k e is)

-- ---- an object's path has none

module _ (tree : Tree) (once : Once tree) (object : ℕ) (e : Names × Node) (at : entry_of tree object ≡ Some e) where
  abbrev rest : Tree
  rest = map.remove tree e.0

  stood : (p : Names) (x : Node) → map.get rest p ≡ Some x → map.get tree p ≡ Some x
  stood p x there = go (is_or_isnt p e.0) where
    go : (p ≡ e.0) ⊎ (p ≡ e.0 → ⊥) → map.get tree p ≡ Some x
    go (inl same) = absurd (clash (gone_there tree e.0 p same) there)
    go (inr other) = sym (gone_elsewhere tree e.0 p other) ∙ there

  rest_once : Once rest
  rest_once p q x y at_p at_q same = once p q x y (stood p x at_p) (stood q y at_q) same

  pub gone_own : (k : ℕ) → object ≡ k → entry_of rest k ≡ None
  gone_own k is = found_nowhere rest k (λ p x there own. clash (gone_there tree e.0 p (path p x there own)) there) where
    path : (p : Names) (x : Node) → map.get rest p ≡ Some x → x.object ≡ k → p ≡ e.0
    path p x there own = once p e.0 x e.1 (stood p x there) (stands tree object e at) (own ∙ sym is ∙ sym (numbered tree object e at))

  pub gone_others : (k : ℕ) → (object ≡ k → ⊥) → entry_of rest k ≡ entry_of tree k
  gone_others k other = go (entry_of tree k) refl where
    go : (o : Option (Names × Node)) → entry_of tree k ≡ o → entry_of rest k ≡ o
    go None none = found_nowhere rest k (λ p x there is. isnt_found tree k none p x (stood p x there) is)
    go (Some f) is =
        let here = stands tree k f is in
        let off : f.0 ≡ e.0 → ⊥ = λ same. other (sym (numbered tree object e at) ∙ ap (λ (m : Node). m.object) (same_some e.1 f.1 (sym (stands tree object e at) ∙ sym (ap (map.get tree) same) ∙ here)) ∙ numbered tree k f is) in
        found_at rest rest_once f.0 f.1 k (gone_elsewhere tree e.0 f.0 off ∙ here) (numbered tree k f is)
