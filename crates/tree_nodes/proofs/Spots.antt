-- where objects lie, by what a table holds
use Rattle.std.proofs.Common.{◌≡◌, ℕ, ◌+◌, ◌-◌, ◌==◌, ◌⊎◌, inl, inr, Bool, true, false, cond, List, [], ◌∷◌, ◌++◌, length, drop, Option, Some, None, Contains, refl, sym, ap, ◌∙◌, subst, arith, length-append}
use Rattle.std.specs.Prelude.{All, IsSome, option_and_then, option_map}
use Rattle.std.proofs.lemmas.Bool.{ne_eqb}
use Rattle.std.proofs.Math.Seq.{drop-append_seam}
use Rattle.std.proofs.lemmas.List.Elements.{All-contains}
use Rattle.std.specs.FinMap as map
use Rattle.tree_nodes.specs.declared.node.Node.{Node}
use Rattle.tree_nodes.specs.Tree.{Names, Tree, entry_of}
use Rattle.tree_nodes.specs.Place.{node_in, object_above}
use Rattle.tree_nodes.specs.Spots.{own_name, Spot, spot_of, AreOthersSame}
use Rattle.tree_nodes.specs.Walk.{Steps, Held, Holds, walk, node_of, seen, IsTree}
use Rattle.tree_nodes.specs.Table.{Table, child, held}
use Rattle.tree_nodes.specs.Shown.{IsTableOf}
use Rattle.tree_nodes.specs.Changes.{HeldBut}
use Rattle.tree_nodes.proofs.Chains.{mapped, same_some}
use Rattle.tree_nodes.proofs.Found.{ended}
use Rattle.tree_nodes.proofs.Walks.{last_step, lies_at}
use Rattle.tree_nodes.proofs.Looking.{entry_held, no_entry, above_is, object_in_is}
use Rattle.tree_nodes.proofs.Methods.{one_tree}

own_name_join : (p : Names) (x : List ℕ) → own_name (p ++ x ∷ []) ≡ x ∷ []
own_name_join p x = ap (λ n. drop n (p ++ x ∷ [])) (one_less (length (p ++ x ∷ [])) (length p) (length-append p (x ∷ []))) ∙ drop-append_seam p (x ∷ []) where
  one_less : (m n : ℕ) → m ≡ n + 1 → m - 1 ≡ n
  one_less m n e = omega arith

-- what is shown of what a table holds: the root's name isn't
abbrev pub shown : ℕ → Held → Spot
shown o h = (h.0, cond (o == 0) [] (h.1 ∷ []), h.2)

module _ (t : Tree) (c : Steps) (v : Holds) (tree : IsTree c v) (agrees : (path : Names) → map.get t path ≡ seen c v path) where
  -- the node of a name that leads to an object
  pub named_node : (a : ℕ) (x : List ℕ) (o : ℕ) → c a x ≡ Some o → (n : Node) × (node_in t a x ≡ Some n) × (n.object ≡ o)
  named_node a x o leads = mapped (λ (n : Node). n.object) (node_in t a x) o (sym (object_in_is t c v tree agrees a x) ∙ leads)

  name_is : (o : ℕ) (p : Names) (h : Held) → walk c 0 p ≡ Some o → v o ≡ Some h → own_name p ≡ cond (o == 0) [] (h.1 ∷ [])
  name_is o p h leads e = go (ended p) where
    go : (p ≡ []) ⊎ ((front : Names) × (last : List ℕ) × (p ≡ front ++ last ∷ [])) → own_name p ≡ cond (o == 0) [] (h.1 ∷ [])
    go (inl none) =
        let zero : 0 ≡ o = same_some 0 o (ap (walk c 0) (sym none) ∙ leads) in
        ap own_name none ∙ ap (λ k. cond (k == 0) [] (h.1 ∷ [])) zero
    go (inr some) =
        let last = last_step c 0 some.0 some.1 o (ap (walk c 0) (sym some.2) ∙ leads) in
        let down = tree.down last.directory some.1 o last.ends in
        let same : down.0 ≡ h = same_some down.0 h (sym down.1 ∙ e) in
        let below : (o == 0) ≡ false = ne_eqb o 0 (λ z. tree.above last.directory some.1 (last.ends ∙ ap Some z)) in
        ap own_name some.2 ∙ own_name_join some.0 some.1 ∙ ap (λ x. x ∷ []) (sym down.3 ∙ ap (λ (x : Held). x.1) same) ∙ ap (λ b. cond b [] (h.1 ∷ [])) (sym below)

  pub spot_is : (o : ℕ) → spot_of t o ≡ option_map (shown o) (v o)
  spot_is o = go (v o) refl where
    go : (s : Option Held) → v o ≡ s → spot_of t o ≡ option_map (shown o) (v o)
    go None e =
        ap (option_and_then {T = Names × Node} (λ x. option_map {T = ℕ} {U = Spot} (λ above. (above, own_name x.0, x.1)) (object_above t o))) (no_entry t c v tree agrees o e)
        ∙ sym (ap (option_map (shown o)) e)
    go (Some h) e =
        let at = entry_held t c v tree agrees o h e in
        let above : Some h.0 ≡ object_above t o = sym (ap (option_map {T = Held} (λ x. x.0)) e) ∙ above_is t c v tree agrees o in
        ap (option_and_then {T = Names × Node} (λ x. option_map {T = ℕ} {U = Spot} (λ above. (above, own_name x.0, x.1)) (object_above t o))) at.2
        ∙ ap (option_map {T = ℕ} {U = Spot} (λ a. (a, own_name at.0, h.2))) (sym above)
        ∙ ap (λ (n : Names). Some (h.0, n, h.2)) (name_is o at.0 h at.1 e)
        ∙ sym (ap (option_map (shown o)) e)

-- ---- changes

pub spots_kept : (m n : Table) (t u : Tree) → IsTableOf m t → IsTableOf n u → (o : ℕ) → held n o ≡ held m o → spot_of u o ≡ spot_of t o
spots_kept m n t u one other o kept =
    spot_is u (child n) (held n) other.table.tree other.agrees o ∙ ap (option_map (shown o)) kept ∙ sym (spot_is t (child m) (held m) one.table.tree one.agrees o)

-- ---- two trees

node_again : (o : ℕ) (s : Option Held) → option_map {T = Spot} (λ x. x.2) (option_map (shown o) s) ≡ option_map {T = Held} (λ h. h.2) s
node_again o None = refl
node_again o (Some h) = refl

-- what is shown of an object, shown twice
abbrev pub SameShown : Holds → Holds → Type 0
SameShown v w = (o : ℕ) → option_map (shown o) (v o) ≡ option_map (shown o) (w o)

first_name : (x y : List ℕ) → (x ∷ []) ≡ (y ∷ []) → x ≡ y
first_name x y e = cc

leads : (c d : Steps) (v w : Holds) → IsTree c v → IsTree d w → SameShown v w → (a : ℕ) (x : List ℕ) (o : ℕ) → c a x ≡ Some o → d a x ≡ Some o
leads c d v w one other same a x o is =
    let h = one.down a x o is in
    let not_root : o ≡ 0 → ⊥ = (λ z. one.above a x (is ∙ ap Some z)) in
    let there = mapped (shown o) (w o) (shown o h.0) (sym (same o) ∙ ap (option_map (shown o)) h.1) in
    let below : (o == 0) ≡ false = ne_eqb o 0 not_root in
    let name : there.0.1 ≡ h.0.1 = first_name there.0.1 h.0.1
    (ap (λ b. cond b [] (there.0.1 ∷ [])) (sym below) ∙ ap (λ (s : Spot). s.1) there.2 ∙ ap (λ b. cond b [] (h.0.1 ∷ [])) below) in
    let directory : there.0.0 ≡ h.0.0 = ap (λ (s : Spot). s.0) there.2 in
    let path = other.hangs o (subst IsSome (sym there.1) refl) in
    let lies = lies_at d w other path.0 o there.0 path.1 there.1 not_root in
    (λ i. d (sym (directory ∙ h.2) i) (sym (name ∙ h.3) i)) ∙ lies.ends

same_steps : (c d : Steps) (v w : Holds) → IsTree c v → IsTree d w → SameShown v w → (a : ℕ) (x : List ℕ) → c a x ≡ d a x
same_steps c d v w one other same a x = go (c a x) refl where
  none : (s : Option ℕ) → d a x ≡ s → c a x ≡ None → None ≡ s
  none None is nothing = refl
  none (Some o) is nothing = absurd (cc (sym nothing ∙ leads d c w v other one (λ z. sym (same z)) a x o is))

  go : (s : Option ℕ) → c a x ≡ s → c a x ≡ d a x
  go None is = is ∙ none (d a x) refl is
  go (Some o) is = is ∙ sym (leads c d v w one other same a x o is)

abbrev seen_by : Steps → (ℕ → Option Node) → Names → Option Node
seen_by step nodes path = option_and_then nodes (walk step 0 path)

-- where all objects lie in the same places, and are the same, the trees are
pub same_spots : (m n : Table) (t u : Tree) → IsTableOf m t → IsTableOf n u → ((o : ℕ) → spot_of t o ≡ spot_of u o) → t ≡ u
same_spots m n t u one other same =
    let same_shown : SameShown (held m) (held n) = (λ o. sym (spot_is t (child m) (held m) one.table.tree one.agrees o) ∙ same o ∙ spot_is u (child n) (held n) other.table.tree other.agrees o) in
    let nodes : (o : ℕ) → node_of (held m) o ≡ node_of (held n) o = (λ o. sym (node_again o (held m o)) ∙ ap (option_map {T = Spot} (λ x. x.2)) (same_shown o) ∙ node_again o (held n o)) in
    let steps = same_steps (child m) (child n) (held m) (held n) one.table.tree other.table.tree same_shown in
    one_tree n t u (subst (λ (z : Steps × (ℕ → Option Node)). (path : Names) → map.get t path ≡ seen_by z.0 z.1 path) (λ i. ((λ a x. steps a x i), (λ o. nodes o i))) one.agrees) other.agrees

-- so they are where that is known of all but these and those, and a table holds these and those as the other does
pub held_of_all : (m n : Table) (t u : Tree) → IsTableOf m t → IsTableOf n u → (objects others : List ℕ) → All (λ o. held m o ≡ held n o) objects → All (λ o. held m o ≡ held n o) others
    → AreOthersSame objects others t u → (o : ℕ) → spot_of t o ≡ spot_of u o
held_of_all m n t u one other objects others first second known o = elim (known o) [
  | inl here ↦ by_table (All-contains (λ x. held m x ≡ held n x) objects o first here)
  | inr away ↦ elim away [
    | inl there ↦ by_table (All-contains (λ x. held m x ≡ held n x) others o second there)
    | inr same ↦ same
  ]
] where
  by_table : held m o ≡ held n o → spot_of t o ≡ spot_of u o
  by_table e = spot_is t (child m) (held m) one.table.tree one.agrees o ∙ ap (option_map (shown o)) e ∙ sym (spot_is u (child n) (held n) other.table.tree other.agrees o)
