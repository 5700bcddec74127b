-- the paths of objects
use Rattle.std.proofs.Common.{◌≡◌, ℕ, ◌<◌, ◌==◌, ◌⊎◌, inl, inr, Bool, true, false, cond, List, [], ◌∷◌, ◌++◌, length, Option, Some, None, refl, sym, ap, ◌∙◌, subst, arith, append-nil, append_assoc, length-append, BTreeMap}
use Rattle.std.specs.Prelude.{IsSome, reverse, option_map}
use Rattle.std.specs.Option.{option_map_or}
use Rattle.std.specs.Ordering.{nat_cmp, eq_by_cmp, is_eq}
use Rattle.std.specs.Map.{lookup}
use Rattle.std.specs.BTreeMap as sorted
use Rattle.std.specs.BTreeMap.{IsOrdered, UpdatesBy, is_at}
use Rattle.std.specs.FinMap as map
use Rattle.std.proofs.lemmas.List.{reverse-append}
use Rattle.tree_nodes.specs.declared.node.Node.{Node}
use Rattle.tree_nodes.specs.declared.table.Entry.{Entry}
use Rattle.tree_nodes.specs.Tree.{Names, Tree, path_cmp, entry_of}
use Rattle.tree_nodes.specs.Walk.{Steps, Held, Holds, seen, IsTree}
use Rattle.tree_nodes.specs.Table.{Table, entry_at, child, held, placed}
use Rattle.tree_nodes.specs.Paths.{LiesIn}
use Rattle.tree_nodes.specs.Numbered.{IsNumbered}
use Rattle.tree_nodes.proofs.Chains.{mapped, same_some, value_of}
use Rattle.tree_nodes.proofs.Soundness.{same_path}
use Rattle.tree_nodes.proofs.Found.{found_stands, found_passes, apart}
use Rattle.tree_nodes.proofs.Walks.{lies_at, reached_held}
use Rattle.tree_nodes.proofs.Looking.{reached, stands, held_of, entry_is, entry_held}
use Rattle.tree_nodes.proofs.Climbing.{depth}
use Rattle.tree_nodes.proofs.Tables.{is_equal, looked_up, entry_held as held_entry}
use Rattle.std.proofs.lemmas.Bool.{eqb-true}
use Rattle.std.proofs.lemmas.Cmp.{tied_itself}
use Rattle.std.specs.Cmp.{nat_cmp_total}

-- ---- where an object lies

pub lies_in : (t : Tree) (c : Steps) (v : Holds) (tree : IsTree c v) (agrees : (path : Names) → map.get t path ≡ seen c v path) (o : ℕ) (e : Names × Node) (place : Option (ℕ × List ℕ))
    → place ≡ option_map {T = Held} {U = ℕ × List ℕ} (λ h. (h.0, h.1)) (v o) → entry_of t o ≡ Some e → (o ≡ 0 → ⊥) → LiesIn t e.0 place
lies_in t c v tree agrees o e place is at apart =
    let h = held_of t c v tree agrees o e at in
    let lies = lies_at c v tree e.0 o h.0 (reached t c v tree agrees o e at).0 h.1 apart in
    let directory = reached_held c v tree lies.front h.0.0 lies.leads in
    let here : LiesIn t e.0 (Some (h.0.0, h.0.1)) = ((lies.front, directory.0.2), entry_is t c v tree agrees lies.front h.0.0 directory.0.2 lies.leads (ap (option_map {T = Held} (λ z. z.2)) directory.1), lies.parts) in
    subst (LiesIn t e.0) (sym (is ∙ ap (option_map {T = Held} {U = ℕ × List ℕ} (λ z. (z.0, z.1))) h.1)) here

-- ---- up from an object, name by name

-- the names that have been gathered, from the last on, lead from the object that has been reached to the first one
pub record Gathers (t : Tree) (object at : ℕ) (names : List (List ℕ)) : Type 0 where
  pub stands : (e : Names × Node) → entry_of t object ≡ Some e → (g : Names × Node) × (entry_of t at ≡ Some g) × (e.0 ≡ g.0 ++ reverse names)

pub gather_none : (t : Tree) (object : ℕ) → Gathers t object object []
gather_none t object = record { stands = λ e is. (e, is, sym (append-nil e.0)) }

pub gather_more : (t : Tree) (object at : ℕ) (names : List (List ℕ)) (place : ℕ × List ℕ) → ((g : Names × Node) → entry_of t at ≡ Some g → LiesIn t g.0 (Some place)) → Gathers t object at names
    → Gathers t object place.0 (names ++ place.1 ∷ [])
gather_more t object at names place lies gathers = record {
  stands = λ e is.
      let g = gathers.stands e is in
      let d = lies g.0 g.1 in
      (d.0, d.1, g.2 ∙ ap (λ (z : Names). z ++ reverse names) d.2 ∙ append_assoc d.0.0 (place.1 ∷ []) (reverse names) ∙ ap (λ (z : Names). d.0.0 ++ z) (sym (reverse-append names (place.1 ∷ []))));
}

pub gather_less : (t : Tree) (object at : ℕ) (names : List (List ℕ)) (place : ℕ × List ℕ) → IsSome (entry_of t object) → ((g : Names × Node) → entry_of t at ≡ Some g → LiesIn t g.0 (Some place))
    → Gathers t object at names → depth t place.0 < depth t at
gather_less t object at names place there lies gathers =
    let e = value_of _ there in
    let g = gathers.stands e.0 e.1 in
    let d = lies g.0 g.1 in
    let up : depth t place.0 ≡ length d.0.0 = ap (λ (s : Option (Names × Node)). option_map_or {T = Names × Node} (λ e. length e.0) s 0) d.1 in
    let down : depth t at ≡ length g.0.0 = ap (λ (s : Option (Names × Node)). option_map_or {T = Names × Node} (λ e. length e.0) s 0) g.1 in
    omega (arith, up, down, ap length d.2, length-append d.0.0 (place.1 ∷ []))

pub gather_all : (t : Tree) (object at : ℕ) (names : List (List ℕ)) → IsNumbered t → at ≡ 0 → Gathers t object at names → (e : Names × Node) → entry_of t object ≡ Some e → reverse names ≡ e.0
gather_all t object at names numbered zero gathers e is =
    let g = gathers.stands e is in
    let here = found_stands t (λ x. x.1.object == at) g.0 g.1 in
    let root : g.0.0 ≡ [] = numbered.once g.0.0 [] g.0.1 numbered.root.0 here numbered.root.1 (eqb-true g.0.1.object at (found_passes t (λ x. x.1.object == at) g.0 g.1) ∙ zero ∙ sym numbered.root.2) in
    sym (g.2 ∙ ap (λ (z : Names). z ++ reverse names) root)

-- ---- all paths

abbrev pub object_at : Tree → Names → Option ℕ
object_at t p = option_map (λ n. n.object) (map.get t p)

-- what has been put is right, and what hasn't is left
pub record Collects (t : Tree) (paths : BTreeMap Names ℕ) (left : List (ℕ × Entry)) : Type 0 where
  pub ordered : IsOrdered path_cmp paths
  pub keys : (o : ℕ) → IsSome (lookup (is_at (nat_cmp o)) left) → IsSome (entry_of t o)
  pub right : (p : Names) (o : ℕ) → sorted.get path_cmp paths p ≡ Some o → object_at t p ≡ Some o
  pub rest : (p : Names) (o : ℕ) → object_at t p ≡ Some o → (sorted.get path_cmp paths p ≡ Some o) ⊎ IsSome (lookup (is_at (nat_cmp o)) left)

pub collect_none : (m : Table) (t : Tree) (paths : BTreeMap Names ℕ) → IsTree (child m) (held m) → ((path : Names) → map.get t path ≡ seen (child m) (held m) path) → paths.entries ≡ [] → IsOrdered path_cmp paths
    → Collects t paths (map.entries m)
collect_none m t paths tree agrees empty ordered = record {
  ordered = ordered;
  keys = λ o there.
      let e = value_of (entry_at m o) (subst IsSome (sym (looked_up m o)) there) in
      let at = entry_held t (child m) (held m) tree agrees o (placed e.0) (ap (option_map placed) e.1) in
      subst IsSome (sym at.2) refl;
  right = λ p o e. absurd (cc (e, ap (lookup (is_at (path_cmp p))) empty));
  rest = λ p o at.
      let n = mapped (λ (n : Node). n.object) (map.get t p) o at in
      let h = reached_held (child m) (held m) tree p n.0.object (stands t (child m) (held m) tree agrees p n.0 n.1).0 in
      let entry = held_entry m o h.0 (ap (held m) (sym n.2) ∙ h.1) in
      inr (subst IsSome (sym entry.1 ∙ looked_up m o) refl);
}

here_first : (k : ℕ) (e : Entry) (left : List (ℕ × Entry)) → IsSome (lookup (is_at (nat_cmp k)) ((k, e) ∷ left))
here_first k e left = subst (λ r. IsSome (cond (is_eq r) (Some e) (lookup (is_at (nat_cmp k)) left))) (sym (tied_itself nat_cmp_total k)) refl

pub collect_key : (t : Tree) (paths : BTreeMap Names ℕ) (k : ℕ) (e : Entry) (left : List (ℕ × Entry)) → Collects t paths ((k, e) ∷ left) → IsSome (entry_of t k)
collect_key t paths k e left collects = collects.keys k (here_first k e left)

pub collect_more : (t : Tree) (paths more : BTreeMap Names ℕ) (k : ℕ) (e : Entry) (left : List (ℕ × Entry)) (q : Names) → IsNumbered t → object_at t q ≡ Some k
    → UpdatesBy path_cmp (path_cmp q) paths more (Some k) → IsOrdered path_cmp more → Collects t paths ((k, e) ∷ left) → Collects t more left
collect_more t paths more k e left q numbered at h ordered collects = record {
  ordered = ordered;
  keys = λ o there. collects.keys o (later o (eq_by_cmp nat_cmp o k) there);
  right = λ p o there. right p o (same_path q p) there;
  rest = λ p o there. rest p o there (same_path q p) (collects.rest p o there);
} where
  later : (o : ℕ) (b : Bool) → IsSome (lookup (is_at (nat_cmp o)) left) → IsSome (cond b (Some e) (lookup (is_at (nat_cmp o)) left))
  later o true there = refl
  later o false there = there

  right : (p : Names) (o : ℕ) → (eq_by_cmp path_cmp q p ≡ true) × (q ≡ p) ⊎ (eq_by_cmp path_cmp q p ≡ false) → sorted.get path_cmp more p ≡ Some o → object_at t p ≡ Some o
  right p o (inl same) there =
      let is : k ≡ o = same_some k o (sym (h.0 p ∙ ap (λ b. cond b (Some k) (sorted.get path_cmp paths p)) same.0) ∙ there) in
      ap (object_at t) (sym same.1) ∙ at ∙ ap Some is
  right p o (inr other) there = collects.right p o (sym (h.0 p ∙ ap (λ b. cond b (Some k) (sorted.get path_cmp paths p)) other) ∙ there)

  one_object : (p : Names) (o : ℕ) → object_at t p ≡ Some o → o ≡ k → p ≡ q
  one_object p o there number =
      let m = mapped (λ (n : Node). n.object) (map.get t p) o there in
      let n = mapped (λ (n : Node). n.object) (map.get t q) k at in
      numbered.once p q m.0 n.0 m.1 n.1 (m.2 ∙ number ∙ sym n.2)

  left_one : (p : Names) (o : ℕ) → object_at t p ≡ Some o → (b : Bool) → eq_by_cmp nat_cmp o k ≡ b → IsSome (cond b (Some e) (lookup (is_at (nat_cmp o)) left))
      → (sorted.get path_cmp more p ≡ Some o) ⊎ IsSome (lookup (is_at (nat_cmp o)) left)
  left_one p o there true same is =
      let number : o ≡ k = map.nat_cmp-IsAntisymmetric o k (is_equal (nat_cmp o k) same) in
      inl (ap (sorted.get path_cmp more) (one_object p o there number) ∙ h.1 ∙ ap Some (sym number))
  left_one p o there false other is = inr is

  rest : (p : Names) (o : ℕ) → object_at t p ≡ Some o → (eq_by_cmp path_cmp q p ≡ true) × (q ≡ p) ⊎ (eq_by_cmp path_cmp q p ≡ false)
      → (sorted.get path_cmp paths p ≡ Some o) ⊎ IsSome (lookup (is_at (nat_cmp o)) ((k, e) ∷ left)) → (sorted.get path_cmp more p ≡ Some o) ⊎ IsSome (lookup (is_at (nat_cmp o)) left)
  rest p o there (inl same) s = inl (ap (sorted.get path_cmp more) (sym same.1) ∙ h.1 ∙ sym at ∙ ap (object_at t) same.1 ∙ there)
  rest p o there (inr other) (inl was) = inl (h.0 p ∙ ap (λ b. cond b (Some k) (sorted.get path_cmp paths p)) other ∙ was)
  rest p o there (inr other) (inr is) = left_one p o there (eq_by_cmp nat_cmp o k) refl is

pub collect_all : (t : Tree) (paths : BTreeMap Names ℕ) → Collects t paths [] → (p : Names) → sorted.get path_cmp paths p ≡ object_at t p
collect_all t paths collects p = go (sorted.get path_cmp paths p) refl (object_at t p) refl where
  go : (s : Option ℕ) → sorted.get path_cmp paths p ≡ s → (u : Option ℕ) → object_at t p ≡ u → s ≡ u
  go None is None at = refl
  go None is (Some n) at = absurd (none (collects.rest p n at)) where
    none : (sorted.get path_cmp paths p ≡ Some n) ⊎ IsSome (lookup {X = Entry} (is_at (nat_cmp n)) []) → ⊥
    none (inl e) = absurd (cc (e, is))
    none (inr e) = absurd (cc)
  go (Some o) is u at = sym (collects.right p o is) ∙ at

-- the object at the path that an object has
pub at_its_path : (t : Tree) (o : ℕ) (e : Names × Node) → entry_of t o ≡ Some e → object_at t e.0 ≡ Some o
at_its_path t o e is =
    ap (option_map (λ n. n.object)) (found_stands t (λ x. x.1.object == o) e is) ∙ ap Some (eqb-true e.1.object o (found_passes t (λ x. x.1.object == o) e is))
