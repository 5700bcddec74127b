-- from an object to the directory that it lies in, and on to the root
use Rattle.std.proofs.Common.{◌≡◌, ℕ, ◌<◌, ◌==◌, ◌⊎◌, inl, inr, true, false, List, [], ◌∷◌, ◌++◌, length, drop, Option, Some, None, refl, sym, ap, ◌∙◌, subst, arith, eq-eqb, append-nil, append_assoc, length-append}
use Rattle.std.specs.Prelude.{IsSome, option_and_then, option_map}
use Rattle.std.specs.Option.{option_map_or}
use Rattle.std.proofs.lemmas.Bool.{eqb-true}
use Rattle.std.specs.FinMap as map
use Rattle.tree_nodes.specs.declared.node.Node.{Node}
use Rattle.tree_nodes.specs.Tree.{Names, Tree, entry_of, parent}
use Rattle.tree_nodes.specs.Moved.{is_from}
use Rattle.tree_nodes.specs.Moves.{IsOutside}
use Rattle.tree_nodes.specs.Place.{object_above}
use Rattle.tree_nodes.specs.Walk.{Steps, Holds, walk, seen, IsTree, IsBeyond}
use Rattle.tree_nodes.specs.Numbered.{IsNumbered}
use Rattle.tree_nodes.specs.Sound.{IsSound}
use Rattle.tree_nodes.proofs.Chains.{chained, mapped, same_some, value_of, isnt}
use Rattle.tree_nodes.proofs.Soundness.{ahead_same}
use Rattle.tree_nodes.proofs.Found.{ended, found_stands, found_passes, some_found, from_front, parts_of}
use Rattle.tree_nodes.proofs.Beside.{no_longer, from_or_outside}
use Rattle.tree_nodes.proofs.Looking.{parent_join, reached}
use Rattle.tree_nodes.proofs.Walks.{walk_on}

-- how many names lead to an object
abbrev pub depth : Tree → ℕ → ℕ
depth t o = option_map_or {T = Names × Node} (λ e. length e.0) (entry_of t o) 0

-- whether the object lies from the front on is whether the one that has been reached does
pub record Climbs (t : Tree) (object at front : ℕ) : Type 0 where
  pub stands : (e : Names × Node) → entry_of t object ≡ Some e
      → (g : Names × Node) × (entry_of t at ≡ Some g) × ((f : Names × Node) → entry_of t front ≡ Some f → is_from e.0 f.0 ≡ is_from g.0 f.0)

pub starts : (t : Tree) (object front : ℕ) → Climbs t object object front
starts t object front = record { stands = λ e is. (e, is, λ f _. refl) }

-- ---- fronts of paths

no_front : (f : Names) → (f ≡ [] → ⊥) → is_from [] f ≡ false
no_front f apart = isnt _ (λ yes. apart (empty f (drop (length f) []) (parts_of [] f yes))) where
  empty : (p r : Names) → [] ≡ p ++ r → p ≡ []
  empty [] r e = refl
  empty (x ∷ p) r e = absurd (cc)

from_parent : (p f : Names) → (p ≡ f → ⊥) → is_from p f ≡ is_from (parent p) f
from_parent p f apart = go (ended p) where
  off : (q : Names) (x : List ℕ) → p ≡ q ++ x ∷ [] → IsOutside f q → is_from (q ++ x ∷ []) f ≡ false
  off q x is outside = isnt _ (λ yes. last (drop (length f) (q ++ x ∷ [])) (parts_of (q ++ x ∷ []) f yes) (ended (drop (length f) (q ++ x ∷ [])))) where
    last : (rest : Names) → q ++ x ∷ [] ≡ f ++ rest → (rest ≡ []) ⊎ ((front : Names) × (last : List ℕ) × (rest ≡ front ++ last ∷ [])) → ⊥
    last rest e (inl none) = apart (is ∙ e ∙ ap (λ (z : Names). f ++ z) none ∙ append-nil f)
    last rest e (inr some) = outside some.0 (ahead_same q (f ++ some.0) x some.1 (e ∙ ap (λ (z : Names). f ++ z) some.2 ∙ sym (append_assoc f some.0 (some.1 ∷ []))))

  at : (q : Names) (x : List ℕ) → p ≡ q ++ x ∷ [] → ((r : Names) × (q ≡ f ++ r)) ⊎ IsOutside f q → is_from (q ++ x ∷ []) f ≡ is_from q f
  at q x is (inl from) =
      ap (λ (z : Names). is_from z f) (ap (λ (z : Names). z ++ x ∷ []) from.1 ∙ append_assoc f from.0 (x ∷ [])) ∙ from_front f (from.0 ++ x ∷ [])
      ∙ sym (ap (λ (z : Names). is_from z f) from.1 ∙ from_front f from.0)
  at q x is (inr outside) = off q x is outside ∙ sym (isnt _ (λ yes. outside (drop (length f) q) (parts_of q f yes)))

  go : (p ≡ []) ⊎ ((front : Names) × (last : List ℕ) × (p ≡ front ++ last ∷ [])) → is_from p f ≡ is_from (parent p) f
  go (inl none) = ap (λ (z : Names). is_from z f) none ∙ sym (ap (λ (z : Names). is_from (parent z) f) none)
  go (inr some) =
      ap (λ (z : Names). is_from z f) some.2 ∙ at some.0 some.1 some.2 (from_or_outside some.0 f) ∙ ap (λ (z : Names). is_from z f) (sym (parent_join some.0 some.1))
      ∙ sym (ap (λ (z : Names). is_from (parent z) f) some.2)

-- a path that is its own parent's is empty
own_parent : (p : Names) → p ≡ parent p → p ≡ []
own_parent p e = go (ended p) where
  go : (p ≡ []) ⊎ ((front : Names) × (last : List ℕ) × (p ≡ front ++ last ∷ [])) → p ≡ []
  go (inl none) = none
  go (inr some) = absurd (no_longer some.0 some.1 [] (sym some.2 ∙ e ∙ ap parent some.2 ∙ parent_join some.0 some.1))

shorter_parent : (p : Names) → (p ≡ [] → ⊥) → length (parent p) < length p
shorter_parent p apart = go (ended p) where
  go : (p ≡ []) ⊎ ((front : Names) × (last : List ℕ) × (p ≡ front ++ last ∷ [])) → length (parent p) < length p
  go (inl none) = absurd (apart none)
  go (inr some) =
      let shorter = ap (λ (z : Names). length (parent z)) some.2 ∙ ap length (parent_join some.0 some.1) in
      omega (arith, shorter, ap length some.2, length-append some.0 (some.1 ∷ []))

pub at_front : (t : Tree) (object front : ℕ) → Climbs t object front front → (e f : Names × Node) → entry_of t object ≡ Some e → entry_of t front ≡ Some f → true ≡ is_from e.0 f.0
at_front t object front climbs e f is there =
    let g = climbs.stands e is in
    let same : g.0 ≡ f = same_some g.0 f (sym g.1 ∙ there) in
    sym (g.2 f there ∙ ap (λ (z : Names × Node). is_from z.0 f.0) same ∙ ap (λ (z : Names). is_from z f.0) (sym (append-nil f.0)) ∙ from_front f.0 [])

-- no path leads through a front to an object that no names lead to from there
module _ (t : Tree) (c : Steps) (v : Holds) (tree : IsTree c v) (agrees : (path : Names) → map.get t path ≡ seen c v path) where
  pub beyond_front : (object front : ℕ) → IsBeyond c object front → (e f : Names × Node) → entry_of t object ≡ Some e → entry_of t front ≡ Some f → is_from e.0 f.0 ≡ false
  beyond_front object front beyond e f is there = isnt _ (λ from.
      let rest = drop (length f.0) e.0 in
      let leads = sym (walk_on c 0 f.0 rest front (reached t c v tree agrees front f there).0) ∙ ap (walk c 0) (sym (parts_of e.0 f.0 from)) ∙ (reached t c v tree agrees object e is).0 in
      beyond rest leads)

-- ---- in a tree

module _ (t : Tree) (sound : IsSound t) (numbered : IsNumbered t) where
  pub at_path : (o : ℕ) (e : Names × Node) → entry_of t o ≡ Some e → (map.get t e.0 ≡ Some e.1) × (e.1.object ≡ o)
  at_path o e is = (found_stands t (λ x. x.1.object == o) e is, eqb-true e.1.object o (found_passes t (λ x. x.1.object == o) e is))

  pub entry_there : (p : Names) (n : Node) → map.get t p ≡ Some n → entry_of t n.object ≡ Some (p, n)
  entry_there p n there =
      let found = value_of _ (some_found t (λ x. x.1.object == n.object) p n there (eq-eqb n.object n.object refl)) in
      let at = at_path n.object found.0 found.1 in
      let path : found.0.0 ≡ p = numbered.once found.0.0 p found.0.1 n at.0 there at.1 in
      let node : found.0.1 ≡ n = same_some found.0.1 n (sym at.0 ∙ ap (map.get t) path ∙ there) in
      found.1 ∙ (λ i. Some (path i, node i))

  above_entry : (at above : ℕ) (g : Names × Node) → entry_of t at ≡ Some g → object_above t at ≡ Some above → (n : Node) × (entry_of t above ≡ Some (parent g.0, n))
  above_entry at above g is up =
      let node = mapped (λ (n : Node). n.object) (map.get t (parent g.0)) above (sym (ap (option_and_then {T = Names × Node} (λ e. option_map (λ n. n.object) (map.get t (parent e.0)))) is) ∙ up) in
      (node.0, ap (entry_of t) (sym node.2) ∙ entry_there (parent g.0) node.0 node.1)

  same_object : (a b : ℕ) (e f : Names × Node) → entry_of t a ≡ Some e → entry_of t b ≡ Some f → e.0 ≡ f.0 → a ≡ b
  same_object a b e f at there same =
      let x = at_path a e at in
      let y = at_path b f there in
      sym x.1 ∙ ap (λ (n : Node). n.object) (same_some e.1 f.1 (sym x.0 ∙ ap (map.get t) same ∙ y.0)) ∙ y.1

  climbing : (at above : ℕ) → object_above t at ≡ Some above → (g : Names × Node) × (entry_of t at ≡ Some g)
  climbing at above up = let e = chained {A = Names × Node} (λ e. option_map (λ n. n.object) (map.get t (parent e.0))) (entry_of t at) above up in (e.0, e.1)

  pub step_up : (object at above front : ℕ) → object_above t at ≡ Some above → (at ≡ front → ⊥) → Climbs t object at front → Climbs t object above front
  step_up object at above front up apart climbs = record {
    stands = λ e is.
        let g = climbs.stands e is in
        let n = above_entry at above g.0 g.1 up in
        ((parent g.0.0, n.0), n.1, λ f there. g.2 f there ∙ from_parent g.0.0 f.0 (λ same. apart (same_object at front g.0 f g.1 there same)));
  }

  pub less_deep : (at above : ℕ) → object_above t at ≡ Some above → (above ≡ at → ⊥) → depth t above < depth t at
  less_deep at above up apart =
      let g = climbing at above up in
      let n = above_entry at above g.0 g.1 up in
      let shorter = shorter_parent g.0.0 (λ none. apart (same_object above at (parent g.0.0, n.0) g.0 n.1 g.1 (ap parent none ∙ sym none))) in
      let up_there : depth t above ≡ length (parent g.0.0) = ap (λ (s : Option (Names × Node)). option_map_or {T = Names × Node} (λ e. length e.0) s 0) n.1 in
      let down_here : depth t at ≡ length g.0.0 = ap (λ (s : Option (Names × Node)). option_map_or {T = Names × Node} (λ e. length e.0) s 0) g.1 in
      omega (arith, shorter, up_there, down_here)

  pub at_top : (object at front : ℕ) → object_above t at ≡ Some at → (at ≡ front → ⊥) → Climbs t object at front → (e f : Names × Node) → entry_of t object ≡ Some e → entry_of t front ≡ Some f → false ≡ is_from e.0 f.0
  at_top object at front up apart climbs e f is there =
      let g = climbs.stands e is in
      let n = above_entry at at g.0 g.1 up in
      let root = own_parent g.0.0 (ap (λ (z : Names × Node). z.0) (same_some g.0 (parent g.0.0, n.0) (sym g.1 ∙ n.1))) in
      sym (g.2 f there ∙ ap (λ (z : Names). is_from z f.0) root ∙ no_front f.0 (λ none. apart (same_object at front g.0 f g.1 there (root ∙ sym none))))

  pub no_top : (object at front : ℕ) → object_above t at ≡ None → Climbs t object at front → (e f : Names × Node) → entry_of t object ≡ Some e → false ≡ is_from e.0 f.0
  no_top object at front up climbs e f is =
      let g = climbs.stands e is in
      let there = value_of _ (fronts g.0.0 (ended g.0.0) (at_path at g.0 g.1).0) in
      absurd (cc (sym up ∙ ap (option_and_then {T = Names × Node} (λ e. option_map (λ n. n.object) (map.get t (parent e.0)))) g.1 ∙ ap (option_map {T = Node} (λ n. n.object)) there.1)) where
        fronts : (p : Names) → (p ≡ []) ⊎ ((front : Names) × (last : List ℕ) × (p ≡ front ++ last ∷ [])) → {n : Node} → map.get t p ≡ Some n → IsSome (map.get t (parent p))
        fronts p (inl none) is = subst IsSome (sym (ap (λ (z : Names). map.get t (parent z)) none ∙ sym (ap (map.get t) none) ∙ is)) refl
        fronts p (inr some) is =
            subst (λ (z : Names). IsSome (map.get t z)) (sym (ap parent some.2 ∙ parent_join some.0 some.1)) (sound.fronts some.0 some.1 (subst IsSome (sym (ap (map.get t) (sym some.2) ∙ is)) refl))
