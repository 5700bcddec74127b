-- the tree of a start, built object by object
use Rattle.std.proofs.Common.{◌≡◌, ◌≤◌, ◌<◌, ◌+◌, ℕ, ◌⊎◌, inl, inr, Bool, true, false, cond, List, [], ◌∷◌, ◌++◌, length, take, drop, get_or, map, Some, None, refl, sym, ap, ◌∙◌, subst, arith, append_assoc, append-nil}
use Rattle.std.specs.Prelude.{IsSome, suc, option_and_then}
use Rattle.std.specs.Option.{option_map_or}
use Rattle.std.specs.FinMap as finite
use Rattle.std.proofs.Math.Seq.{split_at, take-suc}
use Rattle.std.proofs.lemmas.List.{map-append, length-append}
use Rattle.tree_nodes.specs.declared.node.Node.{Node}
use Rattle.tree_nodes.specs.Tree.{Names, Tree, entry_of, opening, path_cmp}
use Rattle.tree_nodes.specs.Place.{node_in}
use Rattle.tree_nodes.proofs.Entries.{path_total}
use Rattle.tree_nodes.proofs.Chains.{same_some, absent}
use Rattle.tree_starts.specs.Seen.{seen_object, all_seen}
use Rattle.tree_starts.specs.Start.{IsStart}
use Rattle.tree_starts.specs.declared.object.StartObject.{StartObject}
use Rattle.tree_starts.specs.declared.seen.SeenObject.{SeenObject}
use Rattle.file_tree.specs.StartTree.{Sits, content_of, start_node, directory_node, with_object, start_from, start_tree}
use Rattle.file_tree.specs.Built.{IsParent, MayStart, Built}
use Rattle.file_tree.proofs.Starts.{each_may_start}
use Rattle.file_tree.proofs.StartStep.{is_free, is_new, one_more, put_there, get_put, found_at, is_or_isnt}

from_append : (tree : Tree) (n : ℕ) (xs : List StartObject) (o : StartObject) → start_from tree n (xs ++ o ∷ []) ≡ with_object (start_from tree n xs) (n + length xs + 1) o
from_append tree n [] o = ap (λ k. with_object tree (k + 1) o) (omega (arith))
from_append tree n (x ∷ xs) o =
    from_append (with_object tree (n + 1) x) (n + 1) xs o ∙ ap (λ k. with_object (start_from (with_object tree (n + 1) x) (n + 1) xs) k o) (omega (arith))

only_root : (p : Names) (x : Node) → finite.get opening p ≡ Some x → p ≡ []
unfolding opening
only_root p x there = go (is_or_isnt p []) where
  go : (p ≡ []) ⊎ (p ≡ [] → ⊥) → p ≡ []
  go (inl same) = same
  go (inr other) = absurd (absent _ (get_put finite.empty [] p (directory_node 0) other ∙ finite.get-empty path_cmp p) (subst IsSome (sym there) refl))

root_there : finite.get opening [] ≡ Some (directory_node 0)
unfolding opening
root_there = put_there finite.empty [] (directory_node 0) [] refl

small : finite.len opening ≤ 1
unfolding opening
small = subst (λ m. m ≤ 1) (sym (finite.len-insert path_total finite.empty [] (directory_node 0))) (bound (finite.contains_key {X = Node} (finite.empty {R = path_cmp}) [])) where
  bound : (b : Bool) → cond b (finite.len {X = Node} (finite.empty {R = path_cmp})) (finite.len {X = Node} (finite.empty {R = path_cmp}) + 1) ≤ 1
  bound true = omega (arith, finite.len-empty path_cmp Node)
  bound false = omega (arith, finite.len-empty path_cmp Node)

pub built_opening : Built opening [] 0
built_opening = record {
  root = found_at opening once [] (directory_node 0) root_there;
  once = once;
  few = λ p x there. omega (arith, ap (λ (m : Node). m.object) (same_some x (directory_node 0) (sym there ∙ ap (finite.get opening) (only_root p x there) ∙ root_there)));
  covered = λ p x there. inl (only_root p x there);
  each = λ k o is. absurd (cc);
  all = refl;
  size = small;
} where
  once : (p q : Names) (x y : Node) → finite.get opening p ≡ Some x → finite.get opening q ≡ Some y → x.object ≡ y.object → p ≡ q
  once p q x y at_p at_q same = only_root p x at_p ∙ sym (only_root q y at_q)

-- the directory of an object that may stand behind these
above : (nodes : Tree) (ahead : List StartObject) (n : ℕ) (o : StartObject) → Built nodes ahead n → (o.parent ≡ 0) ⊎ IsParent ahead o.parent
    → (path : Names) × (entry_of nodes o.parent ≡ Some (path, directory_node o.parent))
above nodes ahead n o built (inl root) = ([], ap (entry_of nodes) root ∙ built.root ∙ ap (λ k. Some ([], directory_node k)) (sym root))
above nodes ahead n o built (inr p) =
    let at : Sits nodes (p.0 + 1) p.1 = built.each p.0 p.1 p.2 in
    (at.path ++ p.1.name ∷ [], ap (entry_of nodes) p.3 ∙ at.here ∙ (λ i. Some (at.path ++ p.1.name ∷ [], record { object = sym p.3 i; content = content_of (p.4 i) })))

-- one object more, behind those ahead of it
module _ (nodes : Tree) (ahead : List StartObject) (n : ℕ) (o : StartObject) (built : Built nodes ahead n) (may : MayStart ahead o) where
  abbrev place : (path : Names) × (entry_of nodes o.parent ≡ Some (path, directory_node o.parent))
  place = above nodes ahead n o built may.inside

  pub has_place : IsSome (entry_of nodes o.parent)
  has_place = subst IsSome (sym place.1) refl

  pub has_room : node_in nodes o.parent o.name ≡ None
  has_room = ap (option_and_then (λ e. finite.get nodes (e.0 ++ o.name ∷ []))) place.1 ∙ is_free nodes ahead n built o place.0 place.1 may.free

  pub has_number : entry_of nodes (n + 1) ≡ None
  has_number = is_new nodes ahead n built o place.0 place.1 may.free

  pub grows : Built (with_object nodes (n + 1) o) (ahead ++ o ∷ []) (n + 1)
  grows =
      let put : with_object nodes (n + 1) o ≡ finite.insert nodes (place.0 ++ o.name ∷ []) (start_node (n + 1) o) =
      ap (λ f. option_map_or (λ e. finite.insert nodes (e.0 ++ o.name ∷ []) (start_node (n + 1) o)) f nodes) place.1 in
      subst (λ t. Built t (ahead ++ o ∷ []) (n + 1)) (sym put) (one_more nodes ahead n built o place.0 place.1 may.free)

-- the whole of a start
built_on : (objects front behind : List StartObject) (nodes : Tree) → IsStart objects → objects ≡ front ++ behind → Built nodes front (length front) → Built (start_from nodes (length front) behind) objects (length objects)
built_on objects front [] nodes start parts built =
    let same : front ≡ objects = sym (append-nil front) ∙ sym parts in
    subst (λ xs. Built nodes xs (length xs)) same built
built_on objects front (o ∷ behind) nodes start parts built =
    let may = each_may_start objects front behind o start parts in
    let more : length (front ++ o ∷ []) ≡ length front + 1 = length-append front (o ∷ []) in
    let next = subst (Built (with_object nodes (length front + 1) o) (front ++ o ∷ [])) (sym more) (grows nodes front (length front) o built may) in
    subst (λ k. Built (start_from (with_object nodes (length front + 1) o) k behind) objects (length objects)) more
    (built_on objects (front ++ o ∷ []) behind (with_object nodes (length front + 1) o) start (parts ∙ sym (append_assoc front (o ∷ []) behind)) next)

pub built_start : (objects : List StartObject) → IsStart objects → Built (start_tree objects) objects (length objects)
built_start objects start = built_on objects [] objects opening start refl built_opening

module _ (objects : List SeenObject) (i : ℕ) (d : SeenObject) (lt : i < length objects) (start : IsStart (all_seen objects)) (nodes : Tree)
    (built : Built nodes (map seen_object (take i objects)) i) where
  abbrev ahead : List StartObject
  ahead = map seen_object (take i objects)

  abbrev o : StartObject
  o = seen_object (get_or objects i d)

  pub may : MayStart ahead o
  may =
      each_may_start (all_seen objects) ahead (map seen_object (drop (suc i) objects)) o start
      (ap (map seen_object) (split_at objects i d lt) ∙ map-append seen_object (take i objects) (get_or objects i d ∷ drop (suc i) objects))

  pub stands : IsSome (entry_of nodes o.parent)
  stands = has_place nodes ahead i o built may

  pub free : node_in nodes o.parent o.name ≡ None
  free = has_room nodes ahead i o built may

  pub fresh : entry_of nodes (i + 1) ≡ None
  fresh = has_number nodes ahead i o built may

  so_far : map seen_object (take (i + 1) objects) ≡ ahead ++ o ∷ []
  so_far =
      let more : i + 1 ≡ suc i = omega (arith) in
      ap (λ k. map seen_object (take k objects)) more ∙ ap (map seen_object) (take-suc objects i d lt) ∙ map-append seen_object (take i objects) (get_or objects i d ∷ [])

  pub next : Built (with_object nodes (i + 1) o) (map seen_object (take (i + 1) objects)) (i + 1)
  next = subst (λ xs. Built (with_object nodes (i + 1) o) xs (i + 1)) (sym so_far) (grows nodes ahead i o built may)

  pub goes_on : nodes ≡ start_tree ahead → with_object nodes (i + 1) o ≡ start_tree (map seen_object (take (i + 1) objects))
  goes_on is =
      let number : i + 1 ≡ 0 + length ahead + 1 = omega (arith, built.all) in
      ap (λ t. with_object t (i + 1) o) is
      ∙ ap (λ k. with_object (start_tree ahead) k o) number
      ∙ sym (from_append opening 0 ahead o) ∙ ap start_tree (sym so_far)
