-- the names of a directory's entries among others
use Rattle.std.proofs.Common.{◌≡◌, ℕ, ◌+◌, ◌==◌, Bool, true, false, List, [], ◌∷◌, ◌++◌, length, drop, Some, refl, sym, ap, ◌∙◌, arith, length-append, eq-eqb, get_or}
use Rattle.std.specs.Prelude.{not, ◌||◌, ◌&&◌, slice_index_or}
use Rattle.std.specs.List.{list_any, list_all}
use Rattle.std.proofs.lemmas.Bool.{eqb-true}
use Rattle.std.specs.Ordering.{nat_cmp}
use Rattle.std.specs.Cmp.Lexicographic.{slice_cmp}
use Rattle.std.specs.BTreeSet.{BTreeSet, contains}
use Rattle.std.specs.FinMap as map
use Rattle.tree_nodes.specs.declared.node.Node.{Node}
use Rattle.tree_nodes.specs.Tree.{Names, Tree, entry_of, is_in}
use Rattle.tree_nodes.specs.Moved.{is_from}
use Rattle.tree_nodes.specs.Walk.{Steps, Holds, walk, seen, IsTree}
use Rattle.tree_nodes.specs.Place.{are_among}
use Rattle.tree_nodes.proofs.Chains.{differ, isnt, both_pass, negated, value_of}
use Rattle.tree_nodes.proofs.Found.{parts_of, from_front, found_stands, found_passes, some_found, any_of_found, found_of_any}
use Rattle.tree_nodes.proofs.Walks.{walk_last}
use Rattle.tree_nodes.proofs.Looking.{reached, stands, child_stands}

all_or_any : {A : Type 0} (f : A → Bool) (xs : List A) → list_all f xs ≡ not (list_any (λ x. not (f x)) xs)
all_or_any f [] = refl
all_or_any f (x ∷ xs) = go (f x) (all_or_any f xs) where
  go : (b : Bool) → list_all f xs ≡ not (list_any (λ x. not (f x)) xs) → (b && list_all f xs) ≡ not (not b || list_any (λ x. not (f x)) xs)
  go true later = later
  go false later = refl

name_behind : (p : Names) (x : List ℕ) → get_or (p ++ x ∷ []) (length p) [] ≡ x
name_behind [] x = refl
name_behind (y ∷ p) x = name_behind p x

-- an entry's path is the directory's with a name behind it
entry_parts : (path p : Names) → is_in path p ≡ true → (x : List ℕ) × (path ≡ p ++ x ∷ [])
entry_parts path p h = go (drop (length p) path) (parts_of path p tests.1) where
  tests : ((length path == length p + 1) ≡ true) × (is_from path p ≡ true)
  tests = both_pass _ _ h

  go : (rest : Names) → path ≡ p ++ rest → (x : List ℕ) × (path ≡ p ++ x ∷ [])
  go [] is = absurd (omega (arith, eqb-true (length path) (length p + 1) tests.0, ap length is, length-append p []))
  go (x ∷ []) is = (x, is)
  go (x ∷ y ∷ r) is = absurd (omega (arith, eqb-true (length path) (length p + 1) tests.0, ap length is, length-append p (x ∷ y ∷ r)))

is_entry : (p : Names) (x : List ℕ) → is_in (p ++ x ∷ []) p ≡ true
is_entry p x = both (length (p ++ x ∷ []) == length p + 1) _ (eq-eqb _ _ (length-append p (x ∷ []))) (from_front p (x ∷ [])) where
  both : (b c : Bool) → b ≡ true → c ≡ true → (b && c) ≡ true
  both true c e f = f
  both false c e f = absurd (cc)

neither : (a b : Bool) → (not a || b) ≡ false → (a ≡ true) × (b ≡ false)
neither true b e = (refl, e)
neither false b e = absurd (cc)

module _ (t : Tree) (c : Steps) (v : Holds) (tree : IsTree c v) (agrees : (path : Names) → map.get t path ≡ seen c v path) (o : ℕ) (e : Names × Node) (names : BTreeSet (List ℕ)) where
  listed : Names × Node → Bool
  listed x = not (is_in x.0 e.0) || contains (slice_cmp nat_cmp) names (slice_index_or x.0 (length e.0) [])

  pub among_if : entry_of t o ≡ Some e → ((name : List ℕ) (next : ℕ) → c o name ≡ Some next → contains (slice_cmp nat_cmp) names name ≡ true) → are_among names t e.0 ≡ true
  unfolding listed
  among_if at has = all_or_any listed (map.entries t) ∙ ap not (isnt _ (λ any.
      let x = value_of _ (found_of_any (λ x. not (listed x)) (map.entries t) any) in
      let fails = neither (is_in x.0.0 e.0) _ (negated (listed x.0) (found_passes t (λ x. not (listed x)) x.0 x.1)) in
      let parts = entry_parts x.0.0 e.0 fails.0 in
      let leads = (stands t c v tree agrees x.0.0 x.0.1 (found_stands t (λ x. not (listed x)) x.0 x.1)).0 in
      let step = sym (walk_last c 0 e.0 parts.0 o (reached t c v tree agrees o e at).0) ∙ ap (walk c 0) (sym parts.1) ∙ leads in
      differ (contains (slice_cmp nat_cmp) names parts.0) (has parts.0 x.0.1.object step)
      (ap (contains (slice_cmp nat_cmp) names) (sym (ap (λ (z : Names). get_or z (length e.0) []) parts.1 ∙ name_behind e.0 parts.0)) ∙ fails.1)))

  pub among_not : (name : List ℕ) (next : ℕ) → entry_of t o ≡ Some e → c o name ≡ Some next → contains (slice_cmp nat_cmp) names name ≡ false → are_among names t e.0 ≡ false
  unfolding listed
  among_not name next at is missing =
      let there = child_stands t c v tree agrees o e name next at is in
      let fails : listed (e.0 ++ name ∷ [], there.0.2) ≡ false =
      (λ i. not (is_entry e.0 name i) || contains (slice_cmp nat_cmp) names (name_behind e.0 name i)) ∙ missing in
      all_or_any listed (map.entries t)
      ∙ ap not (any_of_found (λ x. not (listed x)) (map.entries t) (some_found t (λ x. not (listed x)) (e.0 ++ name ∷ []) there.0.2 there.2 (ap not fails)))
