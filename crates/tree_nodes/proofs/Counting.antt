-- a table has as many objects as its tree has paths, and lists each
use Rattle.std.proofs.Common.{◌≡◌, ℕ, ◌≤◌, Bool, true, false, cond, T, List, [], ◌∷◌, length, Option, Some, None, refl, sym, ap, ◌∙◌, subst, arith}
use Rattle.std.specs.Prelude.{suc, IsSome, is_some, ◌||◌, ◌&&◌, option_map, Contains}
use Rattle.std.specs.declared.cmp.Ordering.{Ordering}
use Rattle.std.specs.declared.cmp.Ordering.TheVariants.{Less, Equal, Greater}
use Rattle.std.specs.Ordering.{nat_cmp, eq_by_cmp, is_lt, is_eq}
use Rattle.std.specs.Cmp.{IsEquivalence, nat_cmp_total, eq_by_cmp_equiv}
use Rattle.std.specs.List.{list_any, AllByRecursion, IsDistinct}
use Rattle.std.specs.Map.{lookup, keys_of}
use Rattle.std.specs.FinMap as map
use Rattle.std.specs.FinMap.Entries as es
use Rattle.std.proofs.lemmas.Map.Keys.{IsDistinct-cons, IsDistinct-head, IsDistinct-tail}
use Rattle.std.proofs.lemmas.Map.Entries.{length-keys_of}
use Rattle.std.proofs.lemmas.Map.Steps.{length-le_from_keys, list_any_congr}
use Rattle.std.proofs.lemmas.Map.Views.{Contains-keys_from_lookup}
use Rattle.tree_nodes.specs.declared.table.Entry.{Entry}
use Rattle.tree_nodes.specs.Tree.{Names, Tree, path_cmp, entry_of}
use Rattle.tree_nodes.specs.Walk.{Held, walk, IsTree}
use Rattle.tree_nodes.specs.Table.{Table, entry_at, child, held, placed}
use Rattle.tree_nodes.specs.Shown.{Agrees}
use Rattle.tree_nodes.proofs.Entries.{path_total, path_ties, find_lookup}
use Rattle.tree_nodes.proofs.Chains.{differ, isnt, same_some, value_of}
use Rattle.tree_nodes.proofs.Tables.{is_equal, looked_up, entry_held as held_entry}
use Rattle.tree_nodes.proofs.Walks.{once, one_path, reached_held}
use Rattle.tree_nodes.proofs.Looking.{shows, stands as node_stands, held_of}

either : {A : Type 0} (a b : Bool) → (a || b) ≡ true → (a ≡ true → A) → (b ≡ true → A) → A
either true b e f g = f refl
either false b e f g = g e

none_passes : {K : Type 0} (test : K → Bool) (ks : List K) → list_any test ks ≡ false → AllByRecursion (λ y. test y ≡ false) ks
none_passes test [] e = tt
none_passes test (k ∷ ks) e = let both = neither (test k) (list_any test ks) e in (both.0, none_passes test ks both.1) where
  neither : (a b : Bool) → (a || b) ≡ false → (a ≡ false) × (b ≡ false)
  neither true b e = absurd (cc)
  neither false b e = (refl, e)

no_pass : {K : Type 0} (test : K → Bool) (ks : List K) → AllByRecursion (λ y. test y ≡ false) ks → list_any test ks ≡ false
no_pass test [] h = refl
no_pass test (k ∷ ks) h = ap (λ b. b || list_any test ks) h.0 ∙ no_pass test ks h.1

key_of : {K X : Type 0} (test : K → Bool) (xs : List (K × X)) → is_some (lookup test xs) ≡ list_any test (keys_of xs)
key_of test [] = refl
key_of test (e ∷ xs) = go (test e.0) (key_of test xs) where
  go : (b : Bool) → is_some (lookup test xs) ≡ list_any test (keys_of xs) → is_some (cond b (Some e.1) (lookup test xs)) ≡ (b || list_any test (keys_of xs))
  go true later = refl
  go false later = later

-- a list of one for each of these, with no two equal
module _ {A B : Type 0} {E : A → A → Bool} {F : B → B → Bool} (e_laws : IsEquivalence E) (f_laws : IsEquivalence F) (f_ties : (x y : B) → F x y ≡ true → x ≡ y)
    (R : A → B → Type 0) (one : (a c : A) (b : B) → R a b → R c b → E a c ≡ true) where
  record Partners (xs : List A) : Type 0 where
    list : List B
    many : length list ≡ length xs
    distinct : IsDistinct F list
    of : (b : B) → list_any (F b) list ≡ true → (a : A) × (list_any (E a) xs ≡ true) × R a b

  partners : (xs : List A) → IsDistinct E xs → ((a : A) → list_any (E a) xs ≡ true → (b : B) × R a b) → Partners xs
  unfolding IsDistinct
  partners [] d each = record { list = []; many = refl; distinct = tt; of = λ b e. absurd (cc) }
  partners (a ∷ xs) d each = more (partners xs (IsDistinct-tail E a xs d) (λ c e. each c (later (E c a) (list_any (E c) xs) e))) (each a (first (E a a) (list_any (E a) xs) (e_laws.refl a))) where
    later : (b c : Bool) → c ≡ true → (b || c) ≡ true
    later true c e = refl
    later false c e = e

    first : (b c : Bool) → b ≡ true → (b || c) ≡ true
    first true c e = refl
    first false c e = absurd (cc)

    more : Partners xs → (b : B) × R a b → Partners (a ∷ xs)
    more rest new = record {
      list = new.0 ∷ rest.list;
      many = ap suc rest.many;
      distinct = IsDistinct-cons F new.0 rest.list (none_passes (F new.0) rest.list (isnt _ unlike)) rest.distinct;
      of = λ b e. either (F b new.0) (list_any (F b) rest.list) e
          (λ same. (a, first (E a a) (list_any (E a) xs) (e_laws.refl a), subst (R a) (sym (f_ties b new.0 same)) new.1))
          (λ there. let c = rest.of b there in (c.0, later (E c.0 a) (list_any (E c.0) xs) c.1, c.2));
    } where
      unlike : list_any (F new.0) rest.list ≡ true → ⊥
      unlike there =
          let c = rest.of new.0 there in
          let same = one c.0 a new.0 c.2 new.1 in
          differ (list_any (E a) xs) (sym (list_any_congr e_laws c.0 a xs same) ∙ c.1) (no_pass (E a) xs (IsDistinct-head E a xs d))

  -- so there are at most as many as keys of these entries
  pub at_most : {X : Type 0} (xs : List A) (ys : List (B × X)) → IsDistinct E xs → ((a : A) → list_any (E a) xs ≡ true → (b : B) × R a b)
      → ((a : A) (b : B) → list_any (E a) xs ≡ true → R a b → IsSome (lookup (F b) ys)) → length xs ≤ length ys
  at_most xs ys d each there =
      let all = partners xs d each in
      subst (λ n. n ≤ length ys) all.many (length-le_from_keys f_laws all.list ys all.distinct (λ b e. let a = all.of b e in there a.0 b a.1 a.2))

number_ties : (x y : ℕ) → eq_by_cmp nat_cmp x y ≡ true → x ≡ y
number_ties x y e = map.nat_cmp-IsAntisymmetric x y (is_equal (nat_cmp x y) e)

tied_paths : (x y : Names) → eq_by_cmp path_cmp x y ≡ true → x ≡ y
tied_paths x y e = path_ties x y (is_equal (path_cmp x y) e)

below_apart : {K X : Type 0} (R : K → K → Ordering) (x : K) (xs : List (K × X)) → T (es.below_all R x xs) → AllByRecursion (λ y. eq_by_cmp R x y ≡ false) (keys_of xs)
below_apart R x [] h = tt
below_apart R x (e ∷ xs) h = (less (R x e.0) (t_first _ _ h), below_apart R x xs (t_second _ _ h)) where
  less : (o : Ordering) → T (is_lt o) → is_eq o ≡ false
  less Less h = refl
  less Equal h = absurd h
  less Greater h = absurd h

  t_first : (a b : Bool) → T (a && b) → T a
  t_first true b h = tt
  t_first false b h = absurd h

  t_second : (a b : Bool) → T (a && b) → T b
  t_second true b h = h
  t_second false b h = absurd h

keys_distinct : {K X : Type 0} (R : K → K → Ordering) (xs : List (K × X)) → T (es.is_sorted R xs) → IsDistinct (eq_by_cmp R) (keys_of xs)
unfolding IsDistinct
keys_distinct R [] h = tt
keys_distinct R (e ∷ xs) h = (below_apart R e.0 xs (t_first _ _ h), keys_distinct R xs (t_second _ _ h)) where
  t_first : (a b : Bool) → T (a && b) → T a
  t_first true b h = tt
  t_first false b h = absurd h

  t_second : (a b : Bool) → T (a && b) → T b
  t_second true b h = h
  t_second false b h = absurd h

some_is : {A : Type 0} (o : Option A) → is_some o ≡ true → IsSome o
some_is None e = absurd (cc)
some_is (Some x) e = refl

is_there : {A : Type 0} (o : Option A) → IsSome o → is_some o ≡ true
is_there None h = absurd (cc)
is_there (Some x) h = refl

entry_held : (m : Table) (o : ℕ) (e : Entry) → entry_at m o ≡ Some e → held m o ≡ Some (placed e)
entry_held m o e is = ap (λ s. elim s as (λ _. Option Held) [ None ↦ None | Some x ↦ Some (placed x) ]) is

module _ (m : Table) (t : Tree) (tree : IsTree (child m) (held m)) (agrees : Agrees m t) where
  leads : Names → ℕ → Type 0
  leads p o = walk (child m) 0 p ≡ Some o

  there : (p : Names) (o : ℕ) → walk (child m) 0 p ≡ Some o → IsSome (map.get t p)
  there p o is =
      let h = reached_held (child m) (held m) tree p o is in
      subst IsSome (sym (shows t (child m) (held m) tree agrees p o h.0.2 is (ap (option_map {T = Held} (λ x. x.2)) h.1))) refl

  pub table_within : map.len m ≤ map.len t
  table_within =
      let bound = at_most (eq_by_cmp_equiv nat_cmp_total) (eq_by_cmp_equiv path_total) tied_paths (λ (o : ℕ) (p : Names). walk (child m) 0 p ≡ Some o) same (keys_of (map.entries m)) (map.entries t)
      (keys_distinct nat_cmp (map.entries m) (map.entries_sorted m)) path stands in
      omega (arith, bound, length-keys_of (map.entries m), map.len-entries m, map.len-entries t) where
        same : (a c : ℕ) (p : Names) → walk (child m) 0 p ≡ Some a → walk (child m) 0 p ≡ Some c → eq_by_cmp nat_cmp a c ≡ true
        same a c p e f = ap (eq_by_cmp nat_cmp a) (same_some c a (sym f ∙ e)) ∙ (eq_by_cmp_equiv nat_cmp_total).refl a

        path : (o : ℕ) → list_any (eq_by_cmp nat_cmp o) (keys_of (map.entries m)) ≡ true → (p : Names) × (walk (child m) 0 p ≡ Some o)
        path o e =
            let entry = value_of _ (some_is (entry_at m o) (ap is_some (looked_up m o) ∙ key_of (eq_by_cmp nat_cmp o) (map.entries m) ∙ e)) in
            tree.hangs o (subst IsSome (sym (entry_held m o entry.0 entry.1)) refl)

        stands : (o : ℕ) (p : Names) → list_any (eq_by_cmp nat_cmp o) (keys_of (map.entries m)) ≡ true → walk (child m) 0 p ≡ Some o → IsSome (lookup (eq_by_cmp path_cmp p) (map.entries t))
        stands o p e is = subst IsSome (map.get-entries t p ∙ find_lookup path_cmp p (map.entries t)) (there p o is)

  pub tree_within : map.len t ≤ map.len m
  tree_within =
      let bound = at_most (eq_by_cmp_equiv path_total) (eq_by_cmp_equiv nat_cmp_total) number_ties (λ (p : Names) (o : ℕ). walk (child m) 0 p ≡ Some o) same (keys_of (map.entries t)) (map.entries m)
      (keys_distinct path_cmp (map.entries t) (map.entries_sorted t)) object stands in
      omega (arith, bound, length-keys_of (map.entries t), map.len-entries t, map.len-entries m) where
        same : (p q : Names) (o : ℕ) → walk (child m) 0 p ≡ Some o → walk (child m) 0 q ≡ Some o → eq_by_cmp path_cmp p q ≡ true
        same p q o e f = ap (eq_by_cmp path_cmp p) (sym (one_path (child m) (once (child m) (held m) tree) p q o e f)) ∙ (eq_by_cmp_equiv path_total).refl p

        object : (p : Names) → list_any (eq_by_cmp path_cmp p) (keys_of (map.entries t)) ≡ true → (o : ℕ) × (walk (child m) 0 p ≡ Some o)
        object p e =
            let found = some_is (lookup (eq_by_cmp path_cmp p) (map.entries t)) (key_of (eq_by_cmp path_cmp p) (map.entries t) ∙ e) in
            let node = value_of _ (subst IsSome (sym (map.get-entries t p ∙ find_lookup path_cmp p (map.entries t))) found) in
            (node.0.object, (node_stands t (child m) (held m) tree agrees p node.0 node.1).0)

        stands : (p : Names) (o : ℕ) → list_any (eq_by_cmp path_cmp p) (keys_of (map.entries t)) ≡ true → walk (child m) 0 p ≡ Some o → IsSome (lookup (eq_by_cmp nat_cmp o) (map.entries m))
        stands p o e is =
            let h = reached_held (child m) (held m) tree p o is in
            let entry = held_entry m o h.0 h.1 in
            subst IsSome (sym entry.1 ∙ looked_up m o) refl

  -- what stands is among the objects
  pub listed : (o : ℕ) → IsSome (entry_of t o) → Contains (keys_of (map.entries m)) o
  listed o is =
      let e = value_of _ is in
      let h = held_of t (child m) (held m) tree agrees o e.0 e.1 in
      let entry = held_entry m o h.0 h.1 in
      Contains-keys_from_lookup number_ties o (map.entries m) (subst IsSome (sym entry.1 ∙ looked_up m o) refl)
