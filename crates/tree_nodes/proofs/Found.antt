-- entries of a tree, and what stands at their paths
use Rattle.std.proofs.Common.{◌≡◌, ℕ, ◌⊎◌, inl, inr, Bool, true, false, cond, T, List, [], ◌∷◌, ◌++◌, length, take, drop, Some, None, refl, sym, ap, ◌∙◌, subst, arith, length-append, ltb, lt→ltb}
use Rattle.std.specs.Prelude.{IsSome, not, ◌&&◌, ◌||◌, find, nat_eq}
use Rattle.std.proofs.lemmas.Bool.{eqb-true, ltb-true}
use Rattle.std.proofs.lemmas.Cmp.{tied_itself}
use Rattle.std.proofs.lemmas.List.{take-append-drop}
use Rattle.std.proofs.Math.Seq.{take-append_seam}
use Rattle.std.specs.List.{list_any}
use Rattle.std.specs.Ordering.{eq_by_cmp, is_eq, is_lt}
use Rattle.std.specs.Cmp.Lexicographic.{pointwise}
use Rattle.std.specs.FinMap as map
use Rattle.std.specs.FinMap.Entries as es
use Rattle.tree_nodes.specs.declared.node.Node.{Node}
use Rattle.tree_nodes.specs.Tree.{Names, Tree, path_cmp, same_path as is_same, is_below, is_bare}
use Rattle.tree_nodes.specs.Moved.{is_from}
use Rattle.tree_nodes.proofs.Entries.{path_total}
use Rattle.tree_nodes.proofs.Soundness.{same_path, same_names, no_node}
use Rattle.tree_nodes.proofs.Chains.{both_pass, negated, differ, isnt, absent, value_of, empty_or}

-- ---- paths

pub tied : (p q : Names) → p ≡ q → eq_by_cmp path_cmp p q ≡ true
tied p q e = subst (λ (z : Names). eq_by_cmp path_cmp p z ≡ true) e (ap is_eq (tied_itself path_total p))

pub untied : (p q : Names) → (p ≡ q → ⊥) → eq_by_cmp path_cmp p q ≡ false
untied p q h = go (same_path p q) where
  go : (eq_by_cmp path_cmp p q ≡ true) × (p ≡ q) ⊎ (eq_by_cmp path_cmp p q ≡ false) → eq_by_cmp path_cmp p q ≡ false
  go (inl tie) = absurd (h tie.1)
  go (inr other) = other

pub pointwise_same : {A : Type 0} (E : A → A → Bool) → ((x y : A) → E x y ≡ true → x ≡ y) → (a b : List A) → pointwise E a b ≡ true → a ≡ b
pointwise_same E same [] [] e = refl
pointwise_same E same [] (y ∷ b) e = absurd (cc)
pointwise_same E same (x ∷ a) [] e = absurd (cc)
pointwise_same E same (x ∷ a) (y ∷ b) e =
    let both = both_pass (E x y) (pointwise E a b) e in
    let head = same x y both.0 in
    let tail = pointwise_same E same a b both.1 in
    (λ i. head i ∷ tail i)

pub same_lists : (a b : Names) → is_same a b ≡ true → a ≡ b
same_lists = pointwise_same (pointwise nat_eq) (pointwise_same nat_eq eqb-true)

-- a path from a front is the front with the rest behind it
pub parts_of : (path p : Names) → is_from path p ≡ true → path ≡ p ++ drop (length p) path
parts_of path p e = sym (take-append-drop (length p) path) ∙ ap (λ (a : Names). a ++ drop (length p) path) (sym (same_lists p (take (length p) path) e))

pub from_front : (p r : Names) → is_from (p ++ r) p ≡ true
from_front p r = ap (pointwise (pointwise nat_eq) p) (take-append_seam p r) ∙ same_names p

pub behind_front : (p r : Names) → drop (length p) (p ++ r) ≡ r
behind_front [] r = refl
behind_front (x ∷ p) r = behind_front p r

-- a list is empty, or has a last item
pub ended : (r : Names) → (r ≡ []) ⊎ ((front : Names) × (last : List ℕ) × (r ≡ front ++ last ∷ []))
ended [] = inl refl
ended (x ∷ r) = go (ended r) where
  go : (r ≡ []) ⊎ ((front : Names) × (last : List ℕ) × (r ≡ front ++ last ∷ [])) → (x ∷ r ≡ []) ⊎ ((front : Names) × (last : List ℕ) × (x ∷ r ≡ front ++ last ∷ []))
  go (inl none) = inr ([], x, ap (λ (t : Names). x ∷ t) none)
  go (inr some) = inr (x ∷ some.0, some.1, ap (λ (t : Names). x ∷ t) some.2)

is_true : (b : Bool) → T b → b ≡ true
is_true true h = refl
is_true false h = absurd h

both : (b c : Bool) → b ≡ true → c ≡ true → (b && c) ≡ true
both true c e f = f
both false c e f = absurd (cc)

pub lies_below : (p : Names) (n : List ℕ) (r : Names) → is_below (p ++ n ∷ r) p ≡ true
lies_below p n r = both (ltb (length p) (length (p ++ n ∷ r))) _ (is_true _ (lt→ltb _ _ (omega (arith, length-append p (n ∷ r))))) (from_front p (n ∷ r))

-- ---- the node at a path, by the entries

less_itself : (x : Names) → T (is_lt (path_cmp x x)) → ⊥
less_itself x h = subst (λ r. T (is_lt r)) (tied_itself path_total x) h

t_first : (a b : Bool) → T (a && b) → T a
t_first true b h = tt
t_first false b h = absurd h

t_second : (a b : Bool) → T (a && b) → T b
t_second true b h = h
t_second false b h = absurd h

pub apart : (x q : Names) (xs : List (Names × Node)) → T (es.below_all path_cmp x xs) → IsSome (es.find path_cmp q xs) → q ≡ x → ⊥
apart x q [] below there same = no_node there
apart x q (e ∷ xs) below there same = go (same_path q e.0) (λ later. apart x q xs (t_second _ _ below) later same) where
  go : (eq_by_cmp path_cmp q e.0 ≡ true) × (q ≡ e.0) ⊎ (eq_by_cmp path_cmp q e.0 ≡ false) → (IsSome (es.find path_cmp q xs) → ⊥) → ⊥
  go (inl tie) later = less_itself x (subst (λ (z : Names). T (is_lt (path_cmp x z))) (sym tie.1 ∙ same) (t_first _ _ below))
  go (inr other) later = later (subst (λ b. IsSome (cond b (Some e.1) (es.find path_cmp q xs))) other there)

at_once : (x e : Names × Node) (xs : List (Names × Node)) → x ≡ e → es.find path_cmp e.0 (x ∷ xs) ≡ Some e.1
at_once x e xs same = subst (λ (z : Names × Node). es.find path_cmp z.0 (x ∷ xs) ≡ Some z.1) same (ap (λ b. cond b (Some x.1) (es.find path_cmp x.0 xs)) (tied x.0 x.0 refl))

found_in : (test : Names × Node → Bool) (xs : List (Names × Node)) (e : Names × Node) → T (es.is_sorted path_cmp xs) → find test xs ≡ Some e → es.find path_cmp e.0 xs ≡ Some e.1
found_in test [] e sorted h = absurd (cc)
found_in test (x ∷ xs) e sorted h = go (test x) h (λ later. found_in test xs e (t_second _ _ sorted) later) where
  past : (eq_by_cmp path_cmp e.0 x.0 ≡ true) × (e.0 ≡ x.0) ⊎ (eq_by_cmp path_cmp e.0 x.0 ≡ false) → es.find path_cmp e.0 xs ≡ Some e.1 → es.find path_cmp e.0 (x ∷ xs) ≡ Some e.1
  past (inl tie) there = absurd (apart x.0 e.0 xs (t_first _ _ sorted) (subst IsSome (sym there) refl) tie.1)
  past (inr other) there = ap (λ b. cond b (Some x.1) (es.find path_cmp e.0 xs)) other ∙ there

  go : (b : Bool) → cond b (Some x) (find test xs) ≡ Some e → (find test xs ≡ Some e → es.find path_cmp e.0 xs ≡ Some e.1) → es.find path_cmp e.0 (x ∷ xs) ≡ Some e.1
  go true is later = at_once x e xs (cc)
  go false is later = past (same_path e.0 x.0) (later is)

-- an entry that is found stands at its path
pub found_stands : (tree : Tree) (test : Names × Node → Bool) (e : Names × Node) → find test (map.entries tree) ≡ Some e → map.get tree e.0 ≡ Some e.1
found_stands tree test e h = map.get-entries tree e.0 ∙ found_in test (map.entries tree) e (map.entries_sorted tree) h

-- and passes
passes_in : (test : Names × Node → Bool) (xs : List (Names × Node)) (e : Names × Node) → find test xs ≡ Some e → test e ≡ true
passes_in test [] e h = absurd (cc)
passes_in test (x ∷ xs) e h = go (test x) refl h (λ later. passes_in test xs e later) where
  go : (b : Bool) → test x ≡ b → cond b (Some x) (find test xs) ≡ Some e → (find test xs ≡ Some e → test e ≡ true) → test e ≡ true
  go true is found later = ap test (sym (same x e found)) ∙ is where
    same : (y z : Names × Node) → Some y ≡ Some z → y ≡ z
    same y z h = cc
  go false is found later = later found

pub found_passes : (tree : Tree) (test : Names × Node → Bool) (e : Names × Node) → find test (map.entries tree) ≡ Some e → test e ≡ true
found_passes tree test e h = passes_in test (map.entries tree) e h

-- what stands and passes is found, or another one is
some_in : (test : Names × Node → Bool) (xs : List (Names × Node)) (p : Names) (node : Node) → es.find path_cmp p xs ≡ Some node → test (p, node) ≡ true → IsSome (find test xs)
some_in test [] p node h passes = absurd (cc)
some_in test (x ∷ xs) p node h passes = go (same_path p x.0) h (λ later. some_in test xs p node later passes) where
  past : (b : Bool) → IsSome (find test xs) → IsSome (cond b (Some x) (find test xs))
  past true later = refl
  past false later = later

  here : test x ≡ true → IsSome (cond (test x) (Some x) (find test xs))
  here e = subst (λ b. IsSome (cond b (Some x) (find test xs))) (sym e) refl

  first : p ≡ x.0 → Some x.1 ≡ Some node → test x ≡ true
  first path is = let content : node ≡ x.1 = cc in (λ i. test (sym path i, sym content i)) ∙ passes

  go : (eq_by_cmp path_cmp p x.0 ≡ true) × (p ≡ x.0) ⊎ (eq_by_cmp path_cmp p x.0 ≡ false) → cond (eq_by_cmp path_cmp p x.0) (Some x.1) (es.find path_cmp p xs) ≡ Some node
      → (es.find path_cmp p xs ≡ Some node → IsSome (find test xs)) → IsSome (find test (x ∷ xs))
  go (inl tie) is later = here (first tie.1 (subst (λ b. cond b (Some x.1) (es.find path_cmp p xs) ≡ Some node) tie.0 is))
  go (inr other) is later = past (test x) (later (subst (λ b. cond b (Some x.1) (es.find path_cmp p xs) ≡ Some node) other is))

pub some_found : (tree : Tree) (test : Names × Node → Bool) (p : Names) (node : Node) → map.get tree p ≡ Some node → test (p, node) ≡ true → IsSome (find test (map.entries tree))
some_found tree test p node h passes = some_in test (map.entries tree) p node (sym (map.get-entries tree p) ∙ h) passes

-- ---- what lies below a path

pub any_of_found : (test : Names × Node → Bool) (xs : List (Names × Node)) → IsSome (find test xs) → list_any test xs ≡ true
any_of_found test [] h = absurd (cc)
any_of_found test (x ∷ xs) h = go (test x) h (any_of_found test xs) where
  go : (b : Bool) → IsSome (cond b (Some x) (find test xs)) → (IsSome (find test xs) → list_any test xs ≡ true) → (b || list_any test xs) ≡ true
  go true there later = refl
  go false there later = later there

pub found_of_any : (test : Names × Node → Bool) (xs : List (Names × Node)) → list_any test xs ≡ true → IsSome (find test xs)
found_of_any test [] h = absurd (cc)
found_of_any test (x ∷ xs) h = go (test x) h (found_of_any test xs) where
  go : (b : Bool) → (b || list_any test xs) ≡ true → (list_any test xs ≡ true → IsSome (find test xs)) → IsSome (cond b (Some x) (find test xs))
  go true there later = refl
  go false there later = later there

-- nothing lies below a bare path, at any depth
pub bare_below : (tree : Tree) (p : Names) → is_bare tree p ≡ true → (n : List ℕ) (r : Names) → map.get tree (p ++ n ∷ r) ≡ None
bare_below tree p bare n r = empty_or _ (λ there.
    let node = value_of _ there in
    let found = some_found tree (λ e. is_below e.0 p) (p ++ n ∷ r) node.0 node.1 (lies_below p n r) in
    differ _ (any_of_found (λ e. is_below e.0 p) (map.entries tree) found) (negated _ bare))

-- a path that lies below another is that one, a name and the rest
deeper : (path p : Names) → is_below path p ≡ true → (n : List ℕ) × (r : Names) × (path ≡ p ++ n ∷ r)
deeper path p h = go (drop (length p) path) (parts_of path p tests.1) where
  tests : (ltb (length p) (length path) ≡ true) × (is_from path p ≡ true)
  tests = both_pass _ _ h

  go : (rest : Names) → path ≡ p ++ rest → (n : List ℕ) × (r : Names) × (path ≡ p ++ n ∷ r)
  go [] is = absurd (omega (arith, ltb-true (length p) (length path) tests.0, ap length is, length-append p []))
  go (n ∷ r) is = (n, r, is)

-- and a path with nothing below it is bare
pub bare_of_nothing : (tree : Tree) (p : Names) → ((n : List ℕ) (r : Names) → map.get tree (p ++ n ∷ r) ≡ None) → is_bare tree p ≡ true
bare_of_nothing tree p nothing = ap not (isnt _ (λ any.
    let e = value_of _ (found_of_any (λ e. is_below e.0 p) (map.entries tree) any) in
    let parts = deeper e.0.0 p (found_passes tree (λ x. is_below x.0 p) e.0 e.1) in
    let there = found_stands tree (λ x. is_below x.0 p) e.0 e.1 in
    absent _ (nothing parts.0 parts.1) (subst (λ (z : Names). IsSome (map.get tree z)) parts.2 (subst IsSome (sym there) refl))))
