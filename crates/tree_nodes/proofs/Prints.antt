-- the entries of a tree by the paths of its objects
use Rattle.std.proofs.Common.{◌≡◌, ℕ, zero, suc, ◌<◌, ◌^◌, Bool, true, false, cond, T, List, [], ◌∷◌, ◌++◌, length, get_or, Some, refl, sym, ap, ◌∙◌, subst, arith, append_assoc, append-nil, BTreeMap}
use Rattle.std.specs.Prelude.{IsSome, All, option_map, ◌&&◌}
use Rattle.std.specs.Ordering.{eq_by_cmp, is_eq, is_lt}
use Rattle.std.specs.declared.cmp.Ordering.{Ordering}
use Rattle.std.specs.declared.cmp.Ordering.TheVariants.{Less, Equal, Greater}
use Rattle.std.specs.List.{flat_map, AllByRecursion}
use Rattle.std.specs.List.Sorted.{IsStrictlySortedBy}
use Rattle.std.specs.Map.{keys_of}
use Rattle.std.specs.BTreeMap as sorted
use Rattle.std.specs.BTreeMap.{IsOrdered}
use Rattle.std.specs.FinMap as map
use Rattle.std.specs.FinMap.Entries as es
use Rattle.std.proofs.lemmas.Cmp.{tied_itself}
use Rattle.std.proofs.lemmas.List.Elements.{All-head, All-tail, All-cons}
use Rattle.tree_nodes.specs.declared.node.Node.{Node}
use Rattle.tree_nodes.specs.Tree.{Names, Tree, path_cmp, entry_of}
use Rattle.tree_nodes.specs.Paths.{paths_of}
use Rattle.tree_nodes.specs.Numbered.{IsNumbered}
use Rattle.tree_nodes.specs.Sound.{IsSound}
use Rattle.tree_nodes.specs.Printed.{entry_text, IsShallow, EntryFits}
use Rattle.tree_nodes.proofs.Entries.{path_total, path_ties, entries_sorted, find_lookup}
use Rattle.tree_nodes.proofs.Soundness.{shallow}
use Rattle.tree_nodes.proofs.Found.{untied, apart}
use Rattle.tree_nodes.proofs.Climbing.{entry_there}
use Rattle.tree_nodes.proofs.Paths.{object_at}

t_first : (a b : Bool) → T (a && b) → T a
t_first true b h = tt
t_first false b h = absurd h

t_second : (a b : Bool) → T (a && b) → T b
t_second true b h = h
t_second false b h = absurd h

-- ---- the paths of a tree's objects are those of its entries

find_of : (q : Names) (xs : List (Names × Node)) → es.find path_cmp q (paths_of xs) ≡ option_map (λ (n : Node). n.object) (es.find path_cmp q xs)
find_of q [] = refl
find_of q (e ∷ xs) = go (eq_by_cmp path_cmp q e.0) (find_of q xs) where
  go : (b : Bool) → es.find path_cmp q (paths_of xs) ≡ option_map (λ (n : Node). n.object) (es.find path_cmp q xs)
      → cond b (Some e.1.object) (es.find path_cmp q (paths_of xs)) ≡ option_map (λ (n : Node). n.object) (cond b (Some e.1) (es.find path_cmp q xs))
  go true later = refl
  go false later = later

all_less : (x : Names) (xs : List (Names × Node)) → T (es.below_all path_cmp x xs) → AllByRecursion (λ y. path_cmp x y ≡ Less) (keys_of (paths_of xs))
all_less x [] h = tt
all_less x (e ∷ xs) h = (less (path_cmp x e.0) (t_first _ _ h), all_less x xs (t_second _ _ h)) where
  less : (o : Ordering) → T (is_lt o) → o ≡ Less
  less Less h = refl
  less Equal h = absurd h
  less Greater h = absurd h

strictly : (xs : List (Names × Node)) → T (es.is_sorted path_cmp xs) → IsStrictlySortedBy path_cmp (keys_of (paths_of xs))
unfolding IsStrictlySortedBy
strictly [] h = tt
strictly (e ∷ xs) h = (all_less e.0 xs (t_first _ _ h), strictly xs (t_second _ _ h))

pub paths_are : (t : Tree) (paths : BTreeMap Names ℕ) → IsOrdered path_cmp paths → ((p : Names) → sorted.get path_cmp paths p ≡ object_at t p) → paths.entries ≡ paths_of (map.entries t)
paths_are t paths ordered objects =
    sym (entries_sorted path_cmp path_total paths.entries ordered) ∙ ap (λ (m : map.FinMap path_cmp ℕ). map.entries m) same
    ∙ entries_sorted path_cmp path_total (paths_of (map.entries t)) (strictly (map.entries t) (map.entries_sorted t)) where
      same : map.from_entries {R = path_cmp} paths.entries ≡ map.from_entries {R = path_cmp} (paths_of (map.entries t))
      same = map.same_map path_total path_ties _ _ (λ q.
          map.get-from_entries path_total paths.entries q ∙ find_lookup path_cmp q paths.entries ∙ objects q ∙ ap (option_map (λ (n : Node). n.object)) (map.get-entries t q)
          ∙ sym (map.get-from_entries path_total (paths_of (map.entries t)) q ∙ find_of q (map.entries t)))

-- ---- each entry stands

found_at : (xs : List (Names × Node)) → T (es.is_sorted path_cmp xs) → (k : ℕ) (d : Names × Node) → k < length xs → es.find path_cmp (get_or xs k d).0 xs ≡ Some (get_or xs k d).1
found_at [] h k d small = absurd (omega arith)
found_at (e ∷ xs) h zero d small = ap (λ r. cond (is_eq r) (Some e.1) (es.find path_cmp e.0 xs)) (tied_itself path_total e.0)
found_at (e ∷ xs) h (suc k) d small =
    let there = found_at xs (t_second _ _ h) k d (omega arith) in
    ap (λ b. cond b (Some e.1) (es.find path_cmp (get_or xs k d).0 xs)) (untied (get_or xs k d).0 e.0 (apart e.0 (get_or xs k d).0 xs (t_first _ _ h) (subst IsSome (sym there) refl))) ∙ there

abbrev Stands : Tree → Names × Node → Type 0
Stands t e = (map.get t e.0 ≡ Some e.1) × IsShallow e

all_stand : (t : Tree) → IsSound t → All (Stands t) (map.entries t)
all_stand t sound k d small = (map.get-entries t (get_or (map.entries t) k d).0 ∙ found_at (map.entries t) (map.entries_sorted t) k d small, shallow t sound k d small)

-- ---- one by one

-- the entries that are left come behind what has been put
pub record Prints (t : Tree) (was out : List ℕ) (left : List (Names × ℕ)) : Type 0 where
  pub rest : List (Names × Node)
  pub paths : left ≡ paths_of rest
  pub text : out ++ flat_map entry_text rest ≡ was ++ flat_map entry_text (map.entries t)
  pub stands : All (λ e. (map.get t e.0 ≡ Some e.1) × IsShallow e) rest
  pub fits : All EntryFits rest → All EntryFits (map.entries t)

pub print_none : (t : Tree) (was : List ℕ) (left : List (Names × ℕ)) → IsSound t → left ≡ paths_of (map.entries t) → Prints t was was left
print_none t was left sound is = record { rest = map.entries t; paths = is; text = refl; stands = all_stand t sound; fits = λ h. h }

-- the first entry that is left
pub record First (t : Tree) (was out : List ℕ) (path : Names) (object : ℕ) (left : List (Names × ℕ)) : Type 0 where
  pub node : Node
  pub stands : entry_of t object ≡ Some (path, node)
  pub depth : length path < 2 ^ 32
  pub more : (new : List ℕ) → new ≡ out ++ entry_text (path, node) → EntryFits (path, node) → Prints t was new left

heads : (path : Names) (object : ℕ) (left : List (Names × ℕ)) (e : Names × Node) (rest : List (Names × Node)) → (path, object) ∷ left ≡ paths_of (e ∷ rest) → (path ≡ e.0) × (object ≡ e.1.object) × (left ≡ paths_of rest)
heads path object left e rest is =
    let first : ◌≡◌ {A = Names × ℕ} (path, object) (e.0, e.1.object) = cc in
    let later : left ≡ paths_of rest = cc in
    (ap (λ (z : Names × ℕ). z.0) first, ap (λ (z : Names × ℕ). z.1) first, later)

pub print_first : (t : Tree) (was out : List ℕ) (path : Names) (object : ℕ) (left : List (Names × ℕ)) → IsSound t → IsNumbered t → Prints t was out ((path, object) ∷ left) → First t was out path object left
print_first t was out path object left sound numbered prints = go prints.rest prints.paths prints.text prints.stands prints.fits where
  go : (rest : List (Names × Node)) → (path, object) ∷ left ≡ paths_of rest → out ++ flat_map entry_text rest ≡ was ++ flat_map entry_text (map.entries t) → All (Stands t) rest
      → (All EntryFits rest → All EntryFits (map.entries t)) → First t was out path object left
  go [] is text stands fits = absurd (cc)
  go (e ∷ rest) is text stands fits =
      let parts = heads path object left e rest is in
      let here = All-head (Stands t) e rest stands in
      let there : map.get t path ≡ Some e.1 = ap (map.get t) parts.0 ∙ here.0 in
      record {
        node = e.1;
        stands = ap (entry_of t) parts.1 ∙ entry_there t sound numbered path e.1 there;
        depth = subst (λ (z : Names). length z < 2 ^ 32) (sym parts.0) here.1;
        more = λ new put fit. record {
          rest = rest;
          paths = parts.2;
          text = ap (λ z. z ++ flat_map entry_text rest) (put ∙ ap (λ (z : Names). out ++ entry_text (z, e.1)) parts.0) ∙ append_assoc out (entry_text e) (flat_map entry_text rest) ∙ text;
          stands = All-tail (Stands t) e rest stands;
          fits = λ others. fits (All-cons EntryFits e rest (subst (λ (z : Names). EntryFits (z, e.1)) parts.0 fit) others);
        };
      }

pub print_all : (t : Tree) (was out : List ℕ) → Prints t was out [] → (out ≡ was ++ flat_map entry_text (map.entries t)) × All EntryFits (map.entries t)
print_all t was out prints = go prints.rest prints.paths prints.text prints.fits where
  go : (rest : List (Names × Node)) → [] ≡ paths_of rest → out ++ flat_map entry_text rest ≡ was ++ flat_map entry_text (map.entries t) → (All EntryFits rest → All EntryFits (map.entries t))
      → (out ≡ was ++ flat_map entry_text (map.entries t)) × All EntryFits (map.entries t)
  go [] is text fits = (sym (append-nil out) ∙ text, fits (λ k d h. absurd (omega arith)))
  go (e ∷ rest) is text fits = absurd (cc)
