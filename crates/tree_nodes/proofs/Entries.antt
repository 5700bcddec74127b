-- the order of paths, and sorted entries as a finite map
use Rattle.std.proofs.Common.{◌≡◌, cond, List, [], ◌∷◌, length, Some, refl, sym, ap, ◌∙◌, arith}
use Rattle.std.specs.declared.cmp.Ordering.{Ordering}
use Rattle.std.specs.declared.cmp.Ordering.TheVariants.{Less}
use Rattle.std.specs.Ordering.{eq_by_cmp}
use Rattle.std.specs.Cmp.{IsTotalOrder}
use Rattle.std.proofs.lemmas.Cmp.{nat_list_cmp_total, lists_total}
use Rattle.std.specs.List.{AllByRecursion}
use Rattle.std.specs.List.Sorted.{IsStrictlySortedBy}
use Rattle.std.specs.FinMap as map
use Rattle.std.specs.FinMap.Entries as es
use Rattle.std.specs.BTreeMap.{is_at}
use Rattle.std.specs.Map.{lookup, keys_of}
use Rattle.tree_nodes.specs.Tree.{path_cmp}

-- paths are in a total order, and only equal ones tie
pub path_total : IsTotalOrder path_cmp
path_total = lists_total nat_list_cmp_total

pub path_ties : map.IsAntisymmetric path_cmp
path_ties = map.slice_cmp-IsAntisymmetric (map.slice_cmp-IsAntisymmetric map.nat_cmp-IsAntisymmetric)

pub find_lookup : {K X : Type 0} (R : K → K → Ordering) (q : K) (xs : List (K × X)) → es.find R q xs ≡ lookup (is_at (R q)) xs
find_lookup R q [] = refl
find_lookup R q (e ∷ xs) = ap (cond (eq_by_cmp R q e.0) (Some e.1)) (find_lookup R q xs)

put_first : {K X : Type 0} (R : K → K → Ordering) (k : K) (v : X) (xs : List (K × X)) → AllByRecursion (λ y. R k y ≡ Less) (keys_of xs) → es.put R k v xs ≡ (k, v) ∷ xs
put_first R k v [] h = refl
put_first R k v (e ∷ xs) h = ap (λ r. es.by_order r ((k, v) ∷ e ∷ xs) ((e.0, v) ∷ xs) (e ∷ es.put R k v xs)) h.0

no_entries : {A : Type 0} (xs : List A) → length xs ≡ 0 → xs ≡ []
no_entries [] e = refl
no_entries (x ∷ xs) e = absurd (omega arith)

pub entries_empty : {K : Type 0} (R : K → K → Ordering) (X : Type 0) → map.entries (map.empty {X = X} {R = R}) ≡ []
entries_empty R X = no_entries _ (sym (map.len-entries (map.empty {X = X} {R = R})) ∙ map.len-empty R X)

pub entries_sorted : {K X : Type 0} (R : K → K → Ordering) → IsTotalOrder R → (xs : List (K × X)) → IsStrictlySortedBy R (keys_of xs) → map.entries (map.from_entries {R = R} xs) ≡ xs
unfolding IsStrictlySortedBy
entries_sorted {K} {X} R o [] h = entries_empty R X
entries_sorted R o (e ∷ xs) h =
    map.entries-insert o (map.from_entries xs) e.0 e.1 ∙ ap (es.put R e.0 e.1) (entries_sorted R o xs h.1) ∙ put_first R e.0 e.1 xs h.0
