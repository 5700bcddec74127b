-- sorted names in a vector
use Rattle.std.proofs.Common.{◌≡◌, ◌⊎◌, inl, inr, ℕ, zero, suc, ◌<◌, ◌≤◌, ◌+◌, false, cond, T, List, [], ◌∷◌, length, get_or, set, Some, None, Result, Ok, Err, IfOk, IfErr, refl, sym, ap, subst, ◌∙◌, arith}
use Rattle.std.specs.Prelude.{not, nat_eq, drop}
use Rattle.std.specs.Cmp.Lexicographic.{pointwise, texts_ties}
use Rattle.std.specs.List.{insert, remove}
use Rattle.std.specs.List.Sorted.{IsSearchInRange, IsBinarySearchResult, IsNonDecreasingBy}
use Rattle.std.specs.declared.cmp.Ordering.TheVariants.{Less, Equal, Greater}
use Rattle.std.specs.Ordering.{ordering_index, is_eq}
use Rattle.std.specs.FinMap.Entries as es
use Rattle.std.proofs.lemmas.Bool.{cases_lt}
use Rattle.tree_stores.specs.declared.names.few.Named.{Named}
use Rattle.tree_stores.specs.Names.{name_cmp, listed}
use Rattle.tree_stores.specs.Places.{IsInOrder, IsAt, IsGap, without}
use Rattle.tree_stores.proofs.Orders.{ties, holds, first, second, less, turned, below_tied, no_higher}

abbrev pub Sorted : List Named → Type 0
Sorted few = T (es.is_sorted name_cmp (listed few))

-- what is below all is below each
below_at : (x : List ℕ) (few : List Named) (i : ℕ) (d : Named) → T (es.below_all name_cmp x (listed few)) → i < length few → name_cmp x (get_or few i d).name ≡ Less
below_at x [] i d below lt = absurd (omega arith)
below_at x (e ∷ few) zero d below lt = less _ (first _ _ below)
below_at x (e ∷ few) (suc i) d below lt = below_at x few i d (second _ _ below) (omega arith)

rises_at : (few : List Named) (i j : ℕ) (d : Named) → Sorted few → i < j → j < length few → name_cmp (get_or few i d).name (get_or few j d).name ≡ Less
rises_at [] i j d sorted before lt = absurd (omega arith)
rises_at (e ∷ few) i zero d sorted before lt = absurd (omega arith)
rises_at (e ∷ few) zero (suc j) d sorted before lt = below_at e.name few j d (first _ _ sorted) (omega arith)
rises_at (e ∷ few) (suc i) (suc j) d sorted before lt = rises_at few i j d (second _ _ sorted) (omega arith) (omega arith)

-- the comparisons with a name rise, as a binary search asks
rising : (few : List Named) (k : List ℕ) → Sorted few → IsNonDecreasingBy (λ named. ordering_index (name_cmp named.name k)) few
rising few k sorted i j d le lt = go (cases_lt i j) where
  index : ℕ → ℕ
  index n = ordering_index (name_cmp (get_or few n d).name k)

  go : (i < j) ⊎ (j ≤ i) → ordering_index (name_cmp (get_or few i d).name k) ≤ ordering_index (name_cmp (get_or few j d).name k)
  go (inl before) = no_higher (get_or few i d).name (get_or few j d).name k (rises_at few i j d sorted before lt)
  go (inr behind) =
      let same : i ≡ j = omega (arith, le, behind) in
      subst (λ n. ordering_index (name_cmp (get_or few i d).name k) ≤ ordering_index (name_cmp (get_or few n d).name k)) same (omega arith)

-- where a binary search ends
pub found : (few : List Named) (k : List ℕ) (r : Result ℕ ℕ) → IsSearchInRange r (length few) → IsBinarySearchResult (λ named. name_cmp named.name k) few r → IfOk r (IsAt few k)
found few k (Ok i) within same = record { within = within; same = same }
found few k (Err i) within parted = tt

pub absent : (few : List Named) (k : List ℕ) (r : Result ℕ ℕ) → IsInOrder (listed few) → IsSearchInRange r (length few) → IsBinarySearchResult (λ named. name_cmp named.name k) few r → IfErr r (IsGap few k)
absent few k (Ok i) order within same = tt
absent few k (Err i) order within parted =
    let cut = parted (rising few k (holds _ order)) in
    record { within = within; before = λ j d lt. cut.0 j d (omega arith) lt; behind = λ j d le lt. cut.1 j d le lt }

-- names before one that ties are below it
passed : (e : Named) (few : List Named) (i : ℕ) (d : Named) (k : List ℕ) → T (es.below_all name_cmp e.name (listed few)) → i < length few → name_cmp (get_or few i d).name k ≡ Equal → name_cmp k e.name ≡ Greater
passed e few i d k below lt tied = turned e.name k Less (below_tied e.name (get_or few i d).name k (below_at e.name few i d below lt) tied)

-- what stands at a name's index
module _ (d : Named) (k : List ℕ) where
  pub find_at : (few : List Named) (i : ℕ) → Sorted few → i < length few → name_cmp (get_or few i d).name k ≡ Equal → es.find name_cmp k (listed few) ≡ Some (get_or few i d).object
  find_at [] i sorted lt tied = absurd (omega arith)
  find_at (e ∷ few) zero sorted lt tied = ap (λ o. cond (is_eq o) (Some e.object) (es.find name_cmp k (listed few))) (turned e.name k Equal tied)
  find_at (e ∷ few) (suc i) sorted lt tied =
      let inside : i < length few = omega arith in
      ap (λ o. cond (is_eq o) (Some e.object) (es.find name_cmp k (listed few))) (passed e few i d k (first _ _ sorted) inside tied) ∙ find_at few i (second _ _ sorted) inside tied

  pub put_at : (few : List Named) (i v : ℕ) → Sorted few → i < length few → name_cmp (get_or few i d).name k ≡ Equal
      → listed (set few i (record (get_or few i d) { object = v })) ≡ es.put name_cmp k v (listed few)
  put_at [] i v sorted lt tied = absurd (omega arith)
  put_at (e ∷ few) zero v sorted lt tied =
      sym (ap (λ o. es.by_order o ((k, v) ∷ (e.name, e.object) ∷ listed few) ((e.name, v) ∷ listed few) ((e.name, e.object) ∷ es.put name_cmp k v (listed few))) (turned e.name k Equal tied))
  put_at (e ∷ few) (suc i) v sorted lt tied =
      let inside : i < length few = omega arith in
      ap (λ (z : List (List ℕ × ℕ)). (e.name, e.object) ∷ z) (put_at few i v (second _ _ sorted) inside tied)
      ∙ sym (ap (λ o. es.by_order o ((k, v) ∷ (e.name, e.object) ∷ listed few) ((e.name, v) ∷ listed few) ((e.name, e.object) ∷ es.put name_cmp k v (listed few))) (passed e few i d k (first _ _ sorted) inside tied))

-- a search from one name on looks at that name, and then goes on behind it
found_at : (few : List Named) (i : ℕ) (d : Named) (k : List ℕ) → i < length few → d ≡ get_or few i d
    → es.find name_cmp k (listed (drop i few)) ≡ cond (pointwise nat_eq k d.name) (Some d.object) (es.find name_cmp k (listed (drop (suc i) few)))
found_at [] i d k lt is = absurd (omega arith)
found_at (e ∷ few) zero d k lt is =
    sym (ap (λ (z : Named). cond (pointwise nat_eq k z.name) (Some z.object) (es.find name_cmp k (listed few))) is
    ∙ ap (λ b. cond b (Some e.object) (es.find name_cmp k (listed few))) (texts_ties k e.name))
found_at (e ∷ few) (suc i) d k lt is = found_at few i d k (omega arith) is

pub found_from : (few : List Named) (i : ℕ) (d : Named) (k : List ℕ) → i < length few → d ≡ get_or few i d
    → es.find name_cmp k (listed (drop i few)) ≡ cond (pointwise nat_eq k d.name) (Some d.object) (es.find name_cmp k (listed (drop (i + 1) few)))
found_from few i d k lt is =
    let next : suc i ≡ i + 1 = omega arith in
    found_at few i d k lt is ∙ ap (λ n. cond (pointwise nat_eq k d.name) (Some d.object) (es.find name_cmp k (listed (drop n few)))) next

-- names that all differ from one
module _ (k : List ℕ) where
  abbrev pub Differ : List Named → Type 0
  Differ few = (i : ℕ) (d : Named) → i < length few → is_eq (name_cmp k (get_or few i d).name) ≡ false

  rest_differ : (e : Named) (few : List Named) → Differ (e ∷ few) → Differ few
  rest_differ e few differ i d lt = differ (suc i) d (omega arith)

  pub find_none : (few : List Named) → Differ few → es.find name_cmp k (listed few) ≡ None
  find_none [] differ = refl
  find_none (e ∷ few) differ = ap (λ b. cond b (Some e.object) (es.find name_cmp k (listed few))) (differ 0 e (omega arith)) ∙ find_none few (rest_differ e few differ)

  pub without_none : (few : List Named) → Differ few → listed few ≡ without k (listed few)
  without_none [] differ = refl
  without_none (e ∷ few) differ =
      ap (λ (z : List (List ℕ × ℕ)). (e.name, e.object) ∷ z) (without_none few (rest_differ e few differ))
      ∙ sym (ap (λ b. cond (not b) ((e.name, e.object) ∷ without k (listed few)) (without k (listed few))) (differ 0 e (omega arith)))

  pub gap_differs : (few : List Named) (i : ℕ) → IsGap few k i → Differ few
  gap_differs few i gap j d lt = go (cases_lt j i) where
    go : (j < i) ⊎ (i ≤ j) → is_eq (name_cmp k (get_or few j d).name) ≡ false
    go (inl before) = ap is_eq (turned (get_or few j d).name k Less (gap.before j d before))
    go (inr behind) = ap is_eq (turned (get_or few j d).name k Greater (gap.behind j d behind lt))

  above_differ : (e : Named) (few : List Named) → T (es.below_all name_cmp e.name (listed few)) → name_cmp e.name k ≡ Equal → Differ few
  above_differ e few below tied i d lt = ap is_eq (ap (λ (z : List ℕ). name_cmp z (get_or few i d).name) (sym (ties e.name k tied)) ∙ below_at e.name few i d below lt)

  pub without_at : (d : Named) (few : List Named) (i : ℕ) → Sorted few → i < length few → name_cmp (get_or few i d).name k ≡ Equal → listed (remove few i) ≡ without k (listed few)
  without_at d [] i sorted lt tied = absurd (omega arith)
  without_at d (e ∷ few) zero sorted lt tied =
      without_none few (above_differ e few (first _ _ sorted) tied)
      ∙ sym (ap (λ o. cond (not (is_eq o)) ((e.name, e.object) ∷ without k (listed few)) (without k (listed few))) (turned e.name k Equal tied))
  without_at d (e ∷ few) (suc i) sorted lt tied =
      let inside : i < length few = omega arith in
      ap (λ (z : List (List ℕ × ℕ)). (e.name, e.object) ∷ z) (without_at d few i (second _ _ sorted) inside tied)
      ∙ sym (ap (λ o. cond (not (is_eq o)) ((e.name, e.object) ∷ without k (listed few)) (without k (listed few))) (passed e few i d k (first _ _ sorted) inside tied))

-- a name put into its gap
pub put_gap : (named : Named) (few : List Named) (i : ℕ) → IsGap few named.name i → listed (insert few i named) ≡ es.put name_cmp named.name named.object (listed few)
put_gap n [] i gap = nothing i where
  nothing : (i : ℕ) → listed (insert [] i n) ≡ (n.name, n.object) ∷ []
  nothing zero = refl
  nothing (suc i) = refl
put_gap n (e ∷ few) zero gap =
    sym (ap (λ o. es.by_order o ((n.name, n.object) ∷ (e.name, e.object) ∷ listed few) ((e.name, n.object) ∷ listed few) ((e.name, e.object) ∷ es.put name_cmp n.name n.object (listed few)))
    (turned e.name n.name Greater (gap.behind 0 e (omega arith) (omega arith))))
put_gap n (e ∷ few) (suc i) gap =
    let rest : IsGap few n.name i = record { within = omega (arith, gap.within); before = λ j d lt. gap.before (suc j) d (omega arith); behind = λ j d le lt. gap.behind (suc j) d (omega arith) (omega arith) } in
    ap (λ (z : List (List ℕ × ℕ)). (e.name, e.object) ∷ z) (put_gap n few i rest)
    ∙ sym (ap (λ o. es.by_order o ((n.name, n.object) ∷ (e.name, e.object) ∷ listed few) ((e.name, n.object) ∷ listed few) ((e.name, e.object) ∷ es.put name_cmp n.name n.object (listed few)))
    (turned e.name n.name Less (gap.before 0 e (omega arith))))

pub length-listed : (few : List Named) → length (listed few) ≡ length few
length-listed [] = refl
length-listed (e ∷ few) = ap suc (length-listed few)

-- the named pair that was read, with another object
pub put_read : (named : Named) (k : List ℕ) (few : List Named) (i v : ℕ) → Sorted few → IsAt few k i → named ≡ get_or few i named
    → listed (set few i (record { name = named.name; object = v })) ≡ es.put name_cmp k v (listed few)
put_read named k few i v sorted at is =
    ap (λ (z : Named). listed (set few i (record { name = z.name; object = v }))) is ∙ put_at named k few i v sorted at.within (at.same named)
