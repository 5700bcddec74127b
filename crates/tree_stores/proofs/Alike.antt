-- pages that show the same on both sides
use Rattle.std.proofs.Common.{◌≡◌, ℕ, ◌/◌, ◌%◌, ◌+◌, ◌-◌, ◌<◌, ◌≤◌, ◌⊎◌, inl, inr, Bool, true, false, cond, eqb, List, [], ◌∷◌, length, take, drop, get_or, Option, Some, None, refl, sym, ap, ◌∙◌, arith}
use Rattle.std.specs.Prelude.{slice_index, nat_eq, unwrap_or}
use Rattle.std.specs.Cmp.Lexicographic.{pointwise}
use Rattle.std.specs.Ordering.{is_eq, nat_cmp}
use Rattle.std.specs.BTreeMap as tree
use Rattle.std.specs.BTreeMap.{is_at}
use Rattle.std.specs.Map.{lookup}
use Rattle.std.proofs.lemmas.Bool.{cases_eq, cases_lt, cond-true, cond-false, eq-eqb, ne_eqb, eqb-true}
use Rattle.std.proofs.lemmas.List.{get_or_past, get_or-take, get_or-drop}
use Rattle.tree_stores.specs.declared.file_bytes.page.TheConstants.{PAGE}
use Rattle.tree_stores.specs.declared.file_bytes.pages.Pages.{Pages}
use Rattle.tree_stores.specs.Paged.{page_of, byte_of}
use Rattle.tree_stores.specs.Shows.{IsShown, AllShown}
use Rattle.tree_stores.proofs.Paging.{same_number}
use Rattle.tree_stores.proofs.Places.{by_places}
use Rattle.tree_stores.proofs.Reading.{equal_bytes}

-- what a look-up finds is shown
found : (others : Pages) (es : List (ℕ × List ℕ)) (q : ℕ) (page : List ℕ) → AllShown others es → lookup (is_at (nat_cmp q)) es ≡ Some page → IsShown others (q, page)
found others [] q page all is = absurd (cc)
found others (e ∷ es) q page all is = go (λ rest. found others es q page all.1 rest) (is_eq (nat_cmp q e.0)) refl where
  go : (lookup (is_at (nat_cmp q)) es ≡ Some page → IsShown others (q, page)) → (b : Bool) → is_eq (nat_cmp q e.0) ≡ b → IsShown others (q, page)
  go later true at k =
      let here : q ≡ e.0 = eqb-true q e.0 (sym (same_number q e.0) ∙ at) in
      let same : Some e.1 ≡ Some page = sym (ap (λ t. cond t (Some e.1) (lookup (is_at (nat_cmp q)) es)) at) ∙ is in
      ap (λ (o : Option (List ℕ)). get_or (unwrap_or o []) k 0) (sym same) ∙ all.0 k ∙ ap (λ (n : ℕ). get_or (page_of others n) k 0) (sym here)
  go later false at k = later (sym (ap (λ t. cond t (Some e.1) (lookup (is_at (nat_cmp q)) es)) at) ∙ is) k

-- ---- two pages

zeros_read : (zs : List ℕ) → ((k : ℕ) → k < length zs → slice_index zs k ≡ 0) → (k : ℕ) → get_or zs k 0 ≡ 0
zeros_read zs all k = go (cases_lt k (length zs)) where
  go : (k < length zs) ⊎ (length zs ≤ k) → get_or zs k 0 ≡ 0
  go (inl lt) = all k lt
  go (inr le) = get_or_past zs k 0 le

-- the same as far as the shorter one goes, and zeros in what is left of both
pub pages_same : (xs ys us vs : List ℕ) (n : ℕ) → us ≡ drop n xs → vs ≡ drop n ys → pointwise nat_eq (take n xs) (take n ys) ≡ true
    → ((k : ℕ) → k < length us → slice_index us k ≡ 0) × ((k : ℕ) → k < length vs → slice_index vs k ≡ 0) → (k : ℕ) → slice_index xs k ≡ slice_index ys k
pages_same xs ys us vs n is_us is_vs front behind k = go (cases_lt k n) where
  past : (zs rest : List ℕ) → rest ≡ drop n zs → ((j : ℕ) → j < length rest → slice_index rest j ≡ 0) → n ≤ k → get_or zs k 0 ≡ 0
  past zs rest is all le =
      let at : n + (k - n) ≡ k = omega arith in
      ap (λ (j : ℕ). get_or zs j 0) (sym at) ∙ sym (get_or-drop n zs (k - n) 0) ∙ ap (λ (z : List ℕ). get_or z (k - n) 0) (sym is) ∙ zeros_read rest all (k - n)

  go : (k < n) ⊎ (n ≤ k) → get_or xs k 0 ≡ get_or ys k 0
  go (inl lt) = sym (get_or-take n xs k 0 lt) ∙ ap (λ (z : List ℕ). get_or z k 0) (equal_bytes (take n xs) (take n ys) front) ∙ get_or-take n ys k 0 lt
  go (inr le) = past xs us is_us behind.0 le ∙ sym (past ys vs is_vs behind.1 le)

-- two files with the same first page, each of whose others shows what the other file has there
module _ (one other : Pages) (first : (k : ℕ) → slice_index one.first k ≡ slice_index other.first k)
    (ours : AllShown other one.rest.entries) (theirs : AllShown one other.rest.entries) where
  behind : (q k : ℕ) → (q ≡ 0 → ⊥) → get_or (page_of one q) k 0 ≡ get_or (page_of other q) k 0
  behind q k ne = go (tree.get nat_cmp one.rest q) refl where
    here : (pages : Pages) → page_of pages q ≡ unwrap_or (tree.get nat_cmp pages.rest q) []
    here pages = cond-false (eqb q 0) pages.first (unwrap_or (tree.get nat_cmp pages.rest q) []) (ne_eqb q 0 ne)

    absent : (o : Option (List ℕ)) → tree.get nat_cmp other.rest q ≡ o → tree.get nat_cmp one.rest q ≡ None → get_or (page_of one q) k 0 ≡ get_or (page_of other q) k 0
    absent None is none = ap (λ (page : List ℕ). get_or page k 0) (here one ∙ ap (λ (o : Option (List ℕ)). unwrap_or o []) (none ∙ sym is) ∙ sym (here other))
    absent (Some page) is none =
        sym (ap (λ (z : List ℕ). get_or z k 0) (here other ∙ ap (λ (o : Option (List ℕ)). unwrap_or o []) is) ∙ found one other.rest.entries q page theirs is k)

    go : (o : Option (List ℕ)) → tree.get nat_cmp one.rest q ≡ o → get_or (page_of one q) k 0 ≡ get_or (page_of other q) k 0
    go None is = absent (tree.get nat_cmp other.rest q) refl is
    go (Some page) is = ap (λ (z : List ℕ). get_or z k 0) (here one ∙ ap (λ (o : Option (List ℕ)). unwrap_or o []) is) ∙ found other one.rest.entries q page ours is k

  at_first : (q k : ℕ) → q ≡ 0 → get_or (page_of one q) k 0 ≡ get_or (page_of other q) k 0
  at_first q k e =
      ap (λ (z : List ℕ). get_or z k 0) (cond-true (eqb q 0) one.first (unwrap_or (tree.get nat_cmp one.rest q) []) (eq-eqb q 0 e)) ∙ first k
      ∙ sym (ap (λ (z : List ℕ). get_or z k 0) (cond-true (eqb q 0) other.first (unwrap_or (tree.get nat_cmp other.rest q) []) (eq-eqb q 0 e)))

  pub same_bytes : byte_of one ≡ byte_of other
  unfolding byte_of
  same_bytes = by_places (byte_of one) (byte_of other) (λ i. go i (cases_eq (i / PAGE) 0)) where
    go : (i : ℕ) → (i / PAGE ≡ 0) ⊎ (i / PAGE ≡ 0 → ⊥) → byte_of one i ≡ byte_of other i
    go i (inl e) = at_first (i / PAGE) (i % PAGE) e
    go i (inr ne) = behind (i / PAGE) (i % PAGE) ne
