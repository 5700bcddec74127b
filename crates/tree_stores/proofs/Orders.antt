-- the order of names
use Rattle.std.proofs.Common.{append_assoc, ◌≡◌, ℕ, ◌≤◌, Bool, true, false, T, List, [], ◌∷◌, ◌++◌, Result, Ok, Err, OnOk, OnErr, refl, sym, ap, subst, ◌∙◌, arith}
use Rattle.std.specs.Prelude.{◌&&◌}
use Rattle.std.specs.declared.cmp.Ordering.{Ordering}
use Rattle.std.specs.declared.cmp.Ordering.TheVariants.{Less, Equal, Greater}
use Rattle.std.specs.Ordering.{ordering_reverse, ordering_index, is_lt}
use Rattle.std.specs.Cmp.{IsTotalOrder}
use Rattle.std.proofs.lemmas.Cmp.{nat_list_cmp_total}
use Rattle.std.specs.FinMap as map
use Rattle.std.specs.FinMap.Entries as es
use Rattle.tree_stores.specs.Names.{name_cmp}

pub total : IsTotalOrder name_cmp
total = nat_list_cmp_total

pub ties : map.IsAntisymmetric name_cmp
ties = map.slice_cmp-IsAntisymmetric map.nat_cmp-IsAntisymmetric

pub holds : (b : Bool) → b ≡ true → T b
holds b e = subst T (sym e) tt

pub first : (a b : Bool) → T (a && b) → T a
first true b p = tt
first false b p = p

pub second : (a b : Bool) → T (a && b) → T b
second true b p = p
second false b p = absurd p

pub less : (o : Ordering) → T (is_lt o) → o ≡ Less
less Less p = refl
less Equal p = absurd p
less Greater p = absurd p

pub turned : (a b : List ℕ) (o : Ordering) → name_cmp a b ≡ o → name_cmp b a ≡ ordering_reverse o
turned a b o e = total.antisymm b a ∙ ap ordering_reverse e

-- what is below a name that ties is below the name
pub below_tied : (a b k : List ℕ) → name_cmp a b ≡ Less → name_cmp b k ≡ Equal → name_cmp a k ≡ Less
below_tied a b k lt tied = ap (name_cmp a) (sym (ties b k tied)) ∙ lt

at_most_two : (o : Ordering) → ordering_index o ≤ 2
at_most_two Less = omega arith
at_most_two Equal = omega arith
at_most_two Greater = omega arith

-- of two names the lower one compares no higher
pub no_higher : (a b k : List ℕ) → name_cmp a b ≡ Less → ordering_index (name_cmp a k) ≤ ordering_index (name_cmp b k)
no_higher a b k lt = go (name_cmp b k) refl where
  go : (o : Ordering) → name_cmp b k ≡ o → ordering_index (name_cmp a k) ≤ ordering_index o
  go Less e = subst (λ (o : Ordering). ordering_index o ≤ 0) (sym (total.trans a b k lt e)) (omega arith)
  go Equal e = subst (λ (o : Ordering). ordering_index o ≤ 1) (sym (below_tied a b k lt e)) (omega arith)
  go Greater e = at_most_two (name_cmp a k)

-- a pair behind all others is put at the end
pub put_last : (pairs : List (List ℕ × ℕ)) (k : List ℕ) (v : ℕ) (rest : List (List ℕ × ℕ)) → T (es.is_sorted name_cmp (pairs ++ (k, v) ∷ rest)) → es.put name_cmp k v pairs ≡ pairs ++ (k, v) ∷ []
put_last [] k v rest sorted = refl
put_last (e ∷ pairs) k v rest sorted =
    let above = turned e.0 k Less (seen pairs (first _ _ sorted)) in
    ap (λ o. es.by_order o ((k, v) ∷ e ∷ pairs) ((e.0, v) ∷ pairs) (e ∷ es.put name_cmp k v pairs)) above ∙ ap (λ (z : List (List ℕ × ℕ)). e ∷ z) (put_last pairs k v rest (second _ _ sorted)) where
      seen : (between : List (List ℕ × ℕ)) → T (es.below_all name_cmp e.0 (between ++ (k, v) ∷ rest)) → name_cmp e.0 k ≡ Less
      seen [] below = less _ (first _ _ below)
      seen (x ∷ between) below = seen between (second _ _ below)

-- what holds is so at any error
pub at_any_err : {A E P : Type 0} (r : Result A E) → P → OnErr r P
at_any_err (Ok x) p = tt
at_any_err (Err e) p = p

-- one more pair has been put at the end, where those so far and those left are all
pub copied_more : (all before left : List (List ℕ × ℕ)) (k : List ℕ) (v : ℕ) → T (es.is_sorted name_cmp all) → before ++ (k, v) ∷ left ≡ all → es.put name_cmp k v before ++ left ≡ all
copied_more all before left k v sorted is =
    ap (λ (z : List (List ℕ × ℕ)). z ++ left) (put_last before k v left (subst (λ (z : List (List ℕ × ℕ)). T (es.is_sorted name_cmp z)) (sym is) sorted)) ∙ append_assoc before ((k, v) ∷ []) left ∙ is

pub either_way : {A E P Q R : Type 0} (r : Result A E) → OnOk r P → OnErr r Q → (P → R) → (Q → R) → R
either_way (Ok x) p q f g = f p
either_way (Err e) p q f g = g q
