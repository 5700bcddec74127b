-- sorted pairs as a map
use Rattle.std.proofs.Common.{◌≡◌, ℕ, Bool, true, false, cond, T, List, [], length, None, Result, OnOk, OnErr, refl, sym, ap, subst, ◌∙◌}
use Rattle.std.specs.Prelude.{not}
use Rattle.std.specs.Ordering.{eq_by_cmp}
use Rattle.std.specs.Cmp.{eq_by_cmp_equiv}
use Rattle.std.specs.FinMap as map
use Rattle.std.specs.FinMap.Entries as es
use Rattle.tree_stores.specs.Names.{name_cmp, Objects}
use Rattle.tree_stores.specs.Places.{IsInOrder, without}
use Rattle.tree_stores.proofs.Orders.{total, ties, holds, either_way}

abbrev pub seen : List (List ℕ × ℕ) → Objects
seen pairs = map.from_sorted pairs

pub is_true : (b : Bool) → T b → b ≡ true
is_true true p = refl
is_true false p = absurd p

turned : {A : Type 0} (b : Bool) (x y : A) → cond (not b) x y ≡ cond b y x
turned true x y = refl
turned false x y = refl

module _ (pairs : List (List ℕ × ℕ)) (order : IsInOrder pairs) where
  sorted : T (es.is_sorted name_cmp pairs)
  sorted = holds _ order

  pub all_entries : map.entries (seen pairs) ≡ pairs
  all_entries = map.entries-from_sorted name_cmp pairs sorted

  pub got : (k : List ℕ) → map.get (seen pairs) k ≡ es.find name_cmp k pairs
  got k = map.get-from_sorted name_cmp pairs k sorted

  pub counted : map.len (seen pairs) ≡ length pairs
  counted = map.len-entries (seen pairs) ∙ ap length all_entries

  put_sorted : (k : List ℕ) (v : ℕ) → T (es.is_sorted name_cmp (es.put name_cmp k v pairs))
  put_sorted k v = es.is_sorted-put name_cmp total k v pairs sorted

  pub put_order : (k : List ℕ) (v : ℕ) (now : List (List ℕ × ℕ)) → now ≡ es.put name_cmp k v pairs → IsInOrder now
  put_order k v now is = subst IsInOrder (sym is) (is_true _ (put_sorted k v))

  -- names stay in their order, whether one was put or not
  pub put_still : {A E : Type 0} (k : List ℕ) (v : ℕ) (now : List (List ℕ × ℕ)) (r : Result A E) → OnOk r (now ≡ es.put name_cmp k v pairs) → OnErr r (now ≡ pairs) → IsInOrder now
  put_still k v now r ok err = either_way r ok err (put_order k v now) (λ is. subst IsInOrder (sym is) order)

  pub put_seen : (k : List ℕ) (v : ℕ) (now : List (List ℕ × ℕ)) → now ≡ es.put name_cmp k v pairs → seen now ≡ map.insert (seen pairs) k v
  put_seen k v now is =
      ap seen is
      ∙ map.same_entries_map _ _ (map.entries-from_sorted name_cmp (es.put name_cmp k v pairs) (put_sorted k v) ∙ sym (map.entries-insert total (seen pairs) k v ∙ ap (es.put name_cmp k v) all_entries))

  without_sorted : (k : List ℕ) → T (es.is_sorted name_cmp (without k pairs))
  without_sorted k = es.is_sorted-where_key name_cmp (λ other. not (eq_by_cmp name_cmp k other)) pairs sorted

  pub without_order : (k : List ℕ) (now : List (List ℕ × ℕ)) → now ≡ without k pairs → IsInOrder now
  without_order k now is = subst IsInOrder (sym is) (is_true _ (without_sorted k))

  pub without_seen : (k : List ℕ) (now : List (List ℕ × ℕ)) → now ≡ without k pairs → seen now ≡ map.remove (seen pairs) k
  without_seen k now is =
      ap seen is
      ∙ map.same_map total ties _ _ (λ q.
      map.get-from_sorted name_cmp (without k pairs) q (without_sorted k)
      ∙ es.find-where_key name_cmp (λ other. not (eq_by_cmp name_cmp k other)) q (λ x tied. ap (λ (z : List ℕ). not (eq_by_cmp name_cmp k z)) (sym (ties q x tied))) pairs
      ∙ turned (eq_by_cmp name_cmp k q) (es.find name_cmp q pairs) None
      ∙ ap (λ b. cond b None (es.find name_cmp q pairs)) ((eq_by_cmp_equiv total).symm k q)
      ∙ ap (cond (eq_by_cmp name_cmp q k) None) (sym (got q))
      ∙ sym (map.get-remove total (seen pairs) k q))

pub none_seen : seen [] ≡ map.empty
none_seen = map.same_map total ties _ _ (λ q. map.get-from_sorted name_cmp [] q tt ∙ sym (map.get-empty name_cmp q))
