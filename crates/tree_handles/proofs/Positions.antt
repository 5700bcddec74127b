-- handles by their places
use Rattle.std.proofs.Common.{◌≡◌, ◌+◌, ◌<◌, ◌⊎◌, inl, inr, ℕ, suc, Bool, true, false, cond, not, nat_lt, List, [], ◌∷◌, ◌++◌, map, length, get_or, position, Option, Some, None, refl, sym, ap, ◌∙◌, if◌then◌else◌, arith, lt-ltb, Vec, Global}
use Rattle.std.specs.Prelude.{◌||◌, option_map, vec_len}
use Rattle.std.specs.List.{list_any, position_or_len, IsDistinct, AllZip}
use Rattle.std.specs.Cmp.Lexicographic.{bytes_decides}
use Rattle.std.proofs.lemmas.Bool.Decides.{nat_tests}
use Rattle.std.proofs.lemmas.List.{map-append, length-map}
use Rattle.std.proofs.lemmas.List.Elements.{same_from_all_zip}
use Rattle.std.proofs.lemmas.List.Sums.{position_or_len_is}
use Rattle.std.proofs.lemmas.Map.Keys.{apart_from_distinct}
use Rattle.indexmap.specs.IndexSet.{insert_key}
use Rattle.tree_handles.specs.Binding.{same_bytes}
use Rattle.tree_handles.specs.Places.{Handles, is_short, TakesPlace, with_handle}
use Rattle.tree_handles.specs.Finding.{first_of}

-- only equal byte strings are the same
pub same_is : (x y : List ℕ) → same_bytes x y ≡ true → x ≡ y
same_is x y = (bytes_decides x y).0

pub same_self : (x : List ℕ) → same_bytes x x ≡ true
same_self x = (bytes_decides x x).1 refl

pub true_or_false : (b : Bool) → (b ≡ true) ⊎ (b ≡ false)
true_or_false true = inl refl
true_or_false false = inr refl

-- a place, counted from one item before
abbrev pub further : Option ℕ → Option ℕ
further = option_map suc

suc_is : (n : ℕ) → 1 + n ≡ suc n
suc_is n = omega arith

same_lt : (n m : ℕ) → nat_lt (suc n) (suc m) ≡ nat_lt n m
same_lt n m = grind (arith, nat_tests)

none_further : (o : Option ℕ) → further o ≡ None → o ≡ None
none_further None e = refl
none_further (Some n) e = cc

module _ {X : Type 0} (test : X → Bool) where
  -- the place of what passes, by the first item
  pub position_cons : (x : X) (xs : List X) → position test (x ∷ xs) ≡ cond (test x) (Some 0) (further (position test xs))
  position_cons x xs = go (test x) where
    n : ℕ
    n = position_or_len test xs

    later : (b : Bool) → cond b (Some (suc n)) None ≡ further (cond b (Some n) None)
    later true = refl
    later false = refl

    go : (b : Bool) → cond (nat_lt (cond (not b) (1 + n) 0) (suc (length xs))) (Some (cond (not b) (1 + n) 0)) None ≡ cond b (Some 0) (further (cond (nat_lt n (length xs)) (Some n) None))
    go true = ap (λ b. cond b (Some 0) None) (lt-ltb 0 (suc (length xs)) (omega arith))
    go false = ap (λ m. cond (nat_lt m (suc (length xs))) (Some m) None) (suc_is n) ∙ ap (λ b. cond b (Some (suc n)) None) (same_lt n (length xs)) ∙ later (nat_lt n (length xs))

  -- with one item more
  pub position_more : (xs : List X) (y : X) → position test (xs ++ y ∷ []) ≡ first_of (position test xs) (cond (test y) (Some (length xs)) None)
  position_more [] y = position_cons y []
  position_more (x ∷ xs) y = position_cons x (xs ++ y ∷ []) ∙ go (test x) (position_more xs y) ∙ ap (λ o. first_of o (cond (test y) (Some (suc (length xs))) None)) (sym (position_cons x xs)) where
    past : (o : Option ℕ) (b : Bool) → further (first_of o (cond b (Some (length xs)) None)) ≡ first_of (further o) (cond b (Some (suc (length xs))) None)
    past None true = refl
    past None false = refl
    past (Some n) b = refl

    go : (b : Bool) → position test (xs ++ y ∷ []) ≡ first_of (position test xs) (cond (test y) (Some (length xs)) None)
        → cond b (Some 0) (further (position test (xs ++ y ∷ []))) ≡ first_of (cond b (Some 0) (further (position test xs))) (cond (test y) (Some (suc (length xs))) None)
    go true later = refl
    go false later = ap further later ∙ past (position test xs) (test y)

  none_here : (x : X) (xs : List X) → position test (x ∷ xs) ≡ None → (test x ≡ false) × (position test xs ≡ None)
  none_here x xs none = go (test x) refl where
    go : (b : Bool) → test x ≡ b → (test x ≡ false) × (position test xs ≡ None)
    go true is = absurd (clash (ap (λ b. cond b (Some 0) (further (position test xs))) (sym is) ∙ sym (position_cons x xs) ∙ none)) where
      zero : Option ℕ
      zero = Some 0

      clash : zero ≡ None → ⊥
      clash e = absurd (cc)
    go false is = (is, none_further (position test xs) (ap (λ b. cond b (Some 0) (further (position test xs))) (sym is) ∙ sym (position_cons x xs) ∙ none))

  -- what has no place passes nowhere
  pub passes_nowhere : (xs : List X) → position test xs ≡ None → list_any test xs ≡ false
  passes_nowhere [] none = refl
  passes_nowhere (x ∷ xs) none = let both = none_here x xs none in ap (λ b. b || list_any test xs) both.0 ∙ passes_nowhere xs both.1

  -- and would come last
  pub past_all : (xs : List X) → position test xs ≡ None → position_or_len test xs ≡ length xs
  past_all [] none = refl
  past_all (x ∷ xs) none = let both = none_here x xs none in ap (λ b. cond (not b) (1 + position_or_len test xs) 0) both.0 ∙ suc_is (position_or_len test xs) ∙ ap suc (past_all xs both.1)

-- the same place by the bytes of keys
pub position_map : {Key X : Type 0} (f : Key → X) (test : X → Bool) (ks : List Key) → position (λ k. test (f k)) ks ≡ position test (map f ks)
position_map f test [] = refl
position_map f test (k ∷ ks) =
    position_cons (λ x. test (f x)) k ks ∙ ap (λ o. cond (test (f k)) (Some 0) (further o)) (position_map f test ks) ∙ sym (position_cons test (f k) (map f ks))

module _ {Key : Type 0} (bytes : Key → List ℕ) where
  -- a key stands at one place alone
  pub stands : (ks : List Key) (i : ℕ) (d : Key) (handle : List ℕ) → IsDistinct (λ a b. same_bytes (bytes a) (bytes b)) ks → i < length ks → bytes (get_or ks i d) ≡ handle
      → position (λ k. same_bytes handle (bytes k)) ks ≡ Some i
  stands ks i d handle distinct within is = ap (λ n. cond (nat_lt n (length ks)) (Some n) None) first ∙ ap (λ b. cond b (Some i) None) (lt-ltb i (length ks) within) where
    differs : (k : ℕ) → k < i → (b : Bool) → same_bytes handle (bytes (get_or ks k d)) ≡ b → b ≡ false
    differs k before false same = refl
    differs k before true same =
        let one : bytes (get_or ks k d) ≡ bytes (get_or ks i d) = sym (same_is handle (bytes (get_or ks k d)) same) ∙ sym is in
        let apart : same_bytes (bytes (get_or ks k d)) (bytes (get_or ks i d)) ≡ false = apart_from_distinct (λ a b. same_bytes (bytes a) (bytes b)) ks k i d distinct before within in
        sym (ap (λ (h : List ℕ). same_bytes h (bytes (get_or ks i d))) one ∙ same_self (bytes (get_or ks i d))) ∙ apart

    first : position_or_len (λ k. same_bytes handle (bytes k)) ks ≡ i
    first = position_or_len_is (λ k. same_bytes handle (bytes k)) ks i d (omega (arith, within)) (λ k before. differs k before (same_bytes handle (bytes (get_or ks k d))) refl) (λ w. ap (same_bytes handle) is ∙ same_self handle)

  -- a key that has no place comes last
  pub comes_last : (ks new : List Key) (k : Key) (place : ℕ) → position (λ x. same_bytes (bytes k) (bytes x)) ks ≡ None
      → new ≡ insert_key (λ a b. same_bytes (bytes a) (bytes b)) ks k → place ≡ position_or_len (λ x. same_bytes (bytes k) (bytes x)) ks → (new ≡ ks ++ k ∷ []) × (place ≡ length ks)
  comes_last ks new k place none keys at =
      (keys ∙ ap (λ b. if b then ks else ks ++ k ∷ []) (passes_nowhere (λ x. same_bytes (bytes k) (bytes x)) ks none), at ∙ past_all (λ x. same_bytes (bytes k) (bytes x)) ks none)

module _ (before : Handles) (handle : List ℕ) (place : ℕ) where
  pub takes_short : is_short handle ≡ true → (keys : List (List ℕ)) → (keys ≡ before.short ++ handle ∷ []) × (place ≡ length before.short) → TakesPlace before (record { short = keys; long = before.long }) handle place
  takes_short short keys its =
      let all : with_handle before handle ≡ record { short = before.short ++ handle ∷ []; long = before.long } = ap (λ (b : Bool). if b then record { short = before.short ++ handle ∷ []; long = before.long } else record { short = before.short; long = before.long ++ handle ∷ [] }) short in
      (ap (λ (k : List (List ℕ)). record { short = k; long = before.long }) its.0 ∙ sym all, its.1 ∙ ap (λ (b : Bool). if b then length before.short else length before.long) (sym short))

  pub takes_long : is_short handle ≡ false → (keys : List (List ℕ)) → (keys ≡ before.long ++ handle ∷ []) × (place ≡ length before.long) → TakesPlace before (record { short = before.short; long = keys }) handle place
  takes_long long keys its =
      let all : with_handle before handle ≡ record { short = before.short; long = before.long ++ handle ∷ [] } = ap (λ (b : Bool). if b then record { short = before.short ++ handle ∷ []; long = before.long } else record { short = before.short; long = before.long ++ handle ∷ [] }) long in
      (ap (λ (k : List (List ℕ)). record { short = before.short; long = k }) its.0 ∙ sym all, its.1 ∙ ap (λ (b : Bool). if b then length before.short else length before.long) (sym long))

-- the bytes of keys with one more
pub one_more : {Key : Type 0} (bytes : Key → List ℕ) (ks new : List Key) (k : Key) (place : ℕ) → (new ≡ ks ++ k ∷ []) × (place ≡ length ks) → (map bytes new ≡ map bytes ks ++ bytes k ∷ []) × (place ≡ length (map bytes ks))
one_more bytes ks new k place its = (ap (map bytes) its.0 ∙ map-append bytes ks (k ∷ []), its.1 ∙ sym (length-map ks bytes))

-- clones of keys have their bytes
pub bytes_of_clones : (ks ns : List (Vec ℕ Global)) → AllZip (λ v w. AllZip (λ x y. y ≡ x) v.items w.items × (vec_len w ≡ vec_len v)) ks ns → map (λ k. k.items) ns ≡ map (λ k. k.items) ks
bytes_of_clones [] [] h = refl
bytes_of_clones [] (n ∷ ns) h = absurd h
bytes_of_clones (k ∷ ks) [] h = absurd h
bytes_of_clones (k ∷ ks) (n ∷ ns) h = cc (same_from_all_zip (λ x y. y ≡ x) k.items n.items h.0.0 (λ x y e. e), bytes_of_clones ks ns h.1)
