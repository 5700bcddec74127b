-- A list that rises strictly and has the items of another, none of which stands twice and which doesn't fall, is that other.
use Rattle.std.proofs.Common.{◌≡◌, ◌≢◌, ℕ, zero, suc, ◌≤◌, Bool, true, false, cond, List, [], ◌∷◌, ◌++◌, map, Option, Some, None, refl, sym, ap, ◌∙◌, subst, arith, inl, inr, ◌⊎◌}
use Rattle.std.specs.List.{filter, AllByRecursion, Contains, IsDistinct}
use Rattle.std.specs.List.Sorted.{IsNonDecreasingBy}
use Rattle.std.specs.Option.{option_to_list}
use Rattle.std.proofs.lemmas.List.Elements.{recursion_from_All}

abbrev pub Among : {A : Type 0} → A → List A → Type 0
Among x [] = ⊥
Among x (y ∷ ys) = (y ≡ x) ⊎ Among x ys

abbrev pub Pairwise : {A : Type 0} → (A → A → Type 0) → List A → Type 0
Pairwise R [] = Unit {0}
Pairwise R (x ∷ xs) = AllByRecursion (R x) xs × Pairwise R xs

pub all_among : {A : Type 0} (P : A → Type 0) (xs : List A) (x : A) → AllByRecursion P xs → Among x xs → P x
all_among P [] x all a = absurd a
all_among P (y ∷ ys) x all (inl e) = subst P e all.0
all_among P (y ∷ ys) x all (inr a) = all_among P ys x all.1 a

pub among_all : {A : Type 0} (P : A → Type 0) (xs : List A) → ((x : A) → Among x xs → P x) → AllByRecursion P xs
among_all P [] h = tt
among_all P (y ∷ ys) h = (h y (inl refl), among_all P ys (λ x a. h x (inr a)))

pub among_contained : {A : Type 0} (xs : List A) (x : A) → Contains xs x → Among x xs
among_contained [] x (k, lt, is) = absurd (omega (arith, lt))
among_contained (y ∷ ys) x (zero, lt, is) = inl is
among_contained (y ∷ ys) x (suc k, lt, is) = inr (among_contained ys x (k, omega (arith, lt), is))

pub contained : {A : Type 0} (xs : List A) (x : A) → Among x xs → Contains xs x
contained [] x a = absurd a
contained (y ∷ ys) x (inl e) = (0, omega arith, e)
contained (y ∷ ys) x (inr a) = let r = contained ys x a in (suc r.0, omega (arith, r.1), r.2)

-- ---- the parts of a list

pub among_left : {A : Type 0} (xs ys : List A) (x : A) → Among x xs → Among x (xs ++ ys)
among_left [] ys x a = absurd a
among_left (z ∷ xs) ys x (inl e) = inl e
among_left (z ∷ xs) ys x (inr a) = inr (among_left xs ys x a)

pub among_right : {A : Type 0} (xs ys : List A) (x : A) → Among x ys → Among x (xs ++ ys)
among_right [] ys x a = a
among_right (z ∷ xs) ys x a = inr (among_right xs ys x a)

pub among_either : {A : Type 0} (xs ys : List A) (x : A) → Among x (xs ++ ys) → Among x xs ⊎ Among x ys
among_either [] ys x a = inr a
among_either (z ∷ xs) ys x (inl e) = inl (inl e)
among_either (z ∷ xs) ys x (inr a) = elim (among_either xs ys x a) [ inl l ↦ inl (inr l) | inr r ↦ inr r ]

pub among_option : {A : Type 0} (o : Option A) (x : A) → Among x (option_to_list o) → o ≡ Some x
among_option None x a = absurd a
among_option (Some y) x (inl e) = ap (λ z. Some z) e
among_option (Some y) x (inr a) = absurd a

pub option_among : {A : Type 0} (o : Option A) (x : A) → o ≡ Some x → Among x (option_to_list o)
option_among None x e = absurd (cc)
option_among (Some y) x e = inl (cc)

first_kept : {A : Type 0} (test : A → Bool) (y : A) (ys kept : List A) (x : A) (b : Bool) → test y ≡ b → (Among x kept → Among x ys × (test x ≡ true))
    → Among x (cond b (y ∷ kept) kept) → Among x (y ∷ ys) × (test x ≡ true)
first_kept test y ys kept x true is rest (inl e) = (inl e, subst (λ z. test z ≡ true) e is)
first_kept test y ys kept x true is rest (inr r) = let h = rest r in (inr h.0, h.1)
first_kept test y ys kept x false is rest r = let h = rest r in (inr h.0, h.1)

pub among_filter : {A : Type 0} (test : A → Bool) (xs : List A) (x : A) → Among x (filter test xs) → Among x xs × (test x ≡ true)
among_filter test [] x a = absurd a
among_filter test (y ∷ ys) x a = first_kept test y ys (filter test ys) x (test y) refl (among_filter test ys x) a

later_kept : {A : Type 0} (y : A) (kept : List A) (x : A) (b : Bool) → Among x kept → Among x (cond b (y ∷ kept) kept)
later_kept y kept x true a = inr a
later_kept y kept x false a = a

pub filter_among : {A : Type 0} (test : A → Bool) (xs : List A) (x : A) → Among x xs → test x ≡ true → Among x (filter test xs)
filter_among test [] x a passes = absurd a
filter_among test (y ∷ ys) x (inl e) passes =
    let here : test y ≡ true = ap test e ∙ passes in
    subst (λ b. Among x (cond b (y ∷ filter test ys) (filter test ys))) (sym here) (inl e)
filter_among test (y ∷ ys) x (inr a) passes = later_kept y (filter test ys) x (test y) (filter_among test ys x a passes)

pub among_map : {A B : Type 0} (f : A → B) (xs : List A) (z : B) → Among z (map f xs) → (x : A) × Among x xs × (f x ≡ z)
among_map f [] z a = absurd a
among_map f (x ∷ xs) z (inl e) = (x, inl refl, e)
among_map f (x ∷ xs) z (inr a) = let h = among_map f xs z a in (h.0, inr h.1, h.2)

pub map_among : {A B : Type 0} (f : A → B) (xs : List A) (x : A) → Among x xs → Among (f x) (map f xs)
map_among f [] x a = absurd a
map_among f (y ∷ ys) x (inl e) = inl (ap f e)
map_among f (y ∷ ys) x (inr a) = inr (map_among f ys x a)

-- ---- pairs of a list

pub pairs_of_distinct : {A : Type 0} (same : A → A → Bool) (xs : List A) → IsDistinct same xs → Pairwise (λ x y. same x y ≡ false) xs
unfolding IsDistinct
pairs_of_distinct same [] h = tt
pairs_of_distinct same (x ∷ xs) h = (h.0, pairs_of_distinct same xs h.1)

pub distinct_of_pairs : {A : Type 0} (same : A → A → Bool) (xs : List A) → Pairwise (λ x y. same x y ≡ false) xs → IsDistinct same xs
unfolding IsDistinct
distinct_of_pairs same [] h = tt
distinct_of_pairs same (x ∷ xs) h = (h.0, distinct_of_pairs same xs h.1)

pub pairs_in_order : {A : Type 0} (key : A → ℕ) (xs : List A) → IsNonDecreasingBy key xs → Pairwise (λ x y. key x ≤ key y) xs
pairs_in_order key [] h = tt
pairs_in_order key (x ∷ xs) h = (
  recursion_from_All (λ y. key x ≤ key y) xs (λ k d lt. h 0 (suc k) d (omega arith) (omega (arith, lt))),
  pairs_in_order key xs (λ i j d le lt. h (suc i) (suc j) d (omega (arith, le)) (omega (arith, lt))),
)

pub pairs_append : {A : Type 0} (R : A → A → Type 0) (xs ys : List A) → Pairwise R xs → Pairwise R ys → ((x y : A) → Among x xs → Among y ys → R x y) → Pairwise R (xs ++ ys)
pairs_append R [] ys p q across = q
pairs_append R (x ∷ xs) ys p q across = (
  among_all (R x) (xs ++ ys) (λ y a. elim (among_either xs ys y a) [ inl l ↦ all_among (R x) xs y p.0 l | inr r ↦ across x y (inl refl) r ]),
  pairs_append R xs ys p.1 q (λ z y a b. across z y (inr a) b),
)

pub pairs_option : {A : Type 0} (R : A → A → Type 0) (o : Option A) → Pairwise R (option_to_list o)
pairs_option R None = tt
pairs_option R (Some x) = (tt, tt)

pub pairs_become : {A : Type 0} (R S : A → A → Type 0) (xs : List A) → ((x y : A) → Among x xs → Among y xs → R x y → S x y) → Pairwise R xs → Pairwise S xs
pairs_become R S [] h p = tt
pairs_become R S (x ∷ xs) h p =
    (among_all (S x) xs (λ y a. h x y (inl refl) (inr a) (all_among (R x) xs y p.0 a)), pairs_become R S xs (λ z y a b. h z y (inr a) (inr b)) p.1)

pairs_kept : {A : Type 0} (R : A → A → Type 0) (x : A) (kept : List A) (b : Bool) → AllByRecursion (R x) kept → Pairwise R kept → Pairwise R (cond b (x ∷ kept) kept)
pairs_kept R x kept true all p = (all, p)
pairs_kept R x kept false all p = p

pub pairs_filter : {A : Type 0} (R : A → A → Type 0) (test : A → Bool) (xs : List A) → Pairwise R xs → Pairwise R (filter test xs)
pairs_filter R test [] p = tt
pairs_filter R test (x ∷ xs) p =
    pairs_kept R x (filter test xs) (test x) (among_all (R x) (filter test xs) (λ y a. all_among (R x) xs y p.0 (among_filter test xs y a).0)) (pairs_filter R test xs p.1)

pub pairs_map : {A B : Type 0} (R : B → B → Type 0) (f : A → B) (xs : List A) → Pairwise (λ x y. R (f x) (f y)) xs → Pairwise R (map f xs)
pairs_map R f [] p = tt
pairs_map R f (x ∷ xs) p =
    (among_all (R (f x)) (map f xs) (λ z a. let h = among_map f xs z a in subst (R (f x)) h.2 (all_among (λ y. R (f x) (f y)) xs h.0 p.0 h.1)), pairs_map R f xs p.1)

-- ---- the two lists

heads : {A : Type 0} (R W : A → A → Type 0) → ((x y : A) → R x y → W y x → ⊥) → (x y : A) (xs ys : List A)
    → AllByRecursion (R x) xs → AllByRecursion (W y) ys → Among y (x ∷ xs) → Among x (y ∷ ys) → y ≡ x
heads R W clash x y xs ys strict weak (inl e) b = sym e
heads R W clash x y xs ys strict weak (inr a) (inl e) = e
heads R W clash x y xs ys strict weak (inr a) (inr b) = absurd (clash x y (all_among (R x) xs y strict a) (all_among (W y) ys x weak b))

pub unique : {A : Type 0} (R W : A → A → Type 0) → ((x y : A) → R x y → W y x → ⊥) → ((x : A) → R x x → ⊥) → (xs ys : List A)
    → Pairwise R xs → Pairwise W ys → Pairwise (λ x y. x ≢ y) ys
    → ((x : A) → Among x xs → Among x ys) → ((x : A) → Among x ys → Among x xs) → ys ≡ xs
unique R W clash never [] [] strict weak apart there back = refl
unique R W clash never [] (y ∷ ys) strict weak apart there back = absurd (back y (inl refl))
unique R W clash never (x ∷ xs) [] strict weak apart there back = absurd (there x (inl refl))
unique R W clash never (x ∷ xs) (y ∷ ys) strict weak apart there back =
    let same : y ≡ x = heads R W clash x y xs ys strict.0 weak.0 (back y (inl refl)) (there x (inl refl)) in
    let rest : ys ≡ xs = unique R W clash never xs ys strict.1 weak.1 apart.1
    (λ z a. elim (there z (inr a)) [ inl e ↦ absurd (never x (subst (R x) (sym e ∙ same) (all_among (R x) xs z strict.0 a))) | inr b ↦ b ])
    (λ z b. elim (back z (inr b)) [ inl e ↦ absurd (all_among (λ w. y ≢ w) ys z apart.0 b (same ∙ e)) | inr a ↦ a ]) in
    cc
