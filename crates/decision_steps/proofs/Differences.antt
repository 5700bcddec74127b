-- in what a state may differ after a call
use Rattle.std.proofs.Common.{◌≡◌, ◌⊎◌, inl, inr, ℕ, zero, suc, ◌+◌, ◌<◌, ◌≤◌, get_or, length, Bool, true, false, cond, List, [], ◌∷◌, Option, Some, None, Contains, refl, sym, ap, ◌∙◌, subst, arith}
use Rattle.std.specs.Prelude.{◌==◌, IsSome}
use Rattle.std.proofs.lemmas.List.{get_or_default}
use Rattle.std.proofs.lemmas.Bool.{cases_lt, eqb-true, eq-eqb, true≢false}
use Rattle.std.specs.Cmp.Lexicographic.{bytes_decides}
use Rattle.tree_nodes.specs.Tree.{Tree}
use Rattle.tree_nodes.specs.Spots.{spot_of, AreOthersSame}
use Rattle.tree_nodes.proofs.Chains.{chained}
use Rattle.tree_handles.specs.Binding.{Bindings, same_bytes, object_of, is_bound}
use Rattle.tree_handles.specs.Finding.{first_of}
use Rattle.file_tree.specs.Touching.{IsOneOf, OnlyTouched}
use Rattle.decision_steps.specs.Known.{AgreesWith}
use Rattle.decision_steps.specs.Bound.{bound_behind, bound_where, with_handle, with_handles, are_bound}
use Rattle.decision_steps.specs.declared.given.GivenHandle.{GivenHandle}
use Rattle.decision_steps.specs.Listed.{given_pair, given_pairs}
use Rattle.decision_steps.specs.Differing.{DifferenceView, AgreesOn, AreTheSameBut, NameTheSameBut, DiffersIn, Keeps, Notes}
use Rattle.decision_steps.proofs.Parts.{first_passes, second_passes}
use Rattle.decision_steps.proofs.Covering.{bound_is, object_of-behind}
use Rattle.decision_steps.proofs.Placed.{all_bound}

-- ---- lists

pub is_first : {X : Type 0} (x : X) (xs : List X) → Contains (x ∷ xs) x
is_first x xs = (zero, omega arith, refl)

pub is_later : {X : Type 0} (x y : X) (xs : List X) → Contains xs y → Contains (x ∷ xs) y
is_later x y xs there = (suc there.0, omega (arith, there.1), there.2)

pub none_in : {X : Type 0} (x : X) → Contains [] x → ⊥
none_in x there = omega (arith, there.1)

pub first_or_later : {X : Type 0} (x y : X) (xs : List X) → Contains (x ∷ xs) y → (x ≡ y) ⊎ Contains xs y
first_or_later x y xs (zero, in_range, is) = inl is
first_or_later x y xs (suc n, in_range, is) = inr (n, omega (arith, in_range), is)

pub keeps_all : {X : Type 0} (old between new : List X) → Keeps old between → Keeps between new → Keeps old new
keeps_all old between new one two x there = two x (one x there)

-- ---- handles that are bound

same_some : {X : Type 0} (x y : X) → Some x ≡ Some y → x ≡ y
same_some x y e = cc

-- what a handle names that isn't the pair's stays
one_named : (known more : Bindings) (pair : List ℕ × ℕ) (handle : List ℕ) → with_handle known pair ≡ Some more → (pair.0 ≡ handle) ⊎ (object_of more handle ≡ object_of known handle)
one_named known more pair handle e = go (object_of known pair.0) e where
  behind : (b : Bool) → same_bytes handle pair.0 ≡ b → bound_behind known (pair ∷ []) ≡ more → (pair.0 ≡ handle) ⊎ (object_of more handle ≡ object_of known handle)
  behind true same is = inl (sym ((bytes_decides handle pair.0).0 same))
  behind false same is = inr (ap (λ (b : Bindings). object_of b handle) (sym is) ∙ object_of-behind known pair.0 pair.1 handle
      ∙ ap (λ (b : Bool). first_of (object_of known handle) (cond b (Some pair.1) None)) same ∙ nothing (object_of known handle)) where
        nothing : (o : Option ℕ) → first_of o None ≡ o
        nothing None = refl
        nothing (Some x) = refl

  kept : (object : ℕ) (b : Bool) → cond b (Some known) None ≡ Some more → (pair.0 ≡ handle) ⊎ (object_of more handle ≡ object_of known handle)
  kept object false e = absurd (cc)
  kept object true e = inr (ap (λ (b : Bindings). object_of b handle) (sym (same_some known more e)))

  go : (o : Option ℕ) → bound_where known pair o ≡ Some more → (pair.0 ≡ handle) ⊎ (object_of more handle ≡ object_of known handle)
  go None e = behind (same_bytes handle pair.0) refl (same_some (bound_behind known (pair ∷ [])) more e)
  go (Some object) e = kept object _ e

-- a handle is one of the pairs', or names what it named
pub all_named : (known more : Bindings) (pairs : List (List ℕ × ℕ)) (handle : List ℕ) → with_handles known pairs ≡ Some more
    → ((pair : List ℕ × ℕ) × Contains pairs pair × (pair.0 ≡ handle)) ⊎ (object_of more handle ≡ object_of known handle)
all_named known more [] handle e = inr (ap (λ (b : Bindings). object_of b handle) (sym (same_some known more e)))
all_named known more (pair ∷ pairs) handle e =
    let found = chained (λ (b : Bindings). with_handles b pairs) (with_handle known pair) more e in
    elim (one_named known found.0 pair handle found.1) [
      | inl here ↦ inl (pair, is_first pair pairs, here)
      | inr one ↦ elim (all_named found.0 more pairs handle found.2) [
        | inl later ↦ inl (later.0, is_later pair later.0 pairs later.1, later.2)
        | inr rest ↦ inr (rest ∙ one)
      ]
    ]

-- ---- a call

-- what is shared where nothing was touched and all handles were bound
pub nothing_noted : (difference : DifferenceView) (binds : Bindings) (pairs : List (List ℕ × ℕ)) → are_bound binds pairs ≡ true → Notes difference (None, None) binds pairs difference
nothing_noted difference binds pairs bound = record {
  origin = refl;
  objects = λ o there. there;
  has = λ o touched. elim touched [ inl one ↦ absurd (cc) | inr other ↦ absurd (cc) ];
  handles = λ h there. there;
  given = λ pair there. inr (is_bound_there binds pairs pair bound there);
} where
  some : (o : Option ℕ) (object : ℕ) → o ≡ Some object → IsSome o
  some o object is = subst IsSome (sym is) refl

  is_bound_there : (binds : Bindings) (pairs : List (List ℕ × ℕ)) (pair : List ℕ × ℕ) → are_bound binds pairs ≡ true → Contains pairs pair → IsSome (object_of binds pair.0)
  is_bound_there binds [] pair bound there = absurd (none_in pair there)
  is_bound_there binds (one ∷ pairs) pair bound there = elim (first_or_later one pair pairs there) [
    | inl here ↦ subst (λ (p : List ℕ × ℕ). IsSome (object_of binds p.0)) here
        (some (object_of binds one.0) one.1 (bound_is (object_of binds one.0) one.1 (first_passes (is_bound binds one.0 one.1) (are_bound binds pairs) bound)))
    | inr later ↦ is_bound_there binds pairs pair (second_passes (is_bound binds one.0 one.1) (are_bound binds pairs) bound) later
  ]

-- whether an object is one of those
is_value : (touched : Option ℕ) (o : ℕ) → (touched ≡ Some o) ⊎ (touched ≡ Some o → ⊥)
is_value None o = inr (λ e. absurd (cc))
is_value (Some x) o = go (x == o) refl where
  go : (b : Bool) → (x == o) ≡ b → (Some x ≡ Some o) ⊎ (Some x ≡ Some o → ⊥)
  go true is = inl (ap Some (eqb-true x o is))
  go false is = inr (λ e. true≢false (sym (eq-eqb x o (same_some x o e)) ∙ is))

is_touched : (touched : Option ℕ × Option ℕ) (o : ℕ) → IsOneOf touched o ⊎ (IsOneOf touched o → ⊥)
is_touched touched o = elim (is_value touched.0 o) [
  | inl one ↦ inl (inl one)
  | inr not_one ↦ elim (is_value touched.1 o) [
    | inl other ↦ inl (inr other)
    | inr not_other ↦ inr (λ is. elim is [ inl one ↦ not_one one | inr other ↦ not_other other ])
  ]
]

module _ (before after : DifferenceView) (touched : Option ℕ × Option ℕ) (binds more : Bindings) (pairs : List (List ℕ × ℕ)) (tree next : Tree)
    (notes : Notes before touched binds pairs after) where
  objects_after : AreTheSameBut before.objects tree before.origin.0 → OnlyTouched touched next tree → AreTheSameBut after.objects next after.origin.0
  objects_after differs only o = elim (is_touched touched o) [
    | inl here ↦ inl (notes.has o here)
    | inr apart ↦ elim (differs o) [
      | inl there ↦ inl (notes.objects o there)
      | inr same ↦ inr (only o apart ∙ same ∙ ap (λ (t : Tree × Bindings). spot_of t.0 o) (sym notes.origin))
    ]
  ]

  handles_after : NameTheSameBut before.handles binds before.origin.1 → with_handles binds pairs ≡ Some more → NameTheSameBut after.handles more after.origin.1
  handles_after differs bound h = elim (differs h) [
    | inl there ↦ inl (notes.handles h there)
    | inr same ↦ elim (all_named binds more pairs h bound) [
      | inl pair ↦ elim (notes.given pair.0 pair.1) [
        | inl noted ↦ inl (subst (Contains after.handles) pair.2 noted)
        | inr was ↦ inr (stays (object_of binds h) refl (subst (λ (x : List ℕ). IsSome (object_of binds x)) pair.2 was) ∙ same ∙ ap (λ (t : Tree × Bindings). object_of t.1 h) (sym notes.origin))
      ]
      | inr kept ↦ inr (kept ∙ same ∙ ap (λ (t : Tree × Bindings). object_of t.1 h) (sym notes.origin))
    ]
  ] where
    agrees : AgreesWith binds more
    agrees = (all_bound binds more pairs bound).0

    stays : (o : Option ℕ) → object_of binds h ≡ o → IsSome o → object_of more h ≡ object_of binds h
    stays None is some = absurd (cc)
    stays (Some x) is some = agrees h x is ∙ sym is

  pub differs_after : DiffersIn before tree binds → OnlyTouched touched next tree → with_handles binds pairs ≡ Some more → DiffersIn after next more
  differs_after differs only bound = (objects_after differs.0 only, handles_after differs.1 bound)

-- handles as they lie in memory, and their pairs
pub given_too : (P : List ℕ → Type 0) (given : List GivenHandle) → ((one : GivenHandle) → Contains given one → P one.handle.now) → (pair : List ℕ × ℕ) → Contains (given_pairs given) pair → P pair.0
given_too P [] all pair there = absurd (none_in pair there)
given_too P (one ∷ given) all pair there = elim (first_or_later (given_pair one) pair (given_pairs given) there) [
  | inl here ↦ subst (λ (p : List ℕ × ℕ). P p.0) here (all one (is_first one given))
  | inr later ↦ given_too P given (λ other is. all other (is_later one other given is)) pair later
]

-- ---- two states of one origin

module _ (ours theirs : DifferenceView) (same : ours.origin ≡ theirs.origin) where
  -- the other one's tree with the handles that are bound here
  pub differs_mixed : (after : DifferenceView) (tree : Tree) (binds : Bindings) → after.origin ≡ ours.origin → after.objects ≡ theirs.objects → Keeps ours.handles after.handles
      → AreTheSameBut theirs.objects tree theirs.origin.0 → NameTheSameBut ours.handles binds ours.origin.1 → DiffersIn after tree binds
  differs_mixed after tree binds origin objects handles there here = (
    (λ o. elim (there o) [
      | inl one ↦ inl (subst (λ (l : List ℕ). Contains l o) (sym objects) one)
      | inr kept ↦ inr (kept ∙ ap (λ (x : Tree × Bindings). spot_of x.0 o) (sym (origin ∙ same)))
    ]),
    (λ h. elim (here h) [
      | inl one ↦ inl (handles h one)
      | inr kept ↦ inr (kept ∙ ap (λ (x : Tree × Bindings). object_of x.1 h) (sym origin))
    ]),
  )

  module _ (tree another : Tree) (here : AreTheSameBut ours.objects tree ours.origin.0) (there : AreTheSameBut theirs.objects another theirs.origin.0) where
    -- they differ in no other objects than these and those
    pub others_same : AreOthersSame ours.objects theirs.objects tree another
    others_same o = elim (here o) [
      | inl one ↦ inl one
      | inr first ↦ elim (there o) [
        | inl other ↦ inr (inl other)
        | inr second ↦ inr (inr (first ∙ ap (λ (x : Tree × Bindings). spot_of x.0 o) same ∙ sym second))
      ]
    ]

    -- so they are where those are left out of the second that are among the first
    pub rest_same : (rest : List ℕ) → ((o : ℕ) → Contains theirs.objects o → Contains ours.objects o ⊎ Contains rest o) → AreOthersSame ours.objects rest tree another
    rest_same rest left o = elim (others_same o) [
      | inl one ↦ inl one
      | inr more ↦ elim more [
        | inl other ↦ elim (left o other) [ inl first ↦ inl first | inr second ↦ inr (inl second) ]
        | inr equal ↦ inr (inr equal)
      ]
    ]

    -- and in those alone that are found unlike
    pub unlike_objects : (objects : List ℕ) → ((o : ℕ) → Contains ours.objects o → Contains objects o ⊎ (spot_of tree o ≡ spot_of another o))
        → ((o : ℕ) → Contains theirs.objects o → Contains objects o ⊎ (spot_of tree o ≡ spot_of another o)) → AreTheSameBut objects tree another
    unlike_objects objects one other o = elim (others_same o) [ inl first ↦ one o first | inr rest ↦ elim rest [ inl second ↦ other o second | inr equal ↦ inr equal ] ]

  module _ (binds more : Bindings) (here : NameTheSameBut ours.handles binds ours.origin.1) (there : NameTheSameBut theirs.handles more theirs.origin.1) where
    named_alike : (h : List ℕ) → Contains ours.handles h ⊎ (Contains theirs.handles h ⊎ (object_of binds h ≡ object_of more h))
    named_alike h = elim (here h) [
      | inl one ↦ inl one
      | inr first ↦ elim (there h) [
        | inl other ↦ inr (inl other)
        | inr second ↦ inr (inr (first ∙ ap (λ (x : Tree × Bindings). object_of x.1 h) same ∙ sym second))
      ]
    ]

    pub unlike_handles : (handles : List (List ℕ)) → ((h : List ℕ) → Contains ours.handles h → Contains handles h ⊎ (object_of binds h ≡ object_of more h))
        → ((h : List ℕ) → Contains theirs.handles h → Contains handles h ⊎ (object_of binds h ≡ object_of more h)) → NameTheSameBut handles binds more
    unlike_handles handles one other h = elim (named_alike h) [ inl first ↦ one h first | inr rest ↦ elim rest [ inl second ↦ other h second | inr equal ↦ inr equal ] ]

    -- where those that may be unlike agree, all do
    pub all_agree : AgreesOn ours.handles binds more → AgreesOn theirs.handles binds more → AgreesWith binds more
    all_agree one other h object is = elim (named_alike h) [ inl first ↦ one h first object is | inr rest ↦ elim rest [ inl second ↦ other h second object is | inr equal ↦ sym equal ∙ is ] ]

-- ---- loops over lists

module _ {X : Type 0} where
  -- one more of a list is done
  pub next_done : (P Q : X → Type 0) (xs : List X) (d : X) (index : ℕ) → index < length xs → ((x : X) → P x → Q x) → Q (get_or xs index d)
      → ((x : X) (k : ℕ) → k < index → get_or xs k x ≡ x → P x) → (x : X) (k : ℕ) → k < index + 1 → get_or xs k x ≡ x → Q x
  next_done P Q xs d index inside weaker here done x k below is = elim (cases_lt k index) [
    | inl ahead ↦ weaker x (done x k ahead is)
    | inr past ↦ let same : index ≡ k = omega (arith, past, below) in
        subst Q (get_or_default xs index d x inside ∙ ap (λ i. get_or xs i x) same ∙ is) here
  ]

  -- all are
  pub all_done : (P : X → Type 0) (xs : List X) (index : ℕ) → length xs ≤ index → ((x : X) (k : ℕ) → k < index → get_or xs k x ≡ x → P x) → (x : X) → Contains xs x → P x
  all_done P xs index past done x there = done x there.0 (let inside = there.1 in omega (arith, inside, past)) there.2
