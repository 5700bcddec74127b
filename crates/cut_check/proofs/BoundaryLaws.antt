-- What boundaries show at a byte, and that only what was said changes.
use Rattle.std.proofs.Common.{◌≡◌, ◌≢◌, ◌⊎◌, ℕ, zero, suc, ◌<◌, ◌≤◌, ◌+◌, ◌^◌, false, Option, Some, None, unwrap_or, IsSome, max, refl, sym, ap, subst, ◌∙◌, arith, inl, inr}
use Rattle.std.specs.Ordering.{nat_cmp}
use Rattle.std.specs.BTreeMap.{is_at}
use Rattle.std.proofs.lemmas.Bool.{cases_eq, cases_lt, false≢true}
use Rattle.std.proofs.lemmas.Option.{none-some}
use Rattle.std.proofs.lemmas.Grind.{common_steps}
use Rattle.cut_check.specs.Boundaries.{shown, Shows, HasNoneBetween, IsCleared}

-- a value that isn't there
pub none_from : {X : Type 0} (o : Option X) → (IsSome o → ⊥) → o ≡ None
none_from None absent = refl
none_from (Some x) absent = absurd (absent refl)

-- the boundaries at and ahead of a byte decide what is shown there
pub shown_same : (f g : ℕ → Option ℕ) (byte : ℕ) → ((q : ℕ) → q ≤ byte → f q ≡ g q) → shown f byte ≡ shown g byte
unfolding shown
shown_same f g zero same = ap (λ o. unwrap_or o 0) (same 0 (omega arith))
shown_same f g (suc byte) same =
    let here : f (suc byte) ≡ g (suc byte) = same (suc byte) (omega arith) in
    let before : shown f byte ≡ shown g byte = shown_same f g byte (λ q h. same q (omega arith)) in
    rw (here, before) refl

-- at a boundary its value is shown
pub shown_at : (f : ℕ → Option ℕ) (byte v : ℕ) → f byte ≡ Some v → shown f byte ≡ v
unfolding shown
shown_at f zero v there = rw there refl
shown_at f (suc byte) v there = rw there refl

-- where there is no boundary, what is shown ahead of it
shown_on : (f : ℕ → Option ℕ) (byte : ℕ) → f (suc byte) ≡ None → shown f (suc byte) ≡ shown f byte
unfolding shown
shown_on f byte none = rw none refl

-- from a byte on, behind which there is no boundary
pub shown_from : (f : ℕ → Option ℕ) (from byte : ℕ) → from ≤ byte → HasNoneBetween f from byte → shown f byte ≡ shown f from
shown_from f from zero by none = let e : from ≡ 0 = omega arith in rw e refl
shown_from f from (suc byte) by none =
    elim (cases_eq from (suc byte)) [
      | inl same ↦ ap (shown f) (sym same)
      | inr apart ↦
          let less : from ≤ byte = omega arith in
          shown_on f byte (none (suc byte) (omega arith) (omega arith)) ∙ shown_from f from byte less (λ q h k. none q h (omega arith))
    ]

-- the value of the last boundary
pub shown_last : (f : ℕ → Option ℕ) (byte from v : ℕ) → f from ≡ Some v → from ≤ byte → HasNoneBetween f from byte → shown f byte ≡ v
shown_last f byte from v there by none = shown_from f from byte by none ∙ shown_at f from v there

-- 0 where there is no boundary
pub shown_none : (f : ℕ → Option ℕ) (byte : ℕ) → ((q : ℕ) → q ≤ byte → f q ≡ None) → shown f byte ≡ 0
unfolding shown
shown_none f zero none = let e = none 0 (omega arith) in rw e refl
shown_none f (suc byte) none = let e = none (suc byte) (omega arith) in rw e (shown_none f byte (λ q h. none q (omega arith)))

-- one more boundary with the value that is shown there changes nothing
pub shown_split : (f g : ℕ → Option ℕ) (at : ℕ) → g at ≡ Some (shown f at) → ((q : ℕ) → q ≢ at → g q ≡ f q) → Shows g (shown f)
unfolding shown
shown_split f g at here others zero =
    elim (cases_eq 0 at) [
      | inl same ↦ let e : g 0 ≡ Some (shown f 0) = subst (λ a. g a ≡ Some (shown f a)) (sym same) here in rw e refl
      | inr apart ↦ ap (λ o. unwrap_or o 0) (others 0 apart)
    ]
shown_split f g at here others (suc byte) =
    let before : shown g byte ≡ shown f byte = shown_split f g at here others byte in
    elim (cases_eq (suc byte) at) [
      | inl same ↦ let e : g (suc byte) ≡ Some (shown f (suc byte)) = subst (λ a. g a ≡ Some (shown f a)) (sym same) here in rw e refl
      | inr apart ↦ let e : g (suc byte) ≡ f (suc byte) = others (suc byte) apart in rw (e, before) refl
    ]

-- behind a boundary what is ahead of it counts for nothing
pub shown_behind : (f g : ℕ → Option ℕ) (at byte : ℕ) → at ≤ byte → IsSome (g at) → ((q : ℕ) → at ≤ q → f q ≡ g q) → shown f byte ≡ shown g byte
unfolding shown
shown_behind f g at zero by there same = ap (λ o. unwrap_or o 0) (same 0 (omega arith))
shown_behind f g at (suc byte) by there same =
    let here : f (suc byte) ≡ g (suc byte) = same (suc byte) by in
    elim (cases_eq at (suc byte)) [
      | inl is ↦ ap (λ o. unwrap_or o (shown f byte)) here ∙ defaults (g (suc byte)) (shown f byte) (shown g byte) (subst (λ q. IsSome (g q)) is there)
      | inr apart ↦
          let before : shown f byte ≡ shown g byte = shown_behind f g at byte (omega arith) there same in
          ap (λ o. unwrap_or o (shown f byte)) here ∙ ap (unwrap_or (g (suc byte))) before
    ]
  where
    defaults : (o : Option ℕ) (a b : ℕ) → IsSome o → unwrap_or o a ≡ unwrap_or o b
    defaults None a b some = absurd (false≢true some)
    defaults (Some v) a b some = refl

-- what bounds the boundaries' values bounds what is shown
pub shown_within : (f : ℕ → Option ℕ) (first byte most : ℕ) → first ≤ byte → shown f first ≤ most
    → ((q : ℕ) → first < q → q ≤ byte → unwrap_or (f q) 0 ≤ most) → shown f byte ≤ most
unfolding shown
shown_within f first zero most by here others = let e : 0 ≡ first = omega arith in subst (λ q. shown f q ≤ most) (sym e) here
shown_within f first (suc byte) most by here others =
    elim (cases_eq first (suc byte)) [
      | inl is ↦ subst (λ q. shown f q ≤ most) is here
      | inr apart ↦
          either (f (suc byte)) (shown f byte) (others (suc byte) (omega arith) (omega arith))
          (shown_within f first byte most (omega arith) here (λ q h k. others q h (omega arith)))
    ]
  where
    either : (o : Option ℕ) (d : ℕ) → unwrap_or o 0 ≤ most → d ≤ most → unwrap_or o d ≤ most
    either None d h k = k
    either (Some v) d h k = h

-- some of the boundaries behind the first byte and not behind the last are gone, none of a greater value than this
pub record IsClearedSoFar (old new : ℕ → Option ℕ) (first last greatest : ℕ) : Type 0 where
  pub ahead : (byte : ℕ) → byte ≤ first → new byte ≡ old byte
  pub behind : (byte : ℕ) → last < byte → new byte ≡ old byte
  pub inside : (byte : ℕ) → first < byte → byte ≤ last → (new byte ≡ old byte) ⊎ ((new byte ≡ None) × (unwrap_or (old byte) 0 ≤ greatest))
  pub had : 0 < greatest → (byte : ℕ) × (first < byte) × (byte ≤ last) × (old byte ≡ Some greatest)

pub cleared_none : (f : ℕ → Option ℕ) (first last : ℕ) → IsClearedSoFar f f first last 0
cleared_none f first last = record {
  ahead = λ q h. refl;
  behind = λ q h. refl;
  inside = λ q h k. inl refl;
  had = λ some. absurd (omega arith);
}

pub cleared_more : (old f g : ℕ → Option ℕ) (first last greatest at v : ℕ) → IsClearedSoFar old f first last greatest
    → first < at → at ≤ last → f at ≡ Some v → g at ≡ None → ((q : ℕ) → q ≢ at → g q ≡ f q) → IsClearedSoFar old g first last (max v greatest)
cleared_more old f g first last greatest at v so_far after by there gone others =
    let was : old at ≡ Some v =
    elim (so_far.inside at after by) [ inl same ↦ sym same ∙ there | inr none ↦ absurd (absent (f at) v none.0 there) ] in
    record {
      ahead = λ q h. others q (omega arith) ∙ so_far.ahead q h;
      behind = λ q h. others q (omega arith) ∙ so_far.behind q h;
      inside = λ q h k. elim (cases_eq q at) [
        | inl same ↦ inr (ap g same ∙ gone, (let e : old q ≡ Some v = ap old same ∙ was in rw e (omega arith)))
        | inr apart ↦ elim (so_far.inside q h k) [
          | inl kept ↦ inl (others q apart ∙ kept)
          | inr none ↦ inr (others q apart ∙ none.0, omega (arith, none.1))
        ]
      ];
      had = λ some. elim (cases_lt greatest v) [
        | inl less ↦ let e : v ≡ max v greatest = omega arith in (at, after, by, subst (λ m. old at ≡ Some m) e was)
        | inr more ↦
            let e : greatest ≡ max v greatest = omega arith in
            subst (λ m. (byte : ℕ) × (first < byte) × (byte ≤ last) × (old byte ≡ Some m)) e (so_far.had (omega arith))
      ];
    }
  where
    absent : (o : Option ℕ) (v : ℕ) → o ≡ None → o ≡ Some v → ⊥
    absent o v none some = none-some v (sym none ∙ some)

pub cleared_all : (old new : ℕ → Option ℕ) (first last greatest : ℕ) → IsClearedSoFar old new first last greatest → HasNoneBetween new first last
    → IsCleared old new first last greatest
cleared_all old new first last greatest so_far none = record {
  gone = none;
  ahead = so_far.ahead;
  behind = so_far.behind;
  bound = λ q h k. elim (so_far.inside q h k) [
    | inl same ↦ let e : old q ≡ None = sym same ∙ none q h k in rw e (omega arith)
    | inr gone ↦ gone.1
  ];
  had = so_far.had;
}

-- of the map of a tree: one key changes
pub is_at_apart : (k q : ℕ) → q ≢ k → is_at (nat_cmp k) q ≡ false
is_at_apart k q apart = grind (arith, common_steps)

value_of : (o : Option ℕ) → IsSome o → o ≡ Some (unwrap_or o 0)
value_of None some = absurd (false≢true some)
value_of (Some v) some = refl

-- boundaries at both ends of a part, those within it taken away, and a value at its begin
module _ (f f1 f2 f3 f4 : ℕ → Option ℕ) (first last position greatest : ℕ) (forward : first ≤ last)
    (split_behind : Shows f1 (shown f)) (end_there : last + 1 < 2 ^ 64 → IsSome (f2 (last + 1)))
    (split_first : Shows f2 (shown f1)) (begin_there : IsSome (f2 first))
    (cleared : IsCleared f2 f3 first last greatest)
    (here : f4 first ≡ Some position) (others : (q : ℕ) → q ≢ first → f4 q ≡ f3 q) where
  unsplit : (byte : ℕ) → shown f2 byte ≡ shown f byte
  unsplit byte = split_first byte ∙ split_behind byte

  pub painted_inside : (byte : ℕ) → first ≤ byte → byte ≤ last → shown f4 byte ≡ position
  painted_inside byte from by = shown_last f4 byte first position here from (λ q h k. others q (omega arith) ∙ cleared.gone q h (omega arith))

  pub painted_ahead : (byte : ℕ) → byte < first → shown f4 byte ≡ shown f byte
  painted_ahead byte before = shown_same f4 f2 byte (λ q h. others q (omega arith) ∙ cleared.ahead q (omega arith)) ∙ unsplit byte

  pub painted_behind : (byte : ℕ) → last < byte → byte < 2 ^ 64 → shown f4 byte ≡ shown f byte
  painted_behind byte after within =
      shown_behind f4 f2 (last + 1) byte (omega arith) (end_there (omega arith)) (λ q h. others q (omega arith) ∙ cleared.behind q (omega arith)) ∙ unsplit byte

  was_first : shown f first ≡ unwrap_or (f3 first) 0
  was_first = sym (unsplit first) ∙ shown_at f2 first (unwrap_or (f2 first) 0) (value_of (f2 first) begin_there) ∙ ap (λ o. unwrap_or o 0) (sym (cleared.ahead first (omega arith)))

  pub painted_bound : (byte : ℕ) → first ≤ byte → byte ≤ last → shown f byte ≤ max (unwrap_or (f3 first) 0) greatest
  painted_bound byte from by =
      let most = max (unwrap_or (f3 first) 0) greatest in
      let begin : shown f2 first ≤ most = let e = unsplit first ∙ was_first in omega (arith, e) in
      let within : shown f2 byte ≤ most = shown_within f2 first byte most from begin (λ q h k. let b = cleared.bound q h (omega arith) in omega (arith, b)) in
      subst (λ v. v ≤ most) (unsplit byte) within

  pub painted_had : 0 < max (unwrap_or (f3 first) 0) greatest
      → (byte : ℕ) × (first ≤ byte) × (byte ≤ last) × (shown f byte ≡ max (unwrap_or (f3 first) 0) greatest)
  painted_had some =
      elim (cases_lt (unwrap_or (f3 first) 0) greatest) [
        | inl less ↦
            let had = cleared.had (omega arith) in
            let e : greatest ≡ max (unwrap_or (f3 first) 0) greatest = omega arith in
            (had.0, omega (arith, had.1), had.2, sym (unsplit had.0) ∙ shown_at f2 had.0 greatest had.3 ∙ e)
        | inr more ↦
            let e : unwrap_or (f3 first) 0 ≡ max (unwrap_or (f3 first) 0) greatest = omega arith in
            (first, omega arith, forward, was_first ∙ e)
      ]
