-- Which places are stable when one more stands behind them.
use Rattle.std.proofs.Common.{◌≡◌, ◌⊎◌, ℕ, ◌≤◌, ◌+◌, List, [], ◌∷◌, ◌++◌, length, refl, sym, ap, subst, ◌∙◌, arith, inl, inr, append_assoc, length-append}
use Rattle.std.proofs.lemmas.List.Elements.{Contains-append_left, Contains-push, Contains-push_cases}
use Rattle.cut_check.specs.declared.effect.Effect.{Effect}
use Rattle.cut_check.specs.declared.effect.Effect.TheVariants.{Nothing, Lasting, Unstable, Committed}
use Rattle.cut_check.specs.Stable.{IsAmong, Reaches, IsStable, IsStableAt}
use Rattle.cut_check.specs.Stability.{WritesAt}

module _ {X : Type 0} where
  not_empty : (x : X) (xs ys : List X) → xs ++ x ∷ ys ≡ [] → ⊥
  not_empty x [] ys e = absurd (cc)
  not_empty x (y ∷ xs) ys e = absurd (cc)

  -- where one more stands at the end, a place is that one or one of the others
  pub split_push : (xs ahead behind : List X) (x here : X) → xs ++ x ∷ [] ≡ ahead ++ here ∷ behind
      → ((behind ≡ []) × (ahead ≡ xs) × (here ≡ x)) ⊎ ((others : List X) × (behind ≡ others ++ x ∷ []) × (xs ≡ ahead ++ here ∷ others))
  split_push [] [] behind x here e = let first : here ≡ x = cc in let rest : behind ≡ [] = cc in inl (rest, refl, first)
  split_push [] (a ∷ ahead) behind x here e = let rest : ahead ++ here ∷ behind ≡ [] = cc in absurd (not_empty here ahead behind rest)
  split_push (y ∷ xs) [] behind x here e =
      let first : here ≡ y = cc in
      let rest : behind ≡ xs ++ x ∷ [] = cc in
      inr (xs, rest, ap (λ h. h ∷ xs) (sym first))
  split_push (y ∷ xs) (a ∷ ahead) behind x here e =
      let first : y ≡ a = cc in
      let rest : xs ++ x ∷ [] ≡ ahead ++ here ∷ behind = cc in
      elim (split_push xs ahead behind x here rest) [
        | inl w ↦ let same : a ∷ ahead ≡ y ∷ xs = let e2 = w.1 in cc in inl (w.0, same, w.2)
        | inr w ↦ let same : y ∷ xs ≡ a ∷ (ahead ++ here ∷ w.0) = let e2 = w.2 in cc in inr (w.0, w.1, same)
      ]

  pub split_more : (xs ahead behind : List X) (x here : X) → xs ≡ ahead ++ here ∷ behind → xs ++ x ∷ [] ≡ ahead ++ here ∷ (behind ++ x ∷ [])
  split_more xs ahead behind x here e = ap (λ l. l ++ x ∷ []) e ∙ append_assoc ahead (here ∷ behind) (x ∷ [])

module _ (effects : List Effect) (effect : Effect) where
  pub writes_more : (position object byte : ℕ) → WritesAt effects position object byte → WritesAt (effects ++ effect ∷ []) position object byte
  writes_more position object byte w = record {
    ahead = w.ahead;
    offset = w.offset;
    count = w.count;
    behind = w.behind ++ effect ∷ [];
    stands = split_more effects w.ahead w.behind effect (Unstable object w.offset w.count) w.stands;
    number = w.number;
    written = w.written;
  }

  pub writes_cases : (position object byte : ℕ) → WritesAt (effects ++ effect ∷ []) position object byte
      → WritesAt effects position object byte
      ⊎ ((position ≡ length effects + 1) × ((offset count : ℕ) × (Unstable object offset count ≡ effect) × IsAmong offset count byte))
  writes_cases position object byte w =
      elim (split_push effects w.ahead w.behind effect (Unstable object w.offset w.count) w.stands) [
        | inl here ↦ inr (w.number ∙ ap (λ l. length l + 1) here.1, (w.offset, w.count, here.2, w.written))
        | inr among ↦ inl (record {
          ahead = w.ahead;
          offset = w.offset;
          count = w.count;
          behind = among.0;
          stands = among.2;
          number = w.number;
          written = w.written;
        })
      ]

  stable_more : (here : Effect) (behind : List Effect) → IsStable here behind → IsStable here (behind ++ effect ∷ [])
  stable_more Lasting behind stable = tt
  stable_more (Unstable object offset count) behind stable = (stable.0, Contains-append_left behind (effect ∷ []) stable.0 stable.1, stable.2)
  stable_more (Committed object offset count) behind stable = stable
  stable_more Nothing behind stable = stable

  -- what is stable by the last place alone
  stable_cases : (here : Effect) (behind : List Effect) → IsStable here (behind ++ effect ∷ [])
      → IsStable here behind
      ⊎ ((object offset count byte : ℕ) × (here ≡ Unstable object offset count) × IsAmong offset count byte × Reaches effect object byte)
  stable_cases Lasting behind stable = inl tt
  stable_cases (Unstable object offset count) behind stable =
      elim (Contains-push_cases behind effect stable.0 stable.1) [
        | inl among ↦ inl (stable.0, among, stable.2)
        | inr last ↦ inr (object, offset, count, stable.2.0, refl, stable.2.1, subst (λ commit. Reaches commit object stable.2.0) (sym last) stable.2.2)
      ]
  stable_cases (Committed object offset count) behind stable = inl stable
  stable_cases Nothing behind stable = inl stable

  pub stable_at_more : (position : ℕ) → IsStableAt effects position → IsStableAt (effects ++ effect ∷ []) position
  stable_at_more position s = record {
    ahead = s.ahead;
    here = s.here;
    behind = s.behind ++ effect ∷ [];
    stands = split_more effects s.ahead s.behind effect s.here s.stands;
    number = s.number;
    stable = stable_more s.here s.behind s.stable;
  }

  pub stable_at_cases : (position : ℕ) → IsStableAt (effects ++ effect ∷ []) position
      → ((position ≡ length effects + 1) × IsStable effect [])
      ⊎ IsStableAt effects position
      ⊎ ((object byte : ℕ) × WritesAt effects position object byte × Reaches effect object byte)
  stable_at_cases position s =
      elim (split_push effects s.ahead s.behind effect s.here s.stands) [
        | inl here ↦ inl (s.number ∙ ap (λ l. length l + 1) here.1, subst (λ b. IsStable effect b) here.0 (subst (λ e. IsStable e s.behind) here.2 s.stable))
        | inr among ↦
            elim (stable_cases s.here among.0 (subst (IsStable s.here) among.1 s.stable)) [
              | inl before ↦ inr (inl (record {
                ahead = s.ahead;
                here = s.here;
                behind = among.0;
                stands = among.2;
                number = s.number;
                stable = before;
              }))
              | inr w ↦ inr (inr (
                w.0,
                w.3,
                record {
                  ahead = s.ahead;
                  offset = w.1;
                  count = w.2;
                  behind = among.0;
                  stands = among.2 ∙ ap (λ e. s.ahead ++ e ∷ among.0) w.4;
                  number = s.number;
                  written = w.5;
                },
                w.6,
              ))
            ]
      ]

pub writes_last : (effects : List Effect) (object offset count byte : ℕ) → IsAmong offset count byte
    → WritesAt (effects ++ Unstable object offset count ∷ []) (length effects + 1) object byte
writes_last effects object offset count byte among = record {
  ahead = effects;
  offset = offset;
  count = count;
  behind = [];
  stands = refl;
  number = refl;
  written = among;
}

pub writes_within : (effects : List Effect) (position object byte : ℕ) → WritesAt effects position object byte → position ≤ length effects
writes_within effects position object byte w =
    let e : length effects ≡ length w.ahead + (length w.behind + 1) =
    ap length w.stands ∙ length-append w.ahead (Unstable object w.offset w.count ∷ w.behind) ∙ (omega arith) in
    omega (arith, w.number)

pub stable_within : (effects : List Effect) (position : ℕ) → IsStableAt effects position → position ≤ length effects
stable_within effects position s =
    let e : length effects ≡ length s.ahead + (length s.behind + 1) =
    ap length s.stands ∙ length-append s.ahead (s.here ∷ s.behind) ∙ (omega arith) in
    omega (arith, s.number)

-- a COMMIT at the end makes what it reaches stable
pub stable_by_commit : (effects : List Effect) (commit : Effect) (position object byte : ℕ) → WritesAt effects position object byte → Reaches commit object byte
    → IsStableAt (effects ++ commit ∷ []) position
stable_by_commit effects commit position object byte w reached = record {
  ahead = w.ahead;
  here = Unstable object w.offset w.count;
  behind = w.behind ++ commit ∷ [];
  stands = split_more effects w.ahead w.behind commit (Unstable object w.offset w.count) w.stands;
  number = w.number;
  stable = (commit, Contains-push w.behind commit, (byte, w.written, reached));
}

-- a place at the end that is stable by itself
pub stable_last : (effects : List Effect) (effect : Effect) → IsStable effect [] → IsStableAt (effects ++ effect ∷ []) (length effects + 1)
stable_last effects effect stable = record {
  ahead = effects;
  here = effect;
  behind = [];
  stands = refl;
  number = refl;
  stable = stable;
}
