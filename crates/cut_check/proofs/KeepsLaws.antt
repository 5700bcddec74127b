-- What is kept of some places, with one more place.
use Rattle.std.proofs.Common.{◌≡◌, ◌⊎◌, ℕ, ◌<◌, ◌≤◌, ◌+◌, ◌-◌, min, max, List, [], ◌∷◌, ◌++◌, length, refl, sym, ap, subst, arith, inl, inr, length-append}
use Rattle.std.proofs.lemmas.Bool.{cases_eq, cases_lt}
use Rattle.cut_check.specs.declared.effect.Effect.{Effect}
use Rattle.cut_check.specs.declared.effect.Effect.TheVariants.{Nothing, Lasting, Unstable, Committed}
use Rattle.cut_check.specs.Stable.{IsAmong, Reaches, AreCommitted, IsStable, IsStableAt, IsLastStable}
use Rattle.cut_check.specs.Stability.{WritesAt, last_byte, Keeps, IsPaintedIn, IsSameKept}
use Rattle.cut_check.proofs.StableLaws.{writes_more, writes_cases, writes_last, writes_within, stable_at_more, stable_at_cases, stable_within, stable_by_commit, stable_last}

pub keeps_none : (at : ℕ → ℕ → ℕ) → ((object byte : ℕ) → at object byte ≡ 0) → Keeps 0 0 at []
keeps_none at nothing = record {
  placed_is = refl;
  needed_is = record { stable = λ some. absurd (omega arith); last = λ later less stable. let h = stable_within [] later stable in absurd (omega arith) };
  are_writes = λ object byte within less. let e = nothing object byte in absurd (omega arith);
  are_last = λ position object byte w less. let h = writes_within [] position object byte w in absurd (omega arith);
}

pub keeps_same : (placed needed : ℕ) (at now : ℕ → ℕ → ℕ) (effects : List Effect) → IsSameKept at now → Keeps placed needed at effects → Keeps placed needed now effects
keeps_same placed needed at now effects same k = record {
  placed_is = k.placed_is;
  needed_is = k.needed_is;
  are_writes = λ object byte within less.
      let e : now object byte ≡ at object byte = same object byte in
      subst (λ q. WritesAt effects q object byte) (sym e) (k.are_writes object byte within (omega arith));
  are_last = λ position object byte w less.
      let e : now object (min byte last_byte) ≡ at object (min byte last_byte) = same object (min byte last_byte) in
      subst (λ q. position ≤ q) (sym e) (k.are_last position object byte w less);
}

one_longer : (effects : List Effect) (effect : Effect) → length (effects ++ effect ∷ []) ≡ length effects + 1
one_longer effects effect = length-append effects (effect ∷ [])

needed_within : (effects : List Effect) (needed : ℕ) → IsLastStable effects needed → needed ≤ length effects
needed_within effects needed l =
    elim (cases_lt 0 needed) [
      | inl some ↦ stable_within effects needed (l.stable some)
      | inr none ↦ omega arith
    ]

none_committed : (object offset count : ℕ) → AreCommitted object offset count [] → ⊥
none_committed object offset count c = let h : c.1.0 < 0 = c.1.1 in omega arith

-- a place that isn't stable and makes none stable
last_quiet : (effects : List Effect) (effect : Effect) (needed : ℕ) → (IsStable effect [] → ⊥) → ((object byte : ℕ) → Reaches effect object byte → ⊥)
    → IsLastStable effects needed → IsLastStable (effects ++ effect ∷ []) needed
last_quiet effects effect needed unstable reaches_none l = record {
  stable = λ some. stable_at_more effects effect needed (l.stable some);
  last = λ later less s.
      elim (stable_at_cases effects effect later s) [
        | inl here ↦ unstable here.1
        | inr rest ↦ elim rest [ inl before ↦ l.last later less before | inr w ↦ reaches_none w.0 w.1 w.3 ]
      ];
}

module _ (placed needed : ℕ) (at : ℕ → ℕ → ℕ) (effects : List Effect) (k : Keeps placed needed at effects) where
  -- a place that writes no byte
  keeps_quiet : (effect : Effect) → (IsStable effect [] → ⊥) → ((object byte : ℕ) → Reaches effect object byte → ⊥)
      → ((object offset count byte : ℕ) → Unstable object offset count ≡ effect → IsAmong offset count byte → ⊥)
      → Keeps (placed + 1) needed at (effects ++ effect ∷ [])
  keeps_quiet effect unstable reaches_none writes_none = record {
    placed_is = let e = one_longer effects effect in let f = k.placed_is in omega arith;
    needed_is = last_quiet effects effect needed unstable reaches_none k.needed_is;
    are_writes = λ object byte within less. writes_more effects effect (at object byte) object byte (k.are_writes object byte within less);
    are_last = λ position object byte w less.
        elim (writes_cases effects effect position object byte w) [
          | inl before ↦ k.are_last position object byte before less
          | inr here ↦ absurd (writes_none object here.1.0 here.1.1 byte here.1.2 here.1.3)
        ];
  }

  pub keeps_nothing : Keeps (placed + 1) needed at (effects ++ Nothing ∷ [])
  keeps_nothing = keeps_quiet Nothing (λ stable. stable) (λ object byte reached. reached) (λ object offset count byte same among. absurd (cc))

  pub keeps_empty : (object offset count : ℕ) → count ≡ 0 → Keeps (placed + 1) needed at (effects ++ Unstable object offset count ∷ [])
  keeps_empty object offset count none =
      keeps_quiet (Unstable object offset count) (none_committed object offset count) (λ other byte reached. reached)
      (λ other from as_many byte same among. let e : as_many ≡ count = cc in let h = among.1 in let g = among.0 in absurd (omega arith))

  pub keeps_lasting : Keeps (placed + 1) (placed + 1) at (effects ++ Lasting ∷ [])
  keeps_lasting =
      let same : placed ≡ length effects = k.placed_is in
      let longer : length (effects ++ Lasting ∷ []) ≡ length effects + 1 = one_longer effects Lasting in
      let few : needed ≤ length effects = needed_within effects needed k.needed_is in
      record {
        placed_is = omega arith;
        needed_is = record {
          stable = λ some. subst (λ q. IsStableAt (effects ++ Lasting ∷ []) q) (ap (λ q. q + 1) (sym same)) (stable_last effects Lasting tt);
          last = λ later less s. let h = stable_within (effects ++ Lasting ∷ []) later s in absurd (omega arith);
        };
        are_writes = λ object byte within less. writes_more effects Lasting (at object byte) object byte (k.are_writes object byte within (omega arith));
        are_last = λ position object byte w less. let h = writes_within (effects ++ Lasting ∷ []) position object byte w in absurd (omega arith);
      }

  module _ (now : ℕ → ℕ → ℕ) (object offset count last greatest : ℕ) (within_64 : offset ≤ last_byte) where
    -- a byte has got the position, or has kept its own
    painted_cases : (position : ℕ) → IsPaintedIn at now object offset last position greatest → (other byte : ℕ) → byte ≤ last_byte
        → ((other ≡ object) × (offset ≤ byte) × (byte ≤ last) × (now other byte ≡ position)) ⊎ (now other byte ≡ at other byte)
    painted_cases position p other byte within =
        elim (cases_eq other object) [
          | inr apart ↦ inr (p.others other byte apart)
          | inl same ↦ elim (cases_lt byte offset) [
            | inl before ↦ inr (subst (λ o. now o byte ≡ at o byte) (sym same) (p.ahead byte before))
            | inr from ↦ elim (cases_lt last byte) [
              | inl after ↦ inr (subst (λ o. now o byte ≡ at o byte) (sym same) (p.behind byte after within))
              | inr by ↦ inl (same, from, by, subst (λ o. now o byte ≡ position) (sym same) (p.inside byte from by))
            ]
          ]
        ]

    pub keeps_write : 0 < count → last ≡ min (offset + count - 1) last_byte → IsPaintedIn at now object offset last (placed + 1) greatest
        → Keeps (placed + 1) needed now (effects ++ Unstable object offset count ∷ [])
    keeps_write some is_last p =
        let effect : Effect = Unstable object offset count in
        let same : placed ≡ length effects = k.placed_is in
        let longer : length (effects ++ effect ∷ []) ≡ length effects + 1 = one_longer effects effect in
        record {
          placed_is = omega arith;
          needed_is = last_quiet effects effect needed (none_committed object offset count) (λ other byte reached. reached) k.needed_is;
          are_writes = λ other byte within less.
              elim (painted_cases (placed + 1) p other byte within) [
                | inl here ↦
                    let among : IsAmong offset count byte = (here.1, let h = here.2 in omega arith) in
                    let w : WritesAt (effects ++ effect ∷ []) (length effects + 1) object byte = writes_last effects object offset count byte among in
                    let position : length effects + 1 ≡ now other byte = let h = here.3 in omega arith in
                    subst (λ q. WritesAt (effects ++ effect ∷ []) q other byte) position (subst (λ o. WritesAt (effects ++ effect ∷ []) (length effects + 1) o byte) (sym here.0) w)
                | inr kept ↦
                    subst (λ q. WritesAt (effects ++ effect ∷ []) q other byte) (sym kept)
                    (writes_more effects effect (at other byte) other byte (k.are_writes other byte within (let h = kept in omega arith)))
              ];
          are_last = λ position other byte w less.
              elim (writes_cases effects effect position other byte w) [
                | inl before ↦
                    elim (painted_cases (placed + 1) p other (min byte last_byte) (omega arith)) [
                      | inl here ↦ let h = here.3 in let g = writes_within effects position other byte before in omega arith
                      | inr kept ↦ let h = k.are_last position other byte before less in subst (λ q. position ≤ q) (sym kept) h
                    ]
                | inr here ↦
                    let same_object : other ≡ object = let e = here.1.2 in cc in
                    let same_offset : here.1.0 ≡ offset = let e = here.1.2 in cc in
                    let same_count : here.1.1 ≡ count = let e = here.1.2 in cc in
                    let begin : here.1.0 ≤ byte = here.1.3.0 in
                    let finish : byte < here.1.0 + here.1.1 = here.1.3.1 in
                    let number : position ≡ length effects + 1 = here.0 in
                    let inside : now object (min byte last_byte) ≡ placed + 1 = p.inside (min byte last_byte) (omega arith) (omega arith) in
                    let inside_other : now other (min byte last_byte) ≡ placed + 1 = subst (λ o. now o (min byte last_byte) ≡ placed + 1) (sym same_object) inside in
                    omega arith
              ];
        }

    module _ (without_end : count ≡ 0 → last ≡ last_byte) (of_count : 0 < count → last ≡ min (offset + count - 1) last_byte)
        (p : IsPaintedIn at now object offset last 0 greatest) where
      last_within : last ≤ last_byte
      last_within =
          elim (cases_lt 0 count) [
            | inl some ↦ let e = of_count some in omega arith
            | inr none ↦ let e = without_end (omega arith) in omega arith
          ]

      -- what the COMMIT reaches, up to the last byte
      reaches : (byte : ℕ) → offset ≤ byte → byte ≤ last → Reaches (Committed object offset count) object byte
      reaches byte from by =
          elim (cases_lt 0 count) [
            | inl some ↦ let e = of_count some in (refl, from, inr (omega arith))
            | inr none ↦ (refl, from, inl (omega arith))
          ]

      reached : (other byte : ℕ) → Reaches (Committed object offset count) other byte → (offset ≤ min byte last_byte) × (min byte last_byte ≤ last)
      reached other byte r =
          let from : offset ≤ byte = r.1 in
          elim (cases_lt 0 count) [
            | inl some ↦
                let e = of_count some in
                elim r.2 [ inl none ↦ absurd (omega arith) | inr below ↦ (omega arith, omega arith) ]
            | inr none ↦ let e = without_end (omega arith) in (omega arith, omega arith)
          ]

      commit_stable : 0 < max greatest needed → IsStableAt (effects ++ Committed object offset count ∷ []) (max greatest needed)
      commit_stable some =
          elim (cases_lt needed greatest) [
            | inl more ↦
                let had = p.had (omega arith) in
                let e : at object had.0 ≡ greatest = had.3 in
                let is : greatest ≡ max greatest needed = omega arith in
                let upto : had.0 ≤ last_byte = let h = last_within in let g = had.2 in omega arith in
                let w : WritesAt effects greatest object had.0 = subst (λ q. WritesAt effects q object had.0) e (k.are_writes object had.0 upto (omega arith)) in
                subst (IsStableAt (effects ++ Committed object offset count ∷ [])) is
                (stable_by_commit effects (Committed object offset count) greatest object had.0 w (reaches had.0 had.1 had.2))
            | inr no_more ↦
                let is : needed ≡ max greatest needed = omega arith in
                subst (IsStableAt (effects ++ Committed object offset count ∷ [])) is
                (stable_at_more effects (Committed object offset count) needed (k.needed_is.stable (omega arith)))
          ]

      commit_last : (later : ℕ) → max greatest needed < later → IsStableAt (effects ++ Committed object offset count ∷ []) later → ⊥
      commit_last later less s =
          elim (stable_at_cases effects (Committed object offset count) later s) [
            | inl here ↦ here.1
            | inr rest ↦ elim rest [
              | inl before ↦ k.needed_is.last later (omega arith) before
              | inr w ↦
                  let inside = reached w.0 w.1 w.3 in
                  let same : object ≡ w.0 = w.3.0 in
                  let upto : later ≤ at w.0 (min w.1 last_byte) = k.are_last later w.0 w.1 w.2 (omega arith) in
                  let bound : at object (min w.1 last_byte) ≤ greatest = p.bound (min w.1 last_byte) inside.0 inside.1 in
                  let bound_other : at w.0 (min w.1 last_byte) ≤ greatest = subst (λ o. at o (min w.1 last_byte) ≤ greatest) same bound in
                  omega arith
            ]
          ]

      pub keeps_commit : Keeps (placed + 1) (max greatest needed) now (effects ++ Committed object offset count ∷ [])
      keeps_commit = record {
        placed_is = let e = one_longer effects (Committed object offset count) in let f = k.placed_is in omega arith;
        needed_is = record { stable = commit_stable; last = commit_last };
        are_writes = λ other byte within less.
            elim (painted_cases 0 p other byte within) [
              | inl here ↦ let h = here.3 in absurd (omega arith)
              | inr kept ↦
                  subst (λ q. WritesAt (effects ++ Committed object offset count ∷ []) q other byte) (sym kept)
                  (writes_more effects (Committed object offset count) (at other byte) other byte (k.are_writes other byte within (let h = kept in omega arith)))
            ];
        are_last = λ position other byte w less.
            elim (writes_cases effects (Committed object offset count) position other byte w) [
              | inl before ↦
                  let upto : position ≤ at other (min byte last_byte) = k.are_last position other byte before (omega arith) in
                  elim (painted_cases 0 p other (min byte last_byte) (omega arith)) [
                    | inl here ↦
                        let bound : at object (min byte last_byte) ≤ greatest = p.bound (min byte last_byte) here.1 here.2 in
                        let bound_other : at other (min byte last_byte) ≤ greatest = subst (λ o. at o (min byte last_byte) ≤ greatest) (sym here.0) bound in
                        absurd (omega arith)
                    | inr kept ↦ subst (λ q. position ≤ q) (sym kept) upto
                  ]
              | inr here ↦ let e = here.1.2 in absurd (cc)
            ];
      }
