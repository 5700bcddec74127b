-- The definitions of eras have a witness.
use Rattle.std.proofs.Common.{◌≡◌, inl, inr, ◌==◌, ℕ, ◌+◌, ◌≤◌, Bool, true, false, cond, IsTrue, Some, None, refl, sym, subst, arith}
use Rattle.std.proofs.lemmas.Bool.{cases_eq, ne_eqb, eqb-true}
use Rattle.decision_core.specs.Times.{IsAmong}
use Rattle.decision_core.specs.Eras.{IsNumbering, order_of, IsEraWitness}
use Rattle.decision_core.specs.ErasExample.{times, by, start, plan, Change}

abbrev Crash : ℕ → Type 0
Crash e = IsTrue (times.is_call (by.crash e)) × (by.era_of (by.crash e) ≡ e) × (by.is_real (by.crash e) ≡ false)

abbrev Ends : ℕ → Type 0
Ends e = times.end_of (by.crash e) ≡ Some (start (e + 1))

-- what holds of the four holds of each call
each : (P : ℕ → Type 0) → P 1 → P 2 → P 11 → P 12 → ((n : ℕ) → IsTrue (times.is_call n) → P n)
each P a b c d n known = elim (cases_eq n 1) [
  | inl same ↦ subst P (sym same) a
  | inr not_1 ↦
      elim (cases_eq n 2) [
        | inl same ↦ subst P (sym same) b
        | inr not_2 ↦
            elim (cases_eq n 11) [
              | inl same ↦ subst P (sym same) c
              | inr not_11 ↦
                  elim (cases_eq n 12) [
                    | inl same ↦ subst P (sym same) d
                    | inr not_12 ↦
                        absurd (none (n == 1) (n == 2) (n == 11) (n == 12) (ne_eqb n 1 not_1) (ne_eqb n 2 not_2) (ne_eqb n 11 not_11) (ne_eqb n 12 not_12) known)
                  ]
            ]
      ]
] where
  none : (p q r s : Bool) → p ≡ false → q ≡ false → r ≡ false → s ≡ false → IsTrue (cond p true (cond q true (cond r true (cond s true false)))) → ⊥
  none p q r s np nq nr ns known = grind (arith, np, nq, nr, ns, known)

pub numbered : IsNumbering times by 2 start
numbered = record {
  begins_late = each (λ n. start (by.era_of n) ≤ times.begin_of n) (omega arith) (omega arith) (omega arith) (omega arith);
  begins_early = each (λ n. times.begin_of n ≤ start (by.era_of n + 1)) (omega arith) (omega arith) (omega arith) (omega arith);
  ends_late = λ n at known. each (λ k. times.end_of k ≡ Some at → times.begin_of k ≤ at)
      (λ is. let e : 2 ≡ at = cc in omega (arith, e)) (λ is. let e : 6 ≡ at = cc in omega (arith, e)) (λ is. let e : 4 ≡ at = cc in omega (arith, e)) (λ is. let e : 7 ≡ at = cc in omega (arith, e)) n known;
  rises = λ e f up. omega (arith, up);
  crash_call = λ e inside. elim (cases_eq e 1) [ inl same ↦ subst Crash (sym same) (refl, refl, refl) | inr not_1 ↦ let two : 2 ≡ e = omega (arith, inside.0, inside.1, not_1) in subst Crash two (refl, refl, refl) ];
  crash_ends = λ e inside. elim (cases_eq e 1) [ inl same ↦ subst Ends (sym same) refl | inr not_1 ↦ let two : 2 ≡ e = omega (arith, inside.0, inside.1, not_1) in subst Ends two refl ];
}

-- what is answered is a call
known_if : (p q r s : Bool) (at : ℕ) → cond p (Some 2) (cond q (Some 6) (cond r (Some 4) (cond s (Some 7) None))) ≡ Some at → cond p true (cond q true (cond r true (cond s true false))) ≡ true
known_if true q r s at ends = refl
known_if false true r s at ends = refl
known_if false false true s at ends = refl
known_if false false false true at ends = refl
known_if false false false false at ends = absurd cc

pub has_witness : IsEraWitness Change times by 2 0 plan
has_witness = record {
  as_many_eras = refl;
  shape = (
    record {
      calls = ((refl, refl, refl), tt);
      once = (tt, tt);
      respects = (tt, tt);
      stable = λ n stable same. let two : n ≡ 2 = eqb-true n 2 stable in let never : by.era_of 2 ≡ 1 = subst (λ k. by.era_of k ≡ 1) two same in absurd (omega (arith, never));
      unsaved = (tt, tt);
    },
    (
      record {
        calls = ((refl, refl, refl), tt);
        once = (tt, tt);
        respects = (tt, tt);
        stable = λ n stable same. inl (sym (eqb-true n 2 stable));
        unsaved = tt;
      },
      tt,
    ),
  );
  runs = (0, 1, refl, (1, refl, refl), (2, 2, (2, refl, refl), refl, tt));
  complete = λ n at ends. each (IsAmong (order_of by 1 plan)) (inl refl) (inr (inr (inl refl))) (inr (inl refl)) (inr (inr (inr (inl refl)))) n
      (known_if (n == 1) (n == 2) (n == 11) (n == 12) at ends);
}
