-- One run more among those that wait: what is placed so far, what still waits, and what is left of the run.
use Rattle.std.proofs.Common.{◌≡◌, ◌<◌, ◌≤◌, inl, inr, ℕ, ◌+◌, min, max, List, [], ◌∷◌, ◌++◌, drop, length, get_or, refl, ap, subst, ◌∙◌, sym, arith, append_assoc, append-nil}
use Rattle.std.specs.Prelude.{None, nat_lt, Bool, true, false}
use Rattle.std.specs.Option.{option_or}
use Rattle.std.proofs.lemmas.Bool.Decides.{nat_tests}
use Rattle.std.proofs.lemmas.Bool.{cases_lt}
use Rattle.std.proofs.lemmas.List.{drop_all}
use Rattle.tcp_streams.specs.declared.span.Span.{Span}
use Rattle.tcp_streams.specs.Places.{place_of, place_in}
use Rattle.tcp_streams.specs.Orders.{IsBehind, or_none}
use Rattle.tcp_streams.proofs.Rows.{drop_one}
use Rattle.tcp_streams.proofs.Holding.{option_or-none, place_in-append, held_below, held_past, held_in, held_part_below, held_part_from, place_in-below, place_in-or_none}

-- the runs so far end at `high` or before it, and all that is left is behind it
pub record IsFilled (low : ℕ) (runs left : List Span) (rest : Span) : Type 0 where
  pub high : ℕ
  pub before : high ≤ rest.at
  pub behind : IsBehind high left
  pub order : (tail : List Span) → IsBehind high tail → IsBehind low (runs ++ tail)

pub filled_at_first : (low : ℕ) (waiting : List Span) (span : Span) → IsBehind low waiting → low ≤ span.at → IsFilled low [] waiting span
filled_at_first low waiting span behind le = record { high = low; before = le; behind = behind; order = λ tail h. h }

module _ (run rest : Span) where
  abbrev pub below : Span
  below = record rest { «end» = min rest.«end» run.at }

  abbrev pub behind_run : Span
  behind_run = record rest { at = max rest.at run.«end» }

-- a part, if it has a byte, and then a run
part_then_run : (high : ℕ) (run rest : Span) (tail : List Span) → high ≤ rest.at → high ≤ run.at → run.at < run.«end» → IsBehind run.«end» tail → IsBehind high (or_none (below run rest) ++ run ∷ tail)
part_then_run high run rest tail le le_run some behind = by_test (nat_lt rest.at (min rest.«end» run.at)) refl
  where
    by_test : (b : Bool) → nat_lt rest.at (min rest.«end» run.at) ≡ b → IsBehind high (or_none (below run rest) ++ run ∷ tail)
    by_test true e = let lt : rest.at < min rest.«end» run.at = grind (arith, nat_tests) in rw e (le, lt, (omega arith, some, behind))
    by_test false e = rw e (le_run, some, behind)

pub filled_on : (low : ℕ) (runs tail : List Span) (run rest : Span) → IsFilled low runs (run ∷ tail) rest → IsFilled low ((runs ++ or_none (below run rest)) ++ run ∷ []) tail (behind_run run rest)
filled_on low runs tail run rest f = record {
  high = run.«end»;
  before = omega arith;
  behind = f.behind.2;
  order = λ more h. rw (append_assoc, append_assoc) (f.order _ (part_then_run f.high run rest more f.before f.behind.0 f.behind.1 h));
}

-- what is left of the run goes last
last_run : (high : ℕ) (rest : Span) → high ≤ rest.at → IsBehind high (or_none rest ++ [])
last_run high rest le = by_test (nat_lt rest.at rest.«end») refl
  where
    by_test : (b : Bool) → nat_lt rest.at rest.«end» ≡ b → IsBehind high (or_none rest ++ [])
    by_test true e = let lt : rest.at < rest.«end» = grind (arith, nat_tests) in rw e (le, lt, tt)
    by_test false e = rw e tt

pub filled_at_last : (low : ℕ) (runs : List Span) (rest : Span) → IsFilled low runs [] rest → IsBehind low (runs ++ or_none rest)
filled_at_last low runs rest f = subst (λ xs. IsBehind low (runs ++ xs)) (append-nil (or_none rest)) (f.order (or_none rest ++ []) (last_run f.high rest f.before))

-- ---- where bytes stand

-- a byte stands where it stood, whether it is ahead of the run, in it or behind it
same_at : (high n : ℕ) (tail : List Span) (run rest : Span) → IsBehind run.«end» tail → run.at < run.«end» → option_or (place_of (below run rest) n) (option_or (place_of run n) (place_in (tail ++ behind_run run rest ∷ []) n)) ≡ option_or (place_of run n) (place_in (tail ++ rest ∷ []) n)
same_at high n tail run rest behind some = elim (cases_lt n run.at) [ inl lt ↦ ahead lt | inr at_or_past ↦ past at_or_past ]
  where
    ahead : n < run.at → option_or (place_of (below run rest) n) (option_or (place_of run n) (place_in (tail ++ behind_run run rest ∷ []) n)) ≡ option_or (place_of run n) (place_in (tail ++ rest ∷ []) n)
    ahead lt =
        let lt_end : n < run.«end» = omega arith in
        let lt_rest : n < (behind_run run rest).at = omega arith in
        let none = held_below run n lt in
        let none_tail = place_in-below run.«end» n tail behind lt_end in
        let same = held_part_below rest run.at n lt in
        let none_rest = held_below (behind_run run rest) n lt_rest in
        simp (place_in-append, none, none_tail, same, none_rest, option_or-none)

    past : run.at ≤ n → option_or (place_of (below run rest) n) (option_or (place_of run n) (place_in (tail ++ behind_run run rest ∷ []) n)) ≡ option_or (place_of run n) (place_in (tail ++ rest ∷ []) n)
    past le =
        let end_le : (below run rest).«end» ≤ n = omega arith in
        let none = held_past (below run rest) n end_le in
        elim (cases_lt n run.«end») [ inl lt ↦ (let some_run = held_in run n le lt in simp (none, some_run)) | inr over ↦ (let same = held_part_from rest run.«end» n over in simp (none, place_in-append, same)) ]

pub same_on : (low n : ℕ) (runs tail : List Span) (run rest : Span) → IsFilled low runs (run ∷ tail) rest → place_in (((runs ++ or_none (below run rest)) ++ run ∷ []) ++ (tail ++ behind_run run rest ∷ [])) n ≡ place_in (runs ++ ((run ∷ tail) ++ rest ∷ [])) n
same_on low n runs tail run rest f =
    rw (append_assoc, append_assoc, place_in-append, place_in-or_none)
    (ap (option_or (place_in runs n)) (same_at f.high n tail run rest f.behind.2 f.behind.1) ∙ sym (place_in-append runs ((run ∷ tail) ++ rest ∷ []) n))

pub same_at_last : (n : ℕ) (runs : List Span) (rest : Span) → place_in (runs ++ or_none rest) n ≡ place_in (runs ++ ([] ++ rest ∷ [])) n
same_at_last n runs rest = place_in-append runs (or_none rest) n ∙ ap (option_or (place_in runs n)) (subst (λ xs. place_in xs n ≡ option_or (place_of rest n) None) (append-nil (or_none rest)) (place_in-or_none rest [] n)) ∙ sym (place_in-append runs (rest ∷ []) n)

-- ---- along a list

module _ (low n : ℕ) (waiting : List Span) (span : Span) where
  pub record IsFilledTo (i : ℕ) (runs : List Span) (rest : Span) : Type 0 where
    pub filled : IsFilled low runs (drop i waiting) rest
    pub same : place_in (runs ++ (drop i waiting ++ rest ∷ [])) n ≡ place_in (waiting ++ span ∷ []) n

  pub fill_on : (i : ℕ) (d : Span) (runs mid more : List Span) (rest part left_over : Span) → i < length waiting → part ≡ below (get_or waiting i d) rest → mid ≡ runs ++ or_none part → more ≡ mid ++ get_or waiting i d ∷ [] → left_over ≡ behind_run (get_or waiting i d) rest → IsFilledTo i runs rest → IsFilledTo (i + 1) more left_over
  fill_on i d runs mid more rest part left_over h part_is mid_is more_is left_is so_far =
      rw (left_is, more_is, mid_is, part_is)
      record {
        filled = filled_on low runs (drop (i + 1) waiting) (get_or waiting i d) rest here;
        same = same_on low n runs (drop (i + 1) waiting) (get_or waiting i d) rest here ∙ subst (λ xs. place_in (runs ++ (xs ++ rest ∷ [])) n ≡ place_in (waiting ++ span ∷ []) n) (drop_one waiting i d h) so_far.same;
      }
    where
      here : IsFilled low runs (get_or waiting i d ∷ drop (i + 1) waiting) rest
      here = subst (λ xs. IsFilled low runs xs rest) (drop_one waiting i d h) so_far.filled

  pub filled_places : (i : ℕ) (runs last : List Span) (rest : Span) → length waiting ≤ i → last ≡ runs ++ or_none rest → IsFilledTo i runs rest → place_in last n ≡ place_in (waiting ++ span ∷ []) n
  filled_places i runs last rest past is so_far = subst (λ xs. place_in xs n ≡ place_in (waiting ++ span ∷ []) n) (sym is) (same_at_last n runs rest ∙ subst (λ xs. place_in (runs ++ (xs ++ rest ∷ [])) n ≡ place_in (waiting ++ span ∷ []) n) (drop_all i waiting past) so_far.same)

  pub filled_order : (i : ℕ) (runs last : List Span) (rest : Span) → length waiting ≤ i → last ≡ runs ++ or_none rest → IsFilledTo i runs rest → IsBehind low last
  filled_order i runs last rest past is so_far = subst (λ xs. IsBehind low xs) (sym is) (filled_at_last low runs rest (subst (λ xs. IsFilled low runs xs rest) (drop_all i waiting past) so_far.filled))
