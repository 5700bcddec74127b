-- A call that leaves the tree as it is may be placed as soon as one likes: what a plan goes on with it goes on with all the same.
use Rattle.std.proofs.Common.{◌≡◌, ◌≢◌, ◌⊎◌, ◌==◌, ◌||◌, inl, inr, ℕ, ◌+◌, ◌≤◌, Bool, true, false, IsTrue, List, [], ◌∷◌, Option, Some, None, unwrap_or, refl, sym, ap, subst, ◌∙◌, arith}
use Rattle.std.specs.List.{AllByRecursion, list_any}
use Rattle.std.proofs.lemmas.Bool.{true≢false, cases_eq, eq-eqb, ne_eqb, or_right}
use Rattle.decision_core.specs.Times.{Times, Precedes, RespectsOrder, IsAmong, IsOnce, IsUnanswered}
use Rattle.decision_core.specs.Decide.{Leads, MayStandFor}
use Rattle.decision_core.specs.Eras.{Numbering, EraState, is_placed, HasStable, EraNext}
use Rattle.decision_core.proofs.Orders.{all_at, all_of_each}
use Rattle.decision_core.proofs.ErasWalk.{calls_of}

-- the order without n
abbrev drop_if : Bool → ℕ → List ℕ → List ℕ
drop_if true m order = order
drop_if false m order = m ∷ order

abbrev without : ℕ → List ℕ → List ℕ
without n [] = []
without n (m ∷ order) = drop_if (m == n) m (without n order)

module _ (P : ℕ → Type 0) where
  all_drop : (b : Bool) (m : ℕ) (order : List ℕ) → P m → AllByRecursion P order → AllByRecursion P (drop_if b m order)
  all_drop true m order here all = all
  all_drop false m order here all = (here, all)

  all_without : (n : ℕ) (order : List ℕ) → AllByRecursion P order → AllByRecursion P (without n order)
  all_without n [] all = tt
  all_without n (m ∷ order) all = all_drop (m == n) m (without n order) all.0 (all_without n order all.1)

once_without : (n : ℕ) (order : List ℕ) → IsOnce order → IsOnce (without n order)
once_without n [] once = tt
once_without n (m ∷ order) once = once_drop (m == n) m (without n order) (all_without (λ k. k ≢ m) n order once.0) (once_without n order once.1) where
  once_drop : (b : Bool) (m : ℕ) (order : List ℕ) → AllByRecursion (λ k. k ≢ m) order → IsOnce order → IsOnce (drop_if b m order)
  once_drop true m order here once = once
  once_drop false m order here once = (here, once)

respects_without : (times : Times) (n : ℕ) (order : List ℕ) → RespectsOrder times order → RespectsOrder times (without n order)
respects_without times n [] respects = tt
respects_without times n (m ∷ order) respects = respects_drop (m == n) m (without n order) (all_without (λ k. ¬ Precedes times k m) n order respects.0) (respects_without times n order respects.1) where
  respects_drop : (b : Bool) (m : ℕ) (order : List ℕ) → AllByRecursion (λ k. ¬ Precedes times k m) order → RespectsOrder times order → RespectsOrder times (drop_if b m order)
  respects_drop true m order here respects = respects
  respects_drop false m order here respects = (here, respects)

among_drop : (b : Bool) (m : ℕ) (order : List ℕ) (k : ℕ) → IsAmong order k → IsAmong (drop_if b m order) k
among_drop true m order k among = among
among_drop false m order k among = inr among

among_without : (n : ℕ) (order : List ℕ) (k : ℕ) → k ≢ n → IsAmong order k → IsAmong (without n order) k
among_without n [] k other among = absurd among
among_without n (m ∷ order) k other (inl same) =
    subst (λ b. IsAmong (drop_if b m (without n order)) k) (sym (ne_eqb m n (λ is. other (sym same ∙ is)))) (inl same)
among_without n (m ∷ order) k other (inr among) = among_drop (m == n) m (without n order) k (among_without n order k other among)

others_without : (n : ℕ) (order : List ℕ) → AllByRecursion (λ k. k ≢ n) (without n order)
others_without n [] = tt
others_without n (m ∷ order) = elim (cases_eq m n) [
  | inl same ↦ subst (λ b. AllByRecursion (λ k. k ≢ n) (drop_if b m (without n order))) (sym (eq-eqb m n same)) (others_without n order)
  | inr other ↦ all_drop (λ k. k ≢ n) (m == n) m (without n order) other (others_without n order)
]

-- what is among the calls is told as placed
pub among_told : (calls : List ℕ) (m : ℕ) → IsAmong calls m → list_any (λ k. k == m) calls ≡ true
among_told [] m among = absurd among
among_told (k ∷ calls) m (inl same) = ap (λ b. b || list_any (λ j. j == m) calls) (eq-eqb k m same)
among_told (k ∷ calls) m (inr among) = or_right (k == m) (list_any (λ j. j == m) calls) (among_told calls m among)

module _ {Tree : Type 0} (Change : Tree → ℕ → Tree → Type 0) (by : Numbering) (none_saved : (n m : ℕ) → ¬ IsTrue (by.saves n m)) (n : ℕ)
    (no_crash : (e : ℕ) → 1 ≤ e → n ≢ by.crash e) (neutral : (tree after : Tree) → Change tree n after → after ≡ tree) where
  -- the second point is the first one, but that n is placed; where n is the first that is lost in the first point, none is in the second
  pub record IsBeside (point other : EraState Tree) : Type 0 where
    pub late : 1 ≤ point.era
    pub tree : other.tree ≡ point.tree
    pub era : other.era ≡ point.era
    pub has : IsAmong other.calls n
    pub keeps : (m : ℕ) → IsAmong point.calls m → IsAmong other.calls m
    pub only : (m : ℕ) → IsAmong other.calls m → (m ≡ n) ⊎ IsAmong point.calls m
    pub base : (other.base ≡ point.base) ⊎ ((other.base ≡ None) × (point.base ≡ Some other.tree) × HasStable by other)

  nothing_saved : (lost : List ℕ) (x : ℕ) → AllByRecursion (λ m. ¬ IsTrue (by.saves m x)) lost
  nothing_saved lost x = all_of_each (λ m. ¬ IsTrue (by.saves m x)) lost (λ m among. none_saved m x)

  -- where nothing is lost in the first point nothing is in the second
  no_base : (point other : EraState Tree) → IsBeside point other → point.base ≡ None → other.base ≡ None
  no_base point other beside none = elim beside.base [ inl same ↦ same ∙ none | inr w ↦ w.0 ]

  still_stable : (point other : EraState Tree) → IsBeside point other → HasStable by point → HasStable by other
  still_stable point other beside stable m is same = beside.keeps m (stable m is (same ∙ beside.era))

  module _ (point other after : EraState Tree) (x : ℕ) (beside : IsBeside point other) where
    -- one call more in both
    keeps_more : (m : ℕ) → IsAmong (x ∷ point.calls) m → IsAmong (x ∷ other.calls) m
    keeps_more m (inl same) = inl same
    keeps_more m (inr among) = inr (beside.keeps m among)

    only_more : (m : ℕ) → IsAmong (x ∷ other.calls) m → (m ≡ n) ⊎ IsAmong (x ∷ point.calls) m
    only_more m (inl same) = inr (inl same)
    only_more m (inr among) = elim (beside.only m among) [ inl is ↦ inl is | inr there ↦ inr (inr there) ]

    -- both points after x, where the base is the same
    both_after : (tree : Tree) (base : Option Tree) (lost other_lost : List ℕ)
        → IsBeside (record { tree = tree; base = base; lost = lost; era = point.era; calls = x ∷ point.calls }) (record { tree = tree; base = base; lost = other_lost; era = other.era; calls = x ∷ other.calls })
    both_after tree base lost other_lost = record {
      late = beside.late;
      tree = refl;
      era = beside.era;
      has = inr beside.has;
      keeps = keeps_more;
      only = only_more;
      base = inl refl;
    }

    -- another call is placed in both
    pub other_goes_on : x ≢ n → ¬ IsAmong point.calls x → EraNext Change by point x after → (o : EraState Tree) × EraNext Change by other x o × IsBeside after o
    other_goes_on differs unplaced (inl (real, era, (tree, change, inl ahead))) = (
      record { tree = tree; base = None; lost = []; era = other.era; calls = x ∷ other.calls },
      inl (real, era ∙ sym beside.era, (tree, subst (λ t. Change t x tree) (sym beside.tree) change, inl (no_base point other beside ahead.0, refl))),
      subst (λ a. IsBeside a (record { tree = tree; base = None; lost = []; era = other.era; calls = x ∷ other.calls })) (sym ahead.1) (both_after tree None [] []),
    )
    other_goes_on differs unplaced (inl (real, era, (tree, change, inr (inl first)))) = (
      record { tree = tree; base = Some other.tree; lost = x ∷ []; era = other.era; calls = x ∷ other.calls },
      inl (
        real,
        era ∙ sym beside.era,
        (
          tree,
          subst (λ t. Change t x tree) (sym beside.tree) change,
          inr (inl (no_base point other beside first.0, first.1, still_stable point other beside first.2, refl)),
        ),
      ),
      subst (λ a. IsBeside a (record { tree = tree; base = Some other.tree; lost = x ∷ []; era = other.era; calls = x ∷ other.calls })) (sym first.3)
          (subst (λ t. IsBeside (record { tree = tree; base = Some t; lost = x ∷ []; era = point.era; calls = x ∷ point.calls })
          (record { tree = tree; base = Some other.tree; lost = x ∷ []; era = other.era; calls = x ∷ other.calls })) beside.tree (both_after tree (Some other.tree) (x ∷ []) (x ∷ []))),
    )
    other_goes_on differs unplaced (inl (real, era, (tree, change, inr (inr (base, is_base, saves, is))))) = elim beside.base [
      | inl same ↦ (
        record { tree = tree; base = Some base; lost = x ∷ other.lost; era = other.era; calls = x ∷ other.calls },
        inl (real, era ∙ sym beside.era, (tree, subst (λ t. Change t x tree) (sym beside.tree) change, inr (inr (base, same ∙ is_base, nothing_saved other.lost x, refl)))),
        subst (λ a. IsBeside a (record { tree = tree; base = Some base; lost = x ∷ other.lost; era = other.era; calls = x ∷ other.calls })) (sym is)
            (both_after tree (Some base) (x ∷ point.lost) (x ∷ other.lost)),
      )
      | inr w ↦
          let unstable : ¬ IsTrue (by.is_stable x) =
          (λ stable. elim (beside.only x (w.2 x stable (era ∙ sym beside.era))) [ inl same ↦ differs same | inr there ↦ unplaced there ]) in (
            record { tree = tree; base = Some other.tree; lost = x ∷ []; era = other.era; calls = x ∷ other.calls },
            inl (real, era ∙ sym beside.era, (tree, subst (λ t. Change t x tree) (sym beside.tree) change, inr (inl (w.0, unstable, w.2, refl)))),
            subst (λ a. IsBeside a (record { tree = tree; base = Some other.tree; lost = x ∷ []; era = other.era; calls = x ∷ other.calls })) (sym is)
                (subst (λ b. IsBeside (record { tree = tree; base = b; lost = x ∷ point.lost; era = point.era; calls = x ∷ point.calls })
                (record { tree = tree; base = Some other.tree; lost = x ∷ []; era = other.era; calls = x ∷ other.calls })) (sym w.1 ∙ is_base) (both_after tree (Some other.tree) (x ∷ point.lost) (x ∷ []))),
          )
    ]
    other_goes_on differs unplaced (inr (crash, is)) = (
      record { tree = unwrap_or other.base other.tree; base = None; lost = []; era = other.era + 1; calls = x ∷ other.calls },
      inr (crash ∙ ap by.crash (sym beside.era), refl),
      subst (λ a. IsBeside a (record { tree = unwrap_or other.base other.tree; base = None; lost = []; era = other.era + 1; calls = x ∷ other.calls })) (sym is) (record {
        late = omega arith;
        tree = elim beside.base [
          | inl same ↦ ap (λ b. unwrap_or b other.tree) same ∙ ap (unwrap_or point.base) beside.tree
          | inr w ↦ ap (λ b. unwrap_or b other.tree) w.0 ∙ sym (ap (λ b. unwrap_or b point.tree) w.1)
        ];
        era = ap (λ e. e + 1) beside.era;
        has = inr beside.has;
        keeps = keeps_more;
        only = only_more;
        base = inl refl;
      }),
    )

  -- n is placed in the first point too
  module _ (point other after : EraState Tree) (beside : IsBeside point other) where
    behind_n : (tree : Tree) (base : Option Tree) (lost : List ℕ) → tree ≡ point.tree → (other.base ≡ base) ⊎ ((other.base ≡ None) × (base ≡ Some other.tree) × HasStable by other)
        → IsBeside (record { tree = tree; base = base; lost = lost; era = point.era; calls = n ∷ point.calls }) other
    behind_n tree base lost same base_is = record {
      late = beside.late;
      tree = beside.tree ∙ sym same;
      era = beside.era;
      has = beside.has;
      keeps = λ m among. elim among [ inl is ↦ subst (IsAmong other.calls) is beside.has | inr there ↦ beside.keeps m there ];
      only = λ m among. elim (beside.only m among) [ inl is ↦ inl is | inr there ↦ inr (inr there) ];
      base = base_is;
    }

    pub n_goes_on : EraNext Change by point n after → IsBeside after other
    n_goes_on (inl (real, era, (tree, change, inl ahead))) =
        subst (λ a. IsBeside a other) (sym ahead.1) (behind_n tree None [] (neutral point.tree tree change) (inl (no_base point other beside ahead.0)))
    n_goes_on (inl (real, era, (tree, change, inr (inl first)))) =
        subst (λ a. IsBeside a other) (sym first.3) (behind_n tree (Some point.tree) (n ∷ []) (neutral point.tree tree change)
        (inr (no_base point other beside first.0, ap Some (sym beside.tree), still_stable point other beside first.2)))
    n_goes_on (inl (real, era, (tree, change, inr (inr (base, is_base, saves, is))))) =
        subst (λ a. IsBeside a other) (sym is) (behind_n tree (Some base) (n ∷ point.lost) (neutral point.tree tree change) (elim beside.base [
          | inl same ↦ inl (same ∙ is_base)
          | inr w ↦ inr (w.0, sym is_base ∙ w.1, w.2)
        ]))
    n_goes_on (inr (crash, is)) = absurd (no_crash point.era beside.late crash)

  -- what is placed but the last call was placed earlier
  earlier : (point after : EraState Tree) (x m : ℕ) → after.calls ≡ x ∷ point.calls → m ≢ x → IsAmong after.calls m → IsAmong point.calls m
  earlier point after x m is other there = elim (subst (λ l. IsAmong l m) is there) [ inl same ↦ absurd (other (sym same)) | inr among ↦ among ]

  -- so each run from the first point is one from the second, without n
  runs_beside : (order : List ℕ) (point other last : EraState Tree) → IsBeside point other → AllByRecursion (λ m. ¬ IsAmong point.calls m) order → IsOnce order
      → Leads is_placed (EraNext Change by) point order last → (l : EraState Tree) × Leads is_placed (EraNext Change by) other (without n order) l
  runs_beside [] point other last beside unplaced once run = (other, refl)
  runs_beside (x ∷ order) point other last beside unplaced once run =
      let rest : AllByRecursion (λ m. ¬ IsAmong run.0.calls m) order =
      all_of_each (λ m. ¬ IsAmong run.0.calls m) order (λ m among there.
      all_at (λ k. ¬ IsAmong point.calls k) order m unplaced.1 among (earlier point run.0 x m (calls_of Change by point run.0 x run.1) (all_at (λ k. k ≢ x) order m once.0 among) there)) in
      elim (cases_eq x n) [
        | inl same ↦
            let beside_n = n_goes_on point other run.0 beside (subst (λ k. EraNext Change by point k run.0) same run.1) in
            let more = runs_beside order run.0 other last beside_n rest once.1 run.2 in
            (more.0, subst (λ b. Leads is_placed (EraNext Change by) other (drop_if b x (without n order)) more.0) (sym (eq-eqb x n same)) more.1)
        | inr differs ↦
            let o = other_goes_on point other run.0 x beside differs unplaced.0 run.1 in
            let more = runs_beside order run.0 o.0 last o.2 rest once.1 run.2 in
            (more.0, subst (λ b. Leads is_placed (EraNext Change by) other (drop_if b x (without n order)) more.0) (sym (ne_eqb x n differs)) (o.0, o.1, more.1))
      ]

  -- the theorem: a point in which n is placed besides may stand for the point
  pub may_skip : (point : EraState Tree) → 1 ≤ point.era
      → MayStandFor is_placed (EraNext Change by) point (record { tree = point.tree; base = point.base; lost = point.lost; era = point.era; calls = n ∷ point.calls })
  may_skip point late =
      let other : EraState Tree = record { tree = point.tree; base = point.base; lost = point.lost; era = point.era; calls = n ∷ point.calls } in
      let beside : IsBeside point other = record {
        late = late;
        tree = refl;
        era = refl;
        has = inl refl;
        keeps = λ m among. inr among;
        only = λ m among. elim among [ inl same ↦ inl (sym same) | inr there ↦ inr there ];
        base = inl refl;
      } in
      let told_too : (m : ℕ) → is_placed point m ≡ true → is_placed other m ≡ true = (λ m is. or_right (n == m) (is_placed point m) is) in
      record {
        keeps = told_too;
        serves = λ times event order c.
            let unplaced = all_without (λ m. is_placed point m ≡ false) n order c.unplaced in
            let run = runs_beside order point other c.last beside
            (all_of_each (λ m. ¬ IsAmong point.calls m) order (λ m among there. true≢false (sym (among_told point.calls m there) ∙ all_at (λ k. is_placed point k ≡ false) order m c.unplaced among)))
            c.once c.runs in (
              without n order,
              record {
                calls = all_without (λ m. IsTrue (times.is_call m)) n order c.calls;
                once = once_without n order c.once;
                respects = respects_without times n order c.respects;
                unplaced = all_of_each (λ m. is_placed other m ≡ false) (without n order) (λ m among.
                    ap (λ b. b || is_placed point m) (ne_eqb n m (λ same. all_at (λ k. k ≢ n) (without n order) m (others_without n order) among (sym same)))
                    ∙ all_at (λ k. is_placed point k ≡ false) (without n order) m unplaced among);
                unanswered = all_without (IsUnanswered times event) n order c.unanswered;
                complete = λ m at ends later. elim (c.complete m at ends later) [
                  | inl is ↦ inl (told_too m is)
                  | inr among ↦ elim (cases_eq m n) [
                    | inl same ↦ inl (ap (λ b. b || is_placed point m) (eq-eqb n m (sym same)))
                    | inr differs ↦ inr (among_without n order m differs among)
                  ]
                ];
                last = run.0;
                runs = run.1;
              },
            );
      }
