-- A plan of eras with cuts that is a witness is a witness as one order.
use Rattle.std.proofs.Common.{◌≡◌, ◌≢◌, ◌⊎◌, ◌==◌, ◌||◌, inl, inr, ℕ, ◌+◌, ◌≤◌, IsTrue, List, [], ◌∷◌, ◌++◌, length, Some, None, refl, sym, ap, subst, ◌∙◌, arith, append_assoc}
use Rattle.std.specs.List.{AllByRecursion, list_any}
use Rattle.std.proofs.lemmas.Bool.{true≢false, eq-eqb, ne_eqb}
use Rattle.decision_core.specs.Times.{Times, Precedes, RespectsOrder, IsAmong, IsOnce}
use Rattle.decision_core.specs.Decide.{Leads, IsTold, IsWitness}
use Rattle.decision_core.specs.Eras.{PlanEra, Numbering, IsEra, IsNumbering, part_of, order_of, NoneSaved, EraShape, PlanShape, untold, PlanRuns, EraState, is_placed, first_of, EraNext, IsEraWitness}
use Rattle.decision_core.proofs.Orders.{all_ahead, all_behind, all_at, all_of_each, which_part}
use Rattle.decision_core.proofs.Walk.{leads_joined}

-- two lists one after the other
all_joined : (P : ℕ → Type 0) (xs ys : List ℕ) → AllByRecursion P xs → AllByRecursion P ys → AllByRecursion P (xs ++ ys)
all_joined P [] ys first second = second
all_joined P (x ∷ xs) ys first second = (first.0, all_joined P xs ys first.1 second)

once_joined : (xs ys : List ℕ) → IsOnce xs → IsOnce ys → ((x y : ℕ) → IsAmong xs x → IsAmong ys y → y ≢ x) → IsOnce (xs ++ ys)
once_joined [] ys first second across = second
once_joined (x ∷ xs) ys first second across = (
  all_joined (λ m. m ≢ x) xs ys first.0 (all_of_each (λ m. m ≢ x) ys (λ y there. across x y (inl refl) there)),
  once_joined xs ys first.1 second (λ a y in_xs in_ys. across a y (inr in_xs) in_ys),
)

once_across : (xs ys : List ℕ) (x y : ℕ) → IsOnce (xs ++ ys) → IsAmong xs x → IsAmong ys y → y ≢ x
once_across [] ys x y once first second = absurd first
once_across (z ∷ xs) ys x y once (inl same) second = subst (λ k. y ≢ k) same (all_at (λ m. m ≢ z) ys y (all_behind (λ m. m ≢ z) xs ys once.0) second)
once_across (z ∷ xs) ys x y once (inr first) second = once_across xs ys x y once.1 first second

-- the last of a list, or ahead of it
or_last : (xs : List ℕ) (n m : ℕ) → IsAmong (xs ++ n ∷ []) m → IsAmong xs m ⊎ (n ≡ m)
or_last xs n m among = elim (which_part xs n [] m among) [ inl ahead ↦ inl ahead | inr it ↦ elim it [ inl same ↦ inr same | inr none ↦ absurd none ] ]

module _ (times : Times) where
  respects_joined : (xs ys : List ℕ) → RespectsOrder times xs → RespectsOrder times ys → ((x y : ℕ) → IsAmong xs x → IsAmong ys y → ¬ Precedes times y x) → RespectsOrder times (xs ++ ys)
  respects_joined [] ys first second across = second
  respects_joined (x ∷ xs) ys first second across = (
    all_joined (λ m. ¬ Precedes times m x) xs ys first.0 (all_of_each (λ m. ¬ Precedes times m x) ys (λ y there. across x y (inl refl) there)),
    respects_joined xs ys first.1 second (λ a y in_xs in_ys. across a y (inr in_xs) in_ys),
  )

  respects_ahead : (xs ys : List ℕ) → RespectsOrder times (xs ++ ys) → RespectsOrder times xs
  respects_ahead [] ys respects = tt
  respects_ahead (x ∷ xs) ys respects = (all_ahead (λ m. ¬ Precedes times m x) xs ys respects.0, respects_ahead xs ys respects.1)

  respects_across : (xs ys : List ℕ) (x y : ℕ) → RespectsOrder times (xs ++ ys) → IsAmong xs x → IsAmong ys y → ¬ Precedes times y x
  respects_across [] ys x y respects first second = absurd first
  respects_across (z ∷ xs) ys x y respects (inl same) second =
      subst (λ k. ¬ Precedes times y k) same (all_at (λ m. ¬ Precedes times m z) ys y (all_behind (λ m. ¬ Precedes times m z) xs ys respects.0) second)
  respects_across (z ∷ xs) ys x y respects (inr first) second = respects_across xs ys x y respects.1 first second

  module _ (by : Numbering) (count : ℕ) (start : ℕ → ℕ) (numbered : IsNumbering times by count start) where
    some_is : (a b : ℕ) → Some a ≡ Some b → a ≡ b
    some_is a b same = cc

    -- a crash precedes no call of its era
    no_crash_before : (e x : ℕ) → IsEra count e → IsTrue (times.is_call x) → by.era_of x ≡ e → ¬ Precedes times (by.crash e) x
    no_crash_before e x inside known same before =
        let at : before.0 ≡ start (e + 1) = some_is before.0 (start (e + 1)) (sym before.1 ∙ numbered.crash_ends e inside) in
        let early : times.begin_of x ≤ start (e + 1) = subst (λ k. times.begin_of x ≤ start (k + 1)) same (numbered.begins_early x known) in
        absurd (omega (arith, at, early, before.2))

    -- nothing precedes what is of an earlier era
    no_era_before : (x y : ℕ) → IsTrue (times.is_call x) → IsTrue (times.is_call y) → by.era_of x + 1 ≤ by.era_of y → ¬ Precedes times y x
    no_era_before x y known_x known_y later before =
        let early = numbered.begins_early x known_x in
        let late = numbered.begins_late y known_y in
        let between = numbered.rises (by.era_of x + 1) (by.era_of y) later in
        let ends = numbered.ends_late y before.0 known_y before.1 in
        absurd (omega (arith, early, late, between, ends, before.2))

    -- a call of era e
    abbrev pub IsOf : ℕ → ℕ → Type 0
    IsOf e n = IsTrue (times.is_call n) × (by.era_of n ≡ e)

    module _ (e : ℕ) (era : PlanEra) (inside : IsEra count e) (shape : EraShape times by e era) where
      abbrev IsReal : ℕ → Type 0
      IsReal n = IsTrue (times.is_call n) × (by.era_of n ≡ e) × IsTrue (by.is_real n)

      real_at : (n : ℕ) → IsAmong (era.kept ++ era.lost) n → IsReal n
      real_at n among = all_at IsReal (era.kept ++ era.lost) n shape.calls among

      not_crash : (n : ℕ) → IsTrue (by.is_real n) → by.crash e ≢ n
      not_crash n real same = true≢false (sym real ∙ (ap by.is_real (sym same) ∙ (numbered.crash_call e inside).2))

      -- all of the part are calls of the era
      part_calls : AllByRecursion (IsOf e) (part_of by e era)
      part_calls =
          all_joined (IsOf e) (era.kept ++ era.lost) (by.crash e ∷ [])
          (all_of_each (IsOf e) (era.kept ++ era.lost) (λ n among. let r = real_at n among in (r.0, r.1)))
          ((let c = numbered.crash_call e inside in (c.0, c.1)), tt)

      -- none stands twice in it
      part_once : IsOnce (part_of by e era)
      part_once =
          once_joined (era.kept ++ era.lost) (by.crash e ∷ []) shape.once (tt, tt)
          (λ x y first second. elim second [ inl same ↦ subst (λ k. k ≢ x) same (not_crash x (real_at x first).2) | inr none ↦ absurd none ])

      -- it respects real time
      part_respects : RespectsOrder times (part_of by e era)
      part_respects =
          respects_joined (era.kept ++ era.lost) (by.crash e ∷ []) shape.respects (tt, tt)
          (λ x y first second. elim second [
            | inl same ↦ subst (λ k. ¬ Precedes times k x) same (no_crash_before e x inside (real_at x first).0 (real_at x first).1)
            | inr none ↦ absurd none
          ])

    -- these eras, the first of which has this number, are eras of the history
    abbrev pub AreEras : ℕ → List PlanEra → Type 0
    AreEras e eras = (1 ≤ e) × (e + length eras ≤ count + 1)

    first_era : (e : ℕ) (era : PlanEra) (eras : List PlanEra) → AreEras e (era ∷ eras) → IsEra count e
    first_era e era eras within = (within.0, omega (arith, within.1))

    later : (e : ℕ) (era : PlanEra) (eras : List PlanEra) → AreEras e (era ∷ eras) → AreEras (e + 1) eras
    later e era eras within = (omega arith, omega (arith, within.1))

    -- all of an order of eras are calls, of the first era or a later one
    abbrev pub IsFrom : ℕ → ℕ → Type 0
    IsFrom e n = IsTrue (times.is_call n) × (e ≤ by.era_of n)

    order_calls : (e : ℕ) (eras : List PlanEra) → AreEras e eras → PlanShape times by e eras → AllByRecursion (IsFrom e) (order_of by e eras)
    order_calls e [] within shape = tt
    order_calls e (era ∷ eras) within shape =
        all_joined (IsFrom e) (part_of by e era) (order_of by (e + 1) eras)
        (all_of_each (IsFrom e) (part_of by e era) (λ n among. let c = all_at (IsOf e) (part_of by e era) n (part_calls e era (first_era e era eras within) shape.0) among in (c.0, omega (arith, c.1))))
        (all_of_each (IsFrom e) (order_of by (e + 1) eras) (λ n among.
        let c = all_at (IsFrom (e + 1)) (order_of by (e + 1) eras) n (order_calls (e + 1) eras (later e era eras within) shape.1) among in (c.0, omega (arith, c.1))))

    order_once : (e : ℕ) (eras : List PlanEra) → AreEras e eras → PlanShape times by e eras → IsOnce (order_of by e eras)
    order_once e [] within shape = tt
    order_once e (era ∷ eras) within shape =
        once_joined (part_of by e era) (order_of by (e + 1) eras) (part_once e era (first_era e era eras within) shape.0) (order_once (e + 1) eras (later e era eras within) shape.1)
        (λ x y first second same.
        let a = all_at (IsOf e) (part_of by e era) x (part_calls e era (first_era e era eras within) shape.0) first in
        let b = all_at (IsFrom (e + 1)) (order_of by (e + 1) eras) y (order_calls (e + 1) eras (later e era eras within) shape.1) second in
        let eras_same : by.era_of y ≡ by.era_of x = ap by.era_of same in
        absurd (omega (arith, a.1, b.1, eras_same)))

    order_respects : (e : ℕ) (eras : List PlanEra) → AreEras e eras → PlanShape times by e eras → RespectsOrder times (order_of by e eras)
    order_respects e [] within shape = tt
    order_respects e (era ∷ eras) within shape =
        respects_joined (part_of by e era) (order_of by (e + 1) eras) (part_respects e era (first_era e era eras within) shape.0) (order_respects (e + 1) eras (later e era eras within) shape.1)
        (λ x y first second.
        let a = all_at (IsOf e) (part_of by e era) x (part_calls e era (first_era e era eras within) shape.0) first in
        let b = all_at (IsFrom (e + 1)) (order_of by (e + 1) eras) y (order_calls (e + 1) eras (later e era eras within) shape.1) second in
        no_era_before x y a.0 b.0 (omega (arith, a.1, b.1)))

-- what is placed behind these calls
abbrev pub placed_behind : List ℕ → List ℕ → List ℕ
placed_behind [] calls = calls
placed_behind (x ∷ xs) calls = placed_behind xs (x ∷ calls)

still_among : (xs calls : List ℕ) (n : ℕ) → IsAmong calls n → IsAmong (placed_behind xs calls) n
still_among [] calls n among = among
still_among (x ∷ xs) calls n among = still_among xs (x ∷ calls) n (inr among)

behind_has : (xs calls : List ℕ) (n : ℕ) → IsAmong xs n → IsAmong (placed_behind xs calls) n
behind_has [] calls n among = absurd among
behind_has (x ∷ xs) calls n (inl same) = still_among xs (x ∷ calls) n (inl same)
behind_has (x ∷ xs) calls n (inr among) = behind_has xs (x ∷ calls) n among

module _ {Tree : Type 0} (Change : Tree → ℕ → Tree → Type 0) (by : Numbering) where
  -- a step puts its call ahead of what is placed
  pub calls_of : (state after : EraState Tree) (n : ℕ) → EraNext Change by state n after → after.calls ≡ n ∷ state.calls
  calls_of state after n (inl (real, era, (tree, changes, inl ahead))) = ap (λ s. s.calls) ahead.1
  calls_of state after n (inl (real, era, (tree, changes, inr (inl first)))) = ap (λ s. s.calls) first.3
  calls_of state after n (inl (real, era, (tree, changes, inr (inr behind)))) = ap (λ s. s.calls) behind.3
  calls_of state after n (inr crash) = ap (λ s. s.calls) crash.1

  -- so what is placed is told
  pub eras_told : IsTold is_placed (EraNext Change by)
  eras_told = record {
    adds = λ state after n next. ap (list_any (λ m. m == n)) (calls_of state after n next) ∙ ap (λ b. b || list_any (λ m. m == n) state.calls) (eq-eqb n n refl);
    keeps = λ state after n m next other. ap (list_any (λ k. k == m)) (calls_of state after n next) ∙ ap (λ b. b || list_any (λ k. k == m) state.calls) (ne_eqb n m (λ same. other (sym same)));
  }

  -- calls of the era
  abbrev AreOf : ℕ → List ℕ → Type 0
  AreOf e calls = AllByRecursion (λ n. IsTrue (by.is_real n) × (by.era_of n ≡ e)) calls

  -- those ahead of the cut run as they do on the tree
  leads_kept : (e : ℕ) (tree : Tree) (calls xs : List ℕ) (last : Tree) → AreOf e xs → Leads untold Change tree xs last
      → Leads is_placed (EraNext Change by) (record { tree = tree; base = None; lost = []; era = e; calls = calls }) xs (record { tree = last; base = None; lost = []; era = e; calls = placed_behind xs calls })
  leads_kept e tree calls [] last real run = ap (λ t. record { tree = t; base = None; lost = []; era = e; calls = calls }) run
  leads_kept e tree calls (x ∷ xs) last real run = (
    record { tree = run.0; base = None; lost = []; era = e; calls = x ∷ calls },
    inl (real.0.0, real.0.1, (run.0, run.1, inl (refl, refl))),
    leads_kept e run.0 (x ∷ calls) xs last real.1 run.2,
  )

  -- what saves none of these
  abbrev SaveNone : List ℕ → List ℕ → Type 0
  SaveNone lost xs = AllByRecursion (λ x. AllByRecursion (λ m. ¬ IsTrue (by.saves m x)) lost) xs

  save_none : (x : ℕ) (lost xs : List ℕ) → AllByRecursion (λ later. ¬ IsTrue (by.saves x later)) xs → SaveNone lost xs → SaveNone (x ∷ lost) xs
  save_none x lost [] first rest = tt
  save_none x lost (y ∷ xs) first rest = ((first.0, rest.0), save_none x lost xs first.1 rest.1)

  -- those behind the cut run too
  leads_past : (e : ℕ) (tree base : Tree) (lost calls xs : List ℕ) (last : Tree) → AreOf e xs → SaveNone lost xs → NoneSaved by xs → Leads untold Change tree xs last
      → Leads is_placed (EraNext Change by) (record { tree = tree; base = Some base; lost = lost; era = e; calls = calls }) xs
      (record { tree = last; base = Some base; lost = placed_behind xs lost; era = e; calls = placed_behind xs calls })
  leads_past e tree base lost calls [] last real free unsaved run = ap (λ t. record { tree = t; base = Some base; lost = lost; era = e; calls = calls }) run
  leads_past e tree base lost calls (x ∷ xs) last real free unsaved run = (
    record { tree = run.0; base = Some base; lost = x ∷ lost; era = e; calls = x ∷ calls },
    inl (real.0.0, real.0.1, (run.0, run.1, inr (inr (base, refl, free.0, refl)))),
    leads_past e run.0 base (x ∷ lost) (x ∷ calls) xs last real.1 (save_none x lost xs unsaved.0 free.1) unsaved.1 run.2,
  )

  module _ (times : Times) (count : ℕ) (start : ℕ → ℕ) (numbered : IsNumbering times by count start) where
    none_yet : (xs : List ℕ) → SaveNone [] xs
    none_yet [] = tt
    none_yet (x ∷ xs) = (tt, none_yet xs)

    -- the lost places run, and the crash takes them away
    leads_lost : (e : ℕ) (base last : Tree) (calls lost : List ℕ) → AreOf e lost → AllByRecursion (λ n. ¬ IsTrue (by.is_stable n)) lost → NoneSaved by lost
        → ((m : ℕ) → IsTrue (by.is_stable m) → by.era_of m ≡ e → IsAmong calls m) → Leads untold Change base lost last
        → Leads is_placed (EraNext Change by) (record { tree = base; base = None; lost = []; era = e; calls = calls }) (lost ++ by.crash e ∷ [])
        (record { tree = base; base = None; lost = []; era = e + 1; calls = by.crash e ∷ placed_behind lost calls })
    leads_lost e base last calls [] real unstable unsaved has run =
        (record { tree = base; base = None; lost = []; era = e + 1; calls = by.crash e ∷ calls }, inr (refl, refl), refl)
    leads_lost e base last calls (x ∷ lost) real unstable unsaved has run =
        let behind_first : EraState Tree = record { tree = run.0; base = Some base; lost = x ∷ []; era = e; calls = x ∷ calls } in
        let at_last : EraState Tree = record { tree = last; base = Some base; lost = placed_behind lost (x ∷ []); era = e; calls = placed_behind lost (x ∷ calls) } in
        let behind_crash : EraState Tree = record { tree = base; base = None; lost = []; era = e + 1; calls = by.crash e ∷ placed_behind lost (x ∷ calls) } in (
          behind_first,
          inl (real.0.0, real.0.1, (run.0, run.1, inr (inl (refl, unstable.0, has, refl)))),
          leads_joined is_placed (EraNext Change by) behind_first lost (by.crash e ∷ []) at_last behind_crash
              (leads_past e run.0 base (x ∷ []) (x ∷ calls) lost last real.1 (save_none x [] lost unsaved.0 (none_yet lost)) unsaved.1 run.2) (behind_crash, inr (refl, refl), refl),
        )

    -- an era runs with its crash
    leads_part : (e : ℕ) (era : PlanEra) (shape : EraShape times by e era) (tree base last : Tree) (calls : List ℕ) → Leads untold Change tree era.kept base → Leads untold Change base era.lost last
        → Leads is_placed (EraNext Change by) (record { tree = tree; base = None; lost = []; era = e; calls = calls }) (part_of by e era)
        (record { tree = base; base = None; lost = []; era = e + 1; calls = by.crash e ∷ placed_behind era.lost (placed_behind era.kept calls) })
    leads_part e era shape tree base last calls kept lost =
        let first = placed_behind era.kept calls in
        let behind_crash : EraState Tree = record { tree = base; base = None; lost = []; era = e + 1; calls = by.crash e ∷ placed_behind era.lost first } in
        let real : AreOf e (era.kept ++ era.lost) =
        all_of_each (λ n. IsTrue (by.is_real n) × (by.era_of n ≡ e)) (era.kept ++ era.lost) (λ n among.
        let r = all_at (λ k. IsTrue (times.is_call k) × (by.era_of k ≡ e) × IsTrue (by.is_real k)) (era.kept ++ era.lost) n shape.calls among in (r.2, r.1)) in
        let real_kept = all_ahead (λ n. IsTrue (by.is_real n) × (by.era_of n ≡ e)) era.kept era.lost real in
        let real_lost = all_behind (λ n. IsTrue (by.is_real n) × (by.era_of n ≡ e)) era.kept era.lost real in
        let unstable : AllByRecursion (λ n. ¬ IsTrue (by.is_stable n)) era.lost =
        all_of_each (λ n. ¬ IsTrue (by.is_stable n)) era.lost (λ n among stable.
        once_across era.kept era.lost n n shape.once (shape.stable n stable (all_at (λ k. IsTrue (by.is_real k) × (by.era_of k ≡ e)) era.lost n real_lost among).1) among refl) in
        subst (λ o. Leads is_placed (EraNext Change by) (record { tree = tree; base = None; lost = []; era = e; calls = calls }) o behind_crash) (sym (append_assoc era.kept era.lost (by.crash e ∷ [])))
        (leads_joined is_placed (EraNext Change by) (record { tree = tree; base = None; lost = []; era = e; calls = calls }) era.kept (era.lost ++ by.crash e ∷ [])
        (record { tree = base; base = None; lost = []; era = e; calls = first }) behind_crash
        (leads_kept e tree calls era.kept base real_kept kept)
        (leads_lost e base last first era.lost real_lost unstable shape.unsaved (λ m stable same. behind_has era.kept calls m (shape.stable m stable same)) lost))

    -- so do all eras
    leads_plan : (e : ℕ) (eras : List PlanEra) → PlanShape times by e eras → (tree : Tree) (calls : List ℕ) → PlanRuns Change tree eras
        → (last : EraState Tree) × Leads is_placed (EraNext Change by) (record { tree = tree; base = None; lost = []; era = e; calls = calls }) (order_of by e eras) last
    leads_plan e [] shape tree calls runs = (record { tree = tree; base = None; lost = []; era = e; calls = calls }, refl)
    leads_plan e (era ∷ eras) shape tree calls runs =
        let after = by.crash e ∷ placed_behind era.lost (placed_behind era.kept calls) in
        let more = leads_plan (e + 1) eras shape.1 runs.0 after runs.4 in (
          more.0,
          leads_joined is_placed (EraNext Change by) (record { tree = tree; base = None; lost = []; era = e; calls = calls }) (part_of by e era) (order_of by (e + 1) eras)
              (record { tree = runs.0; base = None; lost = []; era = e + 1; calls = after }) more.0 (leads_part e era shape.0 tree runs.0 runs.1 calls runs.2 runs.3) more.1,
        )

    -- the theorem: a witness in eras with cuts is a witness as one order, so where no order is one, no plan of eras is
    pub eras_are_one_order : (opening : Tree) (eras : List PlanEra) → IsEraWitness Change times by count opening eras → IsWitness is_placed (EraNext Change by) times (first_of opening) (order_of by 1 eras)
    eras_are_one_order opening eras witness =
        let run = leads_plan 1 eras witness.shape opening [] witness.runs in
        let within : (1 ≤ 1) × (1 + length eras ≤ count + 1) = (omega arith, omega (arith, witness.as_many_eras)) in
        record {
          calls = all_of_each (λ n. IsTrue (times.is_call n)) (order_of by 1 eras) (λ n among.
              (all_at (λ m. IsTrue (times.is_call m) × (1 ≤ by.era_of m)) (order_of by 1 eras) n (order_calls times by count start numbered 1 eras within witness.shape) among).0);
          once = order_once times by count start numbered 1 eras within witness.shape;
          respects = order_respects times by count start numbered 1 eras within witness.shape;
          complete = witness.complete;
          last = run.0;
          runs = run.1;
        }
