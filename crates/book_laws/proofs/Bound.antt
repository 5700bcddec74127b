-- the runs of a book where one object more is made
use Rattle.std.proofs.Common.{◌≡◌, ◌≢◌, ◌⊎◌, inl, inr, ℕ, zero, suc, ◌<◌, ◌^◌, List, [], ◌∷◌, ◌++◌, length, take, Option, Some, None, refl, sym, ap, ◌∙◌, subst}
use Rattle.std.specs.Prelude.{IsSome, option_and_then}
use Rattle.std.specs.List.{AllByRecursion}
use Rattle.std.proofs.lemmas.List.{append_assoc}
use Rattle.nfs3_types.specs.declared.calls.NfsCall.{NfsCall}
use Rattle.nfs3_types.specs.declared.replies.Outcome.{Outcome}
use Rattle.tree_starts.specs.Head.{Head}
use Rattle.tree_starts.specs.Start.{object_made}
use Rattle.tree_nodes.specs.Tree.{Tree, entry_of}
use Rattle.tree_nodes.proofs.Chains.{chained, value_of}
use Rattle.tree_handles.specs.Binding.{Bindings}
use Rattle.file_tree.specs.Success.{next_tree}
use Rattle.file_tree.proofs.Profiles.{comes_out_plain}
use Rattle.replay_law.specs.Run.{state_after, kept_steps}
use Rattle.replay_law.proofs.Runs.{state_after-append}
use Rattle.tree_laws.proofs.Judged.{others_dont_matter_under}
use Rattle.tree_laws.proofs.Newcomers.{only_its_own_is_new}
use Rattle.book_laws.specs.Placing.{Placed}
use Rattle.book_laws.specs.Book.{Setting, setting_made, object_by, next_by}
use Rattle.book_laws.proofs.Starting.{other_object}
use Rattle.book_laws.specs.Steps.{with_object}
use Rattle.book_laws.proofs.Invariant.{Over, AllRun}
use Rattle.book_laws.proofs.Handles.{agree_but}

-- an object that isn't there comes with its own call alone
pub stays_absent : (binds : Bindings) (before after : Tree) (n : ℕ) (call : NfsCall) (outcome : Outcome) (object : ℕ) → next_tree binds before n call outcome ≡ Some after → entry_of before object ≡ None
    → n ≢ object → entry_of after object ≡ None
stays_absent binds before after n call outcome object next absent apart = go (entry_of after object) refl where
  gone : {X : Type 0} {o : Option X} → o ≡ None → IsSome o → ⊥
  gone e s = cc

  clash : IsSome (entry_of before object) ⊎ (object ≡ n) → ⊥
  clash (inl stood) = gone absent stood
  clash (inr own) = apart (sym own)

  go : (o : Option _) → entry_of after object ≡ o → entry_of after object ≡ None
  go None is = is
  go (Some entry) is = absurd (clash (only_its_own_is_new binds before after n call outcome object next (subst IsSome (sym is) refl)))

-- so too under a profile, behind a start
pub stays_absent_by : (s : Setting) (before after : Tree) (n : ℕ) (call : NfsCall) (outcome : Outcome) (number : ℕ) → next_by s before n call outcome ≡ Some after
    → entry_of before (object_by s number) ≡ None → n ≢ number → entry_of after (object_by s number) ≡ None
stays_absent_by s before after n call outcome number next absent apart =
    stays_absent s.binds before after (object_by s n) call outcome (object_by s number) (comes_out_plain s.profile s.binds before after (object_by s n) call outcome next) absent
    (other_object s.first n number apart)

-- none of these calls has the number
abbrev pub AreApart : ℕ → List Placed → Type 0
AreApart number steps = AllByRecursion (λ step. step.number ≢ number) steps

abbrev pub AllApart : ℕ → List Over → Type 0
AllApart number over = AllByRecursion (λ (era : Over). AreApart number era.steps) over

pub apart_front : (number n : ℕ) (steps : List Placed) → AreApart number steps → AreApart number (take n steps)
apart_front number zero steps a = tt
apart_front number (suc n) [] a = tt
apart_front number (suc n) (step ∷ steps) a = (a.0, apart_front number n steps a.1)

pub run_absent : (s : Setting) (number : ℕ) (steps : List Placed) → AreApart number steps → (tree final : Tree) → entry_of tree (object_by s number) ≡ None → state_after (next_by s) tree steps ≡ Some final
    → entry_of final (object_by s number) ≡ None
run_absent s number [] a tree final absent e = ap (λ t. entry_of t (object_by s number)) (sym (is e)) ∙ absent where
  is : Some tree ≡ Some final → tree ≡ final
  is f = cc
run_absent s number (step ∷ steps) a tree final absent e =
    let first = chained (λ after. state_after (next_by s) after steps) (next_by s tree step.number step.call step.outcome) final e in
    run_absent s number steps a.1 first.0 final
    (stays_absent_by s tree first.0 step.number step.call step.outcome number first.1 absent a.0) first.2

module _ (head : Head) (number : ℕ) (made : List ℕ) (lt : object_made (length head.start) number < 2 ^ 64)
    (others : AllByRecursion (λ other. (other ≢ object_made (length head.start) number) × (other < 2 ^ 64)) made) where
  abbrev own : ℕ
  own = object_made (length head.start) number

  abbrev old : Setting
  old = setting_made head made

  abbrev new : Setting
  new = setting_made head (with_object own made)

  pub run_same : (steps : List Placed) → AreApart number steps → (tree : Tree) → entry_of tree own ≡ None → state_after (next_by old) tree steps ≡ state_after (next_by new) tree steps
  run_same [] a tree absent = refl
  run_same (step ∷ steps) a tree absent =
      go (next_by old tree step.number step.call step.outcome) refl (λ mid gone. run_same steps a.1 mid gone)
      ∙ ap (option_and_then (λ after. state_after (next_by new) after steps)) same where
        same : next_by old tree step.number step.call step.outcome ≡ next_by new tree step.number step.call step.outcome
        same = others_dont_matter_under head.profile old.binds new.binds tree (object_by old step.number) step.call step.outcome
            (agree_but own made lt others tree (object_by old step.number) (other_object (length head.start) step.number number a.0) absent)

        go : (o : Option Tree) → next_by old tree step.number step.call step.outcome ≡ o
            → ((mid : Tree) → entry_of mid own ≡ None → state_after (next_by old) mid steps ≡ state_after (next_by new) mid steps)
            → option_and_then (λ after. state_after (next_by old) after steps) (next_by old tree step.number step.call step.outcome)
            ≡ option_and_then (λ after. state_after (next_by new) after steps) (next_by old tree step.number step.call step.outcome)
        go None is rest = ap (option_and_then (λ after. state_after (next_by old) after steps)) is ∙ sym (ap (option_and_then (λ after. state_after (next_by new) after steps)) is)
        go (Some mid) is rest =
            ap (option_and_then (λ after. state_after (next_by old) after steps)) is
            ∙ rest mid (stays_absent_by old tree mid step.number step.call step.outcome number is absent a.0)
            ∙ sym (ap (option_and_then (λ after. state_after (next_by new) after steps)) is)

  pub all_run_same : (over : List Over) (placed : List Placed) → AllApart number over → AreApart number placed → (tree : Tree) → entry_of tree own ≡ None → AllRun old tree over placed → AllRun new tree over placed
  all_run_same [] placed a b tree absent runs = subst IsSome (run_same placed b tree absent) runs
  all_run_same (first ∷ over) placed a b tree absent runs =
      let base = runs.1 in (
        subst IsSome (run_same first.steps a.0 tree absent) runs.0,
        (
          base.0,
          sym (run_same (take first.kept first.steps) (apart_front number first.kept first.steps a.0) tree absent) ∙ base.1,
          all_run_same over placed a.1 b base.0 (run_absent old number (take first.kept first.steps) (apart_front number first.kept first.steps a.0) tree base.0 absent base.1) base.2,
        ),
      )

-- what is kept of eras without the number is without it
pub kept_apart : (number : ℕ) (over : List Over) → AllApart number over → AreApart number (kept_steps over)
kept_apart number [] a = tt
kept_apart number (first ∷ over) a = go (take first.kept first.steps) (apart_front number first.kept first.steps a.0) (kept_apart number over a.1) where
  go : (xs : List Placed) → AreApart number xs → AreApart number (kept_steps over) → AreApart number (xs ++ kept_steps over)
  go [] b rest = rest
  go (x ∷ xs) b rest = (b.0, go xs b.1 rest)

-- ---- one call more

pub run_more : (s : Setting) (tree before after : Tree) (steps : List Placed) (step : Placed) → state_after (next_by s) tree steps ≡ Some before
    → next_by s before step.number step.call step.outcome ≡ Some after → state_after (next_by s) tree (steps ++ step ∷ []) ≡ Some after
run_more s tree before after steps step stood next =
    state_after-append (next_by s) tree steps (step ∷ []) ∙ ap (option_and_then (λ t. state_after (next_by s) t (step ∷ []))) stood
    ∙ ap (option_and_then (λ t. Some t)) next

pub all_run_more : (s : Setting) (before after : Tree) (step : Placed) → next_by s before step.number step.call step.outcome ≡ Some after
    → (over : List Over) (placed : List Placed) (tree : Tree) → state_after (next_by s) tree (kept_steps over ++ placed) ≡ Some before → AllRun s tree over placed → AllRun s tree over (placed ++ step ∷ [])
all_run_more s before after step next [] placed tree stood runs = subst IsSome (sym (run_more s tree before after placed step stood next)) refl
all_run_more s before after step next (first ∷ over) placed tree stood runs =
    let base = runs.1 in
    let kept = take first.kept first.steps in
    let behind : state_after (next_by s) base.0 (kept_steps over ++ placed) ≡ Some before =
    sym (ap (option_and_then (λ t. state_after (next_by s) t (kept_steps over ++ placed))) base.1)
    ∙ sym (state_after-append (next_by s) tree kept (kept_steps over ++ placed))
    ∙ ap (state_after (next_by s) tree) (sym (append_assoc kept (kept_steps over) placed)) ∙ stood in
    (runs.0, (base.0, base.1, all_run_more s before after step next over placed base.0 behind base.2))

-- what was kept, and placed since, runs as a whole
pub tree_stands : (s : Setting) (over : List Over) (placed : List Placed) (tree : Tree) → AllRun s tree over placed → IsSome (state_after (next_by s) tree (kept_steps over ++ placed))
tree_stands s [] placed tree runs = runs
tree_stands s (first ∷ over) placed tree runs =
    let base = runs.1 in
    let kept = take first.kept first.steps in
    let same : state_after (next_by s) tree ((kept ++ kept_steps over) ++ placed) ≡ state_after (next_by s) base.0 (kept_steps over ++ placed) =
    ap (state_after (next_by s) tree) (append_assoc kept (kept_steps over) placed)
    ∙ state_after-append (next_by s) tree kept (kept_steps over ++ placed)
    ∙ ap (option_and_then (λ t. state_after (next_by s) t (kept_steps over ++ placed))) base.1 in
    subst IsSome (sym same) (tree_stands s over placed base.0 base.2)

-- ---- an era that is over

pub front_runs : (s : Setting) (n : ℕ) (steps : List Placed) (tree : Tree) → IsSome (state_after (next_by s) tree steps) → (base : Tree) × (state_after (next_by s) tree (take n steps) ≡ Some base)
front_runs s zero steps tree runs = (tree, refl)
front_runs s (suc n) [] tree runs = (tree, refl)
front_runs s (suc n) (step ∷ steps) tree runs =
    let final = value_of (state_after (next_by s) tree (step ∷ steps)) runs in
    let first = chained (λ after. state_after (next_by s) after steps) (next_by s tree step.number step.call step.outcome) final.0 final.1 in
    let rest = front_runs s n steps first.0 (subst IsSome (sym first.2) refl) in
    (rest.0, ap (option_and_then (λ after. state_after (next_by s) after (take n steps))) first.1 ∙ rest.1)

pub all_run_over : (s : Setting) (over : List Over) (placed : List Placed) (kept : ℕ) (tree : Tree) → AllRun s tree over placed → AllRun s tree (over ++ record { steps = placed; kept = kept } ∷ []) []
all_run_over s [] placed kept tree runs = let base = front_runs s kept placed tree runs in (runs, (base.0, base.1, refl))
all_run_over s (first ∷ over) placed kept tree runs = let base = runs.1 in (runs.0, (base.0, base.1, all_run_over s over placed kept base.0 base.2))
