-- the replies of runs and of eras, each served in the tree ahead of it
use Rattle.std.proofs.Common.{◌≡◌, ◌≢◌, ℕ, ◌<◌, ◌^◌, List, [], ◌∷◌, ◌++◌, length, take, Some, None, sym, ap, ◌∙◌, subst}
use Rattle.std.specs.Prelude.{option_and_then}
use Rattle.std.specs.List.{AllByRecursion}
use Rattle.std.proofs.lemmas.List.{append_assoc}
use Rattle.nfs3_types.specs.declared.replies.NfsReply.{NfsReply}
use Rattle.nfs3_types.specs.declared.replies.Outcome.TheVariants.{Received}
use Rattle.replay_law.specs.Run.{state_after, kept_steps}
use Rattle.replay_law.proofs.Runs.{state_after-append}
use Rattle.tree_starts.specs.Head.{Head}
use Rattle.tree_starts.specs.Start.{object_made}
use Rattle.tree_nodes.specs.Tree.{Tree, entry_of}
use Rattle.tree_nodes.proofs.Chains.{same_some}
use Rattle.tree_laws.specs.Agreeing.{AgreeOn}
use Rattle.tree_laws.proofs.Judged.{others_dont_matter_under}
use Rattle.book_laws.specs.Served.{IsServed}
use Rattle.book_laws.specs.Placing.{Placed}
use Rattle.book_laws.specs.Book.{Setting, setting_made, object_by, next_by}
use Rattle.book_laws.proofs.Starting.{other_object}
use Rattle.book_laws.specs.Steps.{with_object}
use Rattle.book_laws.proofs.Invariant.{Over}
use Rattle.book_laws.proofs.Handles.{agree_but}
use Rattle.book_laws.proofs.Bound.{AreApart, AllApart, apart_front, stays_absent_by, run_absent, run_same}
use Rattle.book_laws.proofs.Agreed.{served_too}

-- a reply that came may be given in this tree
abbrev pub IsServedStep : Setting → Tree → Placed → Type 0
IsServedStep set tree step = (reply : NfsReply) → step.outcome ≡ Received reply → IsServed set.binds tree (object_by set step.number) step.call reply

-- each of a run, which begins at this tree
abbrev pub AreServed : Setting → Tree → List Placed → Type 0
AreServed set tree [] = Unit {0}
AreServed set tree (step ∷ steps) = IsServedStep set tree step × ((after : Tree) → next_by set tree step.number step.call step.outcome ≡ Some after → AreServed set after steps)

-- and of each era, from what those ahead of it kept
abbrev pub AllServed : Setting → Tree → List Over → List Placed → Type 0
AllServed set tree [] placed = AreServed set tree placed
AllServed set tree (era ∷ over) placed =
    AreServed set tree era.steps × ((base : Tree) → state_after (next_by set) tree (take era.kept era.steps) ≡ Some base → AllServed set base over placed)

-- ---- one step more

module _ (set : Setting) (before : Tree) (step : Placed) (this : IsServedStep set before step) where
  served_more : (steps : List Placed) (tree : Tree) → state_after (next_by set) tree steps ≡ Some before → AreServed set tree steps → AreServed set tree (steps ++ step ∷ [])
  served_more [] tree reached a = (subst (λ (t : Tree). IsServedStep set t step) (sym (same_some tree before reached)) this, λ after next. tt)
  served_more (one ∷ steps) tree reached a = (a.0, λ after next. served_more steps after (sym (ap (option_and_then (λ t. state_after (next_by set) t steps)) next) ∙ reached) (a.1 after next))

  pub all_served_more : (over : List Over) (placed : List Placed) (tree : Tree) → state_after (next_by set) tree (kept_steps over ++ placed) ≡ Some before → AllServed set tree over placed
      → AllServed set tree over (placed ++ step ∷ [])
  all_served_more [] placed tree reached a = served_more placed tree reached a
  all_served_more (first ∷ over) placed tree reached a = (a.0, λ base kept. all_served_more over placed base (behind base kept) (a.1 base kept)) where
    behind : (base : Tree) → state_after (next_by set) tree (take first.kept first.steps) ≡ Some base → state_after (next_by set) base (kept_steps over ++ placed) ≡ Some before
    behind base kept =
        sym (ap (option_and_then (λ t. state_after (next_by set) t (kept_steps over ++ placed))) kept)
        ∙ sym (state_after-append (next_by set) tree (take first.kept first.steps) (kept_steps over ++ placed))
        ∙ ap (state_after (next_by set) tree) (sym (append_assoc (take first.kept first.steps) (kept_steps over) placed)) ∙ reached

-- ---- an era that is over

pub all_served_over : (set : Setting) (over : List Over) (placed : List Placed) (kept : ℕ) (tree : Tree) → AllServed set tree over placed
    → AllServed set tree (over ++ record { steps = placed; kept = kept } ∷ []) []
all_served_over set [] placed kept tree a = (a, λ base reached. tt)
all_served_over set (first ∷ over) placed kept tree a = (a.0, λ base reached. all_served_over set over placed kept base (a.1 base reached))

-- ---- one object more

module _ (head : Head) (number : ℕ) (made : List ℕ) (lt : object_made (length head.start) number < 2 ^ 64)
    (others : AllByRecursion (λ other. (other ≢ object_made (length head.start) number) × (other < 2 ^ 64)) made) where
  abbrev own : ℕ
  own = object_made (length head.start) number

  abbrev old : Setting
  old = setting_made head made

  abbrev new : Setting
  new = setting_made head (with_object own made)

  served_same : (steps : List Placed) → AreApart number steps → (tree : Tree) → entry_of tree own ≡ None → AreServed old tree steps → AreServed new tree steps
  served_same [] apart tree absent a = tt
  served_same (step ∷ steps) apart tree absent a = (
    (λ reply came. served_too old.binds new.binds tree (object_by old step.number) agree step.call reply (a.0 reply came)),
    (λ after next. served_same steps apart.1 after (stays_absent_by old tree after step.number step.call step.outcome number (same ∙ next) absent apart.0) (a.1 after (same ∙ next))),
  ) where
    agree : AgreeOn old.binds new.binds tree (object_by old step.number)
    agree = agree_but own made lt others tree (object_by old step.number) (other_object (length head.start) step.number number apart.0) absent

    same : next_by old tree step.number step.call step.outcome ≡ next_by new tree step.number step.call step.outcome
    same = others_dont_matter_under head.profile old.binds new.binds tree (object_by old step.number) step.call step.outcome agree

  pub all_served_same : (over : List Over) (placed : List Placed) → AllApart number over → AreApart number placed → (tree : Tree) → entry_of tree own ≡ None → AllServed old tree over placed
      → AllServed new tree over placed
  all_served_same [] placed eras apart tree absent a = served_same placed apart tree absent a
  all_served_same (first ∷ over) placed eras apart tree absent a = (
    served_same first.steps eras.0 tree absent a.0,
    (λ base reached. all_served_same over placed eras.1 apart base (run_absent old number (take first.kept first.steps) front tree base absent (same ∙ reached)) (a.1 base (same ∙ reached))),
  ) where
    front : AreApart number (take first.kept first.steps)
    front = apart_front number first.kept first.steps eras.0

    same : state_after (next_by old) tree (take first.kept first.steps) ≡ state_after (next_by new) tree (take first.kept first.steps)
    same = run_same head number made lt others (take first.kept first.steps) front tree absent
