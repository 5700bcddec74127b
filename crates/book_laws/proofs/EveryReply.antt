-- every reply of a book's certificate is served
use Rattle.std.proofs.Common.{◌≡◌, List, [], ◌∷◌, ◌++◌, length, take, Some, sym, ap, ◌∙◌, subst}
use Rattle.std.specs.List.{AllByRecursion}
use Rattle.nfs3_types.specs.declared.replies.NfsReply.{NfsReply}
use Rattle.nfs3_types.specs.declared.replies.Outcome.TheVariants.{Received}
use Rattle.replay_law.specs.Run.{state_after, kept_steps}
use Rattle.replay_law.proofs.Runs.{state_after-append}
use Rattle.tree_nodes.specs.Tree.{Tree}
use Rattle.tree_nodes.proofs.Chains.{chained, same_some}
use Rattle.tree_handles.specs.Binding.{Bindings}
use Rattle.file_tree.specs.StartTree.{start_tree}
use Rattle.cut_check.specs.Places.{bindings_of}
use Rattle.tree_starts.specs.Head.{Head}
use Rattle.witness_check.specs.Run.{eras_of}
use Rattle.book_laws.specs.Served.{IsServed}
use Rattle.book_laws.specs.Placing.{Placed}
use Rattle.book_laws.specs.Book.{Book, Setting, setting, object_by, next_by, tree_at_first}
use Rattle.book_laws.specs.Plan.{plan_of}
use Rattle.book_laws.specs.Steps.{opening_book, IsRun}
use Rattle.book_laws.proofs.Invariant.{Over, IsInvariant}
use Rattle.book_laws.proofs.Running.{binds_same}
use Rattle.book_laws.proofs.EveryBook.{opening_holds}
use Rattle.book_laws.proofs.Kept.{kept}
use Rattle.book_laws.specs.ServedPlan.{IsServedBook, EveryReplyIsServed}
use Rattle.book_laws.proofs.Serving.{IsServedStep, AreServed}
use Rattle.book_laws.proofs.Placing.{IsServing, serving_on}
use Rattle.book_laws.proofs.Planned.{EachEraServed, all_planned}

module _ (set : Setting) (at_first : Tree) where
  -- a run of two parts
  in_parts : (tree last : Tree) (xs ys : List Placed) → state_after (next_by set) tree (xs ++ ys) ≡ Some last
      → (mid : Tree) × (state_after (next_by set) tree xs ≡ Some mid) × (state_after (next_by set) mid ys ≡ Some last)
  in_parts tree last xs ys e = chained (λ t. state_after (next_by set) t ys) (state_after (next_by set) tree xs) last (sym (state_after-append (next_by set) tree xs ys) ∙ e)

  -- an era, from what those ahead of it kept
  era_served : (ahead behind : List Over) (era : Over) (tree base : Tree) → EachEraServed set tree (ahead ++ era ∷ behind) → state_after (next_by set) tree (kept_steps ahead) ≡ Some base
      → AreServed set base era.steps
  era_served [] behind era tree base a reached = subst (λ (t : Tree). AreServed set t era.steps) (same_some tree base reached) a.0
  era_served (first ∷ ahead) behind era tree base a reached =
      let parts = in_parts tree base (take first.kept first.steps) (kept_steps ahead) reached in
      era_served ahead behind era parts.0 base (a.1 parts.0 parts.1) parts.2

  -- a step, from those ahead of it
  step_served : (before after : List Placed) (step : Placed) (tree here : Tree) → AreServed set tree (before ++ step ∷ after) → state_after (next_by set) tree before ≡ Some here
      → IsServedStep set here step
  step_served [] after step tree here a reached = subst (λ (t : Tree). IsServedStep set t step) (same_some tree here reached) a.0
  step_served (first ∷ before) after step tree here a reached =
      let next = chained (λ t. state_after (next_by set) t before) (next_by set tree first.number first.call first.outcome) here reached in
      step_served before after step next.0 here (a.1 next.0 next.1) next.2

  -- what a plan's law says, by its bindings and its eras
  abbrev pub EachReplyServed : List Over → Type 0
  EachReplyServed eras =
      (ahead behind : List Over) (era : Over) (before after : List Placed) (step : Placed) (reply : NfsReply) (tree : Tree) → eras ≡ ahead ++ era ∷ behind
      → era.steps ≡ before ++ step ∷ after → step.outcome ≡ Received reply → state_after (next_by set) at_first (kept_steps ahead ++ before) ≡ Some tree
      → IsServed set.binds tree (object_by set step.number) step.call reply

  pub each_reply : (eras : List Over) → EachEraServed set at_first eras → EachReplyServed eras
  each_reply eras a ahead behind era before after step reply tree are has came reached =
      let parts = in_parts at_first tree (kept_steps ahead) before reached in
      let of_era = era_served ahead behind era at_first parts.0 (subst (EachEraServed set at_first) are a) parts.1 in
      step_served before after step parts.0 tree (subst (AreServed set parts.0) has of_era) parts.2 reply came

-- what the law says of a plan, by its bindings and its eras
abbrev EachReplyServedBy : Head → Bindings → List Over → Type 0
EachReplyServedBy head binds eras =
    EachReplyServed (record { profile = head.profile; first = length head.start; binds = binds }) (start_tree head.start) eras

pub served_book : (book : Book) → IsInvariant book → IsServing book → IsServedBook book
served_book book i a =
    subst (λ (b : Bindings). EachReplyServedBy book.history.known.head b (eras_of book.history.known (plan_of book)))
    (sym (ap (λ root. bindings_of root (plan_of book).binds) i.root ∙ binds_same book))
    (each_reply (setting book) (tree_at_first book) (eras_of book.history.known (plan_of book))
    (all_planned book.history.known.calls (setting book) (tree_at_first book) 1 book.over book.placed i.known (tree_at_first book) i.runs a))

all_served : (book : Book) (books : List Book) → IsInvariant book → IsServing book → IsRun book books → AllByRecursion IsServedBook books
all_served book [] i a run = tt
all_served book (next ∷ books) i a run =
    let after = kept book next i run.0 in
    let on = serving_on book next i a run.0 in
    (served_book next after on, all_served next books after on run.1)

pub every_reply : EveryReplyIsServed
every_reply profile start faults books is run =
    (served_book (opening_book profile start faults) (opening_holds profile start faults is) tt, all_served (opening_book profile start faults) books (opening_holds profile start faults is) tt run)
