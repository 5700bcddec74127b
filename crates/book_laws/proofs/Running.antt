-- the plan of a book runs
use Rattle.std.proofs.Common.{◌≡◌, ◌⊎◌, inl, inr, ℕ, Bool, true, false, List, [], ◌∷◌, ◌++◌, length, take, map, Option, Some, None, refl, sym, ap, ◌∙◌, subst, zero, suc, ◌+◌, append-nil}
use Rattle.std.specs.Prelude.{IsSome, ◌&&◌, not, option_and_then, is_none, is_some, if◌then◌else◌}
use Rattle.std.specs.List.{cons_option}
use Rattle.nfs3_types.specs.declared.calls.NfsCall.{NfsCall}
use Rattle.nfs3_types.specs.declared.calls.NfsCall.TheVariants as calls
use Rattle.nfs3_types.specs.declared.replies.Answer.TheVariants.{Done}
use Rattle.nfs3_types.specs.declared.replies.NfsReply.TheVariants as replies
use Rattle.nfs3_types.specs.declared.replies.NfsReply.{NfsReply}
use Rattle.nfs3_types.specs.declared.replies.Outcome.{Outcome}
use Rattle.nfs3_types.specs.declared.replies.Outcome.TheVariants as outcomes
use Rattle.nfs3_types.specs.declared.status.Failure.{Failure}
use Rattle.nfs3_types.specs.Procedures.{is_answered, failure_in}
use Rattle.nfs_history.specs.declared.recorded.Meaning.TheVariants as meanings
use Rattle.nfs_history.specs.declared.recorded.RecordedCall.{RecordedCall}
use Rattle.certificate.specs.declared.plan.Place.{Place}
use Rattle.certificate.specs.declared.plan.Place.TheVariants.{Answered, Taken}
use Rattle.nfs_history.specs.Success.{succeeded}
use Rattle.cut_check.specs.Places.{bindings_of}
use Rattle.replay_law.specs.Run.{state_after, kept_steps, EveryEraRuns}
use Rattle.tree_nodes.specs.Tree.{Tree}
use Rattle.tree_nodes.proofs.Chains.{chained, mapped, value_of, negated, both_pass, none_is, decide}
use Rattle.file_tree.specs.Change.{Change}
use Rattle.file_tree.specs.Success.{changed, change_done, change_answered}
use Rattle.replay_law.proofs.Runs.{state_after-append}
use Rattle.std.proofs.lemmas.List.{append_assoc}
use Rattle.std.proofs.lemmas.Grind.{flat_map-append}
use Rattle.certificate.specs.declared.plan.Bind.{Bind}
use Rattle.tree_handles.specs.Binding.{Bindings}
use Rattle.file_tree.specs.Success.{next_tree}
use Rattle.file_tree.specs.Setting.{next_in}
use Rattle.file_tree.proofs.Profiles.{comes_out_plain, taken_alike}
use Rattle.tree_laws.specs.Leaving.{only_looks}
use Rattle.tree_laws.specs.Outcomes.{count_written}
use Rattle.tree_laws.proofs.Kept.{failure_leaves, looking_leaves}
use Rattle.tree_laws.proofs.Taking.{taken_as_received}
use Rattle.witness_check.specs.Run.{step_with, step_of_call, step_at, steps_of, era_of, eras_of, Runs}
use Rattle.book_laws.specs.Placing.{Placed, is_recorded}
use Rattle.book_laws.specs.Book.{Book, Setting, bindings, setting, handle_of, object_by, next_by, tree_at_first}
use Rattle.book_laws.specs.Plan.{bind_of, place_as, place_of, places_of, plan_over, plan_now, plan_of}
use Rattle.book_laws.proofs.Invariant.{Over, IsKnown, IsReplied, AreKnown, AllKnown, AllRun, IsInvariant}
use Rattle.book_laws.proofs.Lists.{taken_given}
use Rattle.book_laws.proofs.Shaped.{plans, Stands, stands}
use Rattle.book_laws.proofs.Shaped.Stands.{answered, taken}

pub head_is : {X : Type 0} {a b : X} {xs ys : List X} → a ∷ xs ≡ b ∷ ys → a ≡ b
head_is e = cc

pub tail_is : {X : Type 0} {a b : X} {xs ys : List X} → a ∷ xs ≡ b ∷ ys → xs ≡ ys
tail_is e = cc

-- ---- a call that isn't recorded leaves the tree

pub done_of : (binds : Bindings) (tree : Tree) (number : ℕ) (call : NfsCall) (reply : NfsReply) (c : Change) (o : Option Failure) → o ≡ None → change_answered binds tree number call reply o ≡ Some c
    → change_done binds tree number call reply ≡ Some c
done_of binds tree number call reply c None is e = e
done_of binds tree number call reply c (Some failure) is e = absurd (cc)

-- a success is a reply to the call's procedure
right_reply : (binds : Bindings) (tree : Tree) (number : ℕ) (c : Change) (call : NfsCall) (reply : NfsReply) → only_looks call ≡ false → change_done binds tree number call reply ≡ Some c
    → is_answered call reply ≡ true
right_reply binds tree number c (calls.Write call) (replies.Write (Done success)) looks e = refl
right_reply binds tree number c (calls.Write call) _ looks e = absurd (cc)
right_reply binds tree number c (calls.Create call) (replies.Create (Done success)) looks e = refl
right_reply binds tree number c (calls.Create call) _ looks e = absurd (cc)
right_reply binds tree number c (calls.SetAttr call) (replies.SetAttr (Done _)) looks e = refl
right_reply binds tree number c (calls.SetAttr call) _ looks e = absurd (cc)
right_reply binds tree number c (calls.MkDir call) (replies.MkDir (Done success)) looks e = refl
right_reply binds tree number c (calls.MkDir call) _ looks e = absurd (cc)
right_reply binds tree number c (calls.SymLink call) (replies.SymLink (Done success)) looks e = refl
right_reply binds tree number c (calls.SymLink call) _ looks e = absurd (cc)
right_reply binds tree number c (calls.Remove place) (replies.Remove (Done _)) looks e = refl
right_reply binds tree number c (calls.Remove place) _ looks e = absurd (cc)
right_reply binds tree number c (calls.RmDir place) (replies.RmDir (Done _)) looks e = refl
right_reply binds tree number c (calls.RmDir place) _ looks e = absurd (cc)
right_reply binds tree number c (calls.Rename call) (replies.Rename (Done _)) looks e = refl
right_reply binds tree number c (calls.Rename call) _ looks e = absurd (cc)
right_reply binds tree number c _ reply looks e = absurd (cc)

module _ (binds : Bindings) (before after : Tree) (number : ℕ) (call : NfsCall) (reply : NfsReply) (next : next_tree binds before number call (outcomes.Received reply) ≡ Some after) where
  pub unrecorded_leaves : (not (only_looks call) && (is_answered call reply && is_none (failure_in reply))) ≡ false → after ≡ before
  unrecorded_leaves isnt = go (decide (only_looks call)) (failure_in reply) refl where
    clash : (a b c : Bool) → a ≡ false → b ≡ true → c ≡ true → (not a && (b && c)) ≡ false → ⊥
    clash true b c e f g h = absurd (cc)
    clash false true true e f g h = absurd (cc)
    clash false true false e f g h = absurd (cc)
    clash false false c e f g h = absurd (cc)

    go : (only_looks call ≡ true) ⊎ (only_looks call ≡ false) → (o : Option Failure) → failure_in reply ≡ o → after ≡ before
    go (inl looks) o is = looking_leaves binds before after number call (outcomes.Received reply) looks next
    go (inr writes) (Some failure) is = failure_leaves binds before after number call reply failure is next
    go (inr writes) None is =
        let change = mapped (changed before) (change_answered binds before number call reply (failure_in reply)) after next in
        let done = done_of binds before number call reply change.0 (failure_in reply) is change.1 in
        absurd (clash (only_looks call) (is_answered call reply) (is_none (failure_in reply)) writes (right_reply binds before number change.0 call reply writes done) (ap is_none is) isnt)

  pub recorded_takes : (not (only_looks call) && (is_answered call reply && is_none (failure_in reply))) ≡ true
      → next_tree binds before number call (outcomes.Taken (count_written (outcomes.Received reply))) ≡ Some after
  recorded_takes is =
      let parts = both_pass (not (only_looks call)) (is_answered call reply && is_none (failure_in reply)) is in
      taken_as_received binds before after number call reply (negated (only_looks call) parts.0) (none_is (failure_in reply) (both_pass (is_answered call reply) (is_none (failure_in reply)) parts.1).1) next

-- so too under a profile, behind a start
module _ (s : Setting) (before after : Tree) (number : ℕ) (call : NfsCall) (reply : NfsReply) (next : next_by s before number call (outcomes.Received reply) ≡ Some after) where
  plain : next_tree s.binds before (object_by s number) call (outcomes.Received reply) ≡ Some after
  plain = comes_out_plain s.profile s.binds before after (object_by s number) call (outcomes.Received reply) next

  pub unrecorded_leaves_by : (not (only_looks call) && (is_answered call reply && is_none (failure_in reply))) ≡ false → after ≡ before
  unrecorded_leaves_by isnt = unrecorded_leaves s.binds before after (object_by s number) call reply plain isnt

  pub recorded_takes_by : (not (only_looks call) && (is_answered call reply && is_none (failure_in reply))) ≡ true
      → next_by s before number call (outcomes.Taken (count_written (outcomes.Received reply))) ≡ Some after
  recorded_takes_by is =
      taken_alike s.profile s.binds before (object_by s number) call (count_written (outcomes.Received reply))
      ∙ recorded_takes s.binds before after (object_by s number) call reply plain is

-- ---- the places of an era run as its calls did

module _ (calls : List RecordedCall) (s : Setting) (at_first : Tree) where
  abbrev next : Tree → ℕ → NfsCall → Outcome → Option Tree
  next = next_by s

  -- what a step does, its place does
  data Same (step : Placed) (before after : Tree) : Option Place → Type 0 where
    left : after ≡ before → Same step before after None
    stays : (place : Place) (other : Placed) → step_at calls place ≡ Some other → next before other.number other.call other.outcome ≡ Some after → Same step before after (Some place)

  same_step : (era : ℕ) (step : Placed) (before after : Tree) → IsKnown calls era step → next before step.number step.call step.outcome ≡ Some after
      → (o : Option Place) → place_of calls step ≡ o → Same step before after o
  same_step era step before after known runs None is = left (leaves known.replied) where
    runs_so : next before step.number step.call (outcomes.Received known.reply) ≡ Some after
    runs_so = ap (next before step.number step.call) (sym known.received) ∙ runs

    unplaced : place_as step known.call ≡ None
    unplaced = sym (ap (option_and_then (place_as step)) known.recorded) ∙ is

    leaves : IsReplied known.call step → after ≡ before
    leaves (inl quiet) = unrecorded_leaves_by s before after step.number step.call known.reply runs_so (ap (λ o. not (only_looks step.call) && succeeded step.call o) (sym known.received) ∙ isnt (is_recorded step) (ap (as_taken (is_recorded step)) (sym quiet.0) ∙ unplaced)) where
      as_taken : Bool → Option ℕ → Option Place
      as_taken b o = if is_some o then Some (Answered step.number) else if b then Some (Taken step.number (count_written step.outcome)) else None

      isnt : (b : Bool) → as_taken b None ≡ None → b ≡ false
      isnt true e = absurd (cc)
      isnt false e = refl
    leaves (inr told) = absurd (clash (ap (λ (b : Bool). if b then Some (Answered step.number) else if is_recorded step then Some (Taken step.number (count_written step.outcome)) else None) (sym told.0) ∙ unplaced)) where
      clash : Some (Answered step.number) ≡ None → ⊥
      clash e = cc
  same_step era step before after known runs (Some place) is = go (stands calls era step place known is) where
    go : Stands calls step known.call place → Same step before after (Some place)
    go (answered ended came at) =
        stays place step
        (ap (step_at calls) at ∙ ap (option_and_then (step_of_call (Answered step.number))) known.recorded
        ∙ ap (λ m. option_and_then (step_with step.number m) known.call.outcome) known.judged ∙ ap (option_and_then (step_with step.number (meanings.Judged step.call))) came) runs
    go (taken quiet recorded at) =
        stays place (record { number = step.number; call = step.call; outcome = outcomes.Taken (count_written step.outcome) })
        (ap (step_at calls) at ∙ ap (option_and_then (step_of_call (Taken step.number (count_written step.outcome)))) known.recorded
        ∙ ap (λ m. step_with step.number m (outcomes.Taken (count_written step.outcome))) known.judged)
        (ap (λ o. next before step.number step.call (outcomes.Taken (count_written o))) known.received
        ∙ recorded_takes_by s before after step.number step.call known.reply (ap (next before step.number step.call) (sym known.received) ∙ runs)
        (ap (λ o. not (only_looks step.call) && succeeded step.call o) (sym known.received) ∙ recorded))

  pub plan_run : (era : ℕ) (steps : List Placed) → AreKnown calls era steps → (tree final : Tree) → state_after next tree steps ≡ Some final
      → state_after next tree (steps_of calls (places_of calls steps)) ≡ Some final
  plan_run era [] known tree final e = e
  plan_run era (step ∷ steps) known tree final e =
      let first = chained (λ after. state_after next after steps) (next tree step.number step.call step.outcome) final e in
      go first.0 (place_of calls step) (same_step era step tree first.0 known.0 first.1 (place_of calls step) refl) (plan_run era steps known.1 first.0 final first.2) where
        go : (mid : Tree) (o : Option Place) → Same step tree mid o → state_after next mid (steps_of calls (places_of calls steps)) ≡ Some final
            → state_after next tree (steps_of calls (cons_option o (places_of calls steps))) ≡ Some final
        go mid None (left same) rest = ap (λ t. state_after next t (steps_of calls (places_of calls steps))) (sym same) ∙ rest
        go mid (Some place) (stays _ other at runs) rest =
            ap (λ one. state_after next tree (cons_option one (steps_of calls (places_of calls steps)))) at
            ∙ ap (option_and_then (λ after. state_after next after (steps_of calls (places_of calls steps)))) runs ∙ rest

  -- ---- all eras

  known_front : (era n : ℕ) (steps : List Placed) → AreKnown calls era steps → AreKnown calls era (take n steps)
  known_front era zero steps known = tt
  known_front era (suc n) [] known = tt
  known_front era (suc n) (step ∷ steps) known = (known.0, known_front era n steps known.1)

  -- what an era that is over kept, its plan keeps
  kept_same : (first : Over) → take (era_of calls (plan_over calls first)).kept (era_of calls (plan_over calls first)).steps ≡ steps_of calls (places_of calls (take first.kept first.steps))
  kept_same first =
      let places = places_of calls first.steps in
      let cut = length (places_of calls (take first.kept first.steps)) in
      taken_given (step_at calls) cut places ∙ ap (steps_of calls) (taken_given (place_of calls) first.kept first.steps)

  runs_some : (era : ℕ) (steps : List Placed) → AreKnown calls era steps → (tree : Tree) → IsSome (state_after next tree steps) → IsSome (state_after next tree (steps_of calls (places_of calls steps)))
  runs_some era steps known tree some =
      let final = value_of (state_after next tree steps) some in
      subst IsSome (sym (plan_run era steps known tree final.0 final.1)) refl

  behind_kept : (done : List Over) (tree : Tree) (steps : List Placed) → state_after next at_first (kept_steps done) ≡ Some tree → IsSome (state_after next tree steps)
      → IsSome (state_after next at_first (kept_steps done ++ steps))
  behind_kept done tree steps reached some =
      subst IsSome (sym (state_after-append next at_first (kept_steps done) steps ∙ ap (option_and_then (λ t. state_after next t steps)) reached)) some

  all_run : (e : ℕ) (over : List Over) (placed : List Placed) → AllKnown calls e over placed → (done : List Over) (tree : Tree) → state_after next at_first (kept_steps done) ≡ Some tree
      → AllRun s tree over placed → (ahead behind : List Over) (era : Over) → map (era_of calls) (plans calls over placed) ≡ ahead ++ era ∷ behind
      → IsSome (state_after next at_first (kept_steps (done ++ ahead) ++ era.steps))
  all_run e [] placed known done tree reached runs [] behind era parts =
      let is : era_of calls (plan_now calls placed) ≡ era = head_is parts in
      subst (λ (x : Over). IsSome (state_after next at_first (kept_steps (done ++ []) ++ x.steps))) is
      (subst (λ (xs : List Over). IsSome (state_after next at_first (kept_steps xs ++ steps_of calls (places_of calls placed)))) (sym (append-nil done))
      (behind_kept done tree (steps_of calls (places_of calls placed)) reached (runs_some e placed known tree runs)))
  all_run e [] placed known done tree reached runs (a ∷ []) behind era parts = absurd (short (tail_is parts)) where
    short : [] ≡ era ∷ behind → ⊥
    short f = cc
  all_run e [] placed known done tree reached runs (a ∷ b ∷ ahead) behind era parts = absurd (short (tail_is parts)) where
    short : [] ≡ b ∷ (ahead ++ era ∷ behind) → ⊥
    short f = cc
  all_run e (first ∷ over) placed known done tree reached runs [] behind era parts =
      let is : era_of calls (plan_over calls first) ≡ era = head_is parts in
      subst (λ (x : Over). IsSome (state_after next at_first (kept_steps (done ++ []) ++ x.steps))) is
      (subst (λ (xs : List Over). IsSome (state_after next at_first (kept_steps xs ++ steps_of calls (places_of calls first.steps)))) (sym (append-nil done))
      (behind_kept done tree (steps_of calls (places_of calls first.steps)) reached (runs_some e first.steps known.0 tree runs.0)))
  all_run e (first ∷ over) placed known done tree reached runs (a ∷ ahead) behind era parts =
      let is : era_of calls (plan_over calls first) ≡ a = head_is parts in
      let own = era_of calls (plan_over calls first) in
      let base = runs.1 in
      let kept : state_after next tree (take own.kept own.steps) ≡ Some base.0 =
      ap (state_after next tree) (kept_same first) ∙ plan_run e (take first.kept first.steps) (known_front e first.kept first.steps known.0) tree base.0 base.1 in
      let further : state_after next at_first (kept_steps (done ++ own ∷ [])) ≡ Some base.0 =
      ap (state_after next at_first) (flat_map-append (λ (x : Over). take x.kept x.steps) done (own ∷ []) ∙ ap (λ xs. kept_steps done ++ xs) (append-nil (take own.kept own.steps)))
      ∙ state_after-append next at_first (kept_steps done) (take own.kept own.steps) ∙ ap (option_and_then (λ t. state_after next t (take own.kept own.steps))) reached ∙ kept in
      let rest = all_run (e + 1) over placed known.1 (done ++ own ∷ []) base.0 further base.2 ahead behind era (tail_is parts) in
      subst (λ (x : Over). IsSome (state_after next at_first (kept_steps (done ++ x ∷ ahead) ++ era.steps))) is
      (subst (λ (xs : List Over). IsSome (state_after next at_first (kept_steps xs ++ era.steps))) (append_assoc done (own ∷ []) ahead) rest)

-- ---- the binds

abbrev pair : ℕ → List ℕ × ℕ
pair object = (handle_of object, object)

abbrev pair_of : Bind → List ℕ × ℕ
pair_of bind = (bind.handle, bind.object)

binds_made : (made : List ℕ) → map pair_of (map bind_of made) ≡ map pair made
binds_made [] = refl
binds_made (object ∷ made) = ap (λ (xs : List (List ℕ × ℕ)). pair object ∷ xs) (binds_made made)

pub binds_same : (book : Book) → bindings_of (handle_of 0) (plan_of book).binds ≡ bindings book
binds_same book = ap (λ pairs. record { root = handle_of 0; pairs = pairs }) (binds_made book.made)

pub plan_runs : (book : Book) → IsInvariant book → Runs book.history.known (plan_of book)
plan_runs book i =
    let head = book.history.known.head in
    subst (λ (b : Bindings). EveryEraRuns (next_in head.profile (length head.start) b) (tree_at_first book) (eras_of book.history.known (plan_of book)))
    (sym (ap (λ root. bindings_of root (plan_of book).binds) i.root ∙ binds_same book))
    (λ ahead behind era parts. all_run book.history.known.calls (setting book) (tree_at_first book) 1 book.over book.placed i.known [] (tree_at_first book) refl i.runs ahead behind era parts)
