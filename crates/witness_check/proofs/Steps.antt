-- The steps of an era's places, one after another.
use Rattle.std.proofs.Common.{◌≡◌, ℕ, ◌+◌, ◌<◌, get_or, List, [], ◌∷◌, ◌++◌, take, drop, length, Option, Some, None, refl, sym, ap, ◌∙◌, subst, append_assoc}
use Rattle.std.specs.Prelude.{IsSome}
use Rattle.std.specs.Option.{option_to_list}
use Rattle.std.specs.List.{filter_map, cons_option}
use Rattle.std.proofs.Math.Seq.{take-append_seam}
use Rattle.std.proofs.lemmas.List.{append-nil, take_more, drop_more, take-append-drop}
use Rattle.std.proofs.lemmas.List.Elements.{filter_map-append}
use Rattle.replay_law.specs.Run.{TakenStep, state_after}
use Rattle.replay_law.specs.Standing.{DoesSo}
use Rattle.tree_starts.specs.Start.{object_made}
use Rattle.file_tree.specs.Setting.{under}
use Rattle.replay_law.proofs.Stands.{all_so_far}
use Rattle.replay_law.proofs.Crashes.{from_base}
use Rattle.order_check.specs.nfs_history_specs.declared.recorded.Meaning.{Meaning}
use Rattle.order_check.specs.nfs_history_specs.declared.recorded.Meaning.TheVariants as meanings
use Rattle.order_check.specs.nfs_history_specs.declared.recorded.RecordedCall.{RecordedCall}
use Rattle.order_check.specs.nfs_history_specs.Precedence.{call_at}
use Rattle.certificate.specs.declared.plan.Place.{Place}
use Rattle.certificate.specs.declared.plan.Place.TheVariants as variants
use Rattle.certificate.specs.Plan.{call_of}
use Rattle.nfs3_types.specs.declared.calls.NfsCall.{NfsCall}
use Rattle.nfs3_types.specs.declared.replies.Outcome.{Outcome}
use Rattle.replay_law.specs.declared.stepping.Replay.{Replay}
use Rattle.tree_nodes.specs.Tree.{Tree}
use Rattle.tree_nodes.proofs.Chains.{chained}
use Rattle.tree_nodes.specs.declared.undo.Undo.{Undo}
use Rattle.tree_nodes.specs.Undo.{TakesBack}
use Rattle.file_tree.specs.declared.setting.TreeSetting.{TreeSetting}
use Rattle.witness_check.specs.declared.run.Rule.{Rule}
use Rattle.witness_check.specs.Run.{step_with, step_of_call, step_at}
use Rattle.witness_check.specs.Running.{next_by, first_tree, Stands, tree_after, IsStuckAt, IsStopBehind}

module _ {A B : Type 0} (f : A → Option B) where
  pub alone : (o : Option B) → cons_option o [] ≡ option_to_list o
  alone None = refl
  alone (Some y) = refl

  -- one place more
  pub more : (xs : List A) (i : ℕ) (d : A) → i < length xs → filter_map f (take (i + 1) xs) ≡ filter_map f (take i xs) ++ option_to_list (f (get_or xs i d))
  more xs i d inside =
      ap (filter_map f) (take_more xs i d inside) ∙ filter_map-append f (take i xs) (get_or xs i d ∷ [])
      ∙ ap (λ ys. filter_map f (take i xs) ++ ys) (alone (f (get_or xs i d)))

  -- the places ahead of one, that one and those behind it
  pub parts : (xs : List A) (i : ℕ) (d : A) (y : B) → i < length xs → f (get_or xs i d) ≡ Some y → filter_map f xs ≡ filter_map f (take i xs) ++ y ∷ filter_map f (drop (i + 1) xs)
  parts xs i d y inside found =
      ap (filter_map f) (sym (take-append-drop i xs)) ∙ filter_map-append f (take i xs) (drop i xs)
      ∙ ap (λ ys. filter_map f (take i xs) ++ filter_map f ys) (drop_more xs i d inside)
      ∙ ap (λ o. filter_map f (take i xs) ++ cons_option o (filter_map f (drop (i + 1) xs))) found

  -- the front of a list and the rest of it
  pub both : (n : ℕ) (xs front back : List A) → front ≡ take n xs → back ≡ drop n xs → filter_map f xs ≡ filter_map f front ++ filter_map f back
  both n xs front back ahead behind =
      ap (filter_map f) (sym (take-append-drop n xs)) ∙ filter_map-append f (take n xs) (drop n xs) ∙ cc (ahead, behind)

  -- what is kept of the steps are the steps of what is kept
  pub kept : (n : ℕ) (xs : List A) → take (length (filter_map f (take n xs))) (filter_map f xs) ≡ filter_map f (take n xs)
  kept n xs =
      ap (take (length (filter_map f (take n xs)))) (both n xs (take n xs) (drop n xs) refl refl)
      ∙ take-append_seam (filter_map f (take n xs)) (filter_map f (drop n xs))

-- a step of the tree is that of the call whose object has its number
pub does_so : (rule : Rule) (n object : ℕ) (call : NfsCall) (outcome : Outcome) → object ≡ object_made (length rule.start.now) n
    → DoesSo (next_by rule) (under rule.setting.profile rule.setting.binds) n object call outcome
does_so rule n object call outcome is tree = ap (λ k. under rule.setting.profile rule.setting.binds tree k call outcome) (sym is)

module _ {A : Type 0} (rule : Rule) (f : A → Option (TakenStep NfsCall Outcome)) where
  -- one place more ahead of the cut, and past it
  pub more_kept : (xs : List A) (i : ℕ) (d : A) → i < length xs → (replay : Replay Tree TreeSetting NfsCall Outcome Undo) (kept : List (TakenStep NfsCall Outcome))
      → Stands rule replay ((kept ++ filter_map f (take i xs)) ++ option_to_list (f (get_or xs i d))) [] → Stands rule replay (kept ++ filter_map f (take (i + 1) xs)) []
  more_kept xs i d inside replay kept s =
      subst (λ (steps : List (TakenStep NfsCall Outcome)). Stands rule replay steps [])
      (append_assoc kept (filter_map f (take i xs)) (option_to_list (f (get_or xs i d))) ∙ ap (λ ys. kept ++ ys) (sym (more f xs i d inside))) s

  pub more_lost : (xs : List A) (i : ℕ) (d : A) → i < length xs → (replay : Replay Tree TreeSetting NfsCall Outcome Undo) (kept : List (TakenStep NfsCall Outcome))
      → Stands rule replay kept (filter_map f (take i xs) ++ option_to_list (f (get_or xs i d))) → Stands rule replay kept (filter_map f (take (i + 1) xs))
  more_lost xs i d inside replay kept s =
      subst (λ (steps : List (TakenStep NfsCall Outcome)). Stands rule replay kept steps) (sym (more f xs i d inside)) s

  -- a step without a next tree is the first such one
  here : (xs : List A) (i : ℕ) (d : A) (found : Option (TakenStep NfsCall Outcome)) (number : ℕ) → i < length xs → f (get_or xs i d) ≡ found
      → (kept : List (TakenStep NfsCall Outcome)) (state : Tree) → tree_after rule (kept ++ filter_map f (take i xs)) ≡ Some state
      → IsStuckAt rule (kept ++ filter_map f (take i xs)) found number → IsStopBehind rule kept (filter_map f xs) number state
  here xs i d None number inside at kept state before stuck = absurd stuck
  here xs i d (Some x) number inside at kept state before stuck = λ base reached.
      let next = next_by rule in
      let ahead = filter_map f (take i xs) in
      let there : state_after next base ahead ≡ Some state = sym (from_base next (first_tree rule) base kept ahead reached) ∙ before in
      record {
        first = record {
          ahead = ahead;
          stuck = x;
          behind = filter_map f (drop (i + 1) xs);
          parts = parts f xs i d x inside at;
          runs = subst IsSome (sym there) refl;
          stops = sym (from_base next (first_tree rule) base kept (ahead ++ x ∷ []) reached) ∙ ap (state_after next (first_tree rule)) (sym (append_assoc kept ahead (x ∷ []))) ∙ stuck.1;
          named = stuck.0;
        };
        there = there;
      }

  pub stuck_kept : (xs : List A) (i : ℕ) (d : A) (number : ℕ) → i < length xs
      → (replay : Replay Tree TreeSetting NfsCall Outcome Undo) (kept : List (TakenStep NfsCall Outcome)) → Stands rule replay (kept ++ filter_map f (take i xs)) []
      → IsStuckAt rule (kept ++ filter_map f (take i xs)) (f (get_or xs i d)) number → IsStopBehind rule kept (filter_map f xs) number replay.state
  stuck_kept xs i d number inside replay kept s stuck = here xs i d (f (get_or xs i d)) number inside refl kept replay.state (s.reached ∙ s.runs) stuck

  pub stuck_lost : (xs : List A) (i : ℕ) (d : A) (number : ℕ) → i < length xs
      → (replay : Replay Tree TreeSetting NfsCall Outcome Undo) (kept : List (TakenStep NfsCall Outcome)) → Stands rule replay kept (filter_map f (take i xs))
      → IsStuckAt rule (kept ++ filter_map f (take i xs)) (f (get_or xs i d)) number → IsStopBehind rule kept (filter_map f xs) number replay.state
  stuck_lost xs i d number inside replay kept s stuck =
      here xs i d (f (get_or xs i d)) number inside refl kept replay.state (all_so_far TakesBack (next_by rule) (first_tree rule) replay kept (filter_map f (take i xs)) s) stuck

module _ (rule : Rule) where
  -- the step of a place, or none
  pub no_step : (o : Option (TakenStep NfsCall Outcome)) (xs : List (TakenStep NfsCall Outcome)) → o ≡ None → xs ++ option_to_list o ≡ xs
  no_step o xs none = ap (λ p. xs ++ option_to_list p) none ∙ append-nil xs

  pub one_step : (o : Option (TakenStep NfsCall Outcome)) (x : TakenStep NfsCall Outcome) (xs : List (TakenStep NfsCall Outcome)) → o ≡ Some x → xs ++ option_to_list o ≡ xs ++ x ∷ []
  one_step o x xs some = ap (λ p. xs ++ option_to_list p) some

  pub is_stuck : (o : Option (TakenStep NfsCall Outcome)) (x : TakenStep NfsCall Outcome) (steps : List (TakenStep NfsCall Outcome)) (number : ℕ) → o ≡ Some x → x.number ≡ number
      → tree_after rule (steps ++ x ∷ []) ≡ None → IsStuckAt rule steps o number
  is_stuck o x steps number some named stops = subst (λ p. IsStuckAt rule steps p number) (sym some) (named, stops)

-- ---- numbers

with_number : (n : ℕ) (meaning : Meaning) (outcome : Outcome) (one : TakenStep NfsCall Outcome) → step_with n meaning outcome ≡ Some one → one.number ≡ n
with_number n (meanings.Judged call) outcome one e = cc
with_number n meanings.Unjudged outcome one e = absurd (cc)

-- a step has the number of its place
pub numbered : (calls : List RecordedCall) (place : Place) (one : TakenStep NfsCall Outcome) → step_at calls place ≡ Some one → one.number ≡ call_of place
numbered calls (variants.Answered n) one e =
    let call = chained (step_of_call (variants.Answered n)) (call_at calls n) one e in
    let outcome = chained (step_with n call.0.meaning) call.0.outcome one call.2 in
    with_number n call.0.meaning outcome.0 one outcome.2
numbered calls (variants.Taken n count) one e =
    let call = chained (step_of_call (variants.Taken n count)) (call_at calls n) one e in
    with_number n call.0.meaning _ one call.2
