-- The steps that lead to a place.
use Rattle.std.proofs.Common.{◌≡◌, ℕ, ◌+◌, ◌<◌, get_or, List, [], ◌++◌, take, map, Option, Some, None, length, ap, ◌∙◌, subst}
use Rattle.std.specs.Prelude.{option_and_then}
use Rattle.std.specs.Option.{option_to_list}
use Rattle.std.specs.List.{filter_map}
use Rattle.nfs3_types.specs.declared.calls.NfsCall.{NfsCall}
use Rattle.nfs3_types.specs.declared.replies.Outcome.{Outcome}
use Rattle.nfs_history.specs.declared.recorded.RecordedCall.{RecordedCall}
use Rattle.certificate.specs.declared.plan.EraPlan.{EraPlan}
use Rattle.certificate.specs.Plan.{cut_of}
use Rattle.replay_law.specs.Run.{TakenStep, state_after, kept_steps}
use Rattle.replay_law.proofs.Runs.{state_after-append, map_more}
use Rattle.replay_law.proofs.Crashes.{kept_one_more}
use Rattle.witness_check.specs.Run.{step_at, steps_of, era_of}
use Rattle.tree_starts.specs.declared.profile.Profile.{Profile}
use Rattle.tree_nodes.specs.Tree.{Tree}
use Rattle.tree_handles.specs.Binding.{Bindings}
use Rattle.file_tree.specs.Setting.{next_in}
use Rattle.witness_check.proofs.Steps.{more, kept}

module _ {State : Type 0} (next : State → ℕ → NfsCall → Outcome → Option State) where
  -- one step
  pub one_step : (s t : State) (x : TakenStep NfsCall Outcome) (o : Option (TakenStep NfsCall Outcome)) → o ≡ Some x → next s x.number x.call x.outcome ≡ Some t
      → state_after next s (option_to_list o) ≡ Some t
  one_step s t x o is step = ap (λ p. state_after next s (option_to_list p)) is ∙ ap (option_and_then (λ v. state_after next v [])) step

  -- no step
  pub no_step : (s : State) (o : Option (TakenStep NfsCall Outcome)) → o ≡ None → state_after next s (option_to_list o) ≡ Some s
  no_step s o is = ap (λ p. state_after next s (option_to_list p)) is

  -- steps behind steps
  pub runs_on : (s t u : State) (xs ys : List (TakenStep NfsCall Outcome)) → state_after next s xs ≡ Some t → state_after next t ys ≡ Some u → state_after next s (xs ++ ys) ≡ Some u
  runs_on s t u xs ys first behind = state_after-append next s xs ys ∙ ap (option_and_then (λ v. state_after next v ys)) first ∙ behind

  -- the same from what stood at first
  pub started : (base s t u : State) (xs ys : List (TakenStep NfsCall Outcome)) → s ≡ base → state_after next s xs ≡ Some t → state_after next t ys ≡ Some u
      → state_after next base (xs ++ ys) ≡ Some u
  started base s t u xs ys is first behind = runs_on base t u xs ys (subst (λ v. state_after next v xs ≡ Some t) is first) behind

  -- one place more
  pub more_places : {A : Type 0} (f : A → Option (TakenStep NfsCall Outcome)) (xs : List A) (i : ℕ) (d : A) (s t u : State) → i < length xs
      → state_after next s (filter_map f (take i xs)) ≡ Some t → state_after next t (option_to_list (f (get_or xs i d))) ≡ Some u
      → state_after next s (filter_map f (take (i + 1) xs)) ≡ Some u
  more_places f xs i d s t u inside first behind =
      ap (state_after next s) (more f xs i d inside) ∙ runs_on s t u (filter_map f (take i xs)) (option_to_list (f (get_or xs i d))) first behind

  -- one era more
  pub more_eras : (calls : List RecordedCall) (eras : List EraPlan) (i : ℕ) (era : EraPlan) (s t u : State) → i < length eras → era ≡ get_or eras i era
      → state_after next s (kept_steps (map (era_of calls) (take i eras))) ≡ Some t → state_after next t (steps_of calls (take (cut_of era) era.places)) ≡ Some u
      → state_after next s (kept_steps (map (era_of calls) (take (i + 1) eras))) ≡ Some u
  more_eras calls eras i era s t u inside is first behind =
      let so_far = map (era_of calls) (take i eras) in
      ap (state_after next s) (ap kept_steps (map_more (era_of calls) eras i era inside is) ∙ kept_one_more so_far (era_of calls era))
      ∙ runs_on s t u (kept_steps so_far) (take (era_of calls era).kept (era_of calls era).steps) first
      (ap (state_after next t) (kept (step_at calls) (cut_of era) era.places) ∙ behind)

-- the same run under equal binds
pub same_run : (profile : Profile) (first : ℕ) (base tree : Tree) (steps : List (TakenStep NfsCall Outcome)) (b d : Bindings) → b ≡ d
    → state_after (next_in profile first b) base steps ≡ Some tree → state_after (next_in profile first d) base steps ≡ Some tree
same_run profile first base tree steps b d is ran = subst (λ (x : Bindings). state_after (next_in profile first x) base steps ≡ Some tree) is ran
