-- What a call means for stable storage, and the verifier that it shows, by what a history says of it without its bytes.
use Rattle.std.proofs.Common.{◌≡◌, List, true, false, Option, Some, None, option_and_then, option_map, refl, sym, ap, ◌∙◌}
use Rattle.std.proofs.lemmas.Option.{none-some, same_Some}
use Rattle.std.specs.Prelude.{nat_lt, if◌then◌else◌}
use Rattle.std.specs.Option.{option_map_or}
use Rattle.nfs3_types.specs.declared.calls.NfsCall.{NfsCall}
use Rattle.nfs3_types.specs.declared.calls.NfsCall.TheVariants as calls
use Rattle.nfs3_types.specs.declared.calls.WriteArguments.{WriteArguments}
use Rattle.nfs3_types.specs.declared.calls.CommitArguments.{CommitArguments}
use Rattle.nfs3_types.specs.declared.replies.WriteSuccess.{WriteSuccess}
use Rattle.nfs3_types.specs.declared.replies.CommitSuccess.{CommitSuccess}
use Rattle.nfs3_types.specs.declared.replies.Outcome.{Outcome}
use Rattle.nfs3_types.specs.declared.procedures.Procedure.{Procedure}
use Rattle.nfs3_types.specs.Procedures.{asked_for}
use Rattle.nfs_history.specs.declared.recorded.Meaning.{Meaning}
use Rattle.nfs_history.specs.declared.recorded.Meaning.TheVariants as meanings
use Rattle.nfs_history.specs.declared.recorded.RecordedCall.{RecordedCall}
use Rattle.nfs_history.specs.Success.{write_success, commit_success}
use Rattle.nfs_history.specs.Storage.{StorageValue, write_storage, commit_storage, storage_as, storage_in, has_succeeded_as}
use Rattle.nfs_history.specs.Precedence.{call_at}
use Rattle.certificate.specs.declared.plan.Place.{Place}
use Rattle.certificate.specs.declared.plan.Place.TheVariants.{Answered, Taken}
use Rattle.certificate.specs.Plan.{call_of}
use Rattle.tree_handles.specs.Binding.{Bindings, object_of}
use Rattle.cut_check.specs.declared.effect.Effect.TheVariants.{Nothing, Lasting, Committed}
use Rattle.cut_check.specs.Effect.{of_object, where_done, effect_of_write, effect_of}
use Rattle.cut_check.specs.Places.{answered_with, object_written, effect_at}
use Rattle.cut_check.specs.Procedures.{procedure_at, may_last, may_show_verifier}
use Rattle.cut_check.specs.Stored.{effect_of_storage, effect_of_stored, effect_of_changing, brought_bytes}
use Rattle.cut_check.specs.Verifier.{verifier_of, writes_bytes}

wrong : false ≡ true → ⊥
wrong is = cc

module _ (binds : Bindings) where
  written_by : (a : WriteArguments) (found : Option WriteSuccess)
      → where_done (effect_of_write (object_of binds a.file) a.offset) found
      ≡ option_map_or (λ s. effect_of_storage (object_of binds s.file) s) (option_map (write_storage a) found) Nothing
  written_by a None = refl
  written_by a (Some success) = refl

  committed_by : (a : CommitArguments) (found : Option CommitSuccess)
      → where_done (λ success. of_object (λ named. Committed named a.offset a.count) (object_of binds a.file)) found
      ≡ option_map_or (λ s. effect_of_storage (object_of binds s.file) s) (option_map (commit_storage a) found) Nothing
  committed_by a None = refl
  committed_by a (Some success) = refl

  -- of a WRITE or a COMMIT
  stored_of : (call : NfsCall) (outcome : Outcome) → may_show_verifier (asked_for call) ≡ true
      → effect_of (object_written binds call) call outcome
      ≡ option_map_or (λ s. effect_of_storage (object_of binds s.file) s) (storage_as (meanings.Judged call) (Some outcome)) Nothing
  stored_of (calls.GetAttr a) outcome is = absurd (wrong is)
  stored_of (calls.SetAttr a) outcome is = absurd (wrong is)
  stored_of (calls.Lookup a) outcome is = absurd (wrong is)
  stored_of (calls.ReadLink a) outcome is = absurd (wrong is)
  stored_of (calls.Read a) outcome is = absurd (wrong is)
  stored_of (calls.Write a) outcome is = written_by a (write_success outcome)
  stored_of (calls.Create a) outcome is = absurd (wrong is)
  stored_of (calls.MkDir a) outcome is = absurd (wrong is)
  stored_of (calls.SymLink a) outcome is = absurd (wrong is)
  stored_of (calls.Remove a) outcome is = absurd (wrong is)
  stored_of (calls.RmDir a) outcome is = absurd (wrong is)
  stored_of (calls.Rename a) outcome is = absurd (wrong is)
  stored_of (calls.ReadDir a) outcome is = absurd (wrong is)
  stored_of (calls.ReadDirPlus a) outcome is = absurd (wrong is)
  stored_of (calls.Commit a) outcome is = committed_by a (commit_success outcome)

  -- of another call that changes the tree or an object
  changing_of : (call : NfsCall) (outcome : Outcome) → may_last (asked_for call) ≡ true → may_show_verifier (asked_for call) ≡ false
      → effect_of (object_written binds call) call outcome ≡ (if has_succeeded_as (meanings.Judged call) (Some outcome) then Lasting else Nothing)
  changing_of (calls.GetAttr a) outcome last is = absurd (wrong last)
  changing_of (calls.SetAttr a) outcome last is = refl
  changing_of (calls.Lookup a) outcome last is = absurd (wrong last)
  changing_of (calls.ReadLink a) outcome last is = absurd (wrong last)
  changing_of (calls.Read a) outcome last is = absurd (wrong last)
  changing_of (calls.Write a) outcome last is = absurd (wrong (sym is))
  changing_of (calls.Create a) outcome last is = refl
  changing_of (calls.MkDir a) outcome last is = refl
  changing_of (calls.SymLink a) outcome last is = refl
  changing_of (calls.Remove a) outcome last is = refl
  changing_of (calls.RmDir a) outcome last is = refl
  changing_of (calls.Rename a) outcome last is = refl
  changing_of (calls.ReadDir a) outcome last is = absurd (wrong last)
  changing_of (calls.ReadDirPlus a) outcome last is = absurd (wrong last)
  changing_of (calls.Commit a) outcome last is = absurd (wrong (sym is))

  stored_as : (meaning : Meaning) (outcome : Option Outcome) (procedure : Procedure) → option_map (λ a. asked_for a.0) (answered_with meaning outcome) ≡ Some procedure
      → may_show_verifier procedure ≡ true
      → option_map_or (λ a. effect_of (object_written binds a.0) a.0 a.1) (answered_with meaning outcome) Nothing
      ≡ option_map_or (λ s. effect_of_storage (object_of binds s.file) s) (storage_as meaning outcome) Nothing
  stored_as meanings.Unjudged outcome procedure known is = absurd (none-some procedure known)
  stored_as (meanings.Judged call) None procedure known is = absurd (none-some procedure known)
  stored_as (meanings.Judged call) (Some outcome) procedure known is = stored_of call outcome (ap may_show_verifier (same_Some _ _ known) ∙ is)

  changing_as : (meaning : Meaning) (outcome : Option Outcome) (procedure : Procedure) → option_map (λ a. asked_for a.0) (answered_with meaning outcome) ≡ Some procedure
      → may_last procedure ≡ true → may_show_verifier procedure ≡ false
      → option_map_or (λ a. effect_of (object_written binds a.0) a.0 a.1) (answered_with meaning outcome) Nothing
      ≡ (if has_succeeded_as meaning outcome then Lasting else Nothing)
  changing_as meanings.Unjudged outcome procedure known last is = absurd (none-some procedure known)
  changing_as (meanings.Judged call) None procedure known last is = absurd (none-some procedure known)
  changing_as (meanings.Judged call) (Some outcome) procedure known last is =
      changing_of call outcome (ap may_last (same_Some _ _ known) ∙ last) (ap may_show_verifier (same_Some _ _ known) ∙ is)

  pub stored_found : (found : Option RecordedCall) (procedure : Procedure)
      → option_map (λ a. asked_for a.0) (option_and_then (λ call. answered_with call.meaning call.outcome) found) ≡ Some procedure → may_show_verifier procedure ≡ true
      → option_map_or (λ a. effect_of (object_written binds a.0) a.0 a.1) (option_and_then (λ call. answered_with call.meaning call.outcome) found) Nothing ≡ effect_of_stored binds found
  stored_found None procedure known is = refl
  stored_found (Some call) procedure known is = stored_as call.meaning call.outcome procedure known is

  pub changing_found : (found : Option RecordedCall) (procedure : Procedure)
      → option_map (λ a. asked_for a.0) (option_and_then (λ call. answered_with call.meaning call.outcome) found) ≡ Some procedure
      → may_last procedure ≡ true → may_show_verifier procedure ≡ false
      → option_map_or (λ a. effect_of (object_written binds a.0) a.0 a.1) (option_and_then (λ call. answered_with call.meaning call.outcome) found) Nothing ≡ effect_of_changing found
  changing_found None procedure known last is = refl
  changing_found (Some call) procedure known last is = changing_as call.meaning call.outcome procedure known last is

module _ (binds : Bindings) (calls : List RecordedCall) where
  -- a WRITE or a COMMIT at a place
  pub stored_at : (place : Place) (procedure : Procedure) → procedure_at calls place ≡ Some procedure → may_show_verifier procedure ≡ true
      → effect_of_stored binds (call_at calls (call_of place)) ≡ effect_at binds calls place
  stored_at (Answered n) procedure known is = sym (stored_found binds (call_at calls n) procedure known is)
  stored_at (Taken n count) procedure known is = absurd (none-some procedure known)

  -- another call that changes the tree or an object
  pub changing_at : (place : Place) (procedure : Procedure) → procedure_at calls place ≡ Some procedure → may_last procedure ≡ true → may_show_verifier procedure ≡ false
      → effect_of_changing (call_at calls (call_of place)) ≡ effect_at binds calls place
  changing_at (Answered n) procedure known last is = sym (changing_found binds (call_at calls n) procedure known last is)
  changing_at (Taken n count) procedure known last is = absurd (none-some procedure known)

shown_by_write : (a : WriteArguments) (found : Option WriteSuccess) → option_map (λ success. success.verifier.value) found ≡ option_map (λ (s : StorageValue). s.verifier) (option_map (write_storage a) found)
shown_by_write a None = refl
shown_by_write a (Some success) = refl

shown_by_commit : (a : CommitArguments) (found : Option CommitSuccess) → option_map (λ success. success.verifier.value) found ≡ option_map (λ (s : StorageValue). s.verifier) (option_map (commit_storage a) found)
shown_by_commit a None = refl
shown_by_commit a (Some success) = refl

shown_of : (call : NfsCall) (outcome : Outcome) → verifier_of call outcome ≡ option_map (λ (s : StorageValue). s.verifier) (storage_as (meanings.Judged call) (Some outcome))
shown_of (calls.GetAttr a) outcome = refl
shown_of (calls.SetAttr a) outcome = refl
shown_of (calls.Lookup a) outcome = refl
shown_of (calls.ReadLink a) outcome = refl
shown_of (calls.Read a) outcome = refl
shown_of (calls.Write a) outcome = shown_by_write a (write_success outcome)
shown_of (calls.Create a) outcome = refl
shown_of (calls.MkDir a) outcome = refl
shown_of (calls.SymLink a) outcome = refl
shown_of (calls.Remove a) outcome = refl
shown_of (calls.RmDir a) outcome = refl
shown_of (calls.Rename a) outcome = refl
shown_of (calls.ReadDir a) outcome = refl
shown_of (calls.ReadDirPlus a) outcome = refl
shown_of (calls.Commit a) outcome = shown_by_commit a (commit_success outcome)

shown_none : (call : NfsCall) → None ≡ option_map (λ (s : StorageValue). s.verifier) (storage_as (meanings.Judged call) None)
shown_none (calls.GetAttr a) = refl
shown_none (calls.SetAttr a) = refl
shown_none (calls.Lookup a) = refl
shown_none (calls.ReadLink a) = refl
shown_none (calls.Read a) = refl
shown_none (calls.Write a) = refl
shown_none (calls.Create a) = refl
shown_none (calls.MkDir a) = refl
shown_none (calls.SymLink a) = refl
shown_none (calls.Remove a) = refl
shown_none (calls.RmDir a) = refl
shown_none (calls.Rename a) = refl
shown_none (calls.ReadDir a) = refl
shown_none (calls.ReadDirPlus a) = refl
shown_none (calls.Commit a) = refl

shown_as : (meaning : Meaning) (outcome : Option Outcome)
    → option_and_then (λ a. verifier_of a.0 a.1) (answered_with meaning outcome) ≡ option_map (λ (s : StorageValue). s.verifier) (storage_as meaning outcome)
shown_as meanings.Unjudged outcome = refl
shown_as (meanings.Judged call) None = shown_none call
shown_as (meanings.Judged call) (Some outcome) = shown_of call outcome

-- the verifier that a call shows
pub shown_found : (found : Option RecordedCall)
    → option_and_then (λ a. verifier_of a.0 a.1) (option_and_then (λ call. answered_with call.meaning call.outcome) found)
    ≡ option_map (λ (s : StorageValue). s.verifier) (option_and_then storage_in found)
shown_found None = refl
shown_found (Some call) = shown_as call.meaning call.outcome

brought_by_write : (a : WriteArguments) (found : Option WriteSuccess)
    → option_map_or (λ success. nat_lt 0 success.count) found false ≡ option_map_or brought_bytes (option_map (write_storage a) found) false
brought_by_write a None = refl
brought_by_write a (Some success) = refl

brought_by_commit : (a : CommitArguments) (found : Option CommitSuccess) → false ≡ option_map_or brought_bytes (option_map (commit_storage a) found) false
brought_by_commit a None = refl
brought_by_commit a (Some success) = refl

brought_of : (call : NfsCall) (outcome : Outcome) → writes_bytes call outcome ≡ option_map_or brought_bytes (storage_as (meanings.Judged call) (Some outcome)) false
brought_of (calls.GetAttr a) outcome = refl
brought_of (calls.SetAttr a) outcome = refl
brought_of (calls.Lookup a) outcome = refl
brought_of (calls.ReadLink a) outcome = refl
brought_of (calls.Read a) outcome = refl
brought_of (calls.Write a) outcome = brought_by_write a (write_success outcome)
brought_of (calls.Create a) outcome = refl
brought_of (calls.MkDir a) outcome = refl
brought_of (calls.SymLink a) outcome = refl
brought_of (calls.Remove a) outcome = refl
brought_of (calls.RmDir a) outcome = refl
brought_of (calls.Rename a) outcome = refl
brought_of (calls.ReadDir a) outcome = refl
brought_of (calls.ReadDirPlus a) outcome = refl
brought_of (calls.Commit a) outcome = brought_by_commit a (commit_success outcome)

brought_none : (call : NfsCall) → false ≡ option_map_or brought_bytes (storage_as (meanings.Judged call) None) false
brought_none (calls.GetAttr a) = refl
brought_none (calls.SetAttr a) = refl
brought_none (calls.Lookup a) = refl
brought_none (calls.ReadLink a) = refl
brought_none (calls.Read a) = refl
brought_none (calls.Write a) = refl
brought_none (calls.Create a) = refl
brought_none (calls.MkDir a) = refl
brought_none (calls.SymLink a) = refl
brought_none (calls.Remove a) = refl
brought_none (calls.RmDir a) = refl
brought_none (calls.Rename a) = refl
brought_none (calls.ReadDir a) = refl
brought_none (calls.ReadDirPlus a) = refl
brought_none (calls.Commit a) = refl

brought_as : (meaning : Meaning) (outcome : Option Outcome)
    → option_map_or (λ a. writes_bytes a.0 a.1) (answered_with meaning outcome) false ≡ option_map_or brought_bytes (storage_as meaning outcome) false
brought_as meanings.Unjudged outcome = refl
brought_as (meanings.Judged call) None = brought_none call
brought_as (meanings.Judged call) (Some outcome) = brought_of call outcome

-- whether a call wrote at least one byte
pub brought_found : (found : Option RecordedCall)
    → option_map_or (λ a. writes_bytes a.0 a.1) (option_and_then (λ call. answered_with call.meaning call.outcome) found) false
    ≡ option_map_or brought_bytes (option_and_then storage_in found) false
brought_found None = refl
brought_found (Some call) = brought_as call.meaning call.outcome
