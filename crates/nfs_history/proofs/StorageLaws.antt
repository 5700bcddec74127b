-- What a history says of a call without its bytes is what is read of its messages.
use Rattle.std.proofs.Common.{◌≡◌, ℕ, true, false, List, Option, Some, None, Result, Ok, Err, refl, sym, ◌∙◌}
use Rattle.xdr_records.specs.Unread.{At}
use Rattle.xdr_records.proofs.Laws.{all_found}
use Rattle.rpc_reader.specs.Values.{CallValue, Body}
use Rattle.rpc_reader.specs.Messages.{IsCall}
use Rattle.nfs3_types.specs.declared.calls.NfsCall.{NfsCall}
use Rattle.nfs3_types.specs.declared.calls.NfsCall.TheVariants as calls
use Rattle.nfs3_types.specs.declared.replies.Outcome.{Outcome}
use Rattle.nfs3_types.specs.Procedures.{procedure_called}
use Rattle.nfs3_msgs.specs.nfs3_values_specs.declared.fault.Kind.{Kind}
use Rattle.nfs3_msgs.specs.nfs3_values_specs.Told as told
use Rattle.nfs3_msgs.specs.Messages.{arguments, arguments_of, result_of}
use Rattle.nfs_history.specs.declared.recorded.Meaning.{Meaning}
use Rattle.nfs_history.specs.declared.recorded.Meaning.TheVariants as meanings
use Rattle.nfs_history.specs.Calls.{CallEvent}
use Rattle.nfs_history.specs.Effects.{Says, results_of, has_no_effect}
use Rattle.nfs_history.specs.Reread.{asked_from, came_from, came_out, meaning_in, outcome_in, known_call}
use Rattle.nfs_history.specs.Storage.{storage_as, storage_in, brought_as, brought_in}
use Rattle.nfs_history.proofs.AskedProcedure.{procedure_is}
use Rattle.nfs_history.proofs.Rereading.{head_again, body_again}

without_outcome_of : (call : NfsCall) → storage_as (meanings.Judged call) None ≡ None
without_outcome_of (calls.GetAttr a) = refl
without_outcome_of (calls.SetAttr a) = refl
without_outcome_of (calls.Lookup a) = refl
without_outcome_of (calls.ReadLink a) = refl
without_outcome_of (calls.Read a) = refl
without_outcome_of (calls.Write a) = refl
without_outcome_of (calls.Create a) = refl
without_outcome_of (calls.MkDir a) = refl
without_outcome_of (calls.SymLink a) = refl
without_outcome_of (calls.Remove a) = refl
without_outcome_of (calls.RmDir a) = refl
without_outcome_of (calls.Rename a) = refl
without_outcome_of (calls.ReadDir a) = refl
without_outcome_of (calls.ReadDirPlus a) = refl
without_outcome_of (calls.Commit a) = refl

without_outcome : (meaning : Meaning) → storage_as meaning None ≡ None
without_outcome meanings.Unjudged = refl
without_outcome (meanings.Judged call) = without_outcome_of call

-- a call of another procedure says nothing
neither : (call : NfsCall) (outcome : Option Outcome) → (procedure_called call ≡ 7 → ⊥) → (procedure_called call ≡ 21 → ⊥) → storage_as (meanings.Judged call) outcome ≡ None
neither (calls.GetAttr a) outcome write commit = refl
neither (calls.SetAttr a) outcome write commit = refl
neither (calls.Lookup a) outcome write commit = refl
neither (calls.ReadLink a) outcome write commit = refl
neither (calls.Read a) outcome write commit = refl
neither (calls.Write a) outcome write commit = absurd (write refl)
neither (calls.Create a) outcome write commit = refl
neither (calls.MkDir a) outcome write commit = refl
neither (calls.SymLink a) outcome write commit = refl
neither (calls.Remove a) outcome write commit = refl
neither (calls.RmDir a) outcome write commit = refl
neither (calls.Rename a) outcome write commit = refl
neither (calls.ReadDir a) outcome write commit = refl
neither (calls.ReadDirPlus a) outcome write commit = refl
neither (calls.Commit a) outcome write commit = absurd (commit refl)

none_brought : (call : NfsCall) → (procedure_called call ≡ 7 → ⊥) → brought_as (meanings.Judged call) ≡ None
none_brought (calls.GetAttr a) write = refl
none_brought (calls.SetAttr a) write = refl
none_brought (calls.Lookup a) write = refl
none_brought (calls.ReadLink a) write = refl
none_brought (calls.Read a) write = refl
none_brought (calls.Write a) write = absurd (write refl)
none_brought (calls.Create a) write = refl
none_brought (calls.MkDir a) write = refl
none_brought (calls.SymLink a) write = refl
none_brought (calls.Remove a) write = refl
none_brought (calls.RmDir a) write = refl
none_brought (calls.Rename a) write = refl
none_brought (calls.ReadDir a) write = refl
none_brought (calls.ReadDirPlus a) write = refl
none_brought (calls.Commit a) write = refl

module _ (procedure : ℕ) (bytes : List ℕ) where
  its : (call : NfsCall) → arguments_of procedure bytes ≡ Ok call → procedure ≡ procedure_called call
  its call is = procedure_is procedure bytes call (all_found told.kind_of (arguments procedure) bytes call is)

  neither_read : (read : Result NfsCall (At Kind)) (outcome : Option Outcome) → arguments_of procedure bytes ≡ read → (procedure ≡ 7 → ⊥) → (procedure ≡ 21 → ⊥)
      → storage_as (asked_from read) outcome ≡ None
  neither_read (Ok call) outcome is write commit = neither call outcome (λ e. write (its call is ∙ e)) (λ e. commit (its call is ∙ e))
  neither_read (Err fault) outcome is write commit = refl

  none_read : (read : Result NfsCall (At Kind)) → arguments_of procedure bytes ≡ read → (procedure ≡ 7 → ⊥) → brought_as (asked_from read) ≡ None
  none_read (Ok call) is write = none_brought call (λ e. write (its call is ∙ e))
  none_read (Err fault) is write = refl

module _ (event : CallEvent) (head : CallValue) (body : Option Body) (call : IsCall event.message head) (reply : Says event.answer body) where
  known_storage : storage_in (known_call event) ≡ storage_as (meaning_in head body) (outcome_in head body)
  unfolding known_call
  known_storage = rw (head_again event.message head call, body_again event.answer body reply) refl

  known_brought : brought_in (known_call event) ≡ brought_as (meaning_in head body)
  unfolding known_call
  known_brought = rw (head_again event.message head call, body_again event.answer body reply) refl

  pub no_effect_stored : has_no_effect head body ≡ true → None ≡ storage_in (known_call event)
  no_effect_stored none = sym (known_storage ∙ rw none refl)

  pub no_effect_brought : has_no_effect head body ≡ true → None ≡ brought_in (known_call event)
  no_effect_brought none = sym (known_brought ∙ rw none refl)

  stored : has_no_effect head body ≡ false → storage_in (known_call event) ≡ storage_as (asked_from (arguments_of head.procedure head.args)) (came_out head.procedure (results_of body))
  stored some = known_storage ∙ rw some refl

  brought : has_no_effect head body ≡ false → brought_in (known_call event) ≡ brought_as (asked_from (arguments_of head.procedure head.args))
  brought some = known_brought ∙ rw some refl

  pub no_result_stored : has_no_effect head body ≡ false → results_of body ≡ None → None ≡ storage_in (known_call event)
  no_result_stored some none = sym (stored some ∙ rw none (without_outcome (asked_from (arguments_of head.procedure head.args))))

  module _ (some : has_no_effect head body ≡ false) where
    pub result_stored : (results : List ℕ) (procedure : ℕ) → results_of body ≡ Some results → head.procedure ≡ procedure
        → storage_as (asked_from (arguments_of procedure head.args)) (came_from (result_of procedure results)) ≡ storage_in (known_call event)
    result_stored results procedure here is = sym (stored some ∙ rw (here, is) refl)

    pub other_stored : (head.procedure ≡ 7 → ⊥) → (head.procedure ≡ 21 → ⊥) → None ≡ storage_in (known_call event)
    other_stored write commit = sym (stored some ∙ neither_read head.procedure head.args (arguments_of head.procedure head.args) (came_out head.procedure (results_of body)) refl write commit)

    pub write_brought : head.procedure ≡ 7 → brought_as (asked_from (arguments_of 7 head.args)) ≡ brought_in (known_call event)
    write_brought is = sym (brought some ∙ rw is refl)

    pub other_brought : (head.procedure ≡ 7 → ⊥) → None ≡ brought_in (known_call event)
    other_brought write = sym (brought some ∙ none_read head.procedure head.args (arguments_of head.procedure head.args) refl write)
