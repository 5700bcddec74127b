-- which messages are those of judged calls
use Rattle.std.proofs.Common.{◌≡◌, ℕ, true, false, List, Option, Some, None, Result, Ok, Err, refl, sym, ap, ◌∙◌, subst, arith}
use Rattle.std.specs.Prelude.{◌<◌, ◌≤◌, length, is_none, IfOk, IsOkAnd}
use Rattle.std.proofs.lemmas.Bool.{eqb-true, eq-eqb}
use Rattle.xdr_records.specs.Record.{record_limit}
use Rattle.rpc_reader.specs.declared.fault.RpcFault.{RpcFault}
use Rattle.rpc_reader.specs.declared.call.CallHead.{CallHead}
use Rattle.rpc_reader.specs.Values.{CallValue}
use Rattle.rpc_reader.specs.Messages.{IsCall}
use Rattle.rpc_reader.specs.Views.{call_value}
use Rattle.nfs3_types.specs.declared.calls.NfsCall.{NfsCall}
use Rattle.nfs3_msgs.specs.Messages.{IsArguments}
use Rattle.nfs_history.specs.Outside.{outside}
use Rattle.journal.specs.Exactly.{IsOnly, MeansNothing}
use Rattle.book_ledger.specs.declared.fault.BeginFault.{BeginFault}
use Rattle.book_ledger.specs.declared.fault.BeginFault.TheVariants as faults
use Rattle.book_laws.specs.Steps.{IsRecordable}
use Rattle.book_ledger.specs.Recordable.{CanBeRecorded, asks_judged, AsksJudged, IsKeptInside, AreKeptArguments, IsKeptAsked}
use Rattle.tree_nodes.proofs.Chains.{both_pass, differ}
use Rattle.journal.proofs.Meanings.{isnt_eq, eq_isnt, all_pass}

-- ---- the head

module _ (message : List ℕ) (r : Result CallHead RpcFault) (found : IfOk r (λ call. IsCall message (call_value call)))
    (only : (v : CallValue) → IsCall message v → IsOkAnd r (λ call. call_value call ≡ v)) where
  only_head : (head : CallHead) → r ≡ Ok head → (v : CallValue) → AsksJudged message v → v ≡ call_value head
  only_head head is v asks = sym (subst (λ (r : Result CallHead RpcFault). IsOkAnd r (λ call. call_value call ≡ v)) is (only v asks.asked))

  pub head_asks : (head : CallHead) → r ≡ Ok head → asks_judged (call_value head) ≡ true → IsOnly (AsksJudged message) (call_value head)
  head_asks head is asks = record {
    means = record { asked = subst (λ (r : Result CallHead RpcFault). IfOk r (λ call. IsCall message (call_value call))) is found; judged = asks };
    only = only_head head is;
  }

  pub head_asks_none : (head : CallHead) → r ≡ Ok head → asks_judged (call_value head) ≡ false → MeansNothing (AsksJudged message)
  head_asks_none head is none v asks = differ (asks_judged v) asks.judged (ap asks_judged (only_head head is v asks) ∙ none)

  pub no_head : (fault : RpcFault) → r ≡ Err fault → MeansNothing (AsksJudged message)
  no_head fault is v asks = subst (λ (r : Result CallHead RpcFault). IsOkAnd r (λ call. call_value call ≡ v)) is (only v asks.asked)

-- ---- the call

none_inside : (call : NfsCall) → is_none (outside call None) ≡ true → outside call None ≡ None
none_inside call is = go (outside call None) is where
  go : {X : Type 0} (o : Option X) → is_none o ≡ true → o ≡ None
  go None e = refl
  go (Some x) e = absurd (cc)

some_outside : (call : NfsCall) → is_none (outside call None) ≡ false → ¬ (outside call None ≡ None)
some_outside call is e = differ (is_none (outside call None)) (ap is_none e) is

pub inside_so : (call : NfsCall) → is_none (outside call None) ≡ true → IsKeptInside call (Ok call)
inside_so call is = (refl, none_inside call is)

pub outside_so : (call : NfsCall) → is_none (outside call None) ≡ false → IsKeptInside call (Err faults.BadRecord)
outside_so call is = some_outside call is

pub arguments_kept : (procedure : ℕ) (bytes : List ℕ) (call : NfsCall) → IsOnly (IsArguments procedure bytes) call → (r : Result NfsCall BeginFault) → IsKeptInside call r → AreKeptArguments procedure bytes r
arguments_kept procedure bytes call is (Ok kept) inside =
    (subst (IsArguments procedure bytes) (sym inside.0) is.means, subst (λ (c : NfsCall). outside c None ≡ None) (sym inside.0) inside.1)
arguments_kept procedure bytes call is (Err faults.BadRecord) out = λ other means inside. out (subst (λ (c : NfsCall). outside c None ≡ None) (is.only other means) inside)
arguments_kept procedure bytes call is (Err _) never = absurd never

-- ---- the message

module _ (message : List ℕ) where
  asks : (r : CanBeRecorded message) → AsksJudged message r.recordable.head
  asks r =
      let nfs = r.recordable.of_nfs in
      let head = r.recordable.head in
      record {
        asked = r.recordable.is_call;
        judged = all_pass _ _ _ _ (eq-eqb head.program 100003 nfs.program) (eq-eqb head.version 3 nfs.version) (isnt_eq head.flavor 6 nfs.credential) nfs.procedure;
      }

  pub too_long : record_limit < length message → ¬ CanBeRecorded message
  too_long over r = omega (arith, over, r.within)

  pub none_judged : MeansNothing (AsksJudged message) → ¬ CanBeRecorded message
  none_judged none r = none r.recordable.head (asks r)

  module _ (head : CallValue) (is : IsOnly (AsksJudged message) head) where
    record_so : (call : NfsCall) → IsArguments head.procedure head.args call → outside call None ≡ None → length message ≤ record_limit → IsRecordable message call
    record_so call arguments inside fits =
        let all = both_pass _ _ is.means.judged in
        let three = both_pass _ _ all.0 in
        let two = both_pass _ _ three.0 in
        record {
          within = fits;
          head = head;
          is_call = is.means.asked;
          of_nfs = record {
            program = eqb-true head.program 100003 two.0;
            version = eqb-true head.version 3 two.1;
            procedure = all.1;
            credential = eq_isnt head.flavor 6 three.1;
            arguments = arguments;
          };
          inside = inside;
        }

    no_record : ((call : NfsCall) → IsArguments head.procedure head.args call → ¬ (outside call None ≡ None)) → ¬ CanBeRecorded message
    no_record none r =
        none r.call (subst (λ (h : CallValue). IsArguments h.procedure h.args r.call) (is.only r.recordable.head (asks r)) r.recordable.of_nfs.arguments) r.recordable.inside

    pub kept_so : length message ≤ record_limit → (r : Result NfsCall BeginFault) → AreKeptArguments head.procedure head.args r → IsKeptAsked message r
    kept_so fits (Ok call) kept = record_so call kept.0 kept.1 fits
    kept_so fits (Err faults.BadRecord) none = no_record none
    kept_so fits (Err faults.NoMemory) none = none
    kept_so fits (Err _) never = absurd never
