-- what is read is the only meaning
use Rattle.std.proofs.Common.{◌≡◌, ◌≢◌, ◌⊎◌, inl, inr, ℕ, Bool, true, false, cond, Bor, List, Option, Some, None, Result, Ok, Err, refl, sym, ap, ◌∙◌, subst, arith}
use Rattle.std.specs.Prelude.{◌==◌, ◌&&◌, ◌||◌, ◌<◌, ◌≤◌, ◌^◌, not, length, IfOk, OnOk, IsOkAnd}
use Rattle.std.proofs.lemmas.Bool.{eqb-true, eq-eqb}
use Rattle.xdr_records.specs.Spelling.{Spells}
use Rattle.xdr_records.specs.Reading.{all_of}
use Rattle.xdr_records.specs.Record.{record_limit}
use Rattle.xdr_records.proofs.Answering.{answered_found, answered_only}
use Rattle.rpc_reader.specs.declared.fault.RpcFault.{RpcFault}
use Rattle.rpc_reader.specs.declared.call.CallHead.{CallHead}
use Rattle.rpc_reader.specs.declared.reply.ReplyHead.{ReplyHead}
use Rattle.rpc_reader.specs.Values.{CallValue, ReplyValue, Body}
use Rattle.rpc_reader.specs.Values.Body.{success}
use Rattle.rpc_reader.specs.Messages.{IsCall, IsReply}
use Rattle.rpc_reader.specs.Views.{call_value, reply_value}
use Rattle.nfs3_types.specs.declared.calls.NfsCall.{NfsCall}
use Rattle.nfs3_types.specs.declared.replies.NfsReply.{NfsReply}
use Rattle.nfs3_types.specs.Procedures.{failure_in, is_judged, changes_the_tree}
use Rattle.nfs3_values.specs.declared.fault.Kind.{Kind}
use Rattle.nfs3_values.specs.declared.fault.MessageFault.{MessageFault}
use Rattle.nfs3_values.specs.declared.fault.MessageFault.TheVariants as message_faults
use Rattle.nfs3_values.specs.Told.{kind_of, told, IsButForMemory}
use Rattle.nfs3_msgs.specs.Messages.{IsArguments, IsResult}
use Rattle.nfs_history.specs.Effects.{results_of}
use Rattle.nfs_history.specs.Matching.{bytes_of}
use Rattle.nfs_history.specs.Outside.{outside}
use Rattle.journal.specs.declared.record_fault.RecordFault.{RecordFault}
use Rattle.journal.specs.declared.record_fault.RecordFault.TheVariants.{NoRecord, NoMemory}
use Rattle.journal.specs.declared.text.JournalRecord.{JournalRecord}
use Rattle.journal.specs.declared.change.Change.{Change}
use Rattle.journal.specs.Exactly.{IsOnly, MeansNothing, Exactly, ExactlySeen}
use Rattle.journal.specs.Journal.{journal_record, record_text, RecordFits, IsChange, IsJournalRecord}
use Rattle.journal.specs.SpelledRecord.{record_spelled}
use Rattle.journal.specs.Parts.{asks_change, AsksChange, IsAsked, AreResults, IsSuccess, results_to}
use Rattle.tree_nodes.proofs.Chains.{both_pass, differ, same_some}

same_ok : {A E : Type 0} (x y : A) → ◌≡◌ {A = Result A E} (Ok x) (Ok y) → x ≡ y
same_ok x y e = cc

never : {A E : Type 0} (x : A) (e : E) → Ok x ≡ Err e → ⊥
never x e h = absurd (cc)

-- a fault of a part is one of the whole
pub fault_on : {A B : Type 0} (Part : A → Type 0) (Whole : B → Type 0) → (MeansNothing Part → MeansNothing Whole) → (fault : RecordFault) (r : Result A RecordFault) → r ≡ Err fault
    → Exactly Part r → Exactly Whole (Err fault)
fault_on {A} Part Whole nothing fault r is exact = go fault (subst (λ (r : Result A RecordFault). Exactly Part r) is exact) where
  go : (f : RecordFault) → Exactly Part (Err f) → Exactly Whole (Err f)
  go NoRecord none = nothing none
  go NoMemory h = tt

-- ---- bytes that a grammar spells

-- what an answer that is the only one says
module _ {A : Type 0} (Means : A → Type 0) (r : Result A MessageFault) (found : IfOk r Means) (only : (y : A) → Means y → IsButForMemory r (Ok y)) where
  pub only_one : (x : A) → r ≡ Ok x → IsOnly Means x
  only_one x is = record {
    means = subst (λ (r : Result A MessageFault). IfOk r Means) is found;
    only = λ y means. same_ok y x (subst (λ (r : Result A MessageFault). IsButForMemory r (Ok y)) is (only y means));
  }

  pub no_one : (at : ℕ) (kind : Kind) → r ≡ Err (message_faults.BadMessage at kind) → MeansNothing Means
  no_one at kind is y means = never y (record { at = at; kind = kind }) (subst (λ (r : Result A MessageFault). IsButForMemory r (Ok y)) is (only y means))

module _ (bytes : List ℕ) (r : Result JournalRecord MessageFault) (answers : IsButForMemory r (all_of kind_of journal_record bytes)) where
  pub record_found : IfOk r (Spells journal_record bytes)
  record_found = answered_found told (λ x. x) kind_of journal_record bytes r answers

  pub record_only : (y : JournalRecord) → Spells journal_record bytes y → IsButForMemory r (Ok y)
  record_only = answered_only told (λ x. x) kind_of journal_record bytes r answers

-- ---- a value that has to pass a test

module _ {A : Type 0} (Means : A → Type 0) (Passes : A → Type 0) (Both : A → Type 0) (both : (x : A) → Means x → Passes x → Both x) (means : (x : A) → Both x → Means x)
    (passes : (x : A) → Both x → Passes x) where
  pub passed_on : (x : A) → IsOnly Means x → (r : Result A RecordFault) → Exactly (λ y. (y ≡ x) × Passes y) r → Exactly Both r
  passed_on x is (Ok y) exact = record {
    means = both y (subst Means (sym exact.means.0) is.means) exact.means.1;
    only = λ z b. is.only z (means z b) ∙ sym exact.means.0;
  }
  passed_on x is (Err NoRecord) exact = λ z b. exact z (is.only z (means z b), passes z b)
  passed_on x is (Err NoMemory) exact = tt

  pub nothing_passes : MeansNothing Means → MeansNothing Both
  nothing_passes none z b = none z (means z b)

pub call_passes : (procedure : ℕ) (bytes : List ℕ) (call : NfsCall) → IsOnly (IsArguments procedure bytes) call → (r : Result NfsCall RecordFault)
    → Exactly (λ kept. (kept ≡ call) × (outside kept None ≡ None)) r → Exactly (IsAsked procedure bytes) r
call_passes procedure bytes =
    passed_on (IsArguments procedure bytes) (λ c. outside c None ≡ None) (IsAsked procedure bytes) (λ c a i. record { arguments = a; inside = i }) (λ c b. b.arguments) (λ c b. b.inside)

pub no_call : (procedure : ℕ) (bytes : List ℕ) → MeansNothing (IsArguments procedure bytes) → MeansNothing (IsAsked procedure bytes)
no_call procedure bytes =
    nothing_passes (IsArguments procedure bytes) (λ c. outside c None ≡ None) (IsAsked procedure bytes) (λ c a i. record { arguments = a; inside = i }) (λ c b. b.arguments) (λ c b. b.inside)

pub reply_passes : (procedure : ℕ) (bytes : List ℕ) (reply : NfsReply) → IsOnly (IsResult procedure bytes) reply → (r : Result NfsReply RecordFault)
    → Exactly (λ kept. (kept ≡ reply) × (failure_in kept ≡ None)) r → Exactly (IsSuccess procedure bytes) r
reply_passes procedure bytes =
    passed_on (IsResult procedure bytes) (λ c. failure_in c ≡ None) (IsSuccess procedure bytes) (λ c a i. record { result = a; succeeded = i }) (λ c b. b.result) (λ c b. b.succeeded)

pub no_reply : (procedure : ℕ) (bytes : List ℕ) → MeansNothing (IsResult procedure bytes) → MeansNothing (IsSuccess procedure bytes)
no_reply procedure bytes =
    nothing_passes (IsResult procedure bytes) (λ c. failure_in c ≡ None) (IsSuccess procedure bytes) (λ c a i. record { result = a; succeeded = i }) (λ c b. b.result) (λ c b. b.succeeded)

-- ---- a call's head

either_of : (a b : Bool) → (a || b) ≡ true → (a ≡ true) ⊎ (b ≡ true)
either_of true b e = inl refl
either_of false b e = inr e

-- a changing procedure is a judged one
changing_is_judged : (procedure : ℕ) → changes_the_tree procedure ≡ true → is_judged procedure ≡ true
changing_is_judged procedure e = last (either_of _ _ e) where
  at : (n : ℕ) → (procedure == n) ≡ true → is_judged n ≡ true → is_judged procedure ≡ true
  at n same judged = ap is_judged (eqb-true procedure n same) ∙ judged

  second : ((procedure == 2) ≡ true) ⊎ ((procedure == 7) ≡ true) → is_judged procedure ≡ true
  second (inl same) = at 2 same refl
  second (inr same) = at 7 same refl

  third : ((procedure == 2 || procedure == 7) ≡ true) ⊎ ((procedure == 8) ≡ true) → is_judged procedure ≡ true
  third (inl ahead) = second (either_of _ _ ahead)
  third (inr same) = at 8 same refl

  fourth : ((procedure == 2 || procedure == 7 || procedure == 8) ≡ true) ⊎ ((procedure == 9) ≡ true) → is_judged procedure ≡ true
  fourth (inl ahead) = third (either_of _ _ ahead)
  fourth (inr same) = at 9 same refl

  fifth : ((procedure == 2 || procedure == 7 || procedure == 8 || procedure == 9) ≡ true) ⊎ ((procedure == 10) ≡ true) → is_judged procedure ≡ true
  fifth (inl ahead) = fourth (either_of _ _ ahead)
  fifth (inr same) = at 10 same refl

  sixth : ((procedure == 2 || procedure == 7 || procedure == 8 || procedure == 9 || procedure == 10) ≡ true) ⊎ ((procedure == 12) ≡ true) → is_judged procedure ≡ true
  sixth (inl ahead) = fifth (either_of _ _ ahead)
  sixth (inr same) = at 12 same refl

  seventh : ((procedure == 2 || procedure == 7 || procedure == 8 || procedure == 9 || procedure == 10 || procedure == 12) ≡ true) ⊎ ((procedure == 13) ≡ true) → is_judged procedure ≡ true
  seventh (inl ahead) = sixth (either_of _ _ ahead)
  seventh (inr same) = at 13 same refl

  last : ((procedure == 2 || procedure == 7 || procedure == 8 || procedure == 9 || procedure == 10 || procedure == 12 || procedure == 13) ≡ true) ⊎ ((procedure == 14) ≡ true)
      → is_judged procedure ≡ true
  last (inl ahead) = seventh (either_of _ _ ahead)
  last (inr same) = at 14 same refl

module _ (message : List ℕ) (r : Result CallHead RpcFault) (found : IfOk r (λ call. IsCall message (call_value call)))
    (only : (v : CallValue) → IsCall message v → IsOkAnd r (λ call. call_value call ≡ v)) where
  only_head : (head : CallHead) → r ≡ Ok head → (v : CallValue) → AsksChange message v → v ≡ call_value head
  only_head head is v asks = sym (subst (λ (r : Result CallHead RpcFault). IsOkAnd r (λ call. call_value call ≡ v)) is (only v asks.asked))

  pub head_asks : (head : CallHead) → r ≡ Ok head → asks_change (call_value head) ≡ true → IsOnly (AsksChange message) (call_value head)
  head_asks head is asks = record {
    means = record { asked = subst (λ (r : Result CallHead RpcFault). IfOk r (λ call. IsCall message (call_value call))) is found; change = asks };
    only = only_head head is;
  }

  pub head_asks_none : (head : CallHead) → r ≡ Ok head → asks_change (call_value head) ≡ false → MeansNothing (AsksChange message)
  head_asks_none head is none v asks = differ (asks_change v) asks.change (ap asks_change (only_head head is v asks) ∙ none)

  pub no_head : (fault : RpcFault) → r ≡ Err fault → MeansNothing (AsksChange message)
  no_head fault is v asks = subst (λ (r : Result CallHead RpcFault). IsOkAnd r (λ call. call_value call ≡ v)) is (only v asks.asked)

-- ---- the results in a reply

none_some : {A : Type 0} (x : A) → ◌≡◌ {A = Option A} None (Some x) → ⊥
none_some x e = absurd (cc)

-- the results that a reply has are in that reply alone
in_body : (body : Body) (bytes : List ℕ) → results_of (Some body) ≡ Some bytes → body ≡ success bytes
in_body (success results) bytes e = ap success (same_some results bytes e)
in_body _ bytes e = absurd (cc)

in_reply : (xid : ℕ) (v : ReplyValue) (bytes : List ℕ) → results_to xid v ≡ Some bytes → v ≡ record { xid = xid; body = success bytes }
in_reply xid v bytes e = go (v.xid == xid) refl e where
  go : (b : Bool) → (v.xid == xid) ≡ b → cond b (results_of (Some v.body)) None ≡ Some bytes → v ≡ record { xid = xid; body = success bytes }
  go true same is = λ i. record { xid = eqb-true v.xid xid same i; body = in_body v.body bytes is i }
  go false other is = absurd (none_some bytes is)

of_reply : (xid : ℕ) (bytes : List ℕ) → results_to xid (record { xid = xid; body = success bytes }) ≡ Some bytes
of_reply xid bytes = ap (λ b. cond b (Some bytes) None) (eq-eqb xid xid refl)

module _ (xid : ℕ) (message : List ℕ) (r : Result ReplyHead RpcFault) (found : IfOk r (λ reply. IsReply message (reply_value reply)))
    (only : (v : ReplyValue) → IsReply message v → IsOkAnd r (λ reply. reply_value reply ≡ v)) where
  only_reply : (head : ReplyHead) → r ≡ Ok head → (y : List ℕ) → AreResults xid message y → results_to xid (reply_value head) ≡ Some y
  only_reply head is y means =
      ap (results_to xid)
      (subst (λ (r : Result ReplyHead RpcFault). IsOkAnd r (λ reply. reply_value reply ≡ record { xid = xid; body = success y })) is (only (record { xid = xid; body = success y }) means))
      ∙ of_reply xid y

  pub results_seen : (head : ReplyHead) → r ≡ Ok head → (o : Option (Bor (List ℕ))) → bytes_of o ≡ results_to xid (reply_value head)
      → ExactlySeen (λ bytes. bytes.now) (AreResults xid message) o
  results_seen head is (Some bytes) told = record {
    means = subst (λ (v : ReplyValue). IsReply message v) (in_reply xid (reply_value head) bytes.now (sym told))
        (subst (λ (r : Result ReplyHead RpcFault). IfOk r (λ reply. IsReply message (reply_value reply))) is found);
    only = λ y means. sym (same_some bytes.now y (told ∙ only_reply head is y means));
  }
  results_seen head is None told = λ y means. none_some y (told ∙ only_reply head is y means)

  pub no_reply_at_all : (fault : RpcFault) → r ≡ Err fault → MeansNothing (AreResults xid message)
  no_reply_at_all fault is y means =
      subst (λ (r : Result ReplyHead RpcFault). IsOkAnd r (λ reply. reply_value reply ≡ record { xid = xid; body = success y })) is (only (record { xid = xid; body = success y }) means)

-- ---- a change

pub isnt_eq : (n m : ℕ) → n ≢ m → not (n == m) ≡ true
isnt_eq n m other = go (n == m) refl where
  go : (b : Bool) → (n == m) ≡ b → not b ≡ true
  go true same = absurd (other (eqb-true n m same))
  go false apart = refl

pub eq_isnt : (n m : ℕ) → not (n == m) ≡ true → n ≢ m
eq_isnt n m e same = differ (not (n == m)) e (ap not (eq-eqb n m same))

pub all_pass : (a b c d : Bool) → a ≡ true → b ≡ true → c ≡ true → d ≡ true → (a && b && c && d) ≡ true
all_pass a b c d e f g h = λ i. e i && f i && g i && h i

module _ (call reply : List ℕ) where
  abbrev pub Changes : NfsCall × NfsReply → Type 0
  Changes c = IsChange call reply c.0 c.1

  asks : (c : NfsCall × NfsReply) → (change : Changes c) → AsksChange call change.head
  asks c change =
      let nfs = change.of_nfs in
      record {
        asked = change.asked;
        change =
            all_pass _ _ _ _ (eq-eqb change.head.program 100003 nfs.program) (eq-eqb change.head.version 3 nfs.version) (isnt_eq change.head.flavor 6 nfs.credential) change.changing;
      }

  pub too_long : record_limit < length call → MeansNothing Changes
  too_long over c change = omega (arith, over, change.within)

  pub none_asked : MeansNothing (AsksChange call) → MeansNothing Changes
  none_asked none c change = none change.head (asks c change)

  module _ (head : CallValue) (is : IsOnly (AsksChange call) head) where
    same_head : (c : NfsCall × NfsReply) → (change : Changes c) → change.head ≡ head
    same_head c change = is.only change.head (asks c change)

    in_results : (c : NfsCall × NfsReply) → (change : Changes c) → AreResults head.xid reply change.results
    in_results c change = subst (λ (h : CallValue). AreResults h.xid reply change.results) (same_head c change) change.answered

    pub none_answered : MeansNothing (AreResults head.xid reply) → MeansNothing Changes
    none_answered none c change = none change.results (in_results c change)

    asked_so : (c : NfsCall × NfsReply) → (change : Changes c) → IsAsked head.procedure head.args c.0
    asked_so c change = record { arguments = subst (λ (h : CallValue). IsArguments h.procedure h.args c.0) (same_head c change) change.of_nfs.arguments; inside = change.inside }

    pub no_call_asked : MeansNothing (IsAsked head.procedure head.args) → MeansNothing Changes
    no_call_asked none c change = none c.0 (asked_so c change)

    module _ (results : List ℕ) (there : IsOnly (AreResults head.xid reply) results) where
      answered_so : (c : NfsCall × NfsReply) → (change : Changes c) → IsSuccess head.procedure results c.1
      answered_so c change = record {
        result = subst (λ (bytes : List ℕ). IsResult head.procedure bytes c.1) (there.only change.results (in_results c change))
            (subst (λ (h : CallValue). IsResult h.procedure change.results c.1) (same_head c change) change.result);
        succeeded = change.succeeded;
      }

      pub no_success_answered : MeansNothing (IsSuccess head.procedure results) → MeansNothing Changes
      no_success_answered none c change = none c.1 (answered_so c change)

      pub changed_so : (asked : NfsCall) (answer : NfsReply) → length call ≤ record_limit → IsOnly (IsAsked head.procedure head.args) asked → IsOnly (IsSuccess head.procedure results) answer → IsOnly Changes (asked, answer)
      changed_so asked answer fits a b = record { means = made; only = λ c change. (λ i. (a.only c.0 (asked_so c change) i, b.only c.1 (answered_so c change) i)) } where
        made : Changes (asked, answer)
        made =
            let all = both_pass _ _ is.means.change in
            let three = both_pass _ _ all.0 in
            let two = both_pass _ _ three.0 in
            record {
              within = fits;
              head = head;
              asked = is.means.asked;
              of_nfs = record {
                program = eqb-true head.program 100003 two.0;
                version = eqb-true head.version 3 two.1;
                procedure = changing_is_judged head.procedure all.1;
                credential = eq_isnt head.flavor 6 three.1;
                arguments = a.means.arguments;
              };
              changing = all.1;
              inside = a.means.inside;
              results = results;
              answered = there.means;
              result = b.means.result;
              succeeded = b.means.succeeded;
            }

-- ---- a record

module _ (bytes : List ℕ) where
  pub no_text : MeansNothing (Spells journal_record bytes) → MeansNothing (IsJournalRecord bytes)
  no_text none c is = none c.written is.spelled

  module _ (written : JournalRecord) (only : IsOnly (Spells journal_record bytes) written) where
    its_change : (c : Change) → IsJournalRecord bytes c → Changes written.call written.reply (c.call, c.reply)
    its_change c is = subst (λ (w : JournalRecord). IsChange w.call w.reply c.call c.reply) (only.only c.written is.spelled) is.changed

    pub no_change : MeansNothing (Changes written.call written.reply) → MeansNothing (IsJournalRecord bytes)
    no_change none c is = none (c.call, c.reply) (its_change c is)

    pub whole_change : (call : NfsCall) (reply : NfsReply) → IsOnly (Changes written.call written.reply) (call, reply)
        → IsOnly (IsJournalRecord bytes) (record { written = written; call = call; reply = reply })
    whole_change call reply change = record {
      means = record { spelled = only.means; changed = change.means };
      only = λ c is.
          let same = change.only (c.call, c.reply) (its_change c is) in
          let text = only.only c.written is.spelled in
          (λ i. record { written = text i; call = (same i).0; reply = (same i).1 });
    }

    pub faulty_change : (a b : List ℕ) → a ≡ written.call → b ≡ written.reply → (fault : RecordFault) (r : Result (NfsCall × NfsReply) RecordFault) → r ≡ Err fault
        → Exactly (Changes a b) r → Exactly (IsJournalRecord bytes) (Err fault)
    faulty_change a b same_call same_reply fault r is exact =
        fault_on (Changes written.call written.reply) (IsJournalRecord bytes) no_change fault r is
        (subst (λ (x : List ℕ). Exactly (Changes x written.reply) r) same_call (subst (λ (y : List ℕ). Exactly (Changes a y) r) same_reply exact))

    pub its_whole_change : (a b : List ℕ) → a ≡ written.call → b ≡ written.reply → (call : NfsCall) (reply : NfsReply) → IsOnly (Changes a b) (call, reply)
        → IsOnly (IsJournalRecord bytes) (record { written = written; call = call; reply = reply })
    its_whole_change a b same_call same_reply call reply exact =
        whole_change call reply
        (subst (λ (x : List ℕ). IsOnly (Changes x written.reply) (call, reply)) same_call (subst (λ (y : List ℕ). IsOnly (Changes a y) (call, reply)) same_reply exact))

-- ---- what is written

pub spelled_so : (number : ℕ) (call reply : List ℕ) → number < 2 ^ 64 → length call < 2 ^ 32 → length reply < 2 ^ 32
    → Spells journal_record (record_text (record { number = number; call = call; reply = reply })) (record { number = number; call = call; reply = reply })
unfolding RecordFits
spelled_so number call reply a b d = record_spelled (record { number = number; call = call; reply = reply }) (a, b, d)

pub on_ok : {A E P : Type 0} (r : Result A E) → P → OnOk r P
on_ok (Ok x) h = h
on_ok (Err e) h = tt
