-- the record that a book keeps of a change reads as that change
use Rattle.tree_starts.specs.Start.{object_made}
use Rattle.std.proofs.Common.{◌≡◌, ℕ, zero, suc, ◌<◌, ◌≤◌, ◌^◌, true, false, List, [], ◌∷◌, length, map, None, refl, sym, ap, ◌∙◌, subst, arith}
use Rattle.std.specs.Prelude.{◌&&◌, not, is_none}
use Rattle.std.specs.List.{AllByRecursion}
use Rattle.xdr_records.specs.Spelling.{Spells}
use Rattle.xdr_records.specs.Record.{record_limit}
use Rattle.rpc_reader.specs.Values.{CallValue}
use Rattle.rpc_reader.proofs.OneMessage.{one_head}
use Rattle.nfs3_types.specs.declared.calls.NfsCall.{NfsCall}
use Rattle.nfs3_types.specs.declared.calls.NfsCall.TheVariants as calls
use Rattle.nfs3_types.specs.Procedures.{procedure_called, is_answered, failure_in, changes_the_tree}
use Rattle.nfs_history.specs.History.{IsCallOfNfs}
use Rattle.journal.specs.declared.change.Change.{Change}
use Rattle.journal.specs.Journal.{journal_record, IsChange, IsJournalRecord}
use Rattle.journal.proofs.Meanings.{spelled_so}
use Rattle.tree_laws.specs.Leaving.{only_looks}
use Rattle.tree_nodes.proofs.Chains.{both_pass, negated, none_is}
use Rattle.nfs_history.specs.Success.{succeeded}
use Rattle.nfs_history.proofs.AskedProcedure.{procedure_is}
use Rattle.book_laws.specs.Placing.{Placed, is_recorded}
use Rattle.book_laws.specs.Book.{Book}
use Rattle.book_laws.specs.Steps.{reply_message}
use Rattle.journal.specs.Rebuilding.{AreJournalRecords, step_in, object_in, IsNumbered}
use Rattle.book_laws.proofs.Recording.{IsKept, AreKept}

changing_called : (call : NfsCall) → only_looks call ≡ false → changes_the_tree (procedure_called call) ≡ true
changing_called (calls.GetAttr a) e = absurd (cc)
changing_called (calls.Lookup a) e = absurd (cc)
changing_called (calls.ReadLink a) e = absurd (cc)
changing_called (calls.Read a) e = absurd (cc)
changing_called (calls.ReadDir a) e = absurd (cc)
changing_called (calls.ReadDirPlus a) e = absurd (cc)
changing_called (calls.Commit a) e = absurd (cc)
changing_called (calls.SetAttr a) e = refl
changing_called (calls.Write a) e = refl
changing_called (calls.Create a) e = refl
changing_called (calls.MkDir a) e = refl
changing_called (calls.SymLink a) e = refl
changing_called (calls.Remove a) e = refl
changing_called (calls.RmDir a) e = refl
changing_called (calls.Rename a) e = refl

-- ---- a record

module _ (book : Book) (bytes : List ℕ) (step : Placed) (k : IsKept book bytes step) (recorded : is_recorded step ≡ true) where
  parts : (only_looks step.call ≡ false) × (failure_in k.reply ≡ None)
  parts =
      let told : (not (only_looks step.call) && (is_answered step.call k.reply && is_none (failure_in k.reply))) ≡ true = ap (λ o. not (only_looks step.call) && succeeded step.call o) (sym k.received) ∙ recorded in
      let first = both_pass (not (only_looks step.call)) (is_answered step.call k.reply && is_none (failure_in k.reply)) told in
      let second = both_pass (is_answered step.call k.reply) (is_none (failure_in k.reply)) first.1 in
      (negated (only_looks step.call) first.0, none_is (failure_in k.reply) second.1)

  -- the call that the reply answers
  of_nfs : IsCallOfNfs k.answers.head step.call
  of_nfs = subst (λ (head : CallValue). IsCallOfNfs head step.call) (one_head k.message k.recordable.head k.answers.head k.recordable.is_call k.answers.is_call) k.recordable.of_nfs

  low : (first n : ℕ) → object_made first n < 2 ^ 64 → n < 2 ^ 64
  low zero n lt = lt
  low (suc first) n lt = omega (arith, lt)

  limit : (n : ℕ) → n ≤ record_limit → n < 2 ^ 32
  limit n le = omega (arith, le)

  is_change : IsChange k.message (reply_message k.call.xid k.reply) step.call k.reply
  is_change = record {
    within = k.recordable.within;
    head = k.answers.head;
    asked = k.answers.is_call;
    of_nfs = of_nfs;
    changing = ap changes_the_tree (procedure_is k.answers.head.procedure k.answers.head.args step.call of_nfs.arguments) ∙ changing_called step.call parts.0;
    inside = k.recordable.inside;
    results = k.answers.results;
    answered = k.answers.is_reply;
    result = k.answers.is_result;
    succeeded = parts.1;
  }

  is_record : IsJournalRecord bytes (record { written = record { number = step.number; call = k.message; reply = reply_message k.call.xid k.reply }; call = step.call; reply = k.reply })
  is_record = record {
    spelled = subst (λ (xs : List ℕ). Spells journal_record xs (record { number = step.number; call = k.message; reply = reply_message k.call.xid k.reply })) (sym k.written)
        (spelled_so step.number k.message (reply_message k.call.xid k.reply) (low (length book.history.known.head.start) step.number k.numbered) (limit (length k.message) k.recordable.within) (limit (length (reply_message k.call.xid k.reply)) k.within));
    changed = is_change;
  }

-- ---- all records

pub record AreSaid (first : ℕ) (records : List (List ℕ)) (steps : List Placed) : Type 0 where
  pub changes : List Change
  pub are : AreJournalRecords records changes
  pub steps_are : map step_in changes ≡ steps
  pub numbers_are : map (object_in first) changes ≡ map (λ (step : Placed). object_made first step.number) steps
  pub numbered : AllByRecursion (IsNumbered first) changes

pub are_said : (book : Book) (records : List (List ℕ)) (steps : List Placed) → AreKept book records steps → AllByRecursion (λ step. is_recorded step ≡ true) steps → AreSaid (length book.history.known.head.start) records steps
are_said book [] [] k r = record { changes = []; are = tt; steps_are = refl; numbers_are = refl; numbered = tt }
are_said book [] (step ∷ steps) k r = absurd k
are_said book (bytes ∷ records) [] k r = absurd k
are_said book (bytes ∷ records) (step ∷ steps) k r =
    let rest = are_said book records steps k.1 r.1 in
    record {
      changes = record { written = record { number = step.number; call = k.0.message; reply = reply_message k.0.call.xid k.0.reply }; call = step.call; reply = k.0.reply } ∷ rest.changes;
      are = (is_record book bytes step k.0 r.0, rest.are);
      steps_are = λ i. record { number = step.number; call = step.call; outcome = sym k.0.received i } ∷ rest.steps_are i;
      numbers_are = ap (λ ns. object_made (length book.history.known.head.start) step.number ∷ ns) rest.numbers_are;
      numbered = (k.0.numbered, rest.numbered);
    }
