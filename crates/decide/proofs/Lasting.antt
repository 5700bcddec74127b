-- calls that no crash takes away
use Rattle.std.proofs.Common.{◌≡◌, inl, inr, ℕ, zero, suc, ◌+◌, ◌<◌, ◌≤◌, Bool, true, false, cond, List, [], ◌∷◌, ◌++◌, length, get_or, Some, None, refl, sym, ap, ◌∙◌, arith}
use Rattle.std.specs.Prelude.{slice_get}
use Rattle.std.proofs.lemmas.Bool.{cases_order, true≢false}
use Rattle.nfs3_types.specs.declared.calls.NfsCall.{NfsCall}
use Rattle.nfs3_types.specs.declared.calls.NfsCall.TheVariants as calls
use Rattle.nfs3_types.specs.declared.replies.Outcome.{Outcome}
use Rattle.nfs_history.specs.declared.recorded.RecordedCall.{RecordedCall}
use Rattle.nfs_history.specs.declared.knowing.KnownCalls.{KnownCalls}
use Rattle.nfs_history.specs.Precedence.{call_at}
use Rattle.nfs_history.specs.Success.{succeeded}
use Rattle.cut_check.specs.declared.effect.Effect.TheVariants.{Lasting, Nothing}
use Rattle.cut_check.specs.Effect.{is_synchronous, effect_of}
use Rattle.decision_walk.specs.decision_law_specs.NeverLost.{IsLasting, IsCommitted, IsShownLater, IsNeverLost, AreRight}
use Rattle.decision_walk.specs.Standing.{hints_of}
use Rattle.decide.specs.Marking.{Lasts, CommitsIt, ShowsIt, IsKept, AreNeverLost}

-- a change other than a WRITE, which succeeded
pub change_lasts : (call : NfsCall) (outcome : Outcome) → is_synchronous call ≡ true → succeeded call outcome ≡ true → effect_of None call outcome ≡ Lasting
change_lasts (calls.GetAttr object) outcome is fine = absurd (cc)
change_lasts (calls.SetAttr call) outcome is fine = ap (λ (b : Bool). cond b Lasting Nothing) fine
change_lasts (calls.Lookup place) outcome is fine = absurd (cc)
change_lasts (calls.ReadLink link) outcome is fine = absurd (cc)
change_lasts (calls.Read call) outcome is fine = absurd (cc)
change_lasts (calls.Write call) outcome is fine = absurd (cc)
change_lasts (calls.Create call) outcome is fine = ap (λ (b : Bool). cond b Lasting Nothing) fine
change_lasts (calls.MkDir call) outcome is fine = ap (λ (b : Bool). cond b Lasting Nothing) fine
change_lasts (calls.SymLink call) outcome is fine = ap (λ (b : Bool). cond b Lasting Nothing) fine
change_lasts (calls.Remove place) outcome is fine = ap (λ (b : Bool). cond b Lasting Nothing) fine
change_lasts (calls.RmDir place) outcome is fine = ap (λ (b : Bool). cond b Lasting Nothing) fine
change_lasts (calls.Rename call) outcome is fine = ap (λ (b : Bool). cond b Lasting Nothing) fine
change_lasts (calls.ReadDir call) outcome is fine = absurd (cc)
change_lasts (calls.ReadDirPlus call) outcome is fine = absurd (cc)
change_lasts (calls.Commit call) outcome is fine = absurd (cc)

-- what is marked so far
abbrev pub MarkedIn : List RecordedCall → List Bool → Type 0
MarkedIn calls marks = (k : ℕ) → get_or marks k false ≡ true → (recorded : RecordedCall) × (slice_get calls k ≡ Some recorded) × IsKept calls recorded

past_end : (marks : List Bool) (k : ℕ) → length marks ≤ k → get_or marks k false ≡ false
past_end [] k inside = refl
past_end (m ∷ marks) zero inside = absurd (omega (arith, inside))
past_end (m ∷ marks) (suc k) inside = past_end marks k (omega (arith, inside))

ahead_of_end : (marks : List Bool) (mark : Bool) (k : ℕ) → k < length marks → get_or (marks ++ mark ∷ []) k false ≡ get_or marks k false
ahead_of_end [] mark k inside = absurd (omega (arith, inside))
ahead_of_end (m ∷ marks) mark zero inside = refl
ahead_of_end (m ∷ marks) mark (suc k) inside = ahead_of_end marks mark k (omega (arith, inside))

at_end : (marks : List Bool) (mark : Bool) (k : ℕ) → k ≡ length marks → get_or (marks ++ mark ∷ []) k false ≡ mark
at_end [] mark zero is = refl
at_end [] mark (suc k) is = absurd (omega (arith, is))
at_end (m ∷ marks) mark zero is = absurd (omega (arith, is))
at_end (m ∷ marks) mark (suc k) is = at_end marks mark k (omega (arith, is))

length_more : (marks : List Bool) (mark : Bool) → length (marks ++ mark ∷ []) ≡ length marks + 1
length_more [] mark = refl
length_more (m ∷ marks) mark = let rest = length_more marks mark in omega (arith, rest)

pub one_marked : (calls : List RecordedCall) (marks : List Bool) (mark : Bool) (recorded : RecordedCall) → slice_get calls (length marks) ≡ Some recorded → (mark ≡ true → IsKept calls recorded)
    → MarkedIn calls marks → MarkedIn calls (marks ++ mark ∷ [])
one_marked calls marks mark recorded at lasts so_far k is = elim (cases_order k (length marks)) [
  | inl same ↦ (recorded, ap (slice_get calls) same ∙ at, lasts (sym (at_end marks mark k same) ∙ is))
  | inr other ↦ elim other [
    | inl ahead ↦ so_far k (sym (ahead_of_end marks mark k ahead) ∙ is)
    | inr behind ↦ absurd (true≢false (sym is ∙ past_end (marks ++ mark ∷ []) k (let more = length_more marks mark in omega (arith, behind, more))))
  ]
]

pub none_marked : (calls : List RecordedCall) → MarkedIn calls []
none_marked calls k is = absurd (true≢false (sym is))

module _ (known : KnownCalls) (n : ℕ) (recorded : RecordedCall) (stands : call_at known.calls n ≡ Some recorded) where
  lasting_call : Lasts recorded → IsLasting known n recorded
  lasting_call lasts = record {
    call = lasts.call;
    outcome = lasts.outcome;
    at = lasts.at;
    answered = record { stands = stands; judged = lasts.judged; answer = lasts.answer; ended = lasts.ended };
    lasting = lasts.lasting;
  }

  committed_call : (m : ℕ) (later : RecordedCall) → call_at known.calls m ≡ Some later → CommitsIt recorded later → IsCommitted known n recorded
  committed_call m later there it = record {
    later = m;
    behind = later;
    reaches = record {
      write = it.write;
      success = it.success;
      at = it.at;
      answered = record { stands = stands; judged = it.wrote.judged; answer = it.wrote.answer; ended = it.wrote.ended };
      commit = it.commit;
      commit_success = it.commit_success;
      commit_at = it.commit_at;
      commit_answered = record { stands = there; judged = it.committed_so.judged; answer = it.committed_so.answer; ended = it.committed_so.ended };
      same_file = it.same_file;
      byte = it.byte;
      was_written = it.reached.0;
      reached = it.reached.1;
    };
    same_era = it.same_era;
    sent_behind = it.sent_behind;
  }

  shown_call : (m : ℕ) (later : RecordedCall) → call_at known.calls m ≡ Some later → ShowsIt recorded later → IsShownLater known n recorded
  shown_call m later there it = record {
    write = it.write;
    success = it.success;
    at = it.at;
    answered = record { stands = stands; judged = it.wrote.judged; answer = it.wrote.answer; ended = it.wrote.ended };
    wrote = it.some;
    later = m;
    behind = later;
    call = it.call;
    outcome = it.outcome;
    later_at = it.later_at;
    later_answered = record { stands = there; judged = it.judged; answer = it.answer; ended = it.ended };
    later_era = it.later_era;
    shows = it.shows;
  }

  kept_call : IsKept known.calls recorded → IsNeverLost known n recorded
  kept_call (inl lasts) = inl (lasting_call lasts)
  kept_call (inr saved) = elim saved.1.1.1 [
    | inl commits ↦ inr (inl (committed_call saved.0 saved.1.0 saved.1.1.0 commits))
    | inr shows ↦ inr (inr (shown_call saved.0 saved.1.0 saved.1.1.0 shows))
  ]

pub all_kept : (known : KnownCalls) (marks : List Bool) → MarkedIn known.calls marks → AreNeverLost known marks
all_kept known marks marked zero is = absurd (true≢false (sym is))
all_kept known marks marked (suc n) is =
    let found = marked n is in
    (found.0, kept_call known (suc n) found.0 found.1 found.2)

-- what is told is right
pub are_right : (known : KnownCalls) (marks : List Bool) → AreNeverLost known marks → AreRight known (hints_of marks)
are_right known marks kept = record {
  never_lost = kept;
  saves = λ n m is. absurd (true≢false (sym is));
}
