-- What a pass knows of answers, and what is written of replies, one after the other.
use Rattle.std.proofs.Common.{◌≡◌, inl, inr, ℕ, ◌≤◌, List, [], ◌∷◌, ◌++◌, length, take, refl, sym, ap, subst, ◌∙◌, append_assoc, append-nil}
use Rattle.std.proofs.lemmas.List.{map-append}
use Rattle.xdr_records.specs.Record.{AreRecords, record_text}
use Rattle.nfs_tap.specs.Pumping.{frames}
use Rattle.server_passes.specs.PassValue.{ExchangeValue, PassValue}
use Rattle.journal_server.specs.declared.fault.CallFault.{CallFault}
use Rattle.journal_server.specs.declared.fault.CallFault.TheVariants as faults
use Rattle.journal_server.specs.Passing.{MayStop, IsAsBefore}
use Rattle.server_connection.specs.declared.export.Export.{Export}
use Rattle.server_connection.specs.declared.end.StreamEnd.{StreamEnd}
use Rattle.server_connection.specs.declared.end.StreamEnd.TheVariants as ends
use Rattle.server_connection.specs.Serving.{messages, replies, AreNoted, IsToldOf, IsCutShort, IsWithoutLast, IsSent, Behind}
use Rattle.server_connection.specs.Steps.{end_of, IsLost, IsStop, IsAnsweredBy}

pub messages-append : (xs ys : List ExchangeValue) → messages (xs ++ ys) ≡ messages xs ++ messages ys
messages-append xs ys = map-append (λ (x : ExchangeValue). x.message) xs ys

pub replies-append : (xs ys : List ExchangeValue) → replies (xs ++ ys) ≡ replies xs ++ replies ys
replies-append xs ys = map-append (λ (x : ExchangeValue). x.reply) xs ys

pub frames-append : (xs ys : List (List ℕ)) → frames (xs ++ ys) ≡ frames xs ++ frames ys
frames-append [] ys = refl
frames-append (x ∷ xs) ys = ap (λ l. record_text x ++ l) (frames-append xs ys) ∙ sym (append_assoc (record_text x) (frames xs) (frames ys))

pub frames_more : (xs ys : List ExchangeValue) → frames (replies (xs ++ ys)) ≡ frames (replies xs) ++ frames (replies ys)
frames_more xs ys = ap frames (replies-append xs ys) ∙ frames-append (replies xs) (replies ys)

-- ---- the pass

noted_join : (export : Export) (xs ys noted more : List ExchangeValue) → AreNoted export xs noted → AreNoted export ys more → AreNoted export (xs ++ ys) (noted ++ more)
noted_join export [] ys noted more none behind = subst (λ (l : List ExchangeValue). AreNoted export ys (l ++ more)) (sym none) behind
noted_join export (x ∷ xs) ys noted more (inl p) behind = inl (p.0, noted_join export xs ys noted more p.1 behind)
noted_join export (x ∷ xs) ys noted more (inr p) behind =
    inr (p.0, (p.1.0 ++ more, ap (λ (l : List ExchangeValue). l ++ more) p.1.1, noted_join export xs ys p.1.0 more p.1.2 behind))

pub told_none : (export : Export) (pass : PassValue) → IsToldOf export [] pass pass
told_none export pass = record { lane = refl; noted = []; which = refl; behind = sym (append-nil pass.exchanges) }

pub told_then : (export : Export) (xs : List ExchangeValue) (a b c : PassValue) → IsToldOf export xs a b → IsAsBefore b c → IsToldOf export xs a c
told_then export xs a b c told kept = record { lane = kept.lane ∙ told.lane; noted = told.noted; which = told.which; behind = kept.same ∙ told.behind }

pub told_join : (export : Export) (xs ys : List ExchangeValue) (a b c : PassValue) → IsToldOf export xs a b → IsToldOf export ys b c → IsToldOf export (xs ++ ys) a c
told_join export xs ys a b c s t = record {
  lane = t.lane ∙ s.lane;
  noted = s.noted ++ t.noted;
  which = noted_join export xs ys s.noted t.noted s.which t.which;
  behind = t.behind ∙ ap (λ (l : List ExchangeValue). l ++ t.noted) s.behind ∙ append_assoc a.exchanges s.noted t.noted;
}

abbrev pub exchange : List ℕ → List ℕ → ExchangeValue
exchange message reply = record { message = message; reply = reply }

pub told_one : (export : Export) (message reply : List ℕ) (old new : PassValue) → IsAnsweredBy export old message reply new → IsToldOf export (exchange message reply ∷ []) old new
told_one export message reply old new (inl p) =
    subst (λ (pass : PassValue). IsToldOf export (exchange message reply ∷ []) old pass) (sym p.1)
    (record { lane = refl; noted = []; which = inl (p.0, refl); behind = sym (append-nil old.exchanges) })
told_one export message reply old new (inr p) =
    record { lane = p.1.lane; noted = exchange message reply ∷ []; which = inr (p.0, ([], refl, refl)); behind = p.1.behind }

-- ---- what was written

-- all of the replies, where a call was refused
pub refused_sent : (fault : CallFault) (given : List (List ℕ)) → IsSent (end_of fault) given (frames given)
refused_sent faults.BadRecord given = refl
refused_sent faults.Down given = refl
refused_sent (faults.EraOver now) given = refl
refused_sent faults.LaneClosed given = refl
refused_sent faults.XidInUse given = refl
refused_sent faults.NoMemory given = inl refl

-- a front of the last one
pub lost_sent : (end : StreamEnd) (count : ℕ) → IsLost end count → (whole : List (List ℕ)) (last : List ℕ) → count ≤ length (record_text last)
    → IsSent end (whole ++ last ∷ []) (frames whole ++ take count (record_text last))
lost_sent ends.WriteFault count lost whole last within = record { whole = whole; last = last; parts = refl; count = count; within = within; bytes = refl }
lost_sent ends.NoMemory count lost whole last within =
    inr (record { whole = whole; last = last; parts = refl; bytes = ap (λ n. frames whole ++ take n (record_text last)) lost ∙ append-nil (frames whole) })
lost_sent ends.End count lost whole last within = absurd lost
lost_sent ends.Bound count lost whole last within = absurd lost
lost_sent ends.Full count lost whole last within = absurd lost
lost_sent ends.ReadFault count lost whole last within = absurd lost
lost_sent ends.RecordTooLong count lost whole last within = absurd lost
lost_sent (ends.Refused fault) count lost whole last within = absurd lost

short_behind : (xs ys : List (List ℕ)) (written : List ℕ) → IsCutShort ys written → IsCutShort (xs ++ ys) (frames xs ++ written)
short_behind xs ys written s = record {
  whole = xs ++ s.whole;
  last = s.last;
  parts = ap (λ (l : List (List ℕ)). xs ++ l) s.parts ∙ sym (append_assoc xs s.whole (s.last ∷ []));
  count = s.count;
  within = s.within;
  bytes = ap (λ l. frames xs ++ l) s.bytes ∙ sym (append_assoc (frames xs) (frames s.whole) (take s.count (record_text s.last)))
      ∙ ap (λ l. l ++ take s.count (record_text s.last)) (sym (frames-append xs s.whole));
}

without_behind : (xs ys : List (List ℕ)) (written : List ℕ) → IsWithoutLast ys written → IsWithoutLast (xs ++ ys) (frames xs ++ written)
without_behind xs ys written s = record {
  whole = xs ++ s.whole;
  last = s.last;
  parts = ap (λ (l : List (List ℕ)). xs ++ l) s.parts ∙ sym (append_assoc xs s.whole (s.last ∷ []));
  bytes = ap (λ l. frames xs ++ l) s.bytes ∙ sym (frames-append xs s.whole);
}

whole_behind : (xs ys : List (List ℕ)) (written : List ℕ) → written ≡ frames ys → frames xs ++ written ≡ frames (xs ++ ys)
whole_behind xs ys written is = ap (λ l. frames xs ++ l) is ∙ sym (frames-append xs ys)

-- more replies, behind those that were written whole
pub sent_behind : (end : StreamEnd) (xs ys : List (List ℕ)) (written : List ℕ) → IsSent end ys written → IsSent end (xs ++ ys) (frames xs ++ written)
sent_behind ends.WriteFault xs ys written sent = short_behind xs ys written sent
sent_behind ends.NoMemory xs ys written (inl sent) = inl (whole_behind xs ys written sent)
sent_behind ends.NoMemory xs ys written (inr sent) = inr (without_behind xs ys written sent)
sent_behind ends.End xs ys written sent = whole_behind xs ys written sent
sent_behind ends.Bound xs ys written sent = whole_behind xs ys written sent
sent_behind ends.Full xs ys written sent = whole_behind xs ys written sent
sent_behind ends.ReadFault xs ys written sent = whole_behind xs ys written sent
sent_behind ends.RecordTooLong xs ys written sent = whole_behind xs ys written sent
sent_behind (ends.Refused fault) xs ys written sent = whole_behind xs ys written sent

-- ---- where it ended

pub refused_stop : (fault : CallFault) (left : ℕ) (x : List ℕ) (xs : List (List ℕ)) → MayStop x fault → IsStop (end_of fault) left (x ∷ xs)
refused_stop faults.BadRecord left x xs may = (may, λ same. cc)
refused_stop faults.Down left x xs may = (may, λ same. cc)
refused_stop (faults.EraOver now) left x xs may = (may, λ same. cc)
refused_stop faults.LaneClosed left x xs may = (may, λ same. cc)
refused_stop faults.XidInUse left x xs may = (may, λ same. cc)
refused_stop faults.NoMemory left x xs may = tt

pub lost_stop : (end : StreamEnd) (count left : ℕ) (records : List (List ℕ)) → IsLost end count → IsStop end left records
lost_stop ends.WriteFault count left records lost = tt
lost_stop ends.NoMemory count left records lost = tt
lost_stop ends.End count left records lost = absurd lost
lost_stop ends.Bound count left records lost = absurd lost
lost_stop ends.Full count left records lost = absurd lost
lost_stop ends.ReadFault count left records lost = absurd lost
lost_stop ends.RecordTooLong count left records lost = absurd lost
lost_stop (ends.Refused fault) count left records lost = absurd lost

refused_behind : (fault : CallFault) (left : ℕ) (records : List (List ℕ)) (bytes tail : List ℕ) → IsStop (ends.Refused fault) left records → AreRecords records bytes → Behind (ends.Refused fault) left (bytes ++ tail)
refused_behind fault left [] bytes tail stop are = absurd stop
refused_behind fault left (x ∷ xs) bytes tail stop are = record {
  message = x;
  front = are.front;
  back = are.back ++ tail;
  parts = ap (λ l. l ++ tail) are.parts ∙ append_assoc are.front are.back tail;
  whole = are.first;
  stops = stop.0;
  named = stop.1;
}

pub stop_behind : (end : StreamEnd) (left : ℕ) (records : List (List ℕ)) (bytes tail : List ℕ) → IsStop end left records → AreRecords records bytes → Behind end left (bytes ++ tail)
stop_behind ends.WriteFault left records bytes tail stop are = tt
stop_behind ends.NoMemory left records bytes tail stop are = tt
stop_behind ends.Bound left records bytes tail stop are = inl stop
stop_behind ends.Full left records bytes tail stop are = tt
stop_behind (ends.Refused fault) left records bytes tail stop are = refused_behind fault left records bytes tail stop are
stop_behind ends.End left records bytes tail stop are = absurd stop
stop_behind ends.ReadFault left records bytes tail stop are = absurd stop
stop_behind ends.RecordTooLong left records bytes tail stop are = absurd stop
