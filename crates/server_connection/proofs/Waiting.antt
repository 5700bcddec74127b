-- The records that wait are answered one after the other.
use Rattle.std.proofs.Common.{◌≡◌, ◌⊎◌, inl, inr, ℕ, ◌+◌, ◌<◌, List, [], ◌∷◌, ◌++◌, length, take, Option, refl, sym, ap, subst, ◌∙◌, arith, zero-add, append_assoc, append-nil}
use Rattle.std.proofs.lemmas.List.{length-append, length-map}
use Rattle.std.specs.Io.KnownBytes.{Appends}
use Rattle.xdr_records.specs.Record.{record_text}
use Rattle.xdr_records.specs.Feed.{TakesFirst}
use Rattle.nfs_tap.specs.Pumping.{frames}
use Rattle.program_streams.proofs.Fronts.{both as both_appended}
use Rattle.nfs_tap.proofs.Fronts.{none_appended}
use Rattle.server_passes.specs.PassValue.{ExchangeValue, PassValue}
use Rattle.server_connection.specs.declared.export.Export.{Export}
use Rattle.server_connection.specs.declared.end.StreamEnd.{StreamEnd}
use Rattle.server_connection.specs.declared.end.StreamEnd.TheVariants as ends
use Rattle.server_connection.specs.declared.intake.Intake.{Intake}
use Rattle.server_connection.specs.Serving.{messages, replies, IsToldOf, IsSent}
use Rattle.server_connection.specs.Steps.{IsStop, IsServed, IsUnanswered, IsHalfServed, Answers, Stops, IsEmptied}
use Rattle.server_connection.proofs.Answering.{messages-append, replies-append, frames_more, told_none, told_then, told_join, told_one, exchange, refused_sent, lost_sent, refused_stop, lost_stop}

-- some of them are answered
pub record HasAnswered (export : Export) (old now : Intake) (before after : PassValue) (held held' : Option (List ℕ)) : Type 0 where
  pub answers : List ExchangeValue
  pub parts : old.feed.waiting ≡ messages answers ++ now.feed.waiting
  pub rest : now.feed.rest ≡ old.feed.rest
  pub broken : now.feed.broken ≡ old.feed.broken
  pub count : old.left ≡ length answers + now.left
  pub told : IsToldOf export answers before after
  pub appended : Appends held held' (frames (replies answers))

pub none_answered : (export : Export) (intake : Intake) (pass : PassValue) (held : Option (List ℕ)) → HasAnswered export intake intake pass pass held held
none_answered export intake pass held = record { answers = []; parts = refl; rest = refl; broken = refl; count = sym (zero-add intake.left); told = told_none export pass; appended = none_appended held }

module _ (export : Export) (old now new : Intake) (content : List ℕ) (before mid after : PassValue) (held between held' : Option (List ℕ))
    (so_far : HasAnswered export old now before mid held between) (t : TakesFirst now.feed content new.feed) (counted : now.left ≡ new.left + 1) where
  ahead : old.feed.waiting ≡ messages so_far.answers ++ content ∷ new.feed.waiting
  ahead = so_far.parts ∙ ap (λ (xs : List (List ℕ)). messages so_far.answers ++ xs) t.waiting

  with_one : (reply : List ℕ) → old.feed.waiting ≡ messages (so_far.answers ++ exchange content reply ∷ []) ++ new.feed.waiting
  with_one reply = ahead ∙ sym (append_assoc (messages so_far.answers) (content ∷ []) new.feed.waiting)
      ∙ ap (λ (xs : List (List ℕ)). xs ++ new.feed.waiting) (sym (messages-append so_far.answers (exchange content reply ∷ [])))

  counted_one : (reply : List ℕ) → old.left ≡ length (so_far.answers ++ exchange content reply ∷ []) + new.left
  counted_one reply = omega (arith, so_far.count, counted, length-append so_far.answers (exchange content reply ∷ []))

  pub one_answered : IsServed export content mid after between held' → HasAnswered export old new before after held held'
  one_answered s =
      let one = exchange content s.reply in
      let text : frames (replies (so_far.answers ++ one ∷ [])) ≡ frames (replies so_far.answers) ++ record_text s.reply =
      frames_more so_far.answers (one ∷ []) ∙ ap (λ l. frames (replies so_far.answers) ++ l) (append-nil (record_text s.reply)) in
      record {
        answers = so_far.answers ++ one ∷ [];
        parts = with_one s.reply;
        rest = t.rest ∙ so_far.rest;
        broken = t.broken ∙ so_far.broken;
        count = counted_one s.reply;
        told = told_join export so_far.answers (one ∷ []) before mid after so_far.told (told_one export content s.reply mid after s.answered);
        appended = subst (Appends held held') (sym text) (both_appended held between held' (frames (replies so_far.answers)) (record_text s.reply) so_far.appended s.appended);
      }

  stops_unanswered : (end : StreamEnd) → IsUnanswered end content mid after between held' → Stops export end old.left old.feed.waiting before after held held'
  stops_unanswered end u = record {
    answers = so_far.answers;
    behind = content ∷ new.feed.waiting;
    parts = ahead;
    left = now.left;
    count = so_far.count;
    stop = subst (λ (e : StreamEnd). IsStop e now.left (content ∷ new.feed.waiting)) (sym u.is) (refused_stop u.fault now.left content new.feed.waiting u.stops);
    told = told_then export so_far.answers before mid after so_far.told u.kept;
    written = frames (replies so_far.answers);
    appended = subst (λ (h : Option (List ℕ)). Appends held h (frames (replies so_far.answers))) (sym u.same) so_far.appended;
    sent = subst (λ (e : StreamEnd). IsSent e (replies so_far.answers) (frames (replies so_far.answers))) (sym u.is) (refused_sent u.fault (replies so_far.answers));
  }

  stops_half : (end : StreamEnd) → IsHalfServed export end content mid after between held' → Stops export end old.left old.feed.waiting before after held held'
  stops_half end h =
      let one = exchange content h.reply in
      let written = frames (replies so_far.answers) ++ take h.unsent.count (record_text h.reply) in
      record {
        answers = so_far.answers ++ one ∷ [];
        behind = new.feed.waiting;
        parts = with_one h.reply;
        left = new.left;
        count = counted_one h.reply;
        stop = lost_stop end h.unsent.count new.left new.feed.waiting h.unsent.lost;
        told = told_join export so_far.answers (one ∷ []) before mid after so_far.told (told_one export content h.reply mid after h.answered);
        written = written;
        appended = both_appended held between held' (frames (replies so_far.answers)) (take h.unsent.count (record_text h.reply)) so_far.appended h.unsent.appended;
        sent = subst (λ (xs : List (List ℕ)). IsSent end xs written) (sym (replies-append so_far.answers (one ∷ [])))
            (lost_sent end h.unsent.count h.unsent.lost (replies so_far.answers) h.reply h.unsent.within);
      }

  -- there was no room for it
  pub stops_full : Stops export ends.Full old.left old.feed.waiting before mid held between
  stops_full = record {
    answers = so_far.answers;
    behind = content ∷ new.feed.waiting;
    parts = ahead;
    left = now.left;
    count = so_far.count;
    stop = tt;
    told = so_far.told;
    written = frames (replies so_far.answers);
    appended = so_far.appended;
    sent = refl;
  }

  pub stops_later : (end : StreamEnd) → IsUnanswered end content mid after between held' ⊎ IsHalfServed export end content mid after between held'
      → Stops export end old.left old.feed.waiting before after held held'
  stops_later end (inl u) = stops_unanswered end u
  stops_later end (inr h) = stops_half end h

module _ (export : Export) (old now : Intake) (before after : PassValue) (held held' : Option (List ℕ)) (so_far : HasAnswered export old now before after held held') where
  pub stops_at_bound : now.left ≡ 0 → Stops export ends.Bound old.left old.feed.waiting before after held held'
  stops_at_bound none = record {
    answers = so_far.answers;
    behind = now.feed.waiting;
    parts = so_far.parts;
    left = now.left;
    count = so_far.count;
    stop = none;
    told = so_far.told;
    written = frames (replies so_far.answers);
    appended = so_far.appended;
    sent = refl;
  }

  whole : now.feed.waiting ≡ [] → old.feed.waiting ≡ messages so_far.answers
  whole none = so_far.parts ∙ ap (λ (xs : List (List ℕ)). messages so_far.answers ++ xs) none ∙ append-nil (messages so_far.answers)

  pub all_answered : now.feed.waiting ≡ [] → Answers export old.feed.waiting before after held held'
  all_answered none = record { answers = so_far.answers; are = whole none; told = so_far.told; appended = so_far.appended }

  pub all_emptied : now.feed.waiting ≡ [] → 0 < now.left → IsEmptied old now
  all_emptied none more =
      let size : length old.feed.waiting ≡ length so_far.answers = ap (λ (xs : List (List ℕ)). length xs) (whole none) ∙ length-map so_far.answers (λ (x : ExchangeValue). x.message) in
      record { waiting = none; rest = so_far.rest; broken = so_far.broken; count = omega (arith, size, so_far.count); more = more }
