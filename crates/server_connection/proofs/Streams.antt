-- A stream is read piece by piece, and its whole records are answered.
use Rattle.std.proofs.Common.{◌≡◌, inl, ℕ, ◌+◌, ◌<◌, List, [], ◌++◌, length, Option, Result, Ok, Err, refl, sym, ap, subst, ◌∙◌, arith, zero-add, append_assoc}
use Rattle.std.proofs.lemmas.List.{length-append, length-map}
use Rattle.std.specs.Io.KnownBytes.{Appends, Consumes}
use Rattle.xdr_records.specs.declared.fault.FeedFault.{FeedFault}
use Rattle.xdr_records.specs.declared.fault.FeedFault.TheVariants as feed_faults
use Rattle.xdr_records.specs.Record.{AreRecords, IsUnfinished, IsTooLong, IsSplit}
use Rattle.xdr_records.specs.Feed.{Feed, fresh}
use Rattle.xdr_records.proofs.Splitting.{unfinished_none, split_join}
use Rattle.nfs_tap.specs.Pumping.{frames}
use Rattle.program_streams.proofs.Fronts.{both as both_appended}
use Rattle.nfs_tap.proofs.Fronts.{none_appended, none_consumed}
use Rattle.nfs_tap.proofs.Forwarding.{HasFed, grown_all, broken_all, fed_split, split}
use Rattle.server_passes.specs.PassValue.{ExchangeValue, PassValue}
use Rattle.server_connection.specs.declared.export.Export.{Export}
use Rattle.server_connection.specs.declared.end.StreamEnd.{StreamEnd}
use Rattle.server_connection.specs.declared.end.StreamEnd.TheVariants as ends
use Rattle.server_connection.specs.declared.intake.Intake.{Intake}
use Rattle.server_connection.specs.Serving.{messages, replies, IsToldOf, IsSent, Behind, EndsIn, Serves}
use Rattle.server_connection.specs.Steps.{Answers, Stops, IsReady, IsEmptied, Takes}
use Rattle.server_connection.proofs.Answering.{messages-append, replies-append, frames_more, told_none, told_join, sent_behind, stop_behind}
use Rattle.program_streams.proofs.Pieces.{consumed_both}

-- ---- a piece of the stream

module _ (export : Export) (old : Feed) (piece : List ℕ) (new : Feed) (before after : PassValue) (held held' : Option (List ℕ)) where
  -- it ended while the records were answered
  pub stopped_in : {X : Type 0} (r : Result X FeedFault) (end : StreamEnd) (most : ℕ) → HasFed r old piece new → Stops export end most new.waiting before after held held'
      → EndsIn export end most (old.rest ++ piece) before after held held'
  stopped_in r end most fed s =
      let some = fed_split r old piece new fed in
      let whole = some.1 in
      let first = split (messages s.answers) s.behind whole.front (subst (λ (xs : List (List ℕ)). AreRecords xs whole.front) s.parts whole.whole) in
      record {
        answers = s.answers;
        left = s.left;
        count = s.count;
        rest = first.back ++ some.0;
        split = record {
          front = first.front;
          parts = whole.parts ∙ ap (λ l. l ++ some.0) first.parts ∙ append_assoc first.front first.back some.0;
          whole = first.first;
          left = stop_behind end s.left s.behind first.back some.0 s.stop first.others;
        };
        told = s.told;
        written = s.written;
        appended = s.appended;
        sent = s.sent;
      }

  counted : (a : Answers export new.waiting before after held held') (most left : ℕ) → most ≡ length new.waiting + left → most ≡ length a.answers + left
  counted a most left count =
      let size : length new.waiting ≡ length a.answers = ap (λ (xs : List (List ℕ)). length xs) a.are ∙ length-map a.answers (λ (x : ExchangeValue). x.message) in
      omega (arith, size, count)

  -- it ended behind them
  ended_at : (end : StreamEnd) (a : Answers export new.waiting before after held held') (most left : ℕ) (rest : List ℕ) → most ≡ length new.waiting + left
      → IsSplit (Behind end left) (old.rest ++ piece) new.waiting rest → IsSent end (replies a.answers) (frames (replies a.answers)) → EndsIn export end most (old.rest ++ piece) before after held held'
  ended_at end a most left rest count split sent = record {
    answers = a.answers;
    left = left;
    count = counted a most left count;
    rest = rest;
    split = subst (λ (xs : List (List ℕ)). IsSplit (Behind end left) (old.rest ++ piece) xs rest) a.are split;
    told = a.told;
    written = frames (replies a.answers);
    appended = a.appended;
    sent = sent;
  }

  pub too_long_in : {X : Type 0} (most left : ℕ) → HasFed {X = X} (Err feed_faults.RecordTooLong) old piece new → Answers export new.waiting before after held held' → most ≡ length new.waiting + left
      → EndsIn export ends.RecordTooLong most (old.rest ++ piece) before after held held'
  too_long_in most left fed a count =
      let b = fed.too_long refl in
      ended_at ends.RecordTooLong a most left b.stop count
      (subst (λ (xs : List (List ℕ)). IsSplit IsTooLong (old.rest ++ piece) xs b.stop) (sym (broken_all old piece new fed.idle b)) b.split) refl

  pub no_memory_in : {X : Type 0} (most left : ℕ) → HasFed {X = X} (Err feed_faults.NoMemory) old piece new → Answers export new.waiting before after held held' → most ≡ length new.waiting + left
      → EndsIn export ends.NoMemory most (old.rest ++ piece) before after held held'
  no_memory_in {X = X} most left fed a count =
      let some = fed_split {X = X} (Err feed_faults.NoMemory) old piece new fed in
      ended_at ends.NoMemory a most left some.0 count some.1 (inl refl)

-- a piece was taken
pub grown_in : (export : Export) {X : Type 0} (x : X) (old now new : Intake) (piece : List ℕ) (before after : PassValue) (held held' : Option (List ℕ)) → HasFed (Ok x) old.feed piece now.feed → now.left ≡ old.left
    → Answers export now.feed.waiting before after held held' → IsEmptied now new → Takes export old piece new before after held held'
grown_in export x old now new piece before after held held' fed same a e =
    let g = fed.ok in
    let are : g.records ≡ messages a.answers = sym (grown_all old.feed piece now.feed fed.idle g) ∙ a.are in
    let split : IsSplit IsUnfinished (old.feed.rest ++ piece) (messages a.answers) now.feed.rest =
    subst (λ (xs : List (List ℕ)). IsSplit IsUnfinished (old.feed.rest ++ piece) xs now.feed.rest) are g.split in
    record {
      ready = record { idle = (e.waiting, e.broken ∙ g.still); more = e.more };
      answers = a.answers;
      count = sym same ∙ counted export old.feed piece now.feed before after held held' a now.left new.left e.count;
      split = subst (λ (l : List ℕ). IsSplit IsUnfinished (old.feed.rest ++ piece) (messages a.answers) l) (sym e.rest) split;
      told = a.told;
      appended = a.appended;
    }

-- ---- the whole stream

-- what was done so far
pub record HasServed (export : Export) (most : ℕ) (before after : PassValue) (left left' held held' : Option (List ℕ)) (intake : Intake) : Type 0 where
  pub read : List ℕ
  pub answers : List ExchangeValue
  pub count : most ≡ length answers + intake.left
  pub consumed : Consumes left left' read
  pub split : IsSplit IsUnfinished read (messages answers) intake.feed.rest
  pub told : IsToldOf export answers before after
  pub appended : Appends held held' (frames (replies answers))
  pub ready : IsReady intake

pub none_served : (export : Export) (pass : PassValue) (left held : Option (List ℕ)) (intake : Intake) → intake.feed ≡ fresh → 0 < intake.left → HasServed export intake.left pass pass left left held held intake
none_served export pass left held intake is more = record {
  read = [];
  answers = [];
  count = sym (zero-add intake.left);
  consumed = none_consumed left;
  split = record { front = []; parts = sym (ap (λ (f : Feed). f.rest) is); whole = refl; left = subst (λ (f : Feed). IsUnfinished f.rest) (sym is) (0, 0, unfinished_none) };
  told = told_none export pass;
  appended = none_appended held;
  ready = record { idle = (ap (λ (f : Feed). f.waiting) is, ap (λ (f : Feed). f.broken) is); more = more };
}

-- nothing was read
pub serves_none : (export : Export) (end : StreamEnd) (most : ℕ) (pass : PassValue) (left held : Option (List ℕ)) → Behind end most [] → IsSent end [] [] → Serves export end most pass pass left left held held
serves_none export end most pass left held behind sent = record {
  read = [];
  consumed = none_consumed left;
  ended = record {
    answers = [];
    left = most;
    count = sym (zero-add most);
    rest = [];
    split = record { front = []; parts = refl; whole = refl; left = behind };
    told = told_none export pass;
    written = [];
    appended = none_appended held;
    sent = sent;
  };
}

module _ (export : Export) (most : ℕ) (before mid : PassValue) (left unread held between : Option (List ℕ)) (intake : Intake) (so_far : HasServed export most before mid left unread held between intake) where
  -- a read that gave nothing
  pub served_still : (left' : Option (List ℕ)) → ((bytes : List ℕ) → Consumes left unread bytes → Consumes left left' bytes) → HasServed export most before mid left left' held between intake
  served_still left' still = record {
    read = so_far.read;
    answers = so_far.answers;
    count = so_far.count;
    consumed = still so_far.read so_far.consumed;
    split = so_far.split;
    told = so_far.told;
    appended = so_far.appended;
    ready = so_far.ready;
  }

  -- a piece more
  pub served_more : (after : PassValue) (left' held' : Option (List ℕ)) (new : Intake) (piece : List ℕ) → Consumes unread left' piece → Takes export intake piece new mid after between held'
      → HasServed export most before after left left' held held' new
  served_more after left' held' new piece gave t = record {
    read = so_far.read ++ piece;
    answers = so_far.answers ++ t.answers;
    count = omega (arith, so_far.count, t.count, length-append so_far.answers t.answers);
    consumed = consumed_both left unread left' so_far.read piece so_far.consumed gave;
    split = subst (λ (xs : List (List ℕ)). IsSplit IsUnfinished (so_far.read ++ piece) xs new.feed.rest) (sym (messages-append so_far.answers t.answers))
        (split_join IsUnfinished IsUnfinished so_far.read piece intake.feed.rest new.feed.rest (messages so_far.answers) (messages t.answers) so_far.split t.split);
    told = told_join export so_far.answers t.answers before mid after so_far.told t.told;
    appended = subst (Appends held held') (sym (frames_more so_far.answers t.answers))
        (both_appended held between held' (frames (replies so_far.answers)) (frames (replies t.answers)) so_far.appended t.appended);
    ready = t.ready;
  }

  -- it ended within a piece
  pub serves_within : (end : StreamEnd) (after : PassValue) (left' held' : Option (List ℕ)) (piece : List ℕ) → Consumes unread left' piece
      → EndsIn export end intake.left (intake.feed.rest ++ piece) mid after between held' → Serves export end most before after left left' held held'
  serves_within end after left' held' piece gave e = record {
    read = so_far.read ++ piece;
    consumed = consumed_both left unread left' so_far.read piece so_far.consumed gave;
    ended = record {
      answers = so_far.answers ++ e.answers;
      left = e.left;
      count = omega (arith, so_far.count, e.count, length-append so_far.answers e.answers);
      rest = e.rest;
      split = subst (λ (xs : List (List ℕ)). IsSplit (Behind end e.left) (so_far.read ++ piece) xs e.rest) (sym (messages-append so_far.answers e.answers))
          (split_join IsUnfinished (Behind end e.left) so_far.read piece intake.feed.rest e.rest (messages so_far.answers) (messages e.answers) so_far.split e.split);
      told = told_join export so_far.answers e.answers before mid after so_far.told e.told;
      written = frames (replies so_far.answers) ++ e.written;
      appended = both_appended held between held' (frames (replies so_far.answers)) e.written so_far.appended e.appended;
      sent = subst (λ (xs : List (List ℕ)). IsSent end xs (frames (replies so_far.answers) ++ e.written)) (sym (replies-append so_far.answers e.answers))
          (sent_behind end (replies so_far.answers) (replies e.answers) e.written e.sent);
    };
  }

  -- it ended behind a whole piece
  pub serves_behind : (end : StreamEnd) → (IsUnfinished intake.feed.rest → Behind end intake.left intake.feed.rest) → ((given : List (List ℕ)) → IsSent end given (frames given))
      → Serves export end most before mid left unread held between
  serves_behind end may sent = record {
    read = so_far.read;
    consumed = so_far.consumed;
    ended = record {
      answers = so_far.answers;
      left = intake.left;
      count = so_far.count;
      rest = intake.feed.rest;
      split = record { front = so_far.split.front; parts = so_far.split.parts; whole = so_far.split.whole; left = may so_far.split.left };
      told = so_far.told;
      written = frames (replies so_far.answers);
      appended = so_far.appended;
      sent = sent (replies so_far.answers);
    };
  }
