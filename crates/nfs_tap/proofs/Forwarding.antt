-- Records that are forwarded one after the other.
use Rattle.std.proofs.Common.{◌≡◌, ℕ, ◌≤◌, false, List, [], ◌∷◌, ◌++◌, length, take, drop, Option, Result, Ok, Err, OnOk, IsErrOf, refl, sym, ap, subst, ◌∙◌, append_assoc, append-nil, take-append-drop}
use Rattle.std.specs.Io.KnownBytes.{Appends, Consumes}
use Rattle.xdr_records.specs.declared.fault.FeedFault.{FeedFault}
use Rattle.xdr_records.specs.declared.fault.FeedFault.TheVariants as feed_faults
use Rattle.xdr_records.specs.Record.{AreRecords, IsUnfinished, IsTooLong, IsSplit, record_text, record_limit}
use Rattle.xdr_records.specs.Feed.{Feed, fresh, Grows, Breaks, TakesFirst}
use Rattle.xdr_records.proofs.Splitting.{unfinished_none, split_join}
use Rattle.nfs_tap.specs.declared.pump.PumpEnd.{PumpEnd}
use Rattle.nfs_tap.specs.declared.pump.PumpEnd.TheVariants as ends
use Rattle.nfs_tap.specs.Pumping.{frames, Behind, IsAnywhere, IsWritten, IsForwarded, Pumps, AreWithinLimit, IsIdle, Stops}
use Rattle.program_streams.specs.Streams.{AppendsFront}
use Rattle.program_streams.proofs.Fronts.{both as both_appended}
use Rattle.nfs_tap.proofs.Fronts.{none_appended, none_consumed}
use Rattle.program_streams.proofs.Pieces.{consumed_both}

pub frames-append : (xs ys : List (List ℕ)) → frames (xs ++ ys) ≡ frames xs ++ frames ys
frames-append [] ys = refl
frames-append (x ∷ xs) ys = ap (λ l. record_text x ++ l) (frames-append xs ys) ∙ sym (append_assoc (record_text x) (frames xs) (frames ys))

-- all of a text is written
pub all_written : (end : PumpEnd) (text : List ℕ) → IsWritten end text text
all_written end text = record { lost = []; parts = sym (append-nil text); whole = λ _. refl }

-- more of it, behind what was written
pub written_behind : (end : PumpEnd) (xs ys : List (List ℕ)) (written : List ℕ) → IsWritten end (frames ys) written → IsWritten end (frames (xs ++ ys)) (frames xs ++ written)
written_behind end xs ys written w = record {
  lost = w.lost;
  parts = frames-append xs ys ∙ ap (λ l. frames xs ++ l) w.parts ∙ sym (append_assoc (frames xs) written w.lost);
  whole = w.whole;
}

-- ---- one record

-- it ended ahead of the record
pub stops_ahead : (end : PumpEnd) (held : Option (List ℕ)) (records : List (List ℕ)) → IsAnywhere end → Stops end held held records
stops_ahead end held records anywhere = record {
  front = [];
  behind = records;
  parts = refl;
  written = [];
  appended = none_appended held;
  sent = all_written end [];
  anywhere = anywhere;
}

-- want of memory may come anywhere
pub no_memory_anywhere : IsAnywhere ends.NoMemory
no_memory_anywhere = (λ same. cc, tt, λ rest. tt)

-- a write of the record failed
pub stops_within : (held held' : Option (List ℕ)) (content text : List ℕ) → text ≡ record_text content → AppendsFront held held' text → Stops ends.WriteFault held held' (content ∷ [])
stops_within held held' content text is f = record {
  front = content ∷ [];
  behind = [];
  parts = refl;
  written = take f.0 text;
  appended = f.2;
  sent = record {
    lost = drop f.0 text;
    parts = append-nil (record_text content) ∙ sym is ∙ sym (take-append-drop f.0 text);
    whole = λ other. absurd (other refl);
  };
  anywhere = (λ same. cc, tt, λ rest. tt);
}

-- ---- the records that wait

-- some of them are forwarded
pub record HasForwarded (held held' : Option (List ℕ)) (old new : Feed) : Type 0 where
  pub done : List (List ℕ)
  pub parts : old.waiting ≡ done ++ new.waiting
  pub appended : Appends held held' (frames done)
  pub rest : new.rest ≡ old.rest
  pub broken : new.broken ≡ old.broken
  pub within : AreWithinLimit new.waiting

first_within : (waiting : List (List ℕ)) (content : List ℕ) (others : List (List ℕ)) → waiting ≡ content ∷ others → AreWithinLimit waiting → (length content ≤ record_limit) × AreWithinLimit others
first_within waiting content others is within = subst AreWithinLimit is within

pub one_forwarded : (held mid held' : Option (List ℕ)) (old now new : Feed) (content : List ℕ) → HasForwarded held mid old now → TakesFirst now content new → Appends mid held' (record_text content)
    → HasForwarded held held' old new
one_forwarded held mid held' old now new content so_far t wrote =
    let text : frames (so_far.done ++ content ∷ []) ≡ frames so_far.done ++ record_text content =
    frames-append so_far.done (content ∷ []) ∙ ap (λ l. frames so_far.done ++ l) (append-nil (record_text content)) in
    record {
      done = so_far.done ++ content ∷ [];
      parts = so_far.parts ∙ ap (λ (xs : List (List ℕ)). so_far.done ++ xs) t.waiting ∙ sym (append_assoc so_far.done (content ∷ []) new.waiting);
      appended = subst (Appends held held') (sym text) (both_appended held mid held' (frames so_far.done) (record_text content) so_far.appended wrote);
      rest = t.rest ∙ so_far.rest;
      broken = t.broken ∙ so_far.broken;
      within = (first_within now.waiting content new.waiting t.waiting so_far.within).1;
    }

pub stops_later : (end : PumpEnd) (held mid held' : Option (List ℕ)) (old now new : Feed) (content : List ℕ) → HasForwarded held mid old now → TakesFirst now content new → Stops end mid held' (content ∷ [])
    → Stops end held held' old.waiting
stops_later end held mid held' old now new content so_far t s =
    let behind : content ∷ new.waiting ≡ s.front ++ (s.behind ++ new.waiting) = ap (λ (xs : List (List ℕ)). xs ++ new.waiting) s.parts ∙ append_assoc s.front s.behind new.waiting in
    record {
      front = so_far.done ++ s.front;
      behind = s.behind ++ new.waiting;
      parts = so_far.parts ∙ ap (λ (xs : List (List ℕ)). so_far.done ++ xs) (t.waiting ∙ behind) ∙ sym (append_assoc so_far.done s.front (s.behind ++ new.waiting));
      written = frames so_far.done ++ s.written;
      appended = both_appended held mid held' (frames so_far.done) s.written so_far.appended s.appended;
      sent = written_behind end so_far.done s.front s.written s.sent;
      anywhere = s.anywhere;
    }

-- ---- a piece of the stream

-- whatever stands behind
pub split_anyhow : (Rest : List ℕ → Type 0) (bytes : List ℕ) (records : List (List ℕ)) (rest : List ℕ) → IsSplit Rest bytes records rest → IsSplit (λ _. Unit {0}) bytes records rest
split_anyhow Rest bytes records rest split = record { front = split.front; parts = split.parts; whole = split.whole; left = tt }

-- what the feed told of a piece
pub record HasFed {X : Type 0} (r : Result X FeedFault) (old : Feed) (piece : List ℕ) (new : Feed) : Type 0 where
  pub idle : IsIdle old
  pub ok : OnOk r (Grows old piece new)
  pub too_long : IsErrOf r feed_faults.RecordTooLong → Breaks old piece new
  pub no_memory : IsErrOf r feed_faults.NoMemory → new ≡ old

-- from the clauses of a feed
pub has_fed : {X : Type 0} (r : Result X FeedFault) (old : Feed) (piece : List ℕ) (new : Feed) → IsIdle old → OnOk r (Grows old piece new)
    → (IsErrOf r feed_faults.RecordTooLong → old.broken ≡ false → Breaks old piece new) → (IsErrOf r feed_faults.NoMemory → (old.broken ≡ false) × (new ≡ old)) → HasFed r old piece new
has_fed r old piece new idle ok too_long no_memory = record { idle = idle; ok = ok; too_long = λ e. too_long e idle.1; no_memory = λ e. (no_memory e).1 }

pub grown_all : (old : Feed) (piece : List ℕ) (new : Feed) → IsIdle old → (g : Grows old piece new) → new.waiting ≡ g.records
grown_all old piece new idle g = g.waiting ∙ ap (λ (xs : List (List ℕ)). xs ++ g.records) idle.0

pub broken_all : (old : Feed) (piece : List ℕ) (new : Feed) → IsIdle old → (b : Breaks old piece new) → new.waiting ≡ b.records
broken_all old piece new idle b = ap (λ (f : Feed). f.waiting) b.now ∙ ap (λ (xs : List (List ℕ)). xs ++ b.records) idle.0

-- the records that wait stand in the piece
pub fed_split : {X : Type 0} (r : Result X FeedFault) (old : Feed) (piece : List ℕ) (new : Feed) → HasFed r old piece new → (rest : List ℕ) × IsSplit (λ _. Unit {0}) (old.rest ++ piece) new.waiting rest
fed_split (Ok x) old piece new fed =
    let g = fed.ok in
    (new.rest, subst (λ (xs : List (List ℕ)). IsSplit (λ _. Unit {0}) (old.rest ++ piece) xs new.rest) (sym (grown_all old piece new fed.idle g)) (split_anyhow IsUnfinished (old.rest ++ piece) g.records new.rest g.split))
fed_split (Err feed_faults.RecordTooLong) old piece new fed =
    let b = fed.too_long refl in
    (b.stop, subst (λ (xs : List (List ℕ)). IsSplit (λ _. Unit {0}) (old.rest ++ piece) xs b.stop) (sym (broken_all old piece new fed.idle b)) (split_anyhow IsTooLong (old.rest ++ piece) b.records b.stop b.split))
fed_split (Err feed_faults.NoMemory) old piece new fed =
    let none : new.waiting ≡ [] = ap (λ (f : Feed). f.waiting) (fed.no_memory refl) ∙ fed.idle.0 in
    (old.rest ++ piece, record { front = []; parts = refl; whole = subst (λ (xs : List (List ℕ)). AreRecords xs []) (sym none) refl; left = tt })

are_within : (records : List (List ℕ)) (bytes : List ℕ) → AreRecords records bytes → AreWithinLimit records
are_within [] bytes are = tt
are_within (x ∷ xs) bytes are = (are.first.limit, are_within xs are.back are.others)

pub fed_within : {X : Type 0} (r : Result X FeedFault) (old : Feed) (piece : List ℕ) (new : Feed) → HasFed r old piece new → AreWithinLimit new.waiting
fed_within r old piece new fed = let split = (fed_split r old piece new fed).1 in are_within new.waiting split.front split.whole

-- the first records of more
pub record Split (xs ys : List (List ℕ)) (bytes : List ℕ) : Type 0 where
  pub front : List ℕ
  pub back : List ℕ
  pub parts : bytes ≡ front ++ back
  pub first : AreRecords xs front
  pub others : AreRecords ys back

pub split : (xs ys : List (List ℕ)) (bytes : List ℕ) → AreRecords (xs ++ ys) bytes → Split xs ys bytes
split [] ys bytes are = record { front = []; back = bytes; parts = refl; first = refl; others = are }
split (x ∷ xs) ys bytes are =
    let later = split xs ys are.back are.others in
    record {
      front = are.front ++ later.front;
      back = later.back;
      parts = are.parts ∙ ap (λ l. are.front ++ l) later.parts ∙ sym (append_assoc are.front later.front later.back);
      first = record { front = are.front; back = later.front; parts = refl; first = are.first; others = later.first };
      others = later.others;
    }

-- it ended while the records at the front of some bytes were forwarded
pub stopped_at : (end : PumpEnd) (held held' : Option (List ℕ)) (bytes rest : List ℕ) (records : List (List ℕ)) → IsSplit (λ _. Unit {0}) bytes records rest → Stops end held held' records
    → (written : List ℕ) × Appends held held' written × IsForwarded end bytes written
stopped_at end held held' bytes rest records whole s =
    let first = split s.front s.behind whole.front (subst (λ (xs : List (List ℕ)). AreRecords xs whole.front) s.parts whole.whole) in (
      s.written,
      s.appended,
      record {
        records = s.front;
        rest = first.back ++ rest;
        split = record {
          front = first.front;
          parts = whole.parts ∙ ap (λ l. l ++ rest) first.parts ∙ append_assoc first.front first.back rest;
          whole = first.first;
          left = s.anywhere.2 (first.back ++ rest);
        };
        sent = s.sent;
      },
    )

pub stopped_in : {X : Type 0} (r : Result X FeedFault) (end : PumpEnd) (held held' : Option (List ℕ)) (old : Feed) (piece : List ℕ) (new : Feed) → HasFed r old piece new → Stops end held held' new.waiting
    → (written : List ℕ) × Appends held held' written × IsForwarded end (old.rest ++ piece) written
stopped_in r end held held' old piece new fed s =
    let some = fed_split r old piece new fed in
    stopped_at end held held' (old.rest ++ piece) some.0 new.waiting some.1 s

pub no_memory_for : {X : Type 0} (held held' : Option (List ℕ)) (old : Feed) (piece : List ℕ) (now : Feed) → HasFed {X = X} (Err feed_faults.NoMemory) old piece now → Appends held held' (frames now.waiting)
    → (written : List ℕ) × Appends held held' written × IsForwarded ends.NoMemory (old.rest ++ piece) written
no_memory_for {X = X} held held' old piece now fed wrote =
    let some = fed_split {X = X} (Err feed_faults.NoMemory) old piece now fed in
    (frames now.waiting, wrote, record { records = now.waiting; rest = some.0; split = some.1; sent = all_written ends.NoMemory (frames now.waiting) })

-- ---- the whole stream

-- what a pump did so far
pub record HasPumped (left left' held held' : Option (List ℕ)) (feed : Feed) : Type 0 where
  pub read : List ℕ
  pub records : List (List ℕ)
  pub consumed : Consumes left left' read
  pub split : IsSplit IsUnfinished read records feed.rest
  pub appended : Appends held held' (frames records)
  pub idle : IsIdle feed

pub none_pumped : (left held : Option (List ℕ)) → HasPumped left left held held fresh
none_pumped left held = record {
  read = [];
  records = [];
  consumed = none_consumed left;
  split = record { front = []; parts = refl; whole = refl; left = (0, 0, unfinished_none) };
  appended = none_appended held;
  idle = (refl, refl);
}

-- a read that gave nothing
pub pumped_still : (left mid left' held held' : Option (List ℕ)) (feed : Feed) → HasPumped left mid held held' feed → ((bytes : List ℕ) → Consumes left mid bytes → Consumes left left' bytes) → HasPumped left left' held held' feed
pumped_still left mid left' held held' feed so_far still = record {
  read = so_far.read;
  records = so_far.records;
  consumed = still so_far.read so_far.consumed;
  split = so_far.split;
  appended = so_far.appended;
  idle = so_far.idle;
}

-- a piece more
pub pumped_more : (left mid left' held between held' : Option (List ℕ)) (old new : Feed) (piece : List ℕ) → HasPumped left mid held between old → Consumes mid left' piece
    → IsIdle new × ((records : List (List ℕ)) × IsSplit IsUnfinished (old.rest ++ piece) records new.rest × Appends between held' (frames records)) → HasPumped left left' held held' new
pumped_more left mid left' held between held' old new piece so_far gave passed =
    let more = passed.1 in
    record {
      read = so_far.read ++ piece;
      records = so_far.records ++ more.0;
      consumed = consumed_both left mid left' so_far.read piece so_far.consumed gave;
      split = split_join IsUnfinished IsUnfinished so_far.read piece old.rest new.rest so_far.records more.0 so_far.split more.1;
      appended = subst (Appends held held') (sym (frames-append so_far.records more.0)) (both_appended held between held' (frames so_far.records) (frames more.0) so_far.appended more.2);
      idle = passed.0;
    }

-- it ended within a piece
pub pumps_within : (end : PumpEnd) (left mid left' held between held' : Option (List ℕ)) (old : Feed) (piece : List ℕ) → HasPumped left mid held between old → Consumes mid left' piece
    → (written : List ℕ) × Appends between held' written × IsForwarded end (old.rest ++ piece) written → Pumps end left left' held held'
pumps_within end left mid left' held between held' old piece so_far gave stopped =
    let f = stopped.2 in
    record {
      read = so_far.read ++ piece;
      written = frames so_far.records ++ stopped.0;
      consumed = consumed_both left mid left' so_far.read piece so_far.consumed gave;
      appended = both_appended held between held' (frames so_far.records) stopped.0 so_far.appended stopped.1;
      forwarded = record {
        records = so_far.records ++ f.records;
        rest = f.rest;
        split = split_join IsUnfinished (Behind end) so_far.read piece old.rest f.rest so_far.records f.records so_far.split f.split;
        sent = written_behind end so_far.records f.records stopped.0 f.sent;
      };
    }

-- it ended behind a whole piece
pub pumps_behind : (end : PumpEnd) (left left' held held' : Option (List ℕ)) (feed : Feed) → HasPumped left left' held held' feed → (IsUnfinished feed.rest → Behind end feed.rest) → Pumps end left left' held held'
pumps_behind end left left' held held' feed so_far may = record {
  read = so_far.read;
  written = frames so_far.records;
  consumed = so_far.consumed;
  appended = so_far.appended;
  forwarded = record {
    records = so_far.records;
    rest = feed.rest;
    split = record { front = so_far.split.front; parts = so_far.split.parts; whole = so_far.split.whole; left = may so_far.split.left };
    sent = all_written end (frames so_far.records);
  };
}
