-- Records that came as one fragment each, turn by turn. What waits counts as left.
use Rattle.std.proofs.Common.{◌≡◌, ℕ, ◌+◌, ◌-◌, ◌<◌, ◌≤◌, List, [], ◌∷◌, ◌++◌, length, drop, Option, Some, None, refl, sym, ap, subst, ◌∙◌, arith, append_assoc, append-nil, length-append, drop_at}
use Rattle.std.specs.Io.KnownBytes.{Consumes, Appends, Keeps, IsAtEnd, prepend_known}
use Rattle.xdr_records.specs.Record.{IsUnfinished, IsSplit, record_text}
use Rattle.xdr_records.specs.Feed.{Feed, fresh}
use Rattle.xdr_records.specs.Texts.{word_text}
use Rattle.xdr_records.proofs.Splitting.{unfinished_none, split_join, framed_split}
use Rattle.xdr_records.proofs.Written.{length-word_text}
use Rattle.nfs_tap.specs.declared.pump.PumpEnd.{PumpEnd}
use Rattle.nfs_tap.specs.declared.pump.PumpEnd.TheVariants as ends
use Rattle.nfs_tap.specs.declared.pump.Turn.{Turn}
use Rattle.nfs_tap.specs.declared.pump.Turn.TheVariants as turns
use Rattle.nfs_tap.specs.Pumping.{frames, Behind, IsForwarded, IsIdle, Pumps, Stops}
use Rattle.nfs_tap.specs.Whole.{IsFirst, PassesOn, IsPassed, StopsAmid, IsTurned, IsNext, GoesOn, Turns, EndsAtEnd}
use Rattle.program_streams.proofs.Fronts.{both as both_appended}
use Rattle.nfs_tap.proofs.Fronts.{none_appended}
use Rattle.nfs_tap.proofs.Forwarding.{frames-append, all_written, written_behind, stopped_at, HasPumped, none_pumped, pumped_more, pumps_within}

-- ---- bytes that wait, ahead of those that the reader has left

pub prepend_none : (left : Option (List ℕ)) → left ≡ prepend_known [] left
prepend_none None = refl
prepend_none (Some xs) = refl

-- all that waits is taken
pub front_taken : (waiting : List ℕ) (left : Option (List ℕ)) → Consumes (prepend_known waiting left) left waiting
front_taken waiting None = tt
front_taken waiting (Some xs) = refl

-- all that waits, and what was read behind it
pub read_behind : (waiting more : List ℕ) (left left' : Option (List ℕ)) → Consumes left left' more → Consumes (prepend_known waiting left) left' (waiting ++ more)
read_behind waiting more None left' e = tt
read_behind waiting more (Some xs) None e = absurd e
read_behind waiting more (Some xs) (Some ys) e = ap (λ (l : List ℕ). waiting ++ l) e ∙ sym (append_assoc waiting more ys)

-- the front of that, so that other bytes wait
pub passed_behind : (waiting more front waiting' : List ℕ) (left left' : Option (List ℕ)) → waiting ++ more ≡ front ++ waiting' → Consumes left left' more
    → Consumes (prepend_known waiting left) (prepend_known waiting' left') front
passed_behind waiting more front waiting' None left' parts e = tt
passed_behind waiting more front waiting' (Some xs) None parts e = absurd e
passed_behind waiting more front waiting' (Some xs) (Some ys) parts e =
    ap (λ (l : List ℕ). waiting ++ l) e ∙ sym (append_assoc waiting more ys) ∙ ap (λ (l : List ℕ). l ++ ys) parts ∙ append_assoc front waiting' ys

pub kept_as_read : (left left' : Option (List ℕ)) → Keeps left left' → Consumes left left' []
kept_as_read None left' k = tt
kept_as_read (Some xs) None k = absurd k
kept_as_read (Some xs) (Some ys) k = sym k

-- ---- where nothing is written

none_split : IsSplit IsUnfinished [] [] []
none_split = record { front = []; parts = refl; whole = refl; left = (0, 0, unfinished_none) }

pub nothing_forwarded : (end : PumpEnd) (bytes : List ℕ) → Behind end bytes → IsForwarded end bytes []
nothing_forwarded end bytes behind = record {
  records = [];
  rest = bytes;
  split = record { front = []; parts = refl; whole = refl; left = behind };
  sent = all_written end [];
}

-- it ended so behind some bytes
pub ended_behind : (end : PumpEnd) (left left' held held' : Option (List ℕ)) (bytes : List ℕ) → Consumes left left' bytes
    → (written : List ℕ) × Appends held held' written × IsForwarded end bytes written → Pumps end left left' held held'
ended_behind end left left' held held' bytes gave wrote = record { read = bytes; written = wrote.0; consumed = gave; appended = wrote.1; forwarded = wrote.2 }

pub ended_ahead : (end : PumpEnd) (left left' held : Option (List ℕ)) (bytes : List ℕ) → Consumes left left' bytes → Behind end bytes → Pumps end left left' held held
ended_ahead end left left' held bytes gave behind = ended_behind end left left' held held bytes gave ([], none_appended held, nothing_forwarded end bytes behind)

-- ---- so far

pub begun : (left held : Option (List ℕ)) → HasPumped left (prepend_known [] left) held held fresh
begun left held = subst (λ (l : Option (List ℕ)). HasPumped left l held held fresh) (prepend_none left) (none_pumped left held)

pub pumped_on : (left mid left' held between held' : Option (List ℕ)) (waiting : List ℕ) → HasPumped left mid held between fresh → GoesOn mid left' waiting between held'
    → HasPumped left (prepend_known waiting left') held held' fresh
pumped_on left mid left' held between held' waiting so_far on =
    pumped_more left mid (prepend_known waiting left') held between held' fresh fresh on.front so_far on.consumed ((refl, refl), (on.records, on.split, on.appended))

pub pumps_then : (end : PumpEnd) (left mid left' held between held' : Option (List ℕ)) → HasPumped left mid held between fresh → Pumps end mid left' between held' → Pumps end left left' held held'
pumps_then end left mid left' held between held' so_far later =
    pumps_within end left mid left' held between held' fresh later.read so_far later.consumed (later.written, later.appended, later.forwarded)

-- bytes still wait
pub pumps_waiting : (end : PumpEnd) (left left' held held' : Option (List ℕ)) (waiting : List ℕ) → HasPumped left (prepend_known waiting left') held held' fresh → Behind end waiting → Pumps end left left' held held'
pumps_waiting end left left' held held' waiting so_far behind =
    pumps_then end left (prepend_known waiting left') left' held held' held' so_far (ended_ahead end (prepend_known waiting left') left' held' waiting (front_taken waiting left') behind)

-- ---- a turn

pub turned : (t : Turn) (left left' held held' : Option (List ℕ)) (waiting more waiting' : List ℕ) → Consumes left left' more → IsTurned t (waiting ++ more) waiting' held held'
    → Turns t (prepend_known waiting left) left' waiting' held held'
turned turns.On left left' held held' waiting more waiting' gave p =
    record { records = p.records; front = p.front; consumed = passed_behind waiting more p.front waiting' left left' p.parts gave; split = p.split; appended = p.appended }
turned turns.Odd left left' held held' waiting more waiting' gave p =
    record { records = p.records; front = p.front; consumed = passed_behind waiting more p.front waiting' left left' p.parts gave; split = p.split; appended = p.appended }
turned (turns.Over end) left left' held held' waiting more waiting' gave s =
    (s.named, ended_behind end (prepend_known waiting left) left' held held' (waiting ++ more) (read_behind waiting more left left' gave) (s.written, s.appended, s.forwarded))

-- it doesn't tell the end
pub not_at_end : (t : Turn) (left held held' : Option (List ℕ)) (old new : List ℕ) → IsTurned t old new held held' → EndsAtEnd t left
not_at_end turns.On left held held' old new p = tt
not_at_end turns.Odd left held held' old new p = tt
not_at_end (turns.Over ends.End) left held held' old new s = absurd (s.unended refl)
not_at_end (turns.Over ends.ReadFault) left held held' old new s = tt
not_at_end (turns.Over ends.WriteFault) left held held' old new s = tt
not_at_end (turns.Over ends.RecordTooLong) left held held' old new s = tt
not_at_end (turns.Over (ends.LogFault fault)) left held held' old new s = tt
not_at_end (turns.Over ends.LogFull) left held held' old new s = tt
not_at_end (turns.Over ends.Bound) left held held' old new s = tt
not_at_end (turns.Over ends.NoMemory) left held held' old new s = tt

-- nothing was read
pub turned_still : (left left' held : Option (List ℕ)) (waiting waiting' : List ℕ) → waiting' ≡ waiting → Keeps left left' → GoesOn (prepend_known waiting left) left' waiting' held held
turned_still left left' held waiting waiting' same keeps = record {
  records = [];
  front = [];
  consumed = passed_behind waiting [] [] waiting' left left' (append-nil waiting ∙ sym same) (kept_as_read left left' keeps);
  split = none_split;
  appended = none_appended held;
}

pub next_turned : (t : Turn) (old new : List ℕ) (held held' : Option (List ℕ)) → IsNext t → PassesOn old new held held' → IsTurned t old new held held'
next_turned turns.On old new held held' next p = p
next_turned turns.Odd old new held held' next p = p
next_turned (turns.Over end) old new held held' next p = absurd next

-- ---- the records at the front of some bytes

pub none_sent : (bytes : List ℕ) (held : Option (List ℕ)) → PassesOn bytes bytes held held
none_sent bytes held = record { records = []; front = []; parts = refl; split = none_split; appended = none_appended held }

-- one more stands behind those that were sent
one_more : (bytes rest text content behind : List ℕ) (held mid : Option (List ℕ)) (so_far : PassesOn bytes rest held mid) → IsFirst rest text content behind
    → IsSplit IsUnfinished (so_far.front ++ text) (so_far.records ++ content ∷ []) []
one_more bytes rest text content behind held mid so_far first =
    let one : IsSplit IsUnfinished text (content ∷ []) [] = subst (λ (t : List ℕ). IsSplit IsUnfinished t (content ∷ []) []) (sym first.spelled) (framed_split content first.limit) in
    split_join IsUnfinished IsUnfinished so_far.front text [] [] so_far.records (content ∷ []) so_far.split one

parts_more : (bytes rest text content behind : List ℕ) (held mid : Option (List ℕ)) (so_far : PassesOn bytes rest held mid) → IsFirst rest text content behind
    → bytes ≡ (so_far.front ++ text) ++ behind
parts_more bytes rest text content behind held mid so_far first =
    so_far.parts ∙ ap (λ (l : List ℕ). so_far.front ++ l) first.parts ∙ sym (append_assoc so_far.front text behind)

pub one_sent : (bytes rest text content behind : List ℕ) (held mid held' : Option (List ℕ)) → PassesOn bytes rest held mid → IsFirst rest text content behind → Appends mid held' (record_text content)
    → PassesOn bytes behind held held'
one_sent bytes rest text content behind held mid held' so_far first wrote =
    let both : frames (so_far.records ++ content ∷ []) ≡ frames so_far.records ++ record_text content =
    frames-append so_far.records (content ∷ []) ∙ ap (λ (l : List ℕ). frames so_far.records ++ l) (append-nil (record_text content)) in
    record {
      records = so_far.records ++ content ∷ [];
      front = so_far.front ++ text;
      parts = parts_more bytes rest text content behind held mid so_far first;
      split = one_more bytes rest text content behind held mid so_far first;
      appended = subst (Appends held held') (sym both) (both_appended held mid held' (frames so_far.records) (record_text content) so_far.appended wrote);
    }

pub stopped_amid : (end : PumpEnd) (bytes rest text content behind : List ℕ) (held mid held' : Option (List ℕ)) → PassesOn bytes rest held mid → IsFirst rest text content behind
    → Stops end mid held' (content ∷ []) → StopsAmid end bytes held held'
stopped_amid end bytes rest text content behind held mid held' so_far first s =
    let joined = one_more bytes rest text content behind held mid so_far first in
    let more : (so_far.front ++ text) ++ behind ≡ joined.front ++ behind = ap (λ (l : List ℕ). l ++ behind) (joined.parts ∙ append-nil joined.front) in
    let whole : IsSplit (λ _. Unit {0}) bytes (so_far.records ++ content ∷ []) behind =
    record { front = joined.front; parts = parts_more bytes rest text content behind held mid so_far first ∙ more; whole = joined.whole; left = tt } in
    let later : Stops end held held' (so_far.records ++ content ∷ []) =
    record {
      front = so_far.records ++ s.front;
      behind = s.behind;
      parts = ap (λ (xs : List (List ℕ)). so_far.records ++ xs) s.parts ∙ sym (append_assoc so_far.records s.front s.behind);
      written = frames so_far.records ++ s.written;
      appended = both_appended held mid held' (frames so_far.records) s.written so_far.appended s.appended;
      sent = written_behind end so_far.records s.front s.written s.sent;
      anywhere = s.anywhere;
    } in
    let stopped = stopped_at end held held' bytes behind (so_far.records ++ content ∷ []) whole later in
    record { written = stopped.0; appended = stopped.1; forwarded = stopped.2; unended = s.anywhere.0; named = s.anywhere.1 }

pub passed_so : (bytes rest : List ℕ) (used : ℕ) (held held' : Option (List ℕ)) → PassesOn bytes rest held held' → used ≡ length bytes - length rest → IsPassed held held' bytes used
passed_so bytes rest used held held' p is = record { back = rest; passed = p; size = omega (arith, ap length p.parts, length-append p.front rest, is) }

pub passed_within : (bytes : List ℕ) (used : ℕ) (held held' : Option (List ℕ)) → IsPassed held held' bytes used → used ≤ length bytes
passed_within bytes used held held' p = omega (arith, ap length p.passed.parts, length-append p.passed.front p.back, p.size)

pub advanced : (bytes new : List ℕ) (used : ℕ) (held held' : Option (List ℕ)) → IsPassed held held' bytes used → new ≡ drop used bytes → PassesOn bytes new held held'
advanced bytes new used held held' p is =
    let back : new ≡ p.back = is ∙ ap (λ (l : List ℕ). drop used l) p.passed.parts ∙ drop_at p.passed.front p.back used p.size in
    subst (λ (l : List ℕ). PassesOn bytes l held held') (sym back) p.passed

-- no more bytes are left behind records, and fewer behind one
pub passed_shorter : (bytes rest : List ℕ) (held held' : Option (List ℕ)) → PassesOn bytes rest held held' → length rest ≤ length bytes
passed_shorter bytes rest held held' p = omega (arith, ap length p.parts, length-append p.front rest)

pub behind_shorter : (bytes text content behind : List ℕ) → IsFirst bytes text content behind → length behind < length bytes
behind_shorter bytes text content behind first =
    let word = word_text (2147483648 + length content) in
    let size : length text ≡ length (word ++ content) = ap length first.spelled in
    omega (arith, ap length first.parts, length-append text behind, size, length-append word content, length-word_text (2147483648 + length content))

-- ---- what stands at the end of the stream

pub last_passed : (held held' : Option (List ℕ)) (feed new : Feed) (bytes : List ℕ) → feed ≡ fresh
    → IsIdle new × ((records : List (List ℕ)) × IsSplit IsUnfinished (feed.rest ++ bytes) records new.rest × Appends held held' (frames records))
    → (written : List ℕ) × Appends held held' written × IsForwarded ends.End bytes written
last_passed held held' feed new bytes is passed =
    let all = passed.1 in
    let split : IsSplit IsUnfinished bytes all.0 new.rest = subst (λ (f : Feed). IsSplit IsUnfinished (f.rest ++ bytes) all.0 new.rest) is all.1 in
    (frames all.0, all.2, record { records = all.0; rest = new.rest; split = split; sent = all_written ends.End (frames all.0) })

pub last_stopped : (end : PumpEnd) (held held' : Option (List ℕ)) (feed : Feed) (bytes : List ℕ) → feed ≡ fresh
    → (written : List ℕ) × Appends held held' written × IsForwarded end (feed.rest ++ bytes) written
    → (written : List ℕ) × Appends held held' written × IsForwarded end bytes written
last_stopped end held held' feed bytes is stopped =
    subst (λ (f : Feed). (written : List ℕ) × Appends held held' written × IsForwarded end (f.rest ++ bytes) written) is stopped

-- ---- one read

-- what stood there when the stream ended
pub last_read : (end : PumpEnd) (left left' held held' : Option (List ℕ)) (waiting more all : List ℕ) → all ≡ waiting ++ more → Consumes left left' more
    → (written : List ℕ) × Appends held held' written × IsForwarded end all written → Pumps end (prepend_known waiting left) left' held held'
last_read end left left' held held' waiting more all is gave wrote =
    ended_behind end (prepend_known waiting left) left' held held' all (subst (Consumes (prepend_known waiting left) left') (sym is) (read_behind waiting more left left' gave)) wrote

-- a turn over what was read
pub read_turned : (t : Turn) (left left' held held' : Option (List ℕ)) (waiting more all waiting' : List ℕ) → all ≡ waiting ++ more → Consumes left left' more → IsTurned t all waiting' held held'
    → Turns t (prepend_known waiting left) left' waiting' held held'
read_turned t left left' held held' waiting more all waiting' is gave done =
    turned t left left' held held' waiting more waiting' gave (subst (λ (l : List ℕ). IsTurned t l waiting' held held') is done)

-- a read failed
pub read_failed : (end : PumpEnd) (left left' held : Option (List ℕ)) (waiting : List ℕ) → Keeps left left' → ((rest : List ℕ) → Behind end rest) → Pumps end (prepend_known waiting left) left' held held
read_failed end left left' held waiting keeps any =
    ended_ahead end (prepend_known waiting left) left' held (waiting ++ []) (read_behind waiting [] left left' (kept_as_read left left' keeps)) (any (waiting ++ []))

-- a stream of which these bytes were fed first
pub begun_by : (left held held' : Option (List ℕ)) (feed new : Feed) (piece : List ℕ) → feed ≡ fresh
    → IsIdle new × ((records : List (List ℕ)) × IsSplit IsUnfinished (feed.rest ++ piece) records new.rest × Appends held held' (frames records))
    → HasPumped (prepend_known piece left) left held held' new
begun_by left held held' feed new piece is passed =
    let all = prepend_known piece left in
    let none : HasPumped all all held held feed = subst (HasPumped all all held held) (sym is) (none_pumped all held) in
    pumped_more all all left held held held' feed new piece none (front_taken piece left) passed

-- however it ends where nothing is left, the end may be told
pub at_end : (end : PumpEnd) (left : Option (List ℕ)) → IsAtEnd left → EndsAtEnd (turns.Over end) left
at_end ends.End left at = at
at_end ends.ReadFault left at = tt
at_end ends.WriteFault left at = tt
at_end ends.RecordTooLong left at = tt
at_end (ends.LogFault fault) left at = tt
at_end ends.LogFull left at = tt
at_end ends.Bound left at = tt
at_end ends.NoMemory left at = tt
