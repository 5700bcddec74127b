-- What a feed keeps of a piece, and what it is behind any calls.
use Rattle.std.proofs.Common.{◌≡◌, ◌≤◌, inl, inr, ℕ, ◌-◌, true, false, Option, Some, None, IsSome, IsNone, Result, Ok, Err, OnOk, IsErr, List, [], ◌∷◌, ◌++◌, length, take, drop, refl, sym, ap, subst, ◌∙◌, append_assoc, arith}
use Rattle.std.proofs.lemmas.Bool.{cases_lt}
use Rattle.std.proofs.lemmas.List.{append-nil, take-append-drop, take-append-le}
use Rattle.xdr_records.specs.Record.{Begun, IsPart, IsRecord, AreRecords, IsUnfinished, IsTooLong, IsSplit}
use Rattle.xdr_records.specs.Scan.{EndsAt}
use Rattle.xdr_records.specs.Splits.{Follows, Leaves}
use Rattle.xdr_records.specs.Feed.{Feed, Grows, Breaks, Run}
use Rattle.xdr_records.specs.Feed.Run.{start, fed, took}
use Rattle.xdr_records.proofs.Splitting.{unfinished_none, unfinished_no_record, too_long_no_record, not_both, same_split, split_join}
use Rattle.xdr_records.proofs.Copies.{drop_all_front}

-- no record ends in the piece
pub grows_open : (old new : Feed) (piece : List ℕ) (at size : ℕ) → old.broken ≡ false → Begun IsPart at size (old.rest ++ piece) → new.waiting ≡ old.waiting → new.rest ≡ old.rest ++ piece → new.broken ≡ false → Grows old piece new
grows_open old new piece at size sound b waiting rest still =
    record {
      sound = sound;
      records = [];
      split = record { front = []; parts = sym rest; whole = refl; left = subst IsUnfinished (sym rest) (at, size, b) };
      waiting = waiting ∙ sym (append-nil old.waiting);
      still = still;
    }

pub breaks_open : (old new : Feed) (piece : List ℕ) → old.broken ≡ false → IsTooLong (old.rest ++ piece) → new ≡ record { waiting = old.waiting; rest = []; broken = true } → Breaks old piece new
breaks_open old new piece sound b now =
    record {
      sound = sound;
      records = [];
      stop = old.rest ++ piece;
      split = record { front = []; parts = refl; whole = refl; left = b };
      now = now ∙ ap (λ (xs : List (List ℕ)). let f : Feed = record { waiting = xs; rest = []; broken = true } in f) (sym (append-nil old.waiting));
    }

-- a record ends behind the rest
pub ends_behind : (rest piece : List ℕ) (end size at sum : ℕ) → Begun IsPart at sum rest → EndsAt end size (rest ++ piece) → length rest ≤ end
ends_behind rest piece end size at sum b e =
    elim (cases_lt end (length rest)) [
      | inl h ↦
          let front : take end (rest ++ piece) ≡ take end rest = take-append-le end rest piece (omega arith) in
          absurd (unfinished_no_record rest (at, sum, b) (take end rest) e.content (drop end rest) (subst (λ (x : List ℕ). IsRecord x e.content) front e.whole) (sym (take-append-drop end rest)))
      | inr h ↦ h
    ]

-- the records that end in the piece
pub whole_split : (Rest : List ℕ → Type 0) (rest piece behind left c : List ℕ) (end used : ℕ) (records : List (List ℕ)) → length rest ≤ end → IsRecord (take end (rest ++ piece)) c
    → behind ≡ drop (end - length rest) piece → left ≡ drop used behind → Follows c behind used records → Rest left → IsSplit Rest (rest ++ piece) records left
whole_split Rest rest piece behind left c end used records long r behind_is left_is f last =
    let all : rest ++ piece ≡ take end (rest ++ piece) ++ behind =
    sym (take-append-drop end (rest ++ piece)) ∙ ap (λ (x : List ℕ). take end (rest ++ piece) ++ x) (drop_all_front end rest piece long ∙ sym behind_is) in
    let parts : rest ++ piece ≡ (take end (rest ++ piece) ++ take used behind) ++ left =
    all ∙ ap (λ (x : List ℕ). take end (rest ++ piece) ++ x) (sym (take-append-drop used behind) ∙ ap (λ (x : List ℕ). take used behind ++ x) (sym left_is))
    ∙ sym (append_assoc (take end (rest ++ piece)) (take used behind) left) in
    record {
      front = take end (rest ++ piece) ++ take used behind;
      parts = parts;
      whole = subst (λ (xs : List (List ℕ)). AreRecords xs (take end (rest ++ piece) ++ take used behind)) (sym f.all)
          (record { front = take end (rest ++ piece); back = take used behind; parts = refl; first = r; others = f.whole });
      left = last;
    }

leaves_some : (begun : Option (ℕ × ℕ)) (bytes : List ℕ) → Leaves begun bytes → IsSome begun → IsUnfinished bytes
leaves_some None bytes l s = absurd cc
leaves_some (Some b) bytes l s = (b.0, b.1, l)

leaves_none : (begun : Option (ℕ × ℕ)) (bytes : List ℕ) → Leaves begun bytes → IsNone begun → IsTooLong bytes
leaves_none None bytes l s = l
leaves_none (Some b) bytes l s = absurd cc

-- a record ends in the piece
module _ (old new : Feed) (piece behind left c : List ℕ) (end used : ℕ) (records : List (List ℕ)) (begun : Option (ℕ × ℕ)) (sound : old.broken ≡ false) (long : length old.rest ≤ end)
    (whole : IsRecord (take end (old.rest ++ piece)) c) (behind_is : behind ≡ drop (end - length old.rest) piece) (left_is : left ≡ drop used behind) (follows : Follows c behind used records)
    (leaves : Leaves begun (drop used behind)) where
  pub grows_whole : IsSome begun × (new ≡ record { waiting = old.waiting ++ records; rest = left; broken = old.broken }) → Grows old piece new
  grows_whole now =
      let rest : new.rest ≡ drop used behind = ap (λ (f : Feed). f.rest) now.1 ∙ left_is in
      record {
        sound = sound;
        records = records;
        split = whole_split IsUnfinished old.rest piece behind new.rest c end used records long whole behind_is rest follows (subst IsUnfinished (sym rest) (leaves_some begun (drop used behind) leaves now.0));
        waiting = ap (λ (f : Feed). f.waiting) now.1;
        still = ap (λ (f : Feed). f.broken) now.1 ∙ sound;
      }

  pub breaks_whole : IsNone begun × (new ≡ record { waiting = old.waiting ++ records; rest = []; broken = true }) → Breaks old piece new
  breaks_whole now =
      record {
        sound = sound;
        records = records;
        stop = drop used behind;
        split = whole_split IsTooLong old.rest piece behind (drop used behind) c end used records long whole behind_is refl follows (leaves_none begun (drop used behind) leaves now.0);
        now = now.1;
      }

-- ---- any calls

pub run_split : {bytes : List ℕ} {taken : List (List ℕ)} {feed : Feed} → Run bytes taken feed → IsSplit IsUnfinished bytes (taken ++ feed.waiting) feed.rest
run_split start = record { front = []; parts = refl; whole = refl; left = (0, 0, unfinished_none) }
run_split (fed {bytes = bytes} {taken = taken} {old = old} piece new r g) =
    let split = split_join IsUnfinished IsUnfinished bytes piece old.rest new.rest (taken ++ old.waiting) g.records (run_split r) g.split in
    let same : (taken ++ old.waiting) ++ g.records ≡ taken ++ new.waiting = append_assoc taken old.waiting g.records ∙ ap (λ (x : List (List ℕ)). taken ++ x) (sym g.waiting) in
    subst (λ (xs : List (List ℕ)). IsSplit IsUnfinished (bytes ++ piece) xs new.rest) same split
run_split (took {bytes = bytes} {taken = taken} {old = old} content new r t) =
    let same : taken ++ old.waiting ≡ (taken ++ content ∷ []) ++ new.waiting =
    ap (λ (x : List (List ℕ)). taken ++ x) t.waiting ∙ sym (append_assoc taken (content ∷ []) new.waiting) in
    let split = subst (λ (xs : List (List ℕ)). IsSplit IsUnfinished bytes xs old.rest) same (run_split r) in
    subst (λ (x : List ℕ). IsSplit IsUnfinished bytes ((taken ++ content ∷ []) ++ new.waiting) x) (sym t.rest) split

-- where a header passes the limit
pub run_break : {bytes : List ℕ} {taken : List (List ℕ)} {old : Feed} (piece : List ℕ) (new : Feed) → Run bytes taken old → (b : Breaks old piece new) → IsSplit IsTooLong (bytes ++ piece) (taken ++ new.waiting) b.stop
run_break {bytes = bytes} {taken = taken} {old = old} piece new r b =
    let split = split_join IsUnfinished IsTooLong bytes piece old.rest b.stop (taken ++ old.waiting) b.records (run_split r) b.split in
    let same : (taken ++ old.waiting) ++ b.records ≡ taken ++ new.waiting =
    append_assoc taken old.waiting b.records ∙ ap (λ (x : List (List ℕ)). taken ++ x) (sym (ap (λ (f : Feed). f.waiting) b.now)) in
    subst (λ (xs : List (List ℕ)). IsSplit IsTooLong (bytes ++ piece) xs b.stop) same split

-- ---- one way

pub one_split : (bytes : List ℕ) (xs ys : List (List ℕ)) (rest rest' : List ℕ) → IsSplit IsUnfinished bytes xs rest → IsSplit IsUnfinished bytes ys rest' → (xs ≡ ys) × (rest ≡ rest')
one_split bytes xs ys rest rest' a b = same_split IsUnfinished IsUnfinished unfinished_no_record unfinished_no_record bytes xs ys rest rest' a b

pub one_stop : (bytes : List ℕ) (xs ys : List (List ℕ)) (stop stop' : List ℕ) → IsSplit IsTooLong bytes xs stop → IsSplit IsTooLong bytes ys stop' → (xs ≡ ys) × (stop ≡ stop')
one_stop bytes xs ys stop stop' a b = same_split IsTooLong IsTooLong too_long_no_record too_long_no_record bytes xs ys stop stop' a b

pub one_of_both : (bytes : List ℕ) (xs ys : List (List ℕ)) (rest stop : List ℕ) → IsSplit IsUnfinished bytes xs rest → IsSplit IsTooLong bytes ys stop → ⊥
one_of_both bytes xs ys rest stop a b =
    let same = same_split IsUnfinished IsTooLong unfinished_no_record too_long_no_record bytes xs ys rest stop a b in
    not_both stop (subst IsUnfinished same.1 a.left) b.left

pub grows_sound : (old new : Feed) (piece : List ℕ) → Grows old piece new → (records : List (List ℕ)) (stop : List ℕ) → IsSplit IsTooLong (old.rest ++ piece) records stop → ⊥
grows_sound old new piece g records stop split = one_of_both (old.rest ++ piece) g.records records new.rest stop g.split split

pub breaks_sound : (old new : Feed) (piece : List ℕ) → Breaks old piece new → (records : List (List ℕ)) (rest : List ℕ) → IsSplit IsUnfinished (old.rest ++ piece) records rest → ⊥
breaks_sound old new piece b records rest split = one_of_both (old.rest ++ piece) records b.records rest b.stop split b.split

-- what is not Ok is an error
pub err_of_grows : {T E : Type 0} (r : Result T E) (old new : Feed) (piece : List ℕ) → OnOk r (Grows old piece new) → (records : List (List ℕ)) (stop : List ℕ) → IsSplit IsTooLong (old.rest ++ piece) records stop → IsErr r
err_of_grows (Ok x) old new piece g records stop split = absurd (grows_sound old new piece g records stop split)
err_of_grows (Err e) old new piece g records stop split = refl
