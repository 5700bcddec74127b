-- A history's file, written as its head and its events piece by piece.
use Rattle.std.proofs.Common.{◌≡◌, ℕ, ◌+◌, ◌≤◌, List, [], ◌∷◌, ◌++◌, length, take, drop, Option, Some, None, refl, arith, sym, ap, subst, ◌∙◌, append_assoc, append-nil, length-append}
use Rattle.std.proofs.Math.Seq.{drop-append_seam}
use Rattle.std.proofs.lemmas.List.{map-append, take-append-drop}
use Rattle.std.specs.Io.KnownBytes.{Appends}
use Rattle.xdr_records.specs.Texts.{word_text, opaque_text}
use Rattle.xdr_records.proofs.Written.{length-word_text, length-opaque_text}
use Rattle.history_file.specs.declared.event.Event as owned
use Rattle.history_file.specs.Event.{Event}
use Rattle.history_file.specs.HistoryFile.{magic}
use Rattle.history_file.specs.declared.version.Version.TheVariants.{First}
use Rattle.history_file.specs.Owning.{happened, all_happened}
use Rattle.history_file.specs.Writing.{event_text, events_text, file_text}
use Rattle.program_streams.proofs.Fronts.{both}

events_text-append : (xs ys : List Event) → events_text (xs ++ ys) ≡ events_text xs ++ events_text ys
events_text-append [] ys = refl
events_text-append (e ∷ xs) ys =
    ap (λ (l : List ℕ). event_text e ++ l) (events_text-append xs ys) ∙ sym (append_assoc (event_text e) (events_text xs) (events_text ys))

-- the events of two pieces, as they stand in a file
texts : (xs ys : List owned.Event) → events_text (all_happened (xs ++ ys)) ≡ events_text (all_happened xs) ++ events_text (all_happened ys)
texts xs ys = ap events_text (map-append happened xs ys) ∙ events_text-append (all_happened xs) (all_happened ys)

abbrev head : List ℕ → ℕ → List ℕ
head root n = (magic First) ++ (opaque_text root ++ word_text n)

length-head : (n : ℕ) → length (head [] n) ≡ 16
length-head n =
    let eight : length (magic First) ≡ 8 = refl in
    omega (arith, eight, length-append (magic First) (opaque_text [] ++ word_text n), length-append (opaque_text []) (word_text n), length-opaque_text [], length-word_text n)

-- a file is its head and its events
pub file_parts : (root : List ℕ) (es : List Event) → file_text root es ≡ ((magic First) ++ (opaque_text root ++ word_text (length es))) ++ events_text es
file_parts root es =
    ap (λ (l : List ℕ). (magic First) ++ l) (sym (append_assoc (opaque_text root) (word_text (length es)) (events_text es)))
    ∙ sym (append_assoc (magic First) (opaque_text root ++ word_text (length es)) (events_text es))

pub head_within : (text : List ℕ) (es : List Event) → text ≡ file_text [] es → 16 ≤ length text
head_within text es is = omega (arith, ap length (is ∙ file_parts [] es), length-append (head [] (length es)) (events_text es), length-head (length es))

pub behind_head : (text : List ℕ) (es : List Event) → text ≡ file_text [] es → drop 16 text ≡ events_text es
behind_head text es is =
    ap (λ (l : List ℕ). drop 16 l) (is ∙ file_parts [] es)
    ∙ ap (λ n. drop n (head [] (length es) ++ events_text es)) (sym (length-head (length es)))
    ∙ drop-append_seam (head [] (length es)) (events_text es)

-- what was written of events, and what is left
pub record IsSoFar (old new : Option (List ℕ)) (events rest : List owned.Event) (ahead size : ℕ) : Type 0 where
  pub front : List owned.Event
  pub parts : events ≡ front ++ rest
  pub written : Appends old new (events_text (all_happened front))
  pub counted : size ≡ ahead + length (events_text (all_happened front))
  pub within : size ≤ 268435456

nothing : (held : Option (List ℕ)) → Appends held held []
nothing None = tt
nothing (Some xs) = sym (append-nil xs)

pub begun : (held : Option (List ℕ)) (events : List owned.Event) (ahead : ℕ) → ahead ≤ 268435456 → IsSoFar held held events events ahead ahead
begun held events ahead le = record { front = []; parts = refl; written = nothing held; counted = omega arith; within = le }

-- a piece more
pub one_more : (old mid new : Option (List ℕ)) (events rest piece behind : List owned.Event) (ahead size count : ℕ) → IsSoFar old mid events rest ahead size
    → rest ≡ piece ++ behind → Appends mid new (events_text (all_happened piece)) → count ≡ length (events_text (all_happened piece)) → size + count ≤ 268435456
    → IsSoFar old new events behind ahead (size + count)
one_more old mid new events rest piece behind ahead size count so split wrote counted le =
    let text = texts so.front piece in
    record {
      front = so.front ++ piece;
      parts = so.parts ∙ ap (λ l. so.front ++ l) split ∙ sym (append_assoc so.front piece behind);
      written = subst (Appends old new) (sym text) (both old mid new (events_text (all_happened so.front)) (events_text (all_happened piece)) so.written wrote);
      counted = omega (arith, so.counted, counted, ap length text, length-append (events_text (all_happened so.front)) (events_text (all_happened piece)));
      within = le;
    }

-- all of them
all_there : (old new : Option (List ℕ)) (events rest : List owned.Event) (ahead size : ℕ) → IsSoFar old new events rest ahead size → rest ≡ [] → (so : IsSoFar old new events rest ahead size) × (events ≡ so.front)
all_there old new events rest ahead size so none = (so, so.parts ∙ ap (λ l. so.front ++ l) none ∙ append-nil so.front)

pub whole_written : (old new : Option (List ℕ)) (events rest : List owned.Event) (ahead size : ℕ) → IsSoFar old new events rest ahead size → rest ≡ [] → Appends old new (events_text (all_happened events))
whole_written old new events rest ahead size so none =
    let all = all_there old new events rest ahead size so none in
    subst (λ l. Appends old new (events_text (all_happened l))) (sym all.1) all.0.written

pub whole_within : (old new : Option (List ℕ)) (events rest : List owned.Event) (ahead size : ℕ) → IsSoFar old new events rest ahead size → rest ≡ [] → ahead + length (events_text (all_happened events)) ≤ 268435456
whole_within old new events rest ahead size so none =
    let all = all_there old new events rest ahead size so none in
    subst (λ l. ahead + length (events_text (all_happened l)) ≤ 268435456) (sym all.1) (omega (arith, all.0.counted, all.0.within))

-- the two parts of what is left
pub split_parts : (rest piece behind : List owned.Event) (n : ℕ) → piece ≡ take n rest → behind ≡ drop n rest → rest ≡ piece ++ behind
split_parts rest piece behind n front back = rw (front, back) (sym (take-append-drop n rest))

-- a file's head is within the limit
pub head_small : (head root : List ℕ) (n : ℕ) → length root ≤ 64 → head ≡ (magic First) ++ (opaque_text root ++ word_text n) → length head ≤ 268435456
head_small head root n le is =
    let eight : length (magic First) ≡ 8 = refl in
    omega (arith, eight, le, ap length is, length-append (magic First) (opaque_text root ++ word_text n), length-append (opaque_text root) (word_text n), length-opaque_text root, length-word_text n)

-- the head, and the events behind it
pub log_written : (old mid new : Option (List ℕ)) (head root : List ℕ) (es : List Event) → head ≡ (magic First) ++ (opaque_text root ++ word_text (length es)) → Appends old mid head
    → Appends mid new (events_text es) → Appends old new (file_text root es)
log_written old mid new head root es is first second =
    let parts : head ++ events_text es ≡ file_text root es = ap (λ (l : List ℕ). l ++ events_text es) is ∙ sym (file_parts root es) in
    subst (Appends old new) parts (both old mid new head (events_text es) first second)

pub log_within : (head root : List ℕ) (es : List Event) → head ≡ (magic First) ++ (opaque_text root ++ word_text (length es)) → length head + length (events_text es) ≤ 268435456
    → length (file_text root es) ≤ 268435456
log_within head root es is le =
    let parts : head ++ events_text es ≡ file_text root es = ap (λ (l : List ℕ). l ++ events_text es) is ∙ sym (file_parts root es) in
    omega (arith, le, ap length parts, length-append head (events_text es))
