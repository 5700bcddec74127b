-- Reading a history file event by event is reading it.
use Rattle.std.proofs.Common.{◌≡◌, ◌⊎◌, inl, inr, Option, Some, None, ℕ, zero, suc, ◌+◌, ◌-◌, ◌<◌, ◌≤◌, Bool, true, false, cond, nat_lt, nat_le, List, [], ◌∷◌, ◌++◌, length, Result, Ok, Err, IfOk, refl, sym, ap, subst, ◌∙◌, append_assoc, length-append, drop, take, arith}
use Rattle.xdr_records.specs.declared.fault.XdrFault.{XdrFault}
use Rattle.xdr_records.specs.declared.fault.XdrFault.TheVariants.{Short, TooLong}
use Rattle.xdr_records.specs.Unread.{Unread, At, whole, behind}
use Rattle.xdr_records.specs.Grammar.{Grammar}
use Rattle.xdr_records.specs.Grammar.Grammar.{one_word, one_opaque, named, nothing, both}
use Rattle.xdr_records.specs.Items.{word_of, padded, word_at, fixed_at, opaque_in, opaque_at, end_in, end_at}
use Rattle.xdr_records.specs.Reading.{bound, reading, ended, kinds, item_here}
use Rattle.xdr_records.specs.Kinds.{item_kind, name_before, kind_reading}
use Rattle.xdr_records.proofs.KindLaws.{kind_reading-is}
use Rattle.history_file.specs.declared.fault.FileFault.{FileFault}
use Rattle.history_file.specs.declared.file.EventKind as file
use Rattle.history_file.specs.declared.file.EventKind.TheVariants as kinds_of
use Rattle.history_file.specs.Event.{Event, Recording}
use Rattle.history_file.specs.Event.Event.{call, reply, close, crash}
use Rattle.history_file.specs.Limits.{root_limit}
use Rattle.tree_starts.specs.Head.{Head}
use Rattle.tree_starts.specs.declared.object.StartObject.{StartObject}
use Rattle.tree_starts.specs.declared.profile.Profile.{Profile}
use Rattle.tree_starts.specs.declared.profile.Profile.TheVariants.{Plain}
use Rattle.history_file.specs.declared.version.Version.{Version}
use Rattle.history_file.specs.declared.version.Version.TheVariants.{First, Second}
use Rattle.history_file.specs.Kinds.{kind_of}
use Rattle.history_file.specs.Starting.{profile_word, object_count, objects}
use Rattle.history_file.specs.FileReading.{version_of}
use Rattle.history_file.specs.HistoryFile.{event_kind, event_count, message, event_of, event, events, recording}
use Rattle.history_file.specs.FileFaults.{IsFileFault}
use Rattle.history_file.proofs.FileLaws.{file_found, file_fault, file_of-body, in_version}
use Rattle.history_file.specs.declared.fault.FileFault.TheVariants as faults
use Rattle.history_lines.specs.declared.events.BegunFile.{BegunFile}
use Rattle.history_lines.specs.Left.{with_end, events_left, recorded, body_of, IsBegun, IsLeftOf, IsLeft, IsWhole, IsErrorIn}

-- ---- what is read doesn't depend on how many bytes stand ahead

-- two answers with the same value and the same bytes left, or the same fault
abbrev AreAlike : {A K : Type 0} → Result (A × Unread) K → Result (A × Unread) K → Type 0
AreAlike (Ok x) (Ok y) = (x.0 ≡ y.0) × (x.1.rest ≡ y.1.rest)
AreAlike (Err f) (Err g) = f ≡ g
AreAlike (Ok x) (Err g) = ⊥
AreAlike (Err f) (Ok y) = ⊥

abbrev at_offset : ℕ → List ℕ → Unread
at_offset a rest = record { at = a; rest = rest }

abbrev ReadsAnywhere : {A : Type 0} → Grammar FileFault A → Type 0
ReadsAnywhere g = (a b : ℕ) (rest : List ℕ) → AreAlike (kind_reading kind_of g (at_offset a rest)) (kind_reading kind_of g (at_offset b rest))

alike_kinds : {A : Type 0} (r s : Result (A × Unread) XdrFault) → AreAlike r s → AreAlike (item_kind kind_of r) (item_kind kind_of s)
alike_kinds (Ok x) (Ok y) same = same
alike_kinds (Err f) (Err g) same = ap kind_of same
alike_kinds (Ok x) (Err g) never = never
alike_kinds (Err f) (Ok y) never = never

alike_bound : {A B : Type 0} (r s : Result (A × Unread) FileFault) (f : A × Unread → Result (B × Unread) FileFault) → AreAlike r s
    → ((x : A) (a b : ℕ) (rest : List ℕ) → AreAlike (f (x, at_offset a rest)) (f (x, at_offset b rest))) → AreAlike (bound r f) (bound s f)
alike_bound {A = A} (Ok x) (Ok y) f same each =
    let h = each y.0 x.1.at y.1.at y.1.rest in
    let g = subst (λ (rest : List ℕ). AreAlike (f (y.0, at_offset x.1.at rest)) (f y)) (sym same.1) h in
    subst (λ (v : A). AreAlike (f (v, x.1)) (f y)) (sym same.0) g
alike_bound (Err e) (Err g) f same each = same
alike_bound (Ok x) (Err g) f never each = absurd never
alike_bound (Err e) (Ok y) f never each = absurd never

word_alike : (a b : ℕ) (rest : List ℕ) → AreAlike (word_at (at_offset a rest)) (word_at (at_offset b rest))
unfolding word_at
word_alike a b rest = go (nat_lt (length rest) 4) where
  go : (short : Bool) → AreAlike (cond short (Err Short) (Ok (word_of rest, behind 4 (at_offset a rest)))) (cond short (Err Short) (Ok (word_of rest, behind 4 (at_offset b rest))))
  go true = refl
  go false = (refl, refl)

fixed_alike : (n a b : ℕ) (rest : List ℕ) → AreAlike (fixed_at n (at_offset a rest)) (fixed_at n (at_offset b rest))
unfolding fixed_at
fixed_alike n a b rest = go (nat_lt (length rest) (padded n)) where
  go : (short : Bool) → AreAlike (cond short (Err Short) (Ok (take n rest, behind (padded n) (at_offset a rest)))) (cond short (Err Short) (Ok (take n rest, behind (padded n) (at_offset b rest))))
  go true = refl
  go false = (refl, refl)

bounded_alike : (fits : Bool) (n a b : ℕ) (rest : List ℕ) → AreAlike (cond fits (fixed_at n (at_offset a rest)) (Err TooLong)) (cond fits (fixed_at n (at_offset b rest)) (Err TooLong))
bounded_alike true n a b rest = fixed_alike n a b rest
bounded_alike false n a b rest = refl

opaque_in_alike : (max : ℕ) (r s : Result (ℕ × Unread) XdrFault) → AreAlike r s → AreAlike (opaque_in max r) (opaque_in max s)
opaque_in_alike max (Ok x) (Ok y) same =
    let h = bounded_alike (nat_le y.0 max) y.0 x.1.at y.1.at y.1.rest in
    let g = subst (λ (rest : List ℕ). AreAlike (opaque_in max (Ok (y.0, at_offset x.1.at rest))) (opaque_in max (Ok y))) (sym same.1) h in
    subst (λ (n : ℕ). AreAlike (opaque_in max (Ok (n, x.1))) (opaque_in max (Ok y))) (sym same.0) g
opaque_in_alike max (Err e) (Err g) same = same
opaque_in_alike max (Ok x) (Err g) never = absurd never
opaque_in_alike max (Err e) (Ok y) never = absurd never

word_anywhere : ReadsAnywhere one_word
word_anywhere a b rest = alike_kinds (word_at (at_offset a rest)) (word_at (at_offset b rest)) (word_alike a b rest)

opaque_anywhere : (max : ℕ) → ReadsAnywhere (one_opaque max)
unfolding opaque_at
opaque_anywhere max a b rest =
    alike_kinds (opaque_at max (at_offset a rest)) (opaque_at max (at_offset b rest)) (opaque_in_alike max (word_at (at_offset a rest)) (word_at (at_offset b rest)) (word_alike a b rest))

name_alike : {A : Type 0} (r : Result A FileFault) (a b : ℕ) (rest : List ℕ) → AreAlike (name_before r (at_offset a rest)) (name_before r (at_offset b rest))
name_alike (Ok x) a b rest = (refl, refl)
name_alike (Err kind) a b rest = refl

named_anywhere : {A : Type 0} (name : ℕ → Result A FileFault) → ReadsAnywhere (named name)
named_anywhere name a b rest =
    alike_bound (item_kind kind_of (word_at (at_offset a rest))) (item_kind kind_of (word_at (at_offset b rest))) (λ word. name_before (name word.0) word.1)
    (word_anywhere a b rest) (λ word c d others. name_alike (name word) c d others)

nothing_anywhere : {A : Type 0} (x : A) → ReadsAnywhere (nothing x)
nothing_anywhere x a b rest = (refl, refl)

both_anywhere : {A B : Type 0} (g : Grammar FileFault A) (f : A → Grammar FileFault B) → ReadsAnywhere g → ((x : A) → ReadsAnywhere (f x)) → ReadsAnywhere (both g f)
both_anywhere g f first others a b rest =
    alike_bound (kind_reading kind_of g (at_offset a rest)) (kind_reading kind_of g (at_offset b rest)) (λ x. kind_reading kind_of (f x.0) x.1) (first a b rest) others

event_of_anywhere : (kind : file.EventKind) → ReadsAnywhere (event_of kind)
unfolding message
event_of_anywhere kinds_of.Call =
    both_anywhere one_word (λ lane. both message (λ bytes. nothing (call lane bytes))) word_anywhere
    (λ lane. both_anywhere message (λ bytes. nothing (call lane bytes)) (opaque_anywhere 2097152) (λ bytes. nothing_anywhere (call lane bytes)))
event_of_anywhere kinds_of.Reply =
    both_anywhere one_word (λ lane. both message (λ bytes. nothing (reply lane bytes))) word_anywhere
    (λ lane. both_anywhere message (λ bytes. nothing (reply lane bytes)) (opaque_anywhere 2097152) (λ bytes. nothing_anywhere (reply lane bytes)))
event_of_anywhere kinds_of.Close = both_anywhere one_word (λ lane. nothing (close lane)) word_anywhere (λ lane. nothing_anywhere (close lane))
event_of_anywhere kinds_of.Crash = nothing_anywhere crash

event_anywhere : (i : ℕ) → ReadsAnywhere (event i)
unfolding event
event_anywhere i = both_anywhere (named (event_kind i)) event_of (named_anywhere (event_kind i)) event_of_anywhere

events_anywhere : (n i : ℕ) → ReadsAnywhere (events n i)
unfolding events
events_anywhere zero i = nothing_anywhere []
events_anywhere (suc n) i =
    both_anywhere (event i) (λ first. both (events n (i + 1)) (λ others. nothing (first ∷ others))) (event_anywhere i)
    (λ first. both_anywhere (events n (i + 1)) (λ others. nothing (first ∷ others)) (events_anywhere n (i + 1)) (λ others. nothing_anywhere (first ∷ others)))

-- ---- one event, and those that are left

-- what is made of a value, where nothing stands behind it
ended_as : {A B : Type 0} (x : A) (f : A → B) (e : Result (Unit {0}) XdrFault) → bound (item_kind kind_of e) (λ _. Ok (f x)) ≡ bound (bound (item_kind kind_of e) (λ _. Ok x)) (λ a. Ok (f a))
ended_as x f (Ok u) = refl
ended_as x f (Err name) = refl

ending : {A B : Type 0} (r s : Result (A × Unread) FileFault) (f : A → B) → AreAlike r s → with_end (bound r (λ x. Ok (f x.0, x.1))) ≡ bound (with_end s) (λ a. Ok (f a))
unfolding end_at
ending (Ok x) (Ok y) f same = rw (same.0, same.1) (ended_as y.0 f (end_in y.1.rest))
ending (Err e) (Err g) f same = ap (λ h. Err h) same
ending (Ok x) (Err g) f never = absurd never
ending (Err e) (Ok y) f never = absurd never

first_read : (m i : ℕ) (rest : List ℕ) (e : Event) (after : Unread) → kind_reading kind_of (event i) (whole rest) ≡ Ok (e, after)
    → events_left (suc m) i rest ≡ bound (events_left m (i + 1) after.rest) (λ es. Ok (e ∷ es))
unfolding events
first_read m i rest e after is =
    rw is (ending (kind_reading kind_of (events m (i + 1)) after) (kind_reading kind_of (events m (i + 1)) (whole after.rest)) (λ es. e ∷ es) (events_anywhere m (i + 1) after.at 0 after.rest))

first_fails : (m i : ℕ) (rest : List ℕ) (fault : FileFault) → kind_reading kind_of (event i) (whole rest) ≡ Err fault → events_left (suc m) i rest ≡ Err fault
unfolding events
first_fails m i rest fault is = rw is refl

recorded_more : (head : Head) (front : List Event) (e : Event) (left : Result (List Event) FileFault) → recorded head front (bound left (λ es. Ok (e ∷ es))) ≡ recorded head (front ++ e ∷ []) left
recorded_more head front e (Ok es) =
    let of : List Event → Result Recording FileFault = λ all. Ok (record { head = head; events = all }) in
    ap of (sym (append_assoc front (e ∷ []) es))
recorded_more head front e (Err fault) = refl

pub one_more : (bytes : List ℕ) (start : List StartObject) (profile : Profile) (read count : ℕ) (rest : List ℕ) (e : Event) (after : Unread) → read < count → kind_reading kind_of (event (read + 1)) (whole rest) ≡ Ok (e, after)
    → IsLeftOf bytes start profile read count rest → IsLeftOf bytes start profile (read + 1) count after.rest
one_more bytes start profile read count rest e after more is left =
    let k : count - read ≡ suc (count - (read + 1)) = omega arith in
    let next : recorded (record { root = left.root; start = start; profile = profile }) left.front (events_left (count - read) (read + 1) rest) ≡ recorded (record { root = left.root; start = start; profile = profile }) left.front (bound (events_left (count - (read + 1)) ((read + 1) + 1) after.rest) (λ es. Ok (e ∷ es)))
    = rw k (ap (recorded (record { root = left.root; start = start; profile = profile }) left.front) (first_read (count - (read + 1)) (read + 1) rest e after is)) in
    record {
      root = left.root;
      front = left.front ++ e ∷ [];
      as_many = length-append left.front (e ∷ []) ∙ ap (λ n. n + 1) left.as_many;
      goes_on = left.goes_on ∙ (next ∙ recorded_more (record { root = left.root; start = start; profile = profile }) left.front e (events_left (count - (read + 1)) ((read + 1) + 1) after.rest));
    }

pub one_fails : (bytes : List ℕ) (start : List StartObject) (profile : Profile) (read count : ℕ) (rest : List ℕ) (fault : FileFault) → read < count → kind_reading kind_of (event (read + 1)) (whole rest) ≡ Err fault
    → IsLeftOf bytes start profile read count rest → IsFileFault bytes fault
one_fails bytes start profile read count rest fault more is left =
    let k : count - read ≡ suc (count - (read + 1)) = omega arith in
    let next : recorded (record { root = left.root; start = start; profile = profile }) left.front (events_left (count - read) (read + 1) rest) ≡ Err fault
    = rw k (ap (recorded (record { root = left.root; start = start; profile = profile }) left.front) (first_fails (count - (read + 1)) (read + 1) rest fault is)) in
    file_fault bytes fault (left.goes_on ∙ next)

-- ---- the end

none_left : (n i : ℕ) (rest : List ℕ) → n ≡ 0 → events_left n i rest ≡ bound (item_kind kind_of (end_at (whole rest))) (λ _. Ok [])
unfolding events
none_left n i rest none = rw none refl

pub whole_at_end : (bytes : List ℕ) (start : List StartObject) (profile : Profile) (read count : ℕ) (rest : List ℕ) → count ≤ read → end_at (whole rest) ≡ Ok tt → IsLeftOf bytes start profile read count rest → IsWhole bytes
whole_at_end bytes start profile read count rest done is left =
    let none : events_left (count - read) (read + 1) rest ≡ Ok [] = none_left (count - read) (read + 1) rest (omega arith) ∙ rw is refl in
    let seen : Recording = record { head = record { root = left.root; start = start; profile = profile }; events = left.front ++ [] } in
    (seen, file_found bytes seen (left.goes_on ∙ ap (recorded (record { root = left.root; start = start; profile = profile }) left.front) none))

pub fault_at_end : (bytes : List ℕ) (start : List StartObject) (profile : Profile) (read count : ℕ) (rest : List ℕ) (name : XdrFault) → count ≤ read → end_at (whole rest) ≡ Err name → IsLeftOf bytes start profile read count rest → IsFileFault bytes (kind_of name)
fault_at_end bytes start profile read count rest name done is left =
    let none : events_left (count - read) (read + 1) rest ≡ Err (kind_of name) = none_left (count - read) (read + 1) rest (omega arith) ∙ rw is refl in
    file_fault bytes (kind_of name) (left.goes_on ∙ ap (recorded (record { root = left.root; start = start; profile = profile }) left.front) none)

-- ---- the beginning

kinds-ended : {A : Type 0} (x : A × Unread) (e : Result (Unit {0}) XdrFault) → kinds (bound (item_here kind_of x.1.at e) (λ _. Ok x.0)) ≡ bound (item_kind kind_of e) (λ _. Ok x.0)
kinds-ended x (Ok u) = refl
kinds-ended x (Err name) = refl

kinds-all : {A : Type 0} (r : Result (A × Unread) (At FileFault)) → kinds (bound r (ended kind_of)) ≡ with_end (kinds r)
kinds-all (Ok x) = kinds-ended x (end_at x.1)
kinds-all (Err fault) = refl

body_is_read : (version : Version) (body : List ℕ) → body_of version body ≡ with_end (kind_reading kind_of (recording version) (whole body))
body_is_read version body = kinds-all (reading kind_of (recording version) (whole body)) ∙ ap with_end (sym (kind_reading-is kind_of (recording version) (whole body)))

-- the events that follow what was read
all_behind : (head : Head) (count : ℕ) (behind_count : Unread) → with_end (bound (kind_reading kind_of (events count 1) behind_count) (λ x. Ok (record { head = head; events = x.0 }, x.1))) ≡ recorded head [] (events_left count 1 behind_count.rest)
all_behind head count behind_count =
    ending (kind_reading kind_of (events count 1) behind_count) (kind_reading kind_of (events count 1) (whole behind_count.rest)) (λ (all : List Event). record { head = head; events = all }) (events_anywhere count 1 behind_count.at 0 behind_count.rest)

pub begun_first : (body root : List ℕ) (count : ℕ) (behind_root behind_count : Unread) → kind_reading kind_of (one_opaque root_limit) (whole body) ≡ Ok (root, behind_root)
    → kind_reading kind_of (named event_count) behind_root ≡ Ok (count, behind_count) → IsBegun First body [] Plain count behind_count.rest
unfolding recording
begun_first body root count behind_root behind_count has_root has_count =
    let head : Head = record { root = root; start = []; profile = Plain } in
    record { root = root; goes_on = body_is_read First body ∙ rw (has_root, has_count) (all_behind head count behind_count) }

pub begun_second : (body root : List ℕ) (profile : Profile) (number : ℕ) (start : List StartObject) (count : ℕ) (behind_root behind_profile behind_number behind_start behind_count : Unread)
    → kind_reading kind_of (one_opaque root_limit) (whole body) ≡ Ok (root, behind_root)
    → kind_reading kind_of (named profile_word) behind_root ≡ Ok (profile, behind_profile)
    → kind_reading kind_of (named object_count) behind_profile ≡ Ok (number, behind_number)
    → kind_reading kind_of (objects number [] 1) behind_number ≡ Ok (start, behind_start)
    → kind_reading kind_of (named event_count) behind_start ≡ Ok (count, behind_count) → IsBegun Second body start profile count behind_count.rest
unfolding recording
begun_second body root profile number start count behind_root behind_profile behind_number behind_start behind_count has_root has_profile has_number has_start has_count =
    let head : Head = record { root = root; start = start; profile = profile } in
    record { root = root; goes_on = body_is_read Second body ∙ rw (has_root, has_profile, has_number, has_start, has_count) (all_behind head count behind_count) }

pub root_fails : (version : Version) (body : List ℕ) (fault : FileFault) → kind_reading kind_of (one_opaque root_limit) (whole body) ≡ Err fault → body_of version body ≡ Err fault
unfolding recording
root_fails First body fault is = body_is_read First body ∙ rw is refl
root_fails Second body fault is = body_is_read Second body ∙ rw is refl

pub count_fails : (body root : List ℕ) (behind_root : Unread) (fault : FileFault) → kind_reading kind_of (one_opaque root_limit) (whole body) ≡ Ok (root, behind_root)
    → kind_reading kind_of (named event_count) behind_root ≡ Err fault → body_of First body ≡ Err fault
unfolding recording
count_fails body root behind_root fault has_root is = body_is_read First body ∙ rw (has_root, is) refl

pub profile_fails : (body root : List ℕ) (behind_root : Unread) (fault : FileFault) → kind_reading kind_of (one_opaque root_limit) (whole body) ≡ Ok (root, behind_root)
    → kind_reading kind_of (named profile_word) behind_root ≡ Err fault → body_of Second body ≡ Err fault
unfolding recording
profile_fails body root behind_root fault has_root is = body_is_read Second body ∙ rw (has_root, is) refl

pub number_fails : (body root : List ℕ) (profile : Profile) (behind_root behind_profile : Unread) (fault : FileFault) → kind_reading kind_of (one_opaque root_limit) (whole body) ≡ Ok (root, behind_root)
    → kind_reading kind_of (named profile_word) behind_root ≡ Ok (profile, behind_profile) → kind_reading kind_of (named object_count) behind_profile ≡ Err fault → body_of Second body ≡ Err fault
unfolding recording
number_fails body root profile behind_root behind_profile fault has_root has_profile is = body_is_read Second body ∙ rw (has_root, has_profile, is) refl

pub start_fails : (body root : List ℕ) (profile : Profile) (number : ℕ) (behind_root behind_profile behind_number : Unread) (fault : FileFault)
    → kind_reading kind_of (one_opaque root_limit) (whole body) ≡ Ok (root, behind_root) → kind_reading kind_of (named profile_word) behind_root ≡ Ok (profile, behind_profile)
    → kind_reading kind_of (named object_count) behind_profile ≡ Ok (number, behind_number) → kind_reading kind_of (objects number [] 1) behind_number ≡ Err fault → body_of Second body ≡ Err fault
unfolding recording
start_fails body root profile number behind_root behind_profile behind_number fault has_root has_profile has_number is = body_is_read Second body ∙ rw (has_root, has_profile, has_number, is) refl

pub second_count_fails : (body root : List ℕ) (profile : Profile) (number : ℕ) (start : List StartObject) (behind_root behind_profile behind_number behind_start : Unread) (fault : FileFault)
    → kind_reading kind_of (one_opaque root_limit) (whole body) ≡ Ok (root, behind_root) → kind_reading kind_of (named profile_word) behind_root ≡ Ok (profile, behind_profile)
    → kind_reading kind_of (named object_count) behind_profile ≡ Ok (number, behind_number) → kind_reading kind_of (objects number [] 1) behind_number ≡ Ok (start, behind_start)
    → kind_reading kind_of (named event_count) behind_start ≡ Err fault → body_of Second body ≡ Err fault
unfolding recording
second_count_fails body root profile number start behind_root behind_profile behind_number behind_start fault has_root has_profile has_number has_start is =
    body_is_read Second body ∙ rw (has_root, has_profile, has_number, has_start, is) refl

left_at_first : (bytes : List ℕ) (version : Version) (start : List StartObject) (profile : Profile) (count : ℕ) (rest : List ℕ) → version_of bytes ≡ Some version → length bytes ≤ 268435456 → IsBegun version (drop 8 bytes) start profile count rest → IsLeftOf bytes start profile 0 count rest
left_at_first bytes version start profile count rest begins small first =
    let k : count - 0 ≡ count = omega arith in
    record { root = first.root; front = []; as_many = refl; goes_on = in_version bytes version begins ∙ file_of-body version bytes small ∙ rw k first.goes_on }

fault_at_first : (bytes : List ℕ) (version : Version) (fault : FileFault) → version_of bytes ≡ Some version → length bytes ≤ 268435456 → body_of version (drop 8 bytes) ≡ Err fault → IsFileFault bytes fault
fault_at_first bytes version fault begins small is = file_fault bytes fault (in_version bytes version begins ∙ file_of-body version bytes small ∙ is)

-- ---- what is read of a file

pub found_of : (bytes body : List ℕ) (version : Version) (r : Result BegunFile FileFault) → body ≡ drop 8 bytes → version_of bytes ≡ Some version → length bytes ≤ 268435456
    → IfOk r (λ b. IsBegun version body b.start b.profile b.unread.count b.unread.rest.now × (b.unread.read ≡ 0)) → IfOk r (λ b. IsLeft bytes b.start b.profile b.unread)
found_of bytes body version (Ok b) same begins small first =
    rw first.1 (left_at_first bytes version b.start b.profile b.unread.count b.unread.rest.now begins small (subst (λ (xs : List ℕ). IsBegun version xs b.start b.profile b.unread.count b.unread.rest.now) same first.0))
found_of bytes body version (Err fault) same begins small first = tt

pub fault_of : (bytes body : List ℕ) (version : Version) (r : Result BegunFile FileFault) → body ≡ drop 8 bytes → version_of bytes ≡ Some version → length bytes ≤ 268435456
    → IsErrorIn (Some version) (λ fault. body_of version body ≡ Err fault) r → IsErrorIn (version_of bytes) (IsFileFault bytes) r
fault_of bytes body version r same begins small is = rw begins (in_version_of version r begins is) where
  here : (v : Version) (fault : FileFault) → version_of bytes ≡ Some v → body_of v body ≡ Err fault → IsFileFault bytes fault
  here v fault begins is = fault_at_first bytes v fault begins small (ap (body_of v) (sym same) ∙ is)

  in_version_of : (v : Version) (r : Result BegunFile FileFault) → version_of bytes ≡ Some v → IsErrorIn (Some v) (λ fault. body_of v body ≡ Err fault) r → IsErrorIn (Some v) (IsFileFault bytes) r
  in_version_of v (Ok b) begins is = tt
  in_version_of First (Err fault) begins is = here First fault begins is
  in_version_of Second (Err fault) begins (inl none) = inl none
  in_version_of Second (Err fault) begins (inr is) = inr (here Second fault begins is)

-- so an error is such a fault, or want of memory
pub error_of : (Is : FileFault → Type 0) (version : Option Version) (fault : FileFault) → IsErrorIn {X = Unit {0}} version Is (Err fault) → (fault ≡ faults.NoMemory) ⊎ Is fault
error_of Is None fault is = inr is
error_of Is (Some First) fault is = inr is
error_of Is (Some Second) fault is = is
