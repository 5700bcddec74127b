-- The events at the front of a body, read one after the other.
use Rattle.std.proofs.Common.{◌≡◌, ◌⊎◌, ◌==◌, inl, inr, ℕ, ◌+◌, ◌-◌, ◌<◌, ◌≤◌, Bool, true, false, IfOk, List, [], ◌∷◌, ◌++◌, length, drop, Some, None, Result, Ok, Err, refl, sym, ap, subst, ◌∙◌, arith, append_assoc, append-nil, length-append}
use Rattle.std.specs.Prelude.{MatchBool}
use Rattle.std.proofs.lemmas.Bool.{eqb-true, eq-eqb}
use Rattle.std.proofs.lemmas.List.{length-drop}
use Rattle.xdr_records.specs.Unread.{Unread, whole}
use Rattle.xdr_records.specs.Faults.{Fails}
use Rattle.xdr_records.specs.Kinds.{kind_reading}
use Rattle.xdr_records.proofs.KindLaws.{kind_fault}
use Rattle.tree_starts.specs.Head.{Head}
use Rattle.history_file.specs.declared.fault.FileFault.{FileFault}
use Rattle.history_file.specs.declared.fault.FileFault.TheVariants as faults
use Rattle.history_file.specs.declared.version.Version.{Version}
use Rattle.history_file.specs.Kinds.{kind_of}
use Rattle.history_file.specs.Limits.{history_limit, event_limit}
use Rattle.history_file.specs.Event.{Event}
use Rattle.history_file.specs.HistoryFile.{event, events}
use Rattle.history_file.specs.FileFaults.{IsFineOrNoMemory, IsErrorOf, IsThatOrNoMemory}
use Rattle.history_file.specs.Owning.{all_seen}
use Rattle.history_file.specs.FileReading.{version_of}
use Rattle.nfs_history.specs.declared.checking.OpenCalls.{OpenCalls}
use Rattle.nfs_history.specs.declared.fault.EventFault.{EventFault}
use Rattle.nfs_history.specs.Checking.{Knows, IsFaultBehind, KnowsOneMore}
use Rattle.nfs_history.specs.Standing.{MayFollow, EachMayFollow}
use Rattle.nfs_history.specs.EventFaults.{IsAtFault}
use Rattle.nfs_history.proofs.Lanes.{eras_few}
use Rattle.history_mending.specs.declared.end.End.{End}
use Rattle.history_mending.specs.declared.end.End.TheVariants as ends
use Rattle.history_mending.specs.declared.events.WholeEvents.{WholeEvents}
use Rattle.history_mending.specs.declared.head.SeenHead.{SeenHead}
use Rattle.history_mending.specs.declared.mending.Mended.{Mended}
use Rattle.history_mending.specs.Fronts.{head_of, over, Begins, IsLongestFront}
use Rattle.history_mending.specs.Ends.{EventFails, EndsSo}
use Rattle.history_mending.specs.Steps.{IsReadTo, AreWhole}
use Rattle.history_mending.specs.Mending.{HasHead, IsHeadFault, head_value, IsMended}
use Rattle.history_mending.proofs.Beginning.{begins_found, shorter}
use Rattle.history_mending.proofs.EventLists.{none_begins, snoc_begins}
use Rattle.history_mending.proofs.Heads.{parts_of, head_or_fault, one_head_fault}
use Rattle.history_mending.proofs.Longest.{longest_is, ends_stop}

-- ---- the next event

-- what can't be read is at fault
pub event_fails : (i : ℕ) (rest : List ℕ) (fault : FileFault) → kind_reading kind_of (event i) (whole rest) ≡ Err fault → EventFails i rest fault
event_fails i rest fault is =
    let f = kind_fault kind_of (event i) (whole rest) fault is in
    (f.0.at, subst (λ (k : FileFault). Fails kind_of (event i) (whole rest) (record { at = f.0.at; kind = k })) f.2 f.1)

pub cannot_follow : (over number : ℕ) (seen : List Event) (rest behind : List ℕ) (known : OpenCalls) (next : Event) (fault : EventFault) → IsFaultBehind known number next (Some fault) → Knows known seen → number ≡ length seen + 1
    → Begins (event number) next rest behind → EndsSo over seen rest (ends.CannotFollow fault)
cannot_follow over number seen rest behind known next fault at knows is begins =
    (next, behind, subst (λ n. Begins (event n) next rest behind) is begins, subst (λ n. IsAtFault n seen next fault) is (at seen knows))

pub is_full : (over number : ℕ) (seen : List Event) (rest behind : List ℕ) (known : OpenCalls) (next : Event) → IsFaultBehind known number next None → Knows known seen → number ≡ length seen + 1
    → Begins (event number) next rest behind → (event_limit < length seen + 1) ⊎ (length behind < over) → EndsSo over seen rest ends.Full
is_full over number seen rest behind known next at knows is begins full =
    (next, behind, subst (λ n. Begins (event n) next rest behind) is begins, at seen knows, full)

-- ---- one event more

follow_push : (before es : List Event) (e : Event) → EachMayFollow before es → MayFollow (before ++ es) e → EachMayFollow before (es ++ e ∷ [])
follow_push before [] e all may = (subst (λ (b : List Event). MayFollow b e) (append-nil before) may, tt)
follow_push before (f ∷ es) e all may =
    (all.0, follow_push (before ++ f ∷ []) es e all.1 (subst (λ (b : List Event). MayFollow b e) (sym (append_assoc before (f ∷ []) es)) may))

pub read_none : (over : ℕ) (body : List ℕ) (known : OpenCalls) → over ≤ length body → Knows known [] → IsReadTo over body [] known body
read_none over body known small knows = record {
  front = record { begins = none_begins 1 body; follow = tt; few = omega arith; small = small };
  knows = knows;
}

pub read_more : (over : ℕ) (body : List ℕ) (seen : List Event) (known new : OpenCalls) (rest behind : List ℕ) (next : Event) → IsReadTo over body seen known rest
    → Begins (event (length seen + 1)) next rest behind → MayFollow seen next → length seen + 1 ≤ event_limit → over ≤ length behind → KnowsOneMore known new next
    → IsReadTo over body (seen ++ next ∷ []) new behind
read_more over body seen known new rest behind next so_far begins may few small knows = record {
  front = record {
    begins = snoc_begins 1 seen next body rest behind so_far.front.begins (subst (λ n. Begins (event n) next rest behind) (omega arith) begins);
    follow = follow_push [] seen next so_far.front.follow may;
    few = omega (arith, few, length-append seen (next ∷ []));
    small = small;
  };
  knows = knows seen so_far.knows may;
}

-- there are no more eras than events, but for the first
pub era_within : (seen : List Event) (known : OpenCalls) → Knows known seen → known.era ≤ 1 + length seen
era_within seen known knows = omega (arith, knows.era, eras_few 1 seen)

-- ---- what the code's steps say

pub empty_is : (xs : List ℕ) → (length xs == 0) ≡ true → xs ≡ []
empty_is [] is = refl
empty_is (x ∷ xs) is = absurd (omega (arith, eqb-true (length (x ∷ xs)) 0 is))

pub not_empty : (xs : List ℕ) → (length xs == 0) ≡ false → xs ≡ [] → ⊥
not_empty xs is nil = let yes : (length xs == 0) ≡ true = eq-eqb (length xs) 0 (ap length nil) in absurd (cc)

abbrev IsWithin : ℕ → ℕ → List ℕ → Type 0
IsWithin number over left = (number ≤ event_limit) × (over ≤ length left)

abbrev IsPast : ℕ → ℕ → List ℕ → Type 0
IsPast number over left = (event_limit < number) ⊎ (length left < over)

pub room_of : (b : Bool) (number over : ℕ) (seen : List Event) (left : List ℕ) → MatchBool b ((number ≤ event_limit) × (over ≤ length left)) ((event_limit < number) ⊎ (length left < over)) → b ≡ true → number ≡ length seen + 1
    → (length seen + 1 ≤ event_limit) × (over ≤ length left)
room_of true number over seen left so is at = subst (λ n. IsWithin n over left) at so
room_of false number over seen left so is at = absurd (cc)

pub full_of : (b : Bool) (number over : ℕ) (seen : List Event) (left : List ℕ) → MatchBool b ((number ≤ event_limit) × (over ≤ length left)) ((event_limit < number) ⊎ (length left < over)) → b ≡ false → number ≡ length seen + 1
    → (event_limit < length seen + 1) ⊎ (length left < over)
full_of true number over seen left so is at = absurd (cc)
full_of false number over seen left so is at = subst (λ n. IsPast n over left) at so

pub next_begins : (number : ℕ) (rest behind : List ℕ) (e : Event) (old new : Unread) → old ≡ whole rest → behind ≡ new.rest → kind_reading kind_of (event number) old ≡ Ok (e, new) → Begins (event number) e rest behind
next_begins number rest behind e old new at same read =
    subst (λ (xs : List ℕ). Begins (event number) e rest xs) (sym same) (begins_found (event number) e rest new (subst (λ (u : Unread). kind_reading kind_of (event number) u ≡ Ok (e, new)) at read))

pub next_fails : (number : ℕ) (seen : List Event) (rest : List ℕ) (fault : FileFault) (old : Unread) → old ≡ whole rest → number ≡ length seen + 1 → kind_reading kind_of (event number) old ≡ Err fault → EventFails (length seen + 1) rest fault
next_fails number seen rest fault old at is read =
    subst (λ n. EventFails n rest fault) is (event_fails number rest fault (subst (λ (u : Unread). kind_reading kind_of (event number) u ≡ Err fault) at read))

-- ---- the head

pub head_begins : (version : Version) (head : Head) (bytes behind body : List ℕ) (old new : Unread) → behind ≡ drop 8 bytes → old ≡ whole behind → kind_reading kind_of (head_of version) old ≡ Ok (head, new) → body ≡ new.rest
    → Begins (head_of version) head (drop 8 bytes) body
head_begins version head bytes behind body old new is at read same =
    subst (λ (xs : List ℕ). Begins (head_of version) head (drop 8 bytes) xs) (sym same)
    (begins_found (head_of version) head (drop 8 bytes) new (subst (λ (u : Unread). kind_reading kind_of (head_of version) u ≡ Ok (head, new)) (at ∙ ap whole is) read))

pub head_err : (bytes : List ℕ) (version : Version) (fault : FileFault) (behind : List ℕ) (old : Unread) → version_of bytes ≡ Some version → behind ≡ drop 8 bytes → old ≡ whole behind
    → (fault ≡ faults.NoMemory) ⊎ (kind_reading kind_of (head_of version) old ≡ Err fault) → (fault ≡ faults.NoMemory) ⊎ IsHeadFault bytes fault
head_err bytes version fault behind old begun is at (inl none) = inl none
head_err bytes version fault behind old begun is at (inr read) =
    let here : kind_reading kind_of (head_of version) (whole (drop 8 bytes)) ≡ Err fault = subst (λ (u : Unread). kind_reading kind_of (head_of version) u ≡ Err fault) (at ∙ ap whole is) read in
    let f = kind_fault kind_of (head_of version) (whole (drop 8 bytes)) fault here in
    inr (inr (inl (record {
      version = version;
      behind = drop 8 bytes;
      magic = parts_of bytes version begun;
      at = f.0.at;
      fails = subst (λ (k : FileFault). Fails kind_of (head_of version) (whole (drop 8 bytes)) (record { at = f.0.at; kind = k })) f.2 f.1;
    })))

pub head_over : (bytes : List ℕ) (version : Version) (head : Head) (body : List ℕ) (beyond : ℕ) → version_of bytes ≡ Some version → Begins (head_of version) head (drop 8 bytes) body → beyond ≡ length bytes - history_limit → length body < beyond
    → IsHeadFault bytes faults.TooLarge
head_over bytes version head body beyond begun begins is large = inr (inr (
  record {
    version = version;
    head = head;
    behind = drop 8 bytes;
    body = body;
    magic = parts_of bytes version begun;
    begins = begins;
    large = omega (arith, is, large);
  },
  refl,
))

pub body_within : (version : Version) (head : Head) (bytes body : List ℕ) → Begins (head_of version) head (drop 8 bytes) body → length body ≤ length bytes
body_within version head bytes body begins = omega (arith, shorter (head_of version) head (drop 8 bytes) body begins, length-drop 8 bytes)

pub rest_within : (over : ℕ) (body : List ℕ) (read : WholeEvents) → AreWhole over body read → length read.rest.now ≤ length body
rest_within over body read are = shorter (events (length (all_seen read.events.items)) 1) (all_seen read.events.items) body read.rest.now are.front.begins

pub is_mended : (bytes : List ℕ) (version : Version) (head : SeenHead) (body : List ℕ) (beyond : ℕ) (read : WholeEvents) (m : Mended) → version_of bytes ≡ Some version → Begins (head_of version) (head_value head) (drop 8 bytes) body
    → beyond ≡ length bytes - history_limit → beyond ≤ length body → AreWhole beyond body read
    → m.version ≡ version → head_value m.head ≡ head_value head → m.events.items ≡ read.events.items → m.head_end ≡ length bytes - length body → m.events_end ≡ length bytes - length read.rest.now → m.end ≡ read.end → IsMended bytes m
is_mended bytes version head body beyond read m begun begins is small are v h es first last e =
    let ends' : EndsSo (over bytes) (all_seen read.events.items) read.rest.now read.end = subst (λ o. EndsSo o (all_seen read.events.items) read.rest.now read.end) is are.ends in
    let longest : IsLongestFront (over bytes) body (all_seen read.events.items) read.rest.now = subst (λ o. IsLongestFront o body (all_seen read.events.items) read.rest.now) is
    (longest_is beyond body (all_seen read.events.items) read.rest.now are.front (ends_stop beyond (all_seen read.events.items) read.rest.now read.end are.ends)) in
    let has : HasHead bytes version (head_value head) body = record { behind = drop 8 bytes; magic = parts_of bytes version begun; begins = begins; small = omega (arith, is, small) } in
    let same : all_seen read.events.items ≡ all_seen m.events.items = ap all_seen (sym es) in
    record {
      body = body;
      rest = read.rest.now;
      head = subst (λ (w : Version). HasHead bytes w (head_value m.head) body) (sym v) (subst (λ (g : Head). HasHead bytes version g body) (sym h) has);
      events = subst (λ (xs : List Event). IsLongestFront (over bytes) body xs read.rest.now) same longest;
      head_end = omega (arith, first, body_within version (head_value head) bytes body begins);
      events_end = omega (arith, last, body_within version (head_value head) bytes body begins, rest_within beyond body read are);
      ends = subst (λ (x : End). EndsSo (over bytes) (all_seen m.events.items) read.rest.now x) (sym e) (subst (λ (xs : List Event). EndsSo (over bytes) xs read.rest.now read.end) same ends');
    }

-- ---- the answers to bytes

pub only_of : (bytes : List ℕ) (r : Result Mended FileFault) → IsErrorOf (IsHeadFault bytes) r → (version : Version) (head : Head) (body : List ℕ) → HasHead bytes version head body → IsFineOrNoMemory r
only_of bytes (Ok m) h version head body has = tt
only_of bytes (Err fault) (inl none) version head body has = none
only_of bytes (Err fault) (inr is) version head body has = absurd (head_or_fault bytes version head body fault has is)

pub named_of : (bytes : List ℕ) (r : Result Mended FileFault) → IfOk r (IsMended bytes) → IsErrorOf (IsHeadFault bytes) r → (fault : FileFault) → IsHeadFault bytes fault → IsThatOrNoMemory fault r
named_of bytes (Ok m) found h fault first = absurd (head_or_fault bytes m.version (head_value m.head) found.body fault found.head first)
named_of bytes (Err other) found (inl none) fault first = inl none
named_of bytes (Err other) found (inr is) fault first = inr (one_head_fault bytes other fault is first)
