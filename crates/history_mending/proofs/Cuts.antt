-- A recorder's part that was cut behind its head: the events are given whose text is whole.
use Rattle.std.proofs.Common.{◌≡◌, ◌⊎◌, inl, inr, ℕ, zero, suc, ◌+◌, ◌-◌, ◌≤◌, ◌<◌, List, [], ◌∷◌, ◌++◌, length, take, drop, refl, sym, ap, subst, ◌∙◌, arith, append_assoc, append-nil, length-append}
use Rattle.std.specs.List.{AllByRecursion}
use Rattle.std.proofs.lemmas.List.{take-append-drop, length-take}
use Rattle.xdr_records.specs.Spelling.{Spells}
use Rattle.tree_starts.specs.Head.{Head}
use Rattle.history_file.specs.Limits.{history_limit, event_limit}
use Rattle.history_file.specs.declared.version.Version.{Version}
use Rattle.history_file.specs.Event.{Event}
use Rattle.history_file.specs.HistoryFile.{magic, events, HistoryFile}
use Rattle.history_file.specs.Owning.{all_seen}
use Rattle.history_file.specs.Writing.{event_text, events_text, EventFits}
use Rattle.history_file.proofs.WritingSteps.{events_spelled}
use Rattle.nfs_history.specs.Standing.{EachMayFollow}
use Rattle.history_mending.specs.declared.end.End.TheVariants as ends
use Rattle.history_mending.specs.declared.mending.Mended.{Mended}
use Rattle.history_mending.specs.Fronts.{head_of, over, Begins, IsFront, IsLongestFront}
use Rattle.history_mending.specs.Mending.{HasHead, head_value, recording_of, IsMended}
use Rattle.history_mending.specs.Parts.{IsPart, part_text, GivesWhole}
use Rattle.history_mending.proofs.Beginning.{one_begins, with_more}
use Rattle.history_mending.proofs.Longest.{front_of, ends_stop}
use Rattle.history_mending.proofs.Heads.{one_head}
use Rattle.history_mending.proofs.Whole.{split_recording, whole_mended}

-- ---- a front of events

fits_front : (xs ys : List Event) → AllByRecursion EventFits (xs ++ ys) → AllByRecursion EventFits xs
fits_front [] ys all = tt
fits_front (x ∷ xs) ys all = (all.0, fits_front xs ys all.1)

follow_front : (before xs ys : List Event) → EachMayFollow before (xs ++ ys) → EachMayFollow before xs
follow_front before [] ys may = tt
follow_front before (x ∷ xs) ys may = (may.0, follow_front (before ++ x ∷ []) xs ys may.1)

text_append : (xs ys : List Event) → events_text (xs ++ ys) ≡ events_text xs ++ events_text ys
text_append [] ys = refl
text_append (x ∷ xs) ys = ap (λ t. event_text x ++ t) (text_append xs ys) ∙ sym (append_assoc (event_text x) (events_text xs) (events_text ys))

-- the events at the front of a text of more
text_begins : (xs ys : List Event) → AllByRecursion EventFits (xs ++ ys) → Begins (events (length xs) 1) xs (events_text (xs ++ ys)) (events_text ys)
text_begins xs ys all = record { front = events_text xs; parts = text_append xs ys; spelled = events_spelled 1 xs (fits_front xs ys all) }

-- ---- the bytes up to a cut

take_behind : (top text : List ℕ) (k : ℕ) → length top ≤ k → take k (top ++ text) ≡ top ++ take (k - length top) text
take_behind [] text k le = ap (λ n. take n text) (omega arith)
take_behind (x ∷ top) text zero le = absurd (omega (arith, le))
take_behind (x ∷ top) text (suc k) le =
    let less : k - length top ≡ suc k - length (x ∷ top) = omega arith in
    ap (λ (xs : List ℕ). x ∷ xs) (take_behind top text k (omega (arith, le)) ∙ ap (λ n. top ++ take n text) less)

-- ---- the events that are given

-- what is known of a cut: so many bytes of the text of these events, and the longest list of whole events in it
pub record IsCut (es : List Event) (n : ℕ) (m : List Event) (rest : List ℕ) : Type 0 where
  pub fit : AllByRecursion EventFits es
  pub follow : EachMayFollow [] es
  pub few : length es ≤ event_limit
  pub longest : IsLongestFront 0 (take n (events_text es)) m rest

-- the events stand in the whole text too
given_begins : (es : List Event) (n : ℕ) (m : List Event) (rest : List ℕ) → IsCut es n m rest → Begins (events (length m) 1) m (events_text es) (rest ++ drop n (events_text es))
given_begins es n m rest cut =
    subst (λ (xs : List ℕ). Begins (events (length m) 1) m xs (rest ++ drop n (events_text es))) (take-append-drop n (events_text es))
    (with_more (events (length m) 1) m (take n (events_text es)) rest (drop n (events_text es)) cut.longest.front.begins)

-- they are a front of all
given_front : (es : List Event) (n : ℕ) (m : List Event) (rest : List ℕ) → IsCut es n m rest → (more : List Event) × (es ≡ m ++ more)
given_front es n m rest cut =
    let whole : Begins (events (length es) 1) es (events_text es) [] = record { front = events_text es; parts = sym (append-nil (events_text es)); spelled = events_spelled 1 es cut.fit } in
    front_of 0 1 [] es m (events_text es) [] (rest ++ drop n (events_text es)) refl whole (given_begins es n m rest cut) cut.longest.front.follow (omega (arith, cut.longest.front.few)) (omega arith) (ends_stop 0 es [] ends.Whole refl)

-- their text is what was read
given_length : (es : List Event) (n : ℕ) (m : List Event) (rest : List ℕ) → IsCut es n m rest → length (events_text m) + length rest ≡ length (take n (events_text es))
given_length es n m rest cut =
    let front = given_front es n m rest cut in
    let fit : AllByRecursion EventFits (m ++ front.0) = subst (AllByRecursion EventFits) front.1 cut.fit in
    let here : Begins (events (length m) 1) m (events_text es) (events_text front.0) = subst (λ (xs : List Event). Begins (events (length m) 1) m (events_text xs) (events_text front.0)) (sym front.1) (text_begins m front.0 fit) in
    let same = one_begins (events (length m) 1) m m (events_text es) (rest ++ drop n (events_text es)) (events_text front.0) (given_begins es n m rest cut) here in
    let all : length (events_text es) ≡ length (events_text m) + length (events_text front.0) = ap (λ (xs : List Event). length (events_text xs)) front.1 ∙ ap length (text_append m front.0) ∙ length-append (events_text m) (events_text front.0) in
    let left : length (events_text front.0) ≡ length rest + length (drop n (events_text es)) = ap length (sym same.1) ∙ length-append rest (drop n (events_text es)) in
    let both : length (take n (events_text es)) + length (drop n (events_text es)) ≡ length (events_text es) = sym (length-append (take n (events_text es)) (drop n (events_text es))) ∙ ap length (take-append-drop n (events_text es)) in
    omega (arith, all, left, both)

take_own : (m more : List Event) → take (length m) (m ++ more) ≡ m
take_own [] more = refl
take_own (x ∷ m) more = ap (λ (xs : List Event). x ∷ xs) (take_own m more)

given_taken : (es : List Event) (n : ℕ) (m : List Event) (rest : List ℕ) → IsCut es n m rest → m ≡ take (length m) es
given_taken es n m rest cut =
    let front = given_front es n m rest cut in
    sym (take_own m front.0) ∙ ap (take (length m)) (sym front.1)

-- events whose text is whole are given
whole_given : (es : List Event) (n : ℕ) (m : List Event) (rest : List ℕ) (k : ℕ) → IsCut es n m rest → length (events_text (take k es)) ≤ n → (more : List Event) × (m ≡ take k es ++ more)
whole_given es n m rest k cut within =
    let parts : take k es ++ drop k es ≡ es = take-append-drop k es in
    let fit : AllByRecursion EventFits (take k es ++ drop k es) = subst (AllByRecursion EventFits) (sym parts) cut.fit in
    let follow : EachMayFollow [] (take k es ++ drop k es) = subst (EachMayFollow []) (sym parts) cut.follow in
    let text : events_text es ≡ events_text (take k es) ++ events_text (drop k es) = ap events_text (sym parts) ∙ text_append (take k es) (drop k es) in
    let left = take (n - length (events_text (take k es))) (events_text (drop k es)) in
    let there : take n (events_text es) ≡ events_text (take k es) ++ left = ap (take n) text ∙ take_behind (events_text (take k es)) (events_text (drop k es)) n within in
    cut.longest.longest (take k es) left (record {
      begins = record { front = events_text (take k es); parts = there; spelled = events_spelled 1 (take k es) (fits_front (take k es) (drop k es) fit) };
      follow = follow_front [] (take k es) (drop k es) follow;
      few = omega (arith, cut.few, ap length parts, length-append (take k es) (drop k es));
      small = omega arith;
    })

none_more : (es : List Event) (n : ℕ) (m : List Event) (rest : List ℕ) → IsCut es n m rest → length m < length es → n < length (events_text (take (length m + 1) es))
none_more es n m rest cut some = go (le_or_lt (length (events_text (take (length m + 1) es))) n) where
  le_or_lt : (a b : ℕ) → (a ≤ b) ⊎ (b < a)
  le_or_lt zero b = inl (omega arith)
  le_or_lt (suc a) zero = inr (omega arith)
  le_or_lt (suc a) (suc b) = elim (le_or_lt a b) [ inl le ↦ inl (omega (arith, le)) | inr lt ↦ inr (omega (arith, lt)) ]

  go : (length (events_text (take (length m + 1) es)) ≤ n) ⊎ (n < length (events_text (take (length m + 1) es))) → n < length (events_text (take (length m + 1) es))
  go (inr lt) = lt
  go (inl le) =
      let given = whole_given es n m rest (length m + 1) cut le in
      absurd (omega (arith, some, ap length given.1, length-append (take (length m + 1) es) given.0, length-take (length m + 1) es))

-- ---- a part

-- the top of a part is a head
pub record IsTop (top : List ℕ) (head : Head) : Type 0 where
  pub version : Version
  pub behind : List ℕ
  pub parts : top ≡ magic version ++ behind
  pub spelled : Spells (head_of version) behind head
  pub small : length top ≤ history_limit

empty : (back : List ℕ) → Spells (events 0 1) back [] → back ≡ []
unfolding events
empty back spelled = spelled.0

top_of : (top : List ℕ) (head : Head) → HistoryFile top (record { head = head; events = [] }) → IsTop top head
top_of top head file =
    let split = split_recording file.version file.body (record { head = head; events = [] }) file.spelled in
    let none : split.back ≡ [] = empty split.back split.events in
    let whole : file.body ≡ split.front = split.parts ∙ ap (λ (xs : List ℕ). split.front ++ xs) none ∙ append-nil split.front in
    record { version = file.version; behind = file.body; parts = file.parts; spelled = subst (λ (xs : List ℕ). Spells (head_of file.version) xs head) (sym whole) split.head; small = file.small }

head_on_top : (top : List ℕ) (head : Head) (text : List ℕ) → (t : IsTop top head) → HasHead (top ++ text) t.version head text
head_on_top top head text t = record {
  behind = t.behind ++ text;
  magic = ap (λ xs. xs ++ text) t.parts ∙ append_assoc (magic t.version) t.behind text;
  begins = record { front = t.behind; parts = refl; spelled = t.spelled };
  small = omega (arith, t.small, length-append top text);
}

pub cut_head : (top : List ℕ) (head : Head) (es : List Event) (k : ℕ) → IsPart top head es → length top ≤ k → (version : Version) × (body : List ℕ) × HasHead (take k (top ++ events_text es)) version head body
cut_head top head es k part le =
    let t = top_of top head part.top_file in
    let body = take (k - length top) (events_text es) in
    (t.version, body, subst (λ (xs : List ℕ). HasHead xs t.version head body) (sym (take_behind top (events_text es) k le)) (head_on_top top head body t))

-- nothing of a part passes the limit
none_over : (bytes : List ℕ) → length bytes ≤ history_limit → over bytes ≡ 0
none_over bytes small = omega (arith, small)

pub cut_mended : (top : List ℕ) (head : Head) (es : List Event) (k : ℕ) (m : Mended) → IsPart top head es → length top ≤ k → IsMended (take k (top ++ events_text es)) m → GivesWhole top head es k m
cut_mended top head es k m part le is =
    let t = top_of top head part.top_file in
    let n = k - length top in
    let body = take n (events_text es) in
    let bytes = take k (top ++ events_text es) in
    let parts : bytes ≡ top ++ body = take_behind top (events_text es) k le in
    let at : HasHead bytes t.version head body = subst (λ (xs : List ℕ). HasHead xs t.version head body) (sym parts) (head_on_top top head body t) in
    let same = one_head bytes m.version t.version (head_value m.head) head is.body body is.head at in
    let small : length bytes ≤ history_limit = omega (arith, part.small, length-take k (top ++ events_text es)) in
    let given = all_seen m.events.items in
    let longest : IsLongestFront 0 body given is.rest = subst (λ o. IsLongestFront o body given is.rest) (none_over bytes small) (subst (λ (xs : List ℕ). IsLongestFront (over bytes) xs given is.rest) same.2 is.events) in
    let cut : IsCut es n given is.rest = record { fit = part.fit; follow = part.follow; few = part.few; longest = longest } in
    let taken : given ≡ take (length given) es = given_taken es n given is.rest cut in
    let own : length (events_text given) + length is.rest ≡ length body = given_length es n given is.rest cut in
    let text : length (part_text top es (length given)) ≡ length top + length (events_text given) = length-append top (events_text (take (length given) es)) ∙ ap (λ (xs : List Event). length top + length (events_text xs)) (sym taken) in
    let total : length bytes ≡ length top + length body = ap length parts ∙ length-append top body in
    record {
      number = length given;
      recording = λ i. record { head = same.1 i; events = taken i };
      whole = omega (arith, text, own, length-take n (events_text es), le);
      no_more = λ some. omega (arith, none_more es n given is.rest cut some, length-append top (events_text (take (length given + 1) es)), le);
      events_end = omega (arith, is.events_end, total, own, text);
    }

pub part_mended : (top : List ℕ) (head : Head) (es : List Event) (m : Mended) → IsPart top head es → IsMended (top ++ events_text es) m → (recording_of m ≡ record { head = head; events = es }) × (m.end ≡ ends.Whole)
part_mended top head es m part is =
    let t = top_of top head part.top_file in
    let front : IsFront (over (top ++ events_text es)) (events_text es) es [] = record {
      begins = record { front = events_text es; parts = sym (append-nil (events_text es)); spelled = events_spelled 1 es part.fit };
      follow = part.follow;
      few = part.few;
      small = omega (arith, part.small);
    } in
    let all = whole_mended (top ++ events_text es) (events_text es) (record { head = head; events = es }) t.version m (head_on_top top head (events_text es) t) front is in
    (all.0, all.2)
