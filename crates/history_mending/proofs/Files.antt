-- The head of some bytes with the number of the events that stand behind it is that of a history file.
use Rattle.std.proofs.Common.{◌≡◌, ℕ, ◌+◌, ◌-◌, ◌≤◌, List, [], ◌∷◌, ◌++◌, length, take, drop, Some, Result, Ok, Err, IfOk, refl, sym, ap, subst, ◌∙◌, arith, append_assoc, append-nil, length-append}
use Rattle.std.proofs.lemmas.Bool.{le-leb}
use Rattle.std.proofs.lemmas.List.{drop_at}
use Rattle.xdr_records.specs.Grammar.Grammar.{one_opaque, named, nothing, both}
use Rattle.xdr_records.specs.Spelling.{Spells}
use Rattle.xdr_records.specs.Texts.{word_text}
use Rattle.xdr_records.proofs.Written.{length-word_text, word_spelled, both_spelled, nothing_behind}
use Rattle.tree_starts.specs.Head.{Head, plain_head}
use Rattle.history_file.specs.declared.version.Version.{Version}
use Rattle.history_file.specs.declared.version.Version.TheVariants.{First, Second}
use Rattle.history_file.specs.Limits.{history_limit, event_limit}
use Rattle.history_file.specs.Starting.{profile_word, object_count, objects}
use Rattle.history_file.specs.Event.{Event}
use Rattle.history_file.specs.HistoryFile.{event_count, events, recording, magic, HistoryFile}
use Rattle.history_file.specs.FileReading.{version_of}
use Rattle.history_file.specs.Owning.{all_seen}
use Rattle.history_mending.specs.declared.mending.Mended.{Mended}
use Rattle.history_mending.specs.Mending.{head_value, recording_of, IsMended}
use Rattle.history_mending.proofs.Heads.{begins_as}
use Rattle.history_mending.specs.Fronts.{head_of}

-- the spelling of a head ends with the word of a number; with the number of some events there, and these behind it, it is a recording's
pub record EndsWithNumber (version : Version) (text : List ℕ) (head : Head) : Type 0 where
  pub front : List ℕ
  pub word : List ℕ
  pub parts : text ≡ front ++ word
  pub four : length word ≡ 4
  pub counted : (es : List Event) (back : List ℕ) → length es ≤ event_limit → Spells (events (length es) 1) back es → Spells (recording version) (front ++ (word_text (length es) ++ back)) (record { head = head; events = es })

counted_spelled : {B : Type 0} (f : List Event → B) (es : List Event) (back : List ℕ) → length es ≤ 1000000 → Spells (events (length es) 1) back es
    → Spells (both (named event_count) (λ count. both (events count 1) (λ seen. nothing (f seen)))) (word_text (length es) ++ back) (f es)
counted_spelled f es back few stand =
    let counted : event_count (length es) ≡ Ok (length es) = rw (le-leb (length es) 1000000 few) refl in
    both_spelled (named event_count) (λ count. both (events count 1) (λ seen. nothing (f seen))) (length es) (f es) (word_text (length es)) back (length es, word_spelled (length es) (omega (arith, few)), counted)
    (nothing_behind (events (length es) 1) f es back stand)

last_part : (whole a x : List ℕ) → whole ≡ a ++ x → x ≡ [] → whole ≡ a
last_part whole a x first none = first ∙ ap (λ (xs : List ℕ). a ++ xs) none ∙ append-nil a

joined_parts : (whole a x y z : List ℕ) → whole ≡ a ++ x → x ≡ y ++ z → whole ≡ (a ++ y) ++ z
joined_parts whole a x y z first others = first ∙ ap (λ xs. a ++ xs) others ∙ sym (append_assoc a y z)

pub number_last : (version : Version) (text : List ℕ) (head : Head) → Spells (head_of version) text head → EndsWithNumber version text head
unfolding head_of recording
number_last First text head root =
    let count = root.1.others in
    let word : root.1.back ≡ count.1.front = last_part root.1.back count.1.front count.1.back count.1.parts count.1.others.0 in
    subst (λ (h : Head). EndsWithNumber First text h) count.1.others.1 (record {
      front = root.1.front;
      word = count.1.front;
      parts = root.1.parts ∙ ap (λ xs. root.1.front ++ xs) word;
      four = count.1.first.four;
      counted = λ es back few stand.
          both_spelled (one_opaque 64) (λ r. both (named event_count) (λ n. both (events n 1) (λ seen. nothing (record { head = plain_head r; events = seen })))) root.0 (record { head = plain_head root.0; events = es }) root.1.front (word_text (length es) ++ back) root.1.first
          (counted_spelled (λ (seen : List Event). record { head = plain_head root.0; events = seen }) es back few stand);
    })
number_last Second text head root =
    let profile = root.1.others in
    let number = profile.1.others in
    let start = number.1.others in
    let count = start.1.others in
    let word : start.1.back ≡ count.1.front = last_part start.1.back count.1.front count.1.back count.1.parts count.1.others.0 in
    let ahead = root.1.front ++ (profile.1.front ++ (number.1.front ++ start.1.front)) in
    let h : Head = record { root = root.0; start = start.0; profile = profile.0 } in
    subst (λ (h : Head). EndsWithNumber Second text h) count.1.others.1 (record {
      front = ahead;
      word = count.1.front;
      parts = joined_parts text root.1.front root.1.back (profile.1.front ++ (number.1.front ++ start.1.front)) count.1.front root.1.parts
          (joined_parts root.1.back profile.1.front profile.1.back (number.1.front ++ start.1.front) count.1.front profile.1.parts
          (joined_parts profile.1.back number.1.front number.1.back start.1.front count.1.front number.1.parts
          (start.1.parts ∙ ap (λ xs. start.1.front ++ xs) word)));
      four = count.1.first.four;
      counted = λ es back few stand.
          let text = word_text (length es) ++ back in
          let regrouped : ahead ++ text ≡ root.1.front ++ (profile.1.front ++ (number.1.front ++ (start.1.front ++ text))) = simp append_assoc in
          subst (λ (xs : List ℕ). Spells (recording Second) xs (record { head = h; events = es })) (sym regrouped)
          (both_spelled (one_opaque 64) (λ r. both (named profile_word) (λ p. both (named object_count) (λ n. both (objects n [] 1) (λ s. both (named event_count) (λ count. both (events count 1) (λ seen. nothing (record { head = record { root = r; start = s; profile = p }; events = seen }))))))) root.0 (record { head = h; events = es }) root.1.front (profile.1.front ++ (number.1.front ++ (start.1.front ++ text))) root.1.first
          (both_spelled (named profile_word) (λ p. both (named object_count) (λ n. both (objects n [] 1) (λ s. both (named event_count) (λ count. both (events count 1) (λ seen. nothing (record { head = record { root = root.0; start = s; profile = p }; events = seen })))))) profile.0 (record { head = h; events = es }) profile.1.front (number.1.front ++ (start.1.front ++ text)) profile.1.first
          (both_spelled (named object_count) (λ n. both (objects n [] 1) (λ s. both (named event_count) (λ count. both (events count 1) (λ seen. nothing (record { head = record { root = root.0; start = s; profile = profile.0 }; events = seen }))))) number.0 (record { head = h; events = es }) number.1.front (start.1.front ++ text) number.1.first
          (both_spelled (objects number.0 [] 1) (λ s. both (named event_count) (λ count. both (events count 1) (λ seen. nothing (record { head = record { root = root.0; start = s; profile = profile.0 }; events = seen })))) start.0 (record { head = h; events = es }) start.1.front text start.1.first
          (counted_spelled (λ (seen : List Event). record { head = h; events = seen }) es back few stand)))));
    })

-- ---- the file of what was mended

take_at : (xs ys : List ℕ) (n : ℕ) → length xs ≡ n → take n (xs ++ ys) ≡ xs
take_at xs ys n is = sym (ap (λ k. take k (xs ++ ys)) is) ∙ own xs ys where
  own : (xs ys : List ℕ) → take (length xs) (xs ++ ys) ≡ xs
  own [] ys = refl
  own (x ∷ xs) ys = ap (λ (zs : List ℕ). x ∷ zs) (own xs ys)

-- the parts of the bytes of which the file is made
pub record HasParts (bytes : List ℕ) (m : Mended) : Type 0 where
  pub front : List ℕ
  pub text : List ℕ
  pub top : take (m.head_end - 4) bytes ≡ magic m.version ++ front
  pub whole : take (m.events_end - m.head_end) (drop m.head_end bytes) ≡ text
  pub size : length (magic m.version ++ front) + 4 + length text ≡ m.events_end
  pub few : length (all_seen m.events.items) ≤ event_limit
  pub early : 4 ≤ m.head_end
  pub rising : m.head_end ≤ m.events_end
  pub within : m.events_end ≤ length bytes
  pub small : m.events_end ≤ history_limit
  pub spelled : Spells (recording m.version) (front ++ (word_text (length (all_seen m.events.items)) ++ text)) (recording_of m)

pub parts_of_mended : (bytes : List ℕ) (m : Mended) → IsMended bytes m → HasParts bytes m
parts_of_mended bytes m is =
    let n = number_last m.version is.head.begins.front (head_value m.head) is.head.begins.spelled in
    let es = all_seen m.events.items in
    let f = is.events.front in
    let v = magic m.version in
    let behind : is.head.behind ≡ n.front ++ (n.word ++ is.body) = is.head.begins.parts ∙ ap (λ xs. xs ++ is.body) n.parts ∙ append_assoc n.front n.word is.body in
    let one : bytes ≡ (v ++ n.front) ++ (n.word ++ is.body) = is.head.magic ∙ ap (λ xs. v ++ xs) behind ∙ sym (append_assoc v n.front (n.word ++ is.body)) in
    let two : bytes ≡ ((v ++ n.front) ++ n.word) ++ is.body = one ∙ sym (append_assoc (v ++ n.front) n.word is.body) in
    let long : length bytes ≡ length (v ++ n.front) + (length n.word + length is.body) = ap length one ∙ length-append (v ++ n.front) (n.word ++ is.body) ∙ ap (λ k. length (v ++ n.front) + k) (length-append n.word is.body) in
    let body : length is.body ≡ length f.begins.front + length is.rest = ap length f.begins.parts ∙ length-append f.begins.front is.rest in
    let top : length (v ++ n.front) ≡ m.head_end - 4 = omega (arith, long, is.head_end, n.four) in
    let ahead : length ((v ++ n.front) ++ n.word) ≡ m.head_end = omega (arith, length-append (v ++ n.front) n.word, long, is.head_end) in
    let text : length f.begins.front ≡ m.events_end - m.head_end = omega (arith, body, is.head_end, is.events_end) in
    record {
      front = n.front;
      text = f.begins.front;
      top = ap (take (m.head_end - 4)) one ∙ take_at (v ++ n.front) (n.word ++ is.body) (m.head_end - 4) top;
      whole = ap (take (m.events_end - m.head_end)) (ap (drop m.head_end) two ∙ drop_at ((v ++ n.front) ++ n.word) is.body m.head_end ahead ∙ f.begins.parts) ∙ take_at f.begins.front is.rest (m.events_end - m.head_end) text;
      size = omega (arith, long, body, is.events_end, n.four);
      few = f.few;
      early = omega (arith, long, is.head_end, n.four);
      rising = omega (arith, body, is.head_end, is.events_end);
      within = omega (arith, is.events_end);
      small = omega (arith, f.small, is.events_end);
      spelled = n.counted es f.begins.front f.few f.begins.spelled;
    }

-- what is written so is the file
pub file_text_is : (bytes : List ℕ) (m : Mended) (out : List ℕ) (count : ℕ) → (p : HasParts bytes m) → count ≡ length (all_seen m.events.items) → out ≡ take (m.head_end - 4) bytes ++ (word_text count ++ take (m.events_end - m.head_end) (drop m.head_end bytes))
    → out ≡ magic m.version ++ (p.front ++ (word_text (length (all_seen m.events.items)) ++ p.text))
file_text_is bytes m out count p is text =
    text ∙ ap (λ xs. xs ++ (word_text count ++ take (m.events_end - m.head_end) (drop m.head_end bytes))) p.top
    ∙ ap (λ xs. (magic m.version ++ p.front) ++ (word_text count ++ xs)) p.whole
    ∙ ap (λ k. (magic m.version ++ p.front) ++ (word_text k ++ p.text)) is
    ∙ append_assoc (magic m.version) p.front (word_text (length (all_seen m.events.items)) ++ p.text)

pub file_spelled : (bytes : List ℕ) (m : Mended) (out : List ℕ) (count : ℕ) → IsMended bytes m → count ≡ length (all_seen m.events.items) → out ≡ take (m.head_end - 4) bytes ++ (word_text count ++ take (m.events_end - m.head_end) (drop m.head_end bytes)) → HistoryFile out (recording_of m)
file_spelled bytes m out count mended is text =
    let p = parts_of_mended bytes m mended in
    let parts = file_text_is bytes m out count p is text in
    let es = all_seen m.events.items in
    let size : length out ≡ length (magic m.version ++ p.front) + (4 + length p.text) = ap length (parts ∙ sym (append_assoc (magic m.version) p.front (word_text (length es) ++ p.text))) ∙ length-append (magic m.version ++ p.front) (word_text (length es) ++ p.text)
    ∙ ap (λ k. length (magic m.version ++ p.front) + k) (length-append (word_text (length es)) p.text ∙ ap (λ k. k + length p.text) (length-word_text (length es))) in
    record {
      version = m.version;
      body = p.front ++ (word_text (length es) ++ p.text);
      parts = parts;
      small = omega (arith, size, p.size, p.small);
      spelled = p.spelled;
    }

pub file_version : (bytes : List ℕ) (m : Mended) (out : List ℕ) (count : ℕ) → IsMended bytes m → count ≡ length (all_seen m.events.items) → out ≡ take (m.head_end - 4) bytes ++ (word_text count ++ take (m.events_end - m.head_end) (drop m.head_end bytes)) → version_of out ≡ Some m.version
file_version bytes m out count mended is text =
    let p = parts_of_mended bytes m mended in
    begins_as out (p.front ++ (word_text (length (all_seen m.events.items)) ++ p.text)) m.version (file_text_is bytes m out count p is text)

pub on_ok : {X F : Type 0} (r : Result X F) (P Q : X → Type 0) → ((x : X) → P x → Q x) → IfOk r P → IfOk r Q
on_ok (Ok x) P Q each h = each x h
on_ok (Err e) P Q each h = tt
