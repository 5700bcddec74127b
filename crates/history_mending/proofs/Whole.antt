-- The file of a history, mended: all of it is given back.
use Rattle.std.proofs.Common.{◌≡◌, ℕ, ◌≤◌, Bool, true, false, if◌then◌else◌, nat_le, List, [], ◌++◌, length, Ok, Err, Result, refl, sym, ap, subst, ◌∙◌, arith, append_assoc, append-nil}
use Rattle.std.proofs.lemmas.Bool.{leb-true}
use Rattle.xdr_records.specs.Grammar.Grammar.{one_word, one_opaque, named, nothing, both}
use Rattle.xdr_records.proofs.Written.{both_spelled, nothing_behind}
use Rattle.xdr_records.specs.Spelling.{Spells}
use Rattle.tree_starts.specs.Head.{Head, plain_head}
use Rattle.history_file.specs.declared.fault.FileFault.{FileFault}
use Rattle.history_file.specs.declared.fault.FileFault.TheVariants as faults
use Rattle.history_file.specs.declared.version.Version.{Version}
use Rattle.history_file.specs.declared.version.Version.TheVariants.{First, Second}
use Rattle.history_file.specs.Limits.{event_limit}
use Rattle.history_file.specs.Starting.{profile_word, object_count, objects}
use Rattle.history_file.specs.Event.{Event, Recording}
use Rattle.history_file.specs.HistoryFile.{event_count, events, recording, HistoryFile}
use Rattle.history_file.specs.Owning.{all_seen}
use Rattle.nfs_history.specs.Standing.{EachMayFollow}
use Rattle.history_mending.specs.declared.end.End.TheVariants as ends
use Rattle.history_mending.specs.declared.mending.Mended.{Mended}
use Rattle.history_mending.specs.Fronts.{head_of, over, IsFront, IsLongestFront}
use Rattle.history_mending.specs.Ends.{EndsSo}
use Rattle.history_mending.specs.Mending.{HasHead, head_value, recording_of, IsMended}
use Rattle.history_mending.proofs.EventLists.{count_is}
use Rattle.history_mending.proofs.Longest.{longest_is, one_longest, ends_stop}
use Rattle.history_mending.proofs.OneEnd.{one_end}
use Rattle.history_mending.proofs.Heads.{one_head}

-- what stands behind the magic: the head, and the events
pub record IsSplit (version : Version) (body : List ℕ) (seen : Recording) : Type 0 where
  pub front : List ℕ
  pub back : List ℕ
  pub parts : body ≡ front ++ back
  pub head : Spells (head_of version) front seen.head
  pub events : Spells (events (length seen.events) 1) back seen.events
  pub few : length seen.events ≤ event_limit

abbrev counted_by : Bool → ℕ → Result ℕ FileFault
counted_by b n = if b then Ok n else Err faults.TooLarge

few_counted : (m n : ℕ) → event_count m ≡ Ok n → n ≤ event_limit
few_counted m n counted = go (nat_le m event_limit) refl counted where
  go : (b : Bool) → nat_le m event_limit ≡ b → counted_by b m ≡ Ok n → n ≤ event_limit
  go true small same = let is : m ≡ n = cc in subst (λ k. k ≤ event_limit) is (leb-true m event_limit small)
  go false small same = absurd (cc)

split_of : (version : Version) (body front back : List ℕ) (head : Head) (count : ℕ) (es : List Event) (seen : Recording) → body ≡ front ++ back → Spells (head_of version) front head → Spells (events count 1) back es → count ≤ event_limit
    → record { head = head; events = es } ≡ seen → IsSplit version body seen
split_of version body front back head count es seen parts spelled stand few same =
    let number = count_is count 1 back es stand in
    subst (λ (r : Recording). IsSplit version body r) same (record {
      front = front;
      back = back;
      parts = parts;
      head = spelled;
      events = subst (λ n. Spells (events n 1) back es) (sym number) stand;
      few = omega (arith, number, few);
    })

-- two parts in front are one
joined_parts : (whole a x y z : List ℕ) → whole ≡ a ++ x → x ≡ y ++ z → whole ≡ (a ++ y) ++ z
joined_parts whole a x y z first others = first ∙ ap (λ xs. a ++ xs) others ∙ sym (append_assoc a y z)

last_part : (whole a x : List ℕ) → whole ≡ a ++ x → x ≡ [] → whole ≡ a
last_part whole a x first none = first ∙ ap (λ (xs : List ℕ). a ++ xs) none ∙ append-nil a

pub split_recording : (version : Version) (body : List ℕ) (seen : Recording) → Spells (recording version) body seen → IsSplit version body seen
unfolding recording head_of
split_recording First body seen root =
    let count = root.1.others in
    let es = count.1.others in
    let left : es.1.back ≡ [] = es.1.others.0 in
    let behind : count.1.back ≡ es.1.front = last_part count.1.back es.1.front es.1.back es.1.parts left in
    split_of First body (root.1.front ++ count.1.front) es.1.front (plain_head root.0) count.0 es.0 seen
    (joined_parts body root.1.front root.1.back count.1.front es.1.front root.1.parts (count.1.parts ∙ ap (λ xs. count.1.front ++ xs) behind))
    (both_spelled {K = FileFault} (one_opaque 64) (λ r. both one_word (λ c. nothing (plain_head r))) root.0 (plain_head root.0) root.1.front count.1.front root.1.first
    (nothing_behind {K = FileFault} one_word (λ c. plain_head root.0) count.1.first.0 count.1.front count.1.first.1))
    es.1.first (few_counted count.1.first.0 count.0 count.1.first.2) es.1.others.1
split_recording Second body seen root =
    let profile = root.1.others in
    let number = profile.1.others in
    let start = number.1.others in
    let count = start.1.others in
    let es = count.1.others in
    let left : es.1.back ≡ [] = es.1.others.0 in
    let head : Head = record { root = root.0; start = start.0; profile = profile.0 } in
    let behind : count.1.back ≡ es.1.front = last_part count.1.back es.1.front es.1.back es.1.parts left in
    split_of Second body (root.1.front ++ (profile.1.front ++ (number.1.front ++ (start.1.front ++ count.1.front)))) es.1.front head count.0 es.0 seen
    (joined_parts body root.1.front root.1.back (profile.1.front ++ (number.1.front ++ (start.1.front ++ count.1.front))) es.1.front root.1.parts
    (joined_parts root.1.back profile.1.front profile.1.back (number.1.front ++ (start.1.front ++ count.1.front)) es.1.front profile.1.parts
    (joined_parts profile.1.back number.1.front number.1.back (start.1.front ++ count.1.front) es.1.front number.1.parts
    (joined_parts number.1.back start.1.front start.1.back count.1.front es.1.front start.1.parts (count.1.parts ∙ ap (λ xs. count.1.front ++ xs) behind)))))
    (both_spelled {K = FileFault} (one_opaque 64) (λ r. both (named profile_word) (λ p. both (named object_count) (λ n. both (objects n [] 1) (λ s. both one_word (λ c. nothing (record { root = r; start = s; profile = p })))))) root.0 head root.1.front (profile.1.front ++ (number.1.front ++ (start.1.front ++ count.1.front))) root.1.first
    (both_spelled {K = FileFault} (named profile_word) (λ p. both (named object_count) (λ n. both (objects n [] 1) (λ s. both one_word (λ c. nothing (record { root = root.0; start = s; profile = p }))))) profile.0 head profile.1.front (number.1.front ++ (start.1.front ++ count.1.front)) profile.1.first
    (both_spelled {K = FileFault} (named object_count) (λ n. both (objects n [] 1) (λ s. both one_word (λ c. nothing (record { root = root.0; start = s; profile = profile.0 })))) number.0 head number.1.front (start.1.front ++ count.1.front) number.1.first
    (both_spelled {K = FileFault} (objects number.0 [] 1) (λ s. both one_word (λ c. nothing (record { root = root.0; start = s; profile = profile.0 }))) start.0 head start.1.front count.1.front start.1.first
    (nothing_behind {K = FileFault} one_word (λ c. head) count.1.first.0 count.1.front count.1.first.1)))))
    es.1.first (few_counted count.1.first.0 count.0 count.1.first.2) es.1.others.1

-- ---- what is mended of it

-- nothing is behind them
pub whole_longest : (over : ℕ) (body : List ℕ) (es : List Event) → IsFront over body es [] → IsLongestFront over body es []
whole_longest over body es front = longest_is over body es [] front (ends_stop over es [] ends.Whole refl)

pub whole_mended : (bytes body : List ℕ) (seen : Recording) (version : Version) (m : Mended) → HasHead bytes version seen.head body → IsFront (over bytes) body seen.events [] → IsMended bytes m
    → (recording_of m ≡ seen) × (m.events_end ≡ length bytes) × (m.end ≡ ends.Whole)
whole_mended bytes body seen version m head front is =
    let same = one_head bytes m.version version (head_value m.head) seen.head is.body body is.head head in
    let longest : IsLongestFront (over bytes) body (all_seen m.events.items) is.rest = subst (λ (xs : List ℕ). IsLongestFront (over bytes) xs (all_seen m.events.items) is.rest) same.2 is.events in
    let one = one_longest (over bytes) body (all_seen m.events.items) seen.events is.rest [] longest (whole_longest (over bytes) body seen.events front) in
    let none : length is.rest ≡ 0 = ap length one.1 in (
      λ i. record { head = same.1 i; events = one.0 i },
      omega (arith, is.events_end, none),
      one_end (over bytes) (all_seen m.events.items) is.rest m.end ends.Whole is.ends one.1,
    )

-- the head of a history file, and its events
pub file_head : (bytes : List ℕ) (seen : Recording) → (file : HistoryFile bytes seen) → HasHead bytes file.version seen.head (split_recording file.version file.body seen file.spelled).back
file_head bytes seen file =
    let split = split_recording file.version file.body seen file.spelled in
    record { behind = file.body; magic = file.parts; begins = record { front = split.front; parts = split.parts; spelled = split.head }; small = omega (arith, file.small) }

pub file_front : (bytes : List ℕ) (seen : Recording) → EachMayFollow [] seen.events → (file : HistoryFile bytes seen) → IsFront (over bytes) (split_recording file.version file.body seen file.spelled).back seen.events []
file_front bytes seen follow file =
    let split = split_recording file.version file.body seen file.spelled in
    record {
      begins = record { front = split.back; parts = sym (append-nil split.back); spelled = split.events };
      follow = follow;
      few = split.few;
      small = omega (arith, file.small);
    }

pub file_mended : (bytes : List ℕ) (seen : Recording) (m : Mended) → HistoryFile bytes seen → EachMayFollow [] seen.events → IsMended bytes m → (recording_of m ≡ seen) × (m.events_end ≡ length bytes) × (m.end ≡ ends.Whole)
file_mended bytes seen m file follow is =
    whole_mended bytes (split_recording file.version file.body seen file.spelled).back seen file.version m (file_head bytes seen file) (file_front bytes seen follow file) is

-- ---- what is mended of any bytes

pub one_mended : (bytes : List ℕ) (a b : Mended) → IsMended bytes a → IsMended bytes b → (a.version ≡ b.version) × (recording_of a ≡ recording_of b) × (a.head_end ≡ b.head_end) × (a.events_end ≡ b.events_end) × (a.end ≡ b.end)
one_mended bytes a b x y =
    let same = one_head bytes a.version b.version (head_value a.head) (head_value b.head) x.body y.body x.head y.head in
    let longest : IsLongestFront (over bytes) y.body (all_seen a.events.items) x.rest = subst (λ (xs : List ℕ). IsLongestFront (over bytes) xs (all_seen a.events.items) x.rest) same.2 x.events in
    let one = one_longest (over bytes) y.body (all_seen a.events.items) (all_seen b.events.items) x.rest y.rest longest y.events in
    let ends' = subst (λ (es : List Event). EndsSo (over bytes) es y.rest a.end) one.0 (subst (λ (xs : List ℕ). EndsSo (over bytes) (all_seen a.events.items) xs a.end) one.1 x.ends) in (
      same.0,
      λ i. record { head = same.1 i; events = one.0 i },
      omega (arith, x.head_end, y.head_end, ap length same.2),
      omega (arith, x.events_end, y.events_end, ap length one.1),
      one_end (over bytes) (all_seen b.events.items) y.rest a.end b.end ends' y.ends,
    )
