-- A file that is written spells its recording, in both versions.
use Rattle.std.proofs.Common.{◌≡◌, ℕ, zero, suc, ◌+◌, ◌≤◌, Bool, true, false, if◌then◌else◌, not, nat_le, List, [], ◌∷◌, ◌++◌, length, Option, Some, None, Ok, subst, refl, sym, ◌∙◌, arith, append_assoc, append-nil, lit<, length-append}
use Rattle.std.specs.List.{AllByRecursion, slice_get}
use Rattle.std.specs.Option.{option_or, option_map_or}
use Rattle.std.proofs.lemmas.Bool.{le-leb, leb-true}
use Rattle.std.proofs.lemmas.Option.{slice_get_within}
use Rattle.xdr_records.specs.Grammar.{Grammar}
use Rattle.xdr_records.specs.Grammar.Grammar.{one_long, one_opaque, named, nothing, both}
use Rattle.xdr_records.specs.Spelling.{Spells}
use Rattle.xdr_records.specs.Texts.{word_text, long_text, opaque_text}
use Rattle.xdr_records.proofs.Written.{word_spelled, long_spelled, opaque_spelled, both_spelled, nothing_behind}
use Rattle.tree_starts.specs.Head.{Head, plain_head}
use Rattle.tree_starts.specs.Start.{Key, key_of, is_parent, may_be_named, fits, object_fault, fault_from, text_limit, IsStart}
use Rattle.tree_starts.specs.declared.fault.StartFault.TheVariants.{BadStart, TooLarge}
use Rattle.tree_starts.specs.declared.object.StartObject.{StartObject}
use Rattle.tree_starts.specs.declared.object.StartNode.{StartNode}
use Rattle.tree_starts.specs.declared.object.StartNode.TheVariants as nodes
use Rattle.tree_starts.specs.declared.profile.Profile.{Profile}
use Rattle.tree_starts.specs.declared.profile.Profile.TheVariants.{Plain, Strict}
use Rattle.tree_starts.proofs.Growing.{start_alone}
use Rattle.history_file.specs.declared.fault.FileFault.{FileFault}
use Rattle.history_file.specs.declared.starting.StartKind.TheVariants as kinds
use Rattle.history_file.specs.declared.version.Version.TheVariants.{First, Second}
use Rattle.history_file.specs.Event.{Event}
use Rattle.history_file.specs.Starting.{profile_word, object_count, start_kind, checked, node_of, object, objects}
use Rattle.history_file.specs.HistoryFile.{events, event_count, recording, HistoryFile}
use Rattle.history_file.specs.Writing.{events_text, counted_text, file_text, node_text, object_text, objects_text, profile_number, file_text_from, EventFits}
use Rattle.history_file.proofs.WritingSteps.{events_spelled}

-- ---- a starting object

-- what an object without a fault is
fine_of : (k : ℕ) (a b c d : Bool)
    → (if not a then Some (BadStart k) else if not b then Some (TooLarge k) else if not c then Some (BadStart k) else if not d then Some (TooLarge k) else None) ≡ None
    → (a ≡ true) × (b ≡ true) × (c ≡ true) × (d ≡ true)
fine_of k false b c d is = cc
fine_of k true false c d is = cc
fine_of k true true false d is = cc
fine_of k true true true false is = cc
fine_of k true true true true is = (refl, refl, refl, refl)

parent_within : (keys : List Key) (parent : ℕ) → is_parent keys parent ≡ true → parent ≤ length keys
unfolding is_parent
parent_within keys zero is = omega arith
parent_within keys (suc i) is = go (slice_get keys i) refl is where
  go : (o : Option Key) → slice_get keys i ≡ o → option_map_or (λ key. key.is_directory) o false ≡ true → suc i ≤ length keys
  go None at is = cc
  go (Some key) at is = omega (arith, slice_get_within keys i key at)

checked_spelled : {B : Type 0} (b : Bool) (k : ℕ) (f : Unit {0} → Grammar FileFault B) (y : B) (text : List ℕ) → b ≡ true → Spells (f tt) text y → Spells (both (checked b k) f) text y
checked_spelled b k f y text is rest = both_spelled (checked b k) f tt y [] text (subst (λ c. Spells (checked c k) [] tt) (sym is) (refl, refl)) rest

node_spelled : {B : Type 0} (k : ℕ) (f : StartNode → B) (node : StartNode) → fits node ≡ true → Spells (both (named (start_kind k)) (λ kind. both (node_of kind) (λ n. nothing (f n)))) (node_text node) (f node)
node_spelled k f (nodes.File bytes) small =
    let le : length bytes ≤ 16777216 = leb-true (length bytes) 16777216 small in
    both_spelled (named (start_kind k)) (λ kind. both (node_of kind) (λ n. nothing (f n))) kinds.File (f (nodes.File bytes)) (word_text 1) (opaque_text bytes) (1, word_spelled 1 (lit< tt), refl)
    (nothing_behind (node_of kinds.File) f (nodes.File bytes) (opaque_text bytes) (nothing_behind {K = FileFault} (one_opaque 16777216) (λ b. nodes.File b) bytes (opaque_text bytes) (opaque_spelled 16777216 bytes (omega (arith, le)) le)))
node_spelled k f nodes.Directory small =
    (kinds.Directory, record { front = word_text 2; back = []; parts = sym (append-nil (word_text 2)); first = (2, word_spelled 2 (lit< tt), refl); others = nothing_behind (node_of kinds.Directory) f nodes.Directory [] (refl, refl) })
node_spelled k f (nodes.Link text) small =
    let le : length text ≤ 1048576 = leb-true (length text) 1048576 small in
    both_spelled (named (start_kind k)) (λ kind. both (node_of kind) (λ n. nothing (f n))) kinds.Link (f (nodes.Link text)) (word_text 5) (opaque_text text) (5, word_spelled 5 (lit< tt), refl)
    (nothing_behind (node_of kinds.Link) f (nodes.Link text) (opaque_text text) (nothing_behind {K = FileFault} (one_opaque 1048576) (λ b. nodes.Link b) text (opaque_text text) (opaque_spelled 1048576 text (omega (arith, le)) le)))

object_spelled : (ahead : List Key) (k : ℕ) (o : StartObject) → length ahead ≤ 1000000 → object_fault ahead k o ≡ None → Spells (object ahead k) (object_text o) o
unfolding object
object_spelled ahead k o few fine =
    let is = fine_of k (is_parent ahead o.parent) (nat_le (length o.name) text_limit) (may_be_named ahead o.parent o.name) (fits o.node) fine in
    let within = parent_within ahead o.parent is.0 in
    let short : length o.name ≤ 1048576 = leb-true (length o.name) 1048576 is.1 in
    both_spelled one_long (λ parent. both (checked (is_parent ahead parent) k) (λ _. both (one_opaque text_limit) (λ name. both (checked (may_be_named ahead parent name) k) (λ _. both (named (start_kind k)) (λ kind. both (node_of kind) (λ node. nothing (record { parent = parent; name = name; node = node }))))))) o.parent o (long_text o.parent) (opaque_text o.name ++ node_text o.node) (long_spelled o.parent (omega (arith, within, few)))
    (checked_spelled (is_parent ahead o.parent) k (λ _. both (one_opaque text_limit) (λ name. both (checked (may_be_named ahead o.parent name) k) (λ _. both (named (start_kind k)) (λ kind. both (node_of kind) (λ node. nothing (record { parent = o.parent; name = name; node = node })))))) o (opaque_text o.name ++ node_text o.node) is.0
    (both_spelled (one_opaque text_limit) (λ name. both (checked (may_be_named ahead o.parent name) k) (λ _. both (named (start_kind k)) (λ kind. both (node_of kind) (λ node. nothing (record { parent = o.parent; name = name; node = node }))))) o.name o (opaque_text o.name) (node_text o.node) (opaque_spelled 1048576 o.name (omega (arith, short)) short)
    (checked_spelled (may_be_named ahead o.parent o.name) k (λ _. both (named (start_kind k)) (λ kind. both (node_of kind) (λ node. nothing (record { parent = o.parent; name = o.name; node = node })))) o (node_text o.node) is.2
    (node_spelled k (λ (node : StartNode). record { parent = o.parent; name = o.name; node = node }) o.node is.3))))

fst_none : {X : Type 0} (a b : Option X) → option_or a b ≡ None → a ≡ None
fst_none None b is = refl
fst_none (Some x) b is = cc

snd_none : {X : Type 0} (a b : Option X) → option_or a b ≡ None → b ≡ None
snd_none None b is = is
snd_none (Some x) b is = cc

objects_spelled : (ahead : List Key) (k : ℕ) (os : List StartObject) → length ahead + length os ≤ 1000000 → fault_from ahead k os ≡ None → Spells (objects (length os) ahead k) (objects_text os) os
unfolding objects fault_from
objects_spelled ahead k [] few fine = (refl, refl)
objects_spelled ahead k (o ∷ os) few fine =
    both_spelled (object ahead k) (λ first. both (objects (length os) (ahead ++ key_of first ∷ []) (k + 1)) (λ others. nothing (first ∷ others))) o (o ∷ os) (object_text o) (objects_text os)
    (object_spelled ahead k o (omega arith) (fst_none (object_fault ahead k o) (fault_from (ahead ++ key_of o ∷ []) (k + 1) os) fine))
    (nothing_behind (objects (length os) (ahead ++ key_of o ∷ []) (k + 1)) (λ others. o ∷ others) os (objects_text os)
    (objects_spelled (ahead ++ key_of o ∷ []) (k + 1) os (omega (arith, length-append ahead (key_of o ∷ []))) (snd_none (object_fault ahead k o) (fault_from (ahead ++ key_of o ∷ []) (k + 1) os) fine)))

-- a start has at most so many objects
pub few_of : (os : List StartObject) → IsStart os → length os ≤ 1000000
few_of os is = go (nat_le (length os) 1000000) refl is where
  go : (b : Bool) → nat_le (length os) 1000000 ≡ b → (if b then fault_from [] 1 os else Some (TooLarge 1000001)) ≡ None → length os ≤ 1000000
  go true small fine = leb-true (length os) 1000000 small
  go false small none = cc

-- ---- a file

profile_spelled : (profile : Profile) → Spells (named profile_word) (word_text (profile_number profile)) profile
profile_spelled Plain = (0, word_spelled 0 (lit< tt), refl)
profile_spelled Strict = (1, word_spelled 1 (lit< tt), refl)

counted_spelled : {B : Type 0} (f : List Event → B) (es : List Event) → length es ≤ 1000000 → AllByRecursion EventFits es → Spells (both (named event_count) (λ count. both (events count 1) (λ seen. nothing (f seen)))) (counted_text es) (f es)
counted_spelled f es few fit =
    let counted : event_count (length es) ≡ Ok (length es) = rw (le-leb (length es) 1000000 few) refl in
    both_spelled (named event_count) (λ count. both (events count 1) (λ seen. nothing (f seen))) (length es) (f es) (word_text (length es)) (events_text es) (length es, word_spelled (length es) (omega (arith, few)), counted)
    (nothing_behind (events (length es) 1) f es (events_text es) (events_spelled 1 es fit))

first_spelled : (root : List ℕ) (es : List Event) → length root ≤ 64 → length es ≤ 1000000 → AllByRecursion EventFits es → Spells (recording First) (opaque_text root ++ counted_text es) (record { head = plain_head root; events = es })
unfolding recording
first_spelled root es small few fit =
    both_spelled (one_opaque 64) (λ r. both (named event_count) (λ count. both (events count 1) (λ seen. nothing (record { head = plain_head r; events = seen })))) root (record { head = plain_head root; events = es }) (opaque_text root) (counted_text es) (opaque_spelled 64 root (omega (arith, small)) small)
    (counted_spelled (λ (seen : List Event). record { head = plain_head root; events = seen }) es few fit)

second_spelled : (head : Head) (es : List Event) → length head.root ≤ 64 → IsStart head.start → length es ≤ 1000000 → AllByRecursion EventFits es
    → Spells (recording Second) (opaque_text head.root ++ (word_text (profile_number head.profile) ++ (word_text (length head.start) ++ (objects_text head.start ++ counted_text es)))) (record { head = head; events = es })
unfolding recording
second_spelled head es small valid few fit =
    let start = head.start in
    let number = few_of start valid in
    let counted : object_count (length start) ≡ Ok (length start) = rw (le-leb (length start) 1000000 number) refl in
    both_spelled (one_opaque 64) (λ r. both (named profile_word) (λ p. both (named object_count) (λ n. both (objects n [] 1) (λ s. both (named event_count) (λ count. both (events count 1) (λ seen. nothing (record { head = record { root = r; start = s; profile = p }; events = seen }))))))) head.root (record { head = head; events = es })
    (opaque_text head.root) (word_text (profile_number head.profile) ++ (word_text (length start) ++ (objects_text start ++ counted_text es))) (opaque_spelled 64 head.root (omega (arith, small)) small)
    (both_spelled (named profile_word) (λ p. both (named object_count) (λ n. both (objects n [] 1) (λ s. both (named event_count) (λ count. both (events count 1) (λ seen. nothing (record { head = record { root = head.root; start = s; profile = p }; events = seen })))))) head.profile (record { head = head; events = es })
    (word_text (profile_number head.profile)) (word_text (length start) ++ (objects_text start ++ counted_text es)) (profile_spelled head.profile)
    (both_spelled (named object_count) (λ n. both (objects n [] 1) (λ s. both (named event_count) (λ count. both (events count 1) (λ seen. nothing (record { head = record { root = head.root; start = s; profile = head.profile }; events = seen }))))) (length start) (record { head = head; events = es })
    (word_text (length start)) (objects_text start ++ counted_text es) (length start, word_spelled (length start) (omega (arith, number)), counted)
    (both_spelled (objects (length start) [] 1) (λ s. both (named event_count) (λ count. both (events count 1) (λ seen. nothing (record { head = record { root = head.root; start = s; profile = head.profile }; events = seen })))) start (record { head = head; events = es })
    (objects_text start) (counted_text es) (objects_spelled [] 1 start (omega (arith, number)) (start_alone start valid))
    (counted_spelled (λ (seen : List Event). record { head = head; events = seen }) es few fit))))

pub first_written : (root : List ℕ) (es : List Event) (out : List ℕ) → out ≡ file_text root es → length out ≤ 268435456 → length root ≤ 64 → length es ≤ 1000000 → AllByRecursion EventFits es → HistoryFile out (record { head = plain_head root; events = es })
first_written root es out text size small few fit = record {
  version = First;
  body = opaque_text root ++ counted_text es;
  parts = text;
  small = size;
  spelled = first_spelled root es small few fit;
}

pub second_written : (head : Head) (es : List Event) (out : List ℕ) → out ≡ file_text_from head es → length out ≤ 268435456 → length head.root ≤ 64 → IsStart head.start → length es ≤ 1000000 → AllByRecursion EventFits es → HistoryFile out (record { head = head; events = es })
second_written head es out text size small valid few fit = record {
  version = Second;
  body = opaque_text head.root ++ (word_text (profile_number head.profile) ++ (word_text (length head.start) ++ (objects_text head.start ++ counted_text es)));
  parts = text ∙ simp append_assoc;
  small = size;
  spelled = second_spelled head es small valid few fit;
}
