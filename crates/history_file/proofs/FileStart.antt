-- What a file says of the objects that stood at first is a start.
use Rattle.std.proofs.Common.{◌≡◌, ℕ, zero, suc, ◌+◌, Bool, true, false, if◌then◌else◌, not, nat_le, List, [], ◌∷◌, ◌++◌, length, None, Some, Ok, Err, Result, refl, ap, subst, ◌∙◌}
use Rattle.std.specs.Option.{option_or}
use Rattle.std.proofs.lemmas.Bool.{le-leb}
use Rattle.xdr_records.specs.Spelling.{Spells}
use Rattle.tree_starts.specs.Start.{Key, key_of, is_parent, may_be_named, fits, object_fault, fault_from, text_limit, IsStart}
use Rattle.tree_starts.specs.declared.fault.StartFault.TheVariants.{BadStart, TooLarge}
use Rattle.tree_starts.specs.declared.object.StartObject.{StartObject}
use Rattle.tree_starts.specs.declared.object.StartNode.{StartNode}
use Rattle.history_file.specs.declared.fault.FileFault.{FileFault}
use Rattle.history_file.specs.declared.fault.FileFault.TheVariants as faults
use Rattle.history_file.specs.declared.starting.StartKind.{StartKind}
use Rattle.history_file.specs.declared.starting.StartKind.TheVariants as kinds
use Rattle.history_file.specs.declared.version.Version.{Version}
use Rattle.history_file.specs.declared.version.Version.TheVariants.{First, Second}
use Rattle.history_file.specs.Event.{Recording}
use Rattle.history_file.specs.Starting.{object_count, checked, node_of, object, objects}
use Rattle.history_file.specs.HistoryFile.{recording, HistoryFile}

all_fine : (k : ℕ) (a b c d : Bool) → a ≡ true → b ≡ true → c ≡ true → d ≡ true
    → (if not a then Some (BadStart k) else if not b then Some (TooLarge k) else if not c then Some (BadStart k) else if not d then Some (TooLarge k) else None) ≡ None
all_fine k a b c d parent name named node = rw (parent, name, named, node) refl

is_right : (b : Bool) (k : ℕ) (text : List ℕ) (u : Unit {0}) → Spells (checked b k) text u → b ≡ true
is_right true k text u spelled = refl
is_right false k text u spelled = absurd spelled

fits_of : (kind : StartKind) (text : List ℕ) (node : StartNode) → Spells (node_of kind) text node → fits node ≡ true
fits_of kinds.File text node spelled = subst (λ n. fits n ≡ true) spelled.1.others.1 (le-leb (length spelled.0) 16777216 spelled.1.first.within)
fits_of kinds.Directory text node spelled = subst (λ n. fits n ≡ true) spelled.1 refl
fits_of kinds.Link text node spelled = subst (λ n. fits n ≡ true) spelled.1.others.1 (le-leb (length spelled.0) 1048576 spelled.1.first.within)

one_stands : (ahead : List Key) (k : ℕ) (text : List ℕ) (o : StartObject) → Spells (object ahead k) text o → object_fault ahead k o ≡ None
unfolding object
one_stands ahead k text o spelled =
    let parent = spelled.1.others in
    let name = parent.1.others in
    let named = name.1.others in
    let kind = named.1.others in
    let node = kind.1.others in
    subst (λ x. object_fault ahead k x ≡ None) node.1.others.1
    (all_fine k (is_parent ahead spelled.0) (nat_le (length name.0) text_limit) (may_be_named ahead spelled.0 name.0) (fits node.0)
    (is_right (is_parent ahead spelled.0) k parent.1.front parent.0 parent.1.first)
    (le-leb (length name.0) 1048576 name.1.first.within)
    (is_right (may_be_named ahead spelled.0 name.0) k named.1.front named.0 named.1.first)
    (fits_of kind.0 node.1.front node.0 node.1.first))

-- each of the objects may stand behind those ahead of it, and there are so many
all_stand : (n : ℕ) (ahead : List Key) (k : ℕ) (text : List ℕ) (os : List StartObject) → Spells (objects n ahead k) text os → (fault_from ahead k os ≡ None) × (length os ≡ n)
unfolding objects fault_from
all_stand zero ahead k text os spelled = subst (λ (xs : List StartObject). (fault_from ahead k xs ≡ None) × (length xs ≡ 0)) spelled.1 (refl, refl)
all_stand (suc n) ahead k text os spelled =
    let first = spelled.0 in
    let others = spelled.1.others in
    let one = one_stands ahead k spelled.1.front first spelled.1.first in
    let more = all_stand n (ahead ++ key_of first ∷ []) (k + 1) others.1.front others.0 others.1.first in
    subst (λ (xs : List StartObject). (fault_from ahead k xs ≡ None) × (length xs ≡ suc n)) others.1.others.1
    (ap (λ fault. option_or fault (fault_from (ahead ++ key_of first ∷ []) (k + 1) others.0)) one ∙ more.0, ap suc more.1)

abbrev counted_by : Bool → ℕ → Result ℕ FileFault
counted_by b n = if b then Ok n else Err faults.TooLarge

few_counted : (m n : ℕ) → object_count m ≡ Ok n → nat_le n 1000000 ≡ true
few_counted m n counted = go (nat_le m 1000000) refl counted where
  go : (b : Bool) → nat_le m 1000000 ≡ b → counted_by b m ≡ Ok n → nat_le n 1000000 ≡ true
  go true small same = cc
  go false small same = cc

start_of : (n : ℕ) (os : List StartObject) → nat_le n 1000000 ≡ true → fault_from [] 1 os ≡ None → length os ≡ n → IsStart os
start_of n os few fine size = rw (size, few) fine

spelled_start : (version : Version) (body : List ℕ) (seen : Recording) → Spells (recording version) body seen → IsStart seen.head.start
unfolding recording fault_from
spelled_start First body seen spelled = subst (λ (s : Recording). IsStart s.head.start) spelled.1.others.1.others.1.others.1 refl
spelled_start Second body seen spelled =
    let profile = spelled.1.others in
    let number = profile.1.others in
    let start = number.1.others in
    let count = start.1.others in
    let stand = all_stand number.0 [] 1 start.1.front start.0 start.1.first in
    subst (λ (s : Recording). IsStart s.head.start) count.1.others.1.others.1
    (start_of number.0 start.0 (few_counted number.1.first.0 number.0 number.1.first.2) stand.0 stand.1)

pub file_start : (bytes : List ℕ) (seen : Recording) → HistoryFile bytes seen → IsStart seen.head.start
file_start bytes seen file = spelled_start file.version file.body seen file.spelled
