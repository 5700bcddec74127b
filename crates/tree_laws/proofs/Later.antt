-- what a READ gives of a file in a run, long after a WRITE
use Rattle.std.proofs.Common.{map, zero, suc, ◌≡◌, inl, inr, ℕ, ◌+◌, ◌-◌, ◌<◌, ◌≤◌, Bool, true, false, cond, List, [], ◌∷◌, ◌++◌, length, drop, Option, Some, None, refl, sym, ap, ◌∙◌, subst, arith, eq-eqb}
use Rattle.std.specs.Prelude.{IsSome, slice_get, ◌≢◌, ◌==◌, nat_le, slice_index, option_map}
use Rattle.std.specs.Option.{option_map_or}
use Rattle.std.specs.List.{AllByRecursion}
use Rattle.std.proofs.lemmas.Bool.{leb-true}
use Rattle.std.proofs.lemmas.List.{get_or-take, get_or-drop}
use Rattle.std.specs.FinMap as finite
use Rattle.nfs3_types.specs.declared.calls.WriteArguments.{WriteArguments}
use Rattle.nfs3_types.specs.declared.calls.ReadArguments.{ReadArguments}
use Rattle.nfs3_types.specs.declared.calls.NfsCall.{NfsCall}
use Rattle.nfs3_types.specs.declared.calls.NfsCall.TheVariants as calls
use Rattle.nfs3_types.specs.declared.replies.Answer.TheVariants.{Done}
use Rattle.nfs3_types.specs.declared.replies.ReadSuccess.{ReadSuccess}
use Rattle.nfs3_types.specs.declared.replies.NfsReply.TheVariants as replies
use Rattle.nfs3_types.specs.declared.replies.Outcome.{Outcome}
use Rattle.nfs3_types.specs.declared.replies.Outcome.TheVariants.{Received}
use Rattle.replay_law.specs.Run.{TakenStep, state_after}
use Rattle.file_tree.specs.Change.Change.{Keep}
use Rattle.tree_starts.specs.Start.{IsStart, object_made}
use Rattle.tree_starts.specs.declared.object.StartObject.{StartObject}
use Rattle.tree_starts.specs.declared.object.StartNode.TheVariants as kinds
use Rattle.tree_starts.specs.declared.profile.Profile.{Profile}
use Rattle.tree_starts.specs.declared.profile.Profile.TheVariants.{Plain}
use Rattle.tree_nodes.specs.declared.node.Node.{Node}
use Rattle.tree_nodes.specs.declared.node.File.{File}
use Rattle.tree_nodes.specs.declared.node.Content.TheVariants as contents
use Rattle.tree_nodes.specs.Tree.{Names, Tree, entry_of}
use Rattle.tree_handles.specs.Binding.{Bindings, object_of}
use Rattle.tree_handles.specs.Live.{FileEntry, file_of}
use Rattle.tree_answers.specs.Look.{same_flag, read_is_right, read_is_legal}
use Rattle.file_tree.specs.Setting.{next_in}
use Rattle.file_tree.specs.StartTree.{content_of, start_node, start_tree, Sits}
use Rattle.file_tree.specs.Success.{changed, next_tree}
use Rattle.file_tree.proofs.Profiles.{comes_out_plain}
use Rattle.tree_laws.specs.Outcomes.{count_written, step}
use Rattle.tree_laws.specs.FileBytes.{AreWritten}
use Rattle.tree_laws.specs.FirstBytes.{FirstBytesAreRead}
use Rattle.tree_laws.specs.ReadBack.{FromOne, NumbersDiffer, Gives, GivesByte, RunsReadBack}
use Rattle.tree_laws.specs.WellFormed.{IsWellFormed}
use Rattle.tree_laws.specs.WritingOver.{NoneWritesOver, ByteStays}
use Rattle.tree_nodes.proofs.Chains.{chained, same_some, value_of, both_pass, isnt, differ}
use Rattle.tree_laws.proofs.Changing.{Over}
use Rattle.tree_laws.proofs.Handles.{IsFileAt, file_stands, names_object}
use Rattle.tree_laws.proofs.Numbered.{Steps, shifted, one_number, past, all_shifted, runs_plain, spared_plain, split_in, join_in}
use Rattle.tree_laws.proofs.Running.{steps_keep, run_keeps}
use Rattle.tree_laws.proofs.Starting.{start_formed, each_stands, none_further}
use Rattle.tree_nodes.proofs.Found.{some_found, found_stands}
use Rattle.tree_laws.proofs.Set.{write_sets}
use Rattle.tree_laws.proofs.Unwritten.{From, from_step, same_bytes}
use Rattle.tree_laws.proofs.Written.{right_is}

-- ---- runs

-- no object of this tree has the number of one of these steps
abbrev AreNew : Tree → Steps → Type 0
AreNew tree steps = AllByRecursion (λ one. entry_of tree one.number ≡ None) steps

-- where a file was ahead of calls of other numbers, with a byte that none of them writes over
record WasAhead (binds : Bindings) (start : Tree) (steps : List (TakenStep NfsCall Outcome)) (object byte : ℕ) (now : File) : Type 0 where
  path : Names
  file : File
  stood : IsFileAt start path object file
  kept : NoneWritesOver Plain 0 binds object byte start steps → ByteStays file.bytes now.bytes byte

stays_on : (old middle new : List ℕ) (byte : ℕ) → ByteStays old middle byte → ByteStays middle new byte → ByteStays old new byte
stays_on old middle new byte first second = record { same = second.same ∙ first.same; stands = λ stood. second.stands (first.stands stood) }

was_ahead : (binds : Bindings) (object byte : ℕ) (start last : Tree) (steps : List (TakenStep NfsCall Outcome)) → IsWellFormed start → AllByRecursion (λ one. one.number ≢ object) steps
    → state_after (next_tree binds) start steps ≡ Some last → (q : Names) (y : File) → IsFileAt last q object y → WasAhead binds start steps object byte y
was_ahead binds object byte start last [] formed others e q y there =
    record { path = q; file = y; stood = ap (λ (t : Tree). finite.get t q) (same_some start last e) ∙ there; kept = λ none. record { same = refl; stands = λ h. h } }
was_ahead binds object byte start last (one ∷ steps) formed others e q y there =
    let next = chained (λ after. state_after (next_tree binds) after steps) (next_tree binds start one.number one.call one.outcome) last e in
    let later = was_ahead binds object byte next.0 last steps (steps_keep binds start next.0 one.number one.call one.outcome next.1 formed) others.1 next.2 q y there in
    go next.0 next.1 later (from_step binds start next.0 one.number one.call one.outcome object later.path later.file formed next.1 later.stood) where
      go : (after : Tree) → next_tree binds start one.number one.call one.outcome ≡ Some after → (later : WasAhead binds after steps object byte y)
          → From one.number (Over binds start one.call one.outcome) start formed object later.file → WasAhead binds start (one ∷ steps) object byte y
      go after stepped later (inl from) = record {
        path = from.path;
        file = from.file;
        stood = from.stood;
        kept = λ none. stays_on from.file.bytes later.file.bytes y.bytes byte (from.kept byte none.0) (later.kept (none.1 after stepped));
      }
      go after stepped later (inr made) = absurd (others.0 (sym made.0))

-- ---- numbers

all_behind : {A : Type 0} (P : A → Type 0) (xs ys : List A) → AllByRecursion P (xs ++ ys) → AllByRecursion P ys
all_behind P [] ys all = all
all_behind P (x ∷ xs) ys all = all_behind P xs ys all.1

all_ahead : {A : Type 0} (P : A → Type 0) (xs ys : List A) → AllByRecursion P (xs ++ ys) → AllByRecursion P xs
all_ahead P [] ys all = tt
all_ahead P (x ∷ xs) ys all = (all.0, all_ahead P xs ys all.1)

all_so : {A : Type 0} (P Q : A → Type 0) (xs : List A) → ((x : A) → P x → Q x) → AllByRecursion P xs → AllByRecursion Q xs
all_so P Q [] so all = tt
all_so P Q (x ∷ xs) so all = (so x all.0, all_so P Q xs so all.1)

-- none of these has this number
abbrev Unnumbered : List (TakenStep NfsCall Outcome) → ℕ → Type 0
Unnumbered steps number = AllByRecursion (λ one. one.number ≢ number) steps

both_so : (one : TakenStep NfsCall Outcome) (xs ys : List (TakenStep NfsCall Outcome)) → AllByRecursion (λ later. later.number ≢ one.number) ys → AllByRecursion (λ later. Unnumbered xs later.number) ys
    → AllByRecursion (λ later. Unnumbered (one ∷ xs) later.number) ys
both_so one xs [] first second = tt
both_so one xs (y ∷ ys) first second = ((λ same. first.0 (sym same), second.0), both_so one xs ys first.1 second.1)

none_yet : (ys : List (TakenStep NfsCall Outcome)) → AllByRecursion (λ later. Unnumbered [] later.number) ys
none_yet [] = tt
none_yet (y ∷ ys) = (tt, none_yet ys)

-- those behind have other numbers than those ahead
apart : (xs ys : List (TakenStep NfsCall Outcome)) → NumbersDiffer (xs ++ ys) → AllByRecursion (λ later. Unnumbered xs later.number) ys
apart [] ys differ = none_yet ys
apart (x ∷ xs) ys differ = both_so x xs ys (all_behind (λ later. later.number ≢ x.number) xs ys differ.0) (apart xs ys differ.1)

-- ---- a READ

no_file : (start : Tree) (p : Names) (object : ℕ) (file : File) → entry_of start object ≡ None → IsFileAt start p object file → ⊥
no_file start p object file new there = gone new (some_found start (λ e. e.1.object == object) p (record { object = object; content = contents.File file }) there (eq-eqb object object refl)) where
  gone : {X : Type 0} {o : Option X} → o ≡ None → IsSome o → ⊥
  gone e s = cc

read_right : (before after : Tree) (right : Bool) → option_map (changed before) (cond right (Some Keep) None) ≡ Some after → right ≡ true
read_right before after true e = refl
read_right before after false e = absurd (cc)

got_of : (o : Option FileEntry) (read : ReadArguments) (answer : ReadSuccess) → option_map_or (λ entry. read_is_right entry.file.bytes read answer) o false ≡ true
    → (f : FileEntry) × (o ≡ Some f) × (read_is_right f.file.bytes read answer ≡ true)
got_of None read answer e = absurd (cc)
got_of (Some f) read answer e = (f, refl, e)

-- each byte that a READ gives is the file's
byte_given : (bytes : List ℕ) (read : ReadArguments) (answer : ReadSuccess) (byte : ℕ) → read_is_right bytes read answer ≡ true → read.offset ≤ byte → byte < read.offset + answer.count
    → slice_index answer.bytes (byte - read.offset) ≡ slice_index bytes byte
byte_given bytes read answer byte right from within =
    let is = right_is bytes read answer right in
    let count = is.0 in
    let at : read.offset + (byte - read.offset) ≡ byte = omega arith in
    ap (λ (xs : List ℕ). slice_index xs (byte - read.offset)) is.2 ∙ get_or-take (length answer.bytes) (drop read.offset bytes) (byte - read.offset) 0 (omega (arith, count, within, from))
    ∙ get_or-drop read.offset bytes (byte - read.offset) 0 ∙ ap (slice_index bytes) at

flag_is : (eof ended : Bool) → same_flag eof ended ≡ true → ended ≡ false → eof ≡ false
flag_is true ended h is = absurd (differ ended h is)
flag_is false ended h is = refl

-- a READ of a file with this byte
gives_that : (bytes : List ℕ) (read : ReadArguments) (answer : ReadSuccess) (byte value : ℕ) → read_is_right bytes read answer ≡ true → read.offset ≤ byte
    → slice_index bytes byte ≡ value → byte < length bytes → Gives read answer byte value
gives_that bytes read answer byte value right from same stands =
    let count = (right_is bytes read answer right).0 in
    let reach = read.offset + length answer.bytes in
    record {
      given = λ within. byte_given bytes read answer byte right from within ∙ same;
      no_end = λ stops.
          flag_is answer.eof (nat_le (length bytes) reach) (both_pass _ _ right).1
          (isnt (nat_le (length bytes) reach) (λ ended. let less = leb-true (length bytes) reach ended in omega (arith, count, stops, stands, less)));
    }

-- a file in which a WRITE wrote this byte
wrote_byte : (offset count : ℕ) (sent old new : List ℕ) (byte : ℕ) → AreWritten offset count sent old new → offset ≤ byte → byte < offset + count
    → (slice_index new byte ≡ slice_index sent (byte - offset)) × (byte < length new)
wrote_byte offset count sent old new byte are from within =
    let at : offset + (byte - offset) ≡ byte = omega arith in
    let ends = are.ends (omega arith) in
    (ap (slice_index new) (sym at) ∙ are.set (byte - offset) (omega arith), omega (arith, within, ends))

-- a file of an object that stands was made by a call of its number
made_ahead : (start : Tree) (binds : Bindings) (ahead : Steps) (tree : Tree) (p : Names) (file : File) (object : ℕ) → IsWellFormed start → entry_of start object ≡ None
    → state_after (next_tree binds) start ahead ≡ Some tree → Unnumbered ahead object → IsFileAt tree p object file → ⊥
made_ahead start binds ahead tree p file object formed new reached unnumbered there =
    let was = was_ahead binds object 0 start tree ahead formed unnumbered reached p file there in
    no_file start was.path object was.file new was.stood

module _ (start : Tree) (formed_start : IsWellFormed start) (binds : Bindings) (write : WriteArguments) (read : ReadArguments) (answer : ReadSuccess) (object byte : ℕ) (written_to : object_of binds write.file ≡ Some object)
    (read_from : object_of binds read.file ≡ Some object) (before after last : Tree) (ahead between : List (TakenStep NfsCall Outcome)) (reached : state_after (next_tree binds) start ahead ≡ Some before) where
  names_it : (tree : Tree) (handle : List ℕ) (f : FileEntry) → object_of binds handle ≡ Some object → file_of binds tree handle ≡ Some f → IsFileAt tree f.path object f.file
  names_it tree handle f bound is =
      subst (λ n. IsFileAt tree f.path n f.file) (same_some f.object object (sym (names_object binds tree handle f is) ∙ bound)) (file_stands binds tree handle f is)

  -- no call in between makes the object, since one ahead made it
  made_once : (f : FileEntry) → IsFileAt before f.path object f.file → AreNew start between → AllByRecursion (λ later. Unnumbered ahead later.number) between
      → AllByRecursion (λ later. later.number ≢ object) between
  made_once f stood new others = walk between new others where
    walk : (steps : Steps) → AreNew start steps → AllByRecursion (λ later. Unnumbered ahead later.number) steps → AllByRecursion (λ later. later.number ≢ object) steps
    walk [] new others = tt
    walk (later ∷ steps) new others = (
      λ same. made_ahead start binds ahead before f.path f.file later.number formed_start new.0 reached others.0 (subst (λ n. IsFileAt before f.path n f.file) (sym same) stood),
      walk steps new.1 others.1,
    )

  -- the file that is read has what the one that was written had
  still : (f g : FileEntry) → IsWellFormed after → IsFileAt after f.path object f.file → IsFileAt last g.path object g.file → AllByRecursion (λ later. later.number ≢ object) between
      → state_after (next_tree binds) after between ≡ Some last → NoneWritesOver Plain 0 binds object byte after between → ByteStays f.file.bytes g.file.bytes byte
  still f g formed stands there others runs none =
      let was = was_ahead binds object byte after last between formed others runs g.path g.file there in
      let at_was : Node = record { object = object; content = contents.File was.file } in
      let at_f : Node = record { object = object; content = contents.File f.file } in
      let place = formed.objects was.path f.path at_was at_f was.stood stands refl in
      subst (λ xs. ByteStays xs g.file.bytes byte) (same_bytes was.path f.path after was.file f.file object was.stood stands place) (was.kept none)

  gives : (number count : ℕ) (outcome : Outcome) → next_tree binds before number (calls.Write write) outcome ≡ Some after → count_written outcome ≡ Some count
      → write.offset ≤ byte → byte < write.offset + count → read.offset ≤ byte → AreNew start between → AllByRecursion (λ later. Unnumbered ahead later.number) between
      → state_after (next_tree binds) after between ≡ Some last → NoneWritesOver Plain 0 binds object byte after between → read_is_legal binds last read (replies.Read (Done answer)) ≡ true
      → GivesByte write read answer byte
  gives number count outcome wrote counted from within asked new others runs none right =
      let formed = run_keeps binds start ahead before formed_start reached in
      let now_formed = steps_keep binds before after number (calls.Write write) outcome wrote formed in
      let set = (write_sets binds before after number write outcome count formed counted wrote).1 in
      let has = wrote_byte write.offset count write.bytes set.old.file.bytes set.new.file.bytes byte set.bytes from within in
      let given = got_of (file_of binds last read.file) read answer right in
      let stays = still set.new given.0 now_formed (names_it after write.file set.new written_to set.is) (names_it last read.file given.0 read_from given.1)
      (made_once set.old (names_it before write.file set.old written_to set.was) new others) runs none in
      gives_that given.0.file.bytes read answer byte (slice_index write.bytes (byte - write.offset)) given.2 asked (stays.same ∙ has.0) (stays.stands has.1)

-- ---- behind a start

-- the calls from number 1 on make objects that didn't stand at first
new_ones : (start : List StartObject) (steps : Steps) → IsStart start → FromOne steps → AreNew (start_tree start) (map (shifted (length start)) steps)
new_ones start steps is from =
    all_shifted (length start) (λ one. one.number ≢ 0) (λ one. entry_of (start_tree start) one.number ≡ None) steps
    (λ one isnt. none_further start (object_made (length start) one.number) is (past (length start) one.number isnt)) from

-- numbers that differ differ behind a start
unnumbered_shifted : (first : ℕ) (ahead steps : Steps) → AllByRecursion (λ later. Unnumbered ahead later.number) steps
    → AllByRecursion (λ later. Unnumbered (map (shifted first) ahead) later.number) (map (shifted first) steps)
unnumbered_shifted first ahead steps all =
    all_shifted first (λ later. Unnumbered ahead later.number) (λ later. Unnumbered (map (shifted first) ahead) later.number) steps
    (λ later others. all_shifted first (λ one. one.number ≢ later.number) (λ one. one.number ≢ object_made first later.number) ahead
    (λ one isnt same. isnt (one_number first one.number later.number same)) others) all

-- an answered READ of a run
module _ (profile : Profile) (first : ℕ) (binds : Bindings) (read : ReadArguments) (answer : ReadSuccess) where
  right_read : (tree after : Tree) (n : ℕ) → next_in profile first binds tree n (calls.Read read) (Received (replies.Read (Done answer))) ≡ Some after
      → read_is_legal binds tree read (replies.Read (Done answer)) ≡ true
  right_read tree after n e =
      read_right tree after (read_is_legal binds tree read (replies.Read (Done answer)))
      (comes_out_plain profile binds tree after (object_made first n) (calls.Read read) (Received (replies.Read (Done answer))) e)

pub runs_read_back : RunsReadBack
runs_read_back profile start binds steps write read answer byte is runs from numbers x =
    let first = length start in
    let wrote = step x.m (calls.Write write) x.outcome in
    let got = step x.n (calls.Read read) (Received (replies.Read (Done answer))) in
    let last = value_of _ runs in
    let parts = split_in profile first binds (start_tree start) last.0 x.ahead (wrote ∷ (x.between ++ got ∷ x.behind)) (ap (state_after (next_in profile first binds) (start_tree start)) (sym x.stand) ∙ last.1) in
    let written = chained (λ after. state_after (next_in profile first binds) after (x.between ++ got ∷ x.behind)) (next_in profile first binds parts.0 x.m (calls.Write write) x.outcome) last.0 parts.2 in
    let then_on = split_in profile first binds written.0 last.0 x.between (got ∷ x.behind) written.2 in
    let was_read = chained (λ after. state_after (next_in profile first binds) after x.behind) (next_in profile first binds then_on.0 x.n (calls.Read read) (Received (replies.Read (Done answer)))) last.0 then_on.2 in
    let others = apart x.ahead (wrote ∷ (x.between ++ got ∷ x.behind)) (subst NumbersDiffer x.stand numbers) in
    let from_there = all_behind (λ (one : TakenStep NfsCall Outcome). one.number ≢ 0) x.ahead (wrote ∷ (x.between ++ got ∷ x.behind)) (subst FromOne x.stand from) in
    let new = new_ones start x.between is (all_ahead (λ (one : TakenStep NfsCall Outcome). one.number ≢ 0) x.between (got ∷ x.behind) from_there.1) in
    let apart_from = all_ahead (λ (later : TakenStep NfsCall Outcome). Unnumbered x.ahead later.number) x.between (got ∷ x.behind) others.1 in
    let none = x.stays written.0 (join_in profile first binds (start_tree start) parts.0 written.0 x.ahead wrote parts.1 written.1) in
    gives (start_tree start) (start_formed start is) binds write read answer x.object byte x.written_to x.read_from parts.0 written.0 then_on.0 (map (shifted first) x.ahead) (map (shifted first) x.between)
    (runs_plain profile first binds (start_tree start) parts.0 x.ahead parts.1) (object_made first x.m) x.count x.outcome
    (comes_out_plain profile binds parts.0 written.0 (object_made first x.m) (calls.Write write) x.outcome written.1) x.counted
    x.was_written.0 x.was_written.1 x.was_asked new (unnumbered_shifted first x.ahead x.between apart_from) (runs_plain profile first binds written.0 then_on.0 x.between then_on.1)
    (spared_plain profile first binds x.object byte written.0 then_on.0 x.between then_on.1 none)
    (right_read profile first binds read answer then_on.0 was_read.0 x.n was_read.1)

-- ---- a file that stood at first

-- no call makes a starting object
others_are_made : (first object : ℕ) (steps : Steps) → object ≤ first → FromOne steps → AllByRecursion (λ one. one.number ≢ object) (map (shifted first) steps)
others_are_made first object steps among from =
    all_shifted first (λ one. one.number ≢ 0) (λ one. one.number ≢ object) steps (λ one isnt same. omega (arith, past first one.number isnt, same, among)) from

listed_within : (start : List StartObject) (k : ℕ) (o : StartObject) → slice_get start k ≡ Some o → k + 1 ≤ length start
listed_within [] k o e = absurd (cc)
listed_within (x ∷ start) zero o e = omega arith
listed_within (x ∷ start) (suc k) o e = omega (arith, listed_within start k o e)

-- the file that stands in the tree of a start has the bytes that it was given
first_file : (start : List StartObject) (k : ℕ) (o : StartObject) (bytes : List ℕ) (path : Names) (file : File) → IsStart start → slice_get start k ≡ Some o → o.node ≡ kinds.File bytes
    → IsFileAt (start_tree start) path (k + 1) file → file.bytes ≡ bytes
first_file start k o bytes path file is listed as_file there =
    let formed = start_formed start is in
    let sits : Sits (start_tree start) (k + 1) o = each_stands start k o is listed in
    let own : File = record { bytes = bytes; verifier = None } in
    let stands : IsFileAt (start_tree start) (sits.path ++ o.name ∷ []) (k + 1) own =
    found_stands (start_tree start) (λ e. e.1.object == k + 1) (sits.path ++ o.name ∷ [], start_node (k + 1) o) sits.here
    ∙ ap (λ node. Some (record { object = k + 1; content = content_of node })) as_file in
    let place = formed.objects path (sits.path ++ o.name ∷ []) (record { object = k + 1; content = contents.File file }) (record { object = k + 1; content = contents.File own }) there stands refl in
    same_bytes path (sits.path ++ o.name ∷ []) (start_tree start) file own (k + 1) there stands place

pub first_bytes_are_read : FirstBytesAreRead
first_bytes_are_read profile start binds steps bytes read answer byte is runs from x =
    let first = length start in
    let got = step x.n (calls.Read read) (Received (replies.Read (Done answer))) in
    let last = value_of _ runs in
    let parts = split_in profile first binds (start_tree start) last.0 x.ahead (got ∷ x.behind) (ap (state_after (next_in profile first binds) (start_tree start)) (sym x.stand) ∙ last.1) in
    let was_read = chained (λ after. state_after (next_in profile first binds) after x.behind) (next_in profile first binds parts.0 x.n (calls.Read read) (Received (replies.Read (Done answer)))) last.0 parts.2 in
    let given = got_of (file_of binds parts.0 read.file) read answer (right_read profile first binds read answer parts.0 was_read.0 x.n was_read.1) in
    let there = subst (λ n. IsFileAt parts.0 given.0.path n given.0.file) (same_some given.0.object (x.k + 1) (sym (names_object binds parts.0 read.file given.0 given.1) ∙ x.read_from)) (file_stands binds parts.0 read.file given.0 given.1) in
    let others = others_are_made first (x.k + 1) x.ahead (listed_within start x.k x.o x.listed) (all_ahead (λ (one : TakenStep NfsCall Outcome). one.number ≢ 0) x.ahead (got ∷ x.behind) (subst FromOne x.stand from)) in
    let was = was_ahead binds (x.k + 1) byte (start_tree start) parts.0 (map (shifted first) x.ahead) (start_formed start is) others (runs_plain profile first binds (start_tree start) parts.0 x.ahead parts.1)
    given.0.path given.0.file there in
    let stays = was.kept (spared_plain profile first binds (x.k + 1) byte (start_tree start) parts.0 x.ahead parts.1 x.stays) in
    let own : was.file.bytes ≡ bytes = first_file start x.k x.o bytes was.path was.file is x.listed x.file was.stood in
    gives_that given.0.file.bytes read answer byte (slice_index bytes byte) given.2 x.was_asked (stays.same ∙ ap (λ xs. slice_index xs byte) own)
    (stays.stands (subst (λ (xs : List ℕ). byte < length xs) (sym own) x.had))
