-- what stands in a file after a WRITE, and what a READ gives of it
use Rattle.std.proofs.Common.{◌≡◌, ℕ, ◌+◌, ◌≤◌, Bool, true, false, cond, eq-eqb, List, ◌++◌, suc, zero, length, take, drop, Option, Some, None, refl, sym, ap, ◌∙◌, subst, arith, append_assoc}
use Rattle.std.specs.Prelude.{◌&&◌, ◌==◌, nat_le, nat_eq, option_and_then, option_map}
use Rattle.std.specs.Option.{option_map_or}
use Rattle.std.proofs.lemmas.Bool.{eqb-true, leb-true, le-leb}
use Rattle.std.proofs.lemmas.Cmp.{nat_list_eq_equiv}
use Rattle.std.proofs.lemmas.List.{length-take-le, take-take, take-append-le, drop_at}
use Rattle.std.specs.FinMap as map
use Rattle.nfs3_types.specs.declared.calls.StableHow.{StableHow}
use Rattle.nfs3_types.specs.declared.calls.WriteArguments.{WriteArguments}
use Rattle.nfs3_types.specs.declared.calls.ReadArguments.{ReadArguments}
use Rattle.nfs3_types.specs.declared.calls.NfsCall.TheVariants as calls
use Rattle.nfs3_types.specs.declared.replies.Answer.TheVariants.{Done}
use Rattle.nfs3_types.specs.declared.replies.ReadSuccess.{ReadSuccess}
use Rattle.nfs3_types.specs.declared.replies.NfsReply.TheVariants as replies
use Rattle.nfs3_types.specs.declared.replies.Outcome.{Outcome}
use Rattle.nfs3_types.specs.declared.replies.Outcome.TheVariants.{Received, Taken}
use Rattle.file_tree.specs.Change.Change.{Keep, Put}
use Rattle.tree_nodes.specs.declared.node.File.{File}
use Rattle.tree_nodes.specs.declared.node.Content.TheVariants as contents
use Rattle.tree_nodes.specs.Files.{file_node}
use Rattle.tree_stores.specs.Files.{resized, written}
use Rattle.tree_nodes.specs.Tree.{Names, Tree, entry_of}
use Rattle.tree_handles.specs.Binding.{Bindings, object_of, same_bytes}
use Rattle.tree_handles.specs.Live.{FileEntry, as_file, file_of}
use Rattle.tree_answers.specs.Look.{same_flag, read_is_right, read_is_legal}
use Rattle.file_tree.specs.Success.{changed, next_tree}
use Rattle.file_tree.specs.Written.{write_at, write_change}
use Rattle.tree_laws.specs.Outcomes.{count_written}
use Rattle.tree_laws.specs.WellFormed.{IsWellFormed}
use Rattle.tree_laws.specs.ReadBack.{ReadsBack, OnlyWhatWasWritten, WhatWasWritten}
use Rattle.tree_nodes.proofs.Chains.{chained, mapped, passed, same_some, both_pass, value_of}
use Rattle.tree_nodes.proofs.Found.{found_stands, some_found, pointwise_same}
use Rattle.tree_laws.proofs.Handles.{IsFileAt, names_object}
use Rattle.tree_laws.proofs.Running.{steps_keep}
use Rattle.file_tree.proofs.StartStep.{put_there}
use Rattle.file_tree.proofs.Planned.{resized_long}
use Rattle.tree_handles.proofs.Standing.{own_number}

-- ---- bytes

-- the bytes at the offset of a write are those written
written_at : (old : List ℕ) (offset : ℕ) (added : List ℕ) (n : ℕ) → n ≤ length added → take n (drop offset (written old offset added)) ≡ take n added
written_at old offset added n within =
    ap (λ (xs : List ℕ). take n (drop offset xs)) (append_assoc (resized old offset) added (drop (offset + length added) old))
    ∙ ap (take n) (drop_at (resized old offset) (added ++ drop (offset + length added) old) offset (resized_long old offset))
    ∙ take-append-le n added (drop (offset + length added) old) within

-- ---- the file that a handle names

-- in a well-formed tree a handle of a file's object names that file
pub finds_file : (binds : Bindings) (tree : Tree) (handle : List ℕ) (path : Names) (object : ℕ) (file : File) → IsWellFormed tree → object_of binds handle ≡ Some object → IsFileAt tree path object file
    → file_of binds tree handle ≡ Some (record { path = path; object = object; file = file })
finds_file binds tree handle path object file formed bound stands =
    let found = value_of _ (some_found tree (λ e. e.1.object == object) path (record { object = object; content = contents.File file }) stands (eq-eqb object object refl)) in
    let there = found_stands tree (λ e. e.1.object == object) found.0 found.1 in
    let same = own_number tree object found.0 found.1 in
    let place = formed.objects found.0.0 path found.0.1 (record { object = object; content = contents.File file }) there stands same in
    let node = same_some found.0.1 (record { object = object; content = contents.File file }) (sym there ∙ ap (map.get tree) place ∙ stands) in
    ap (option_and_then (λ e. as_file e.0 e.1.object e.1.content)) (ap (option_and_then (entry_of tree)) bound ∙ found.1 ∙ (λ i. Some (place i, node i)))

-- ---- a write

-- a file that the handle names has the first of these bytes at the offset
record Holds (binds : Bindings) (tree : Tree) (handle : List ℕ) (offset count : ℕ) (bytes : List ℕ) : Type 0 where
  entry : FileEntry
  names : file_of binds tree handle ≡ Some entry
  at : (n : ℕ) → n ≤ count → take n (drop offset entry.file.bytes) ≡ take n bytes

no_bytes : (xs ys : List ℕ) (n : ℕ) → n ≤ 0 → take n xs ≡ take n ys
no_bytes xs ys zero h = refl
no_bytes xs ys (suc n) h = absurd (omega arith)

module _ (binds : Bindings) (before after : Tree) (write : WriteArguments) (count : ℕ) (formed : IsWellFormed before) (now_formed : IsWellFormed after) (fits : count ≤ length write.bytes)
    (f : FileEntry) (found : file_of binds before write.file ≡ Some f) where
  abbrev added : List ℕ
  added = take count write.bytes

  added_length : length added ≡ count
  added_length = length-take-le count write.bytes fits

  holds : (nothing within : Bool) → (length added == 0) ≡ nothing
      → option_map (changed before) (cond nothing (Some Keep) (cond within (Some (Put f.path (file_node f.object (written f.file.bytes write.offset added) f.file.verifier))) None)) ≡ Some after
      → Holds binds after write.file write.offset count write.bytes
  holds true within is e =
      let same : before ≡ after = same_some before after e in
      let none : length added ≡ 0 = eqb-true (length added) 0 is in
      record {
        entry = f;
        names = ap (λ (t : Tree). file_of binds t write.file) (sym same) ∙ found;
        at = λ n bound. no_bytes (drop write.offset f.file.bytes) write.bytes n (omega (arith, added_length));
      }
  holds false within is e =
      let put = mapped (changed before) _ after e in
      let tests = passed within _ put.0 put.1 in
      let file : File = record { bytes = written f.file.bytes write.offset added; verifier = f.file.verifier } in
      let now : map.insert before f.path (record { object = f.object; content = contents.File file }) ≡ after = ap (changed before) (same_some _ put.0 tests.1) ∙ put.2 in
      let stands : IsFileAt after f.path f.object file = ap (λ (t : Tree). map.get t f.path) (sym now) ∙ put_there before f.path (record { object = f.object; content = contents.File file }) f.path refl in
      record {
        entry = record { path = f.path; object = f.object; file = file };
        names = finds_file binds after write.file f.path f.object file now_formed (names_object binds before write.file f found) stands;
        at = λ n bound. written_at f.file.bytes write.offset added n (omega (arith, added_length)) ∙ take-take n count write.bytes bound;
      }

pub record Wrote (binds : Bindings) (before after : Tree) (write : WriteArguments) (count : ℕ) : Type 0 where
  pub level : Option StableHow
  pub changes : option_map (changed before) (write_change binds before write count level) ≡ Some after

pub wrote : (binds : Bindings) (before after : Tree) (number : ℕ) (write : WriteArguments) (outcome : Outcome) (count : ℕ) → count_written outcome ≡ Some count
    → next_tree binds before number (calls.Write write) outcome ≡ Some after → Wrote binds before after write count
wrote binds before after number write (Received (replies.Write (Done success))) count is e =
    subst (Wrote binds before after write) (same_some success.count count is) (record { level = Some success.level; changes = e })
wrote binds before after number write (Received _) count is e = absurd (cc)
wrote binds before after number write (Taken (Some n)) count is e = subst (Wrote binds before after write) (same_some n count is) (record { level = None; changes = e })
wrote binds before after number write (Taken None) count is e = absurd (cc)

fits_write : (binds : Bindings) (before after : Tree) (write : WriteArguments) (read : ReadArguments) (back : ReadsBack binds before after write read)
    → (back.count ≤ length write.bytes) × Holds binds after write.file write.offset back.count write.bytes
fits_write binds before after write read back =
    let by = wrote binds before after back.number write back.outcome back.count back.counted back.wrote in
    let change = mapped (changed before) (write_change binds before write back.count by.level) after by.changes in
    let found = chained _ (file_of binds before write.file) change.0 change.1 in
    let tests = passed _ (write_at found.0 write.offset (take back.count write.bytes)) change.0 found.2 in
    let fits = leb-true back.count (length write.bytes) (both_pass _ _ (both_pass _ _ tests.0).0).1 in
    let formed = steps_keep binds before after back.number (calls.Write write) back.outcome back.wrote back.formed in (
      fits,
      holds binds before after write back.count back.formed formed fits found.0 found.1 (length (take back.count write.bytes) == 0) _ refl
          (ap (option_map (changed before)) tests.1 ∙ ap Some change.2),
    )

-- ---- a read of it

same_text : (a b : List ℕ) → same_bytes a b ≡ true → a ≡ b
same_text = pointwise_same nat_eq eqb-true

pub right_is : (bytes : List ℕ) (read : ReadArguments) (answer : ReadSuccess) → read_is_right bytes read answer ≡ true
    → (answer.count ≡ length answer.bytes) × (length answer.bytes ≤ read.count) × (answer.bytes ≡ take (length answer.bytes) (drop read.offset bytes))
right_is bytes read answer h =
    let all = both_pass _ _ h in
    let three = both_pass _ _ all.0 in
    let two = both_pass _ _ three.0 in
    (eqb-true answer.count (length answer.bytes) two.0, leb-true (length answer.bytes) read.count two.1, same_text _ _ three.1)

got : (binds : Bindings) (tree : Tree) (read : ReadArguments) (answer : ReadSuccess) (f : FileEntry) → file_of binds tree read.file ≡ Some f
    → read_is_legal binds tree read (replies.Read (Done answer)) ≡ read_is_right f.file.bytes read answer
got binds tree read answer f is = ap (λ (o : Option FileEntry). option_map_or (λ entry. read_is_right entry.file.bytes read answer) o false) is

pub only_what_was_written : OnlyWhatWasWritten
only_what_was_written binds before after write read answer back right =
    let file = (fits_write binds before after write read back).1 in
    let entry = file.entry in
    let names : file_of binds after read.file ≡ Some entry = ap (file_of binds after) back.same_file ∙ file.names in
    let is = right_is entry.file.bytes read answer (sym (got binds after read answer entry names) ∙ right) in
    let count : answer.count ≡ length answer.bytes = is.0 in
    let within : length answer.bytes ≤ read.count = is.1 in
    let most = back.within in
    let few : length answer.bytes ≤ back.count = omega arith in (
      omega arith,
      is.2 ∙ ap (λ (o : ℕ). take (length answer.bytes) (drop o entry.file.bytes)) back.same_offset ∙ file.at (length answer.bytes) few ∙ ap (λ (n : ℕ). take n write.bytes) (sym count),
    )

four : (a b c d : Bool) → a ≡ true → b ≡ true → c ≡ true → d ≡ true → (a && b && c && d) ≡ true
four true b c d p q r s = (λ i. q i && c && d) ∙ (λ i. r i && d) ∙ s
four false b c d p q r s = absurd (cc)

flag_itself : (b : Bool) → same_flag b b ≡ true
flag_itself true = refl
flag_itself false = refl

pub what_was_written : WhatWasWritten
what_was_written binds before after write read attributes count back few =
    let all = fits_write binds before after write read back in
    let file = all.1 in
    let entry = file.entry in
    let bytes = take count write.bytes in
    let most = back.within in
    let fits = all.0 in
    let long : length bytes ≡ count = length-take-le count write.bytes (omega arith) in
    let eof = nat_le (length entry.file.bytes) (read.offset + length bytes) in
    let answer : ReadSuccess = record { attributes = attributes; count = count; eof = eof; bytes = bytes } in
    let names : file_of binds after read.file ≡ Some entry = ap (file_of binds after) back.same_file ∙ file.names in
    let same : take (length bytes) (drop read.offset entry.file.bytes) ≡ bytes =
    (λ i. take (long i) (drop (back.same_offset i) entry.file.bytes)) ∙ file.at count (omega arith) in (
      eof,
      got binds after read answer entry names
          ∙ four _ _ _ _ (eq-eqb count (length bytes) (sym long)) (le-leb (length bytes) read.count (omega arith))
          (ap (same_bytes bytes) same ∙ nat_list_eq_equiv.refl bytes) (flag_itself eof),
    )
