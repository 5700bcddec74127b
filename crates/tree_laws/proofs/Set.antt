-- what a WRITE and a SETATTR with a size make of a file
use Rattle.std.proofs.Common.{◌≡◌, ℕ, zero, suc, ◌+◌, ◌<◌, ◌≤◌, Bool, true, false, cond, List, length, take, Option, Some, None, refl, sym, ap, ◌∙◌, subst, arith}
use Rattle.std.specs.Prelude.{◌==◌, nat_le, is_some, max, option_and_then, option_map}
use Rattle.std.proofs.lemmas.Bool.{eqb-true, leb-true}
use Rattle.std.proofs.lemmas.List.{length-take-le, get_or-take}
use Rattle.std.specs.FinMap as map
use Rattle.nfs3_types.specs.declared.calls.SetAttrArguments.{SetAttrArguments}
use Rattle.nfs3_types.specs.declared.calls.WriteArguments.{WriteArguments}
use Rattle.nfs3_types.specs.declared.calls.NfsCall.TheVariants as calls
use Rattle.nfs3_types.specs.declared.replies.Answer.TheVariants.{Done}
use Rattle.nfs3_types.specs.declared.replies.NfsReply.{NfsReply}
use Rattle.nfs3_types.specs.declared.replies.NfsReply.TheVariants as replies
use Rattle.nfs3_types.specs.declared.replies.Outcome.TheVariants.{Received, Taken}
use Rattle.nfs3_types.specs.declared.status.Failure.{Failure}
use Rattle.file_tree.specs.Change.Change.{Keep, Put}
use Rattle.tree_nodes.specs.declared.node.File.{File}
use Rattle.nfs3_types.specs.Limits.{file_limit}
use Rattle.tree_nodes.specs.Files.{file_node}
use Rattle.tree_stores.specs.Files.{resized, written}
use Rattle.tree_nodes.specs.Tree.{Tree}
use Rattle.tree_handles.specs.Binding.{Bindings}
use Rattle.tree_handles.specs.Live.{FileEntry, live_entry, file_of}
use Rattle.nfs3_types.specs.Procedures.{failure_in}
use Rattle.file_tree.specs.Success.{changed, change_set, change_answered}
use Rattle.file_tree.specs.Made.{set_size}
use Rattle.file_tree.specs.Written.{set_attributes, write_at, write_change}
use Rattle.tree_laws.specs.WellFormed.{IsWellFormed}
use Rattle.tree_laws.specs.FileBytes.{BytesBecome, AreWritten, WriteSets, AreResized, SetAttrSets}
use Rattle.tree_nodes.proofs.Chains.{chained, mapped, passed, same_some, both_pass}
use Rattle.tree_laws.proofs.Handles.{IsFileAt, names_object}
use Rattle.tree_laws.proofs.Running.{steps_keep}
use Rattle.tree_laws.proofs.Sizes.{resized_byte, written_length, written_new, written_ahead, written_behind}
use Rattle.tree_laws.proofs.Written.{finds_file, wrote}
use Rattle.file_tree.proofs.StartStep.{put_there}
use Rattle.file_tree.proofs.Planned.{resized_long}

-- a file that is put in place of the one that a handle names
became : (binds : Bindings) (before after : Tree) (handle bytes : List ℕ) (f : FileEntry) (Become : List ℕ → List ℕ → Type 0) → IsWellFormed after → file_of binds before handle ≡ Some f
    → map.insert before f.path (file_node f.object bytes f.file.verifier) ≡ after → Become f.file.bytes bytes → BytesBecome binds handle before after Become
became binds before after handle bytes f Become formed was put become =
    let file : File = record { bytes = bytes; verifier = f.file.verifier } in
    let stands : IsFileAt after f.path f.object file = ap (λ (t : Tree). map.get t f.path) (sym put) ∙ put_there before f.path (file_node f.object bytes f.file.verifier) f.path refl in
    record {
      old = f;
      new = record { path = f.path; object = f.object; file = file };
      was = was;
      is = finds_file binds after handle f.path f.object file formed (names_object binds before handle f was) stands;
      same_path = refl;
      same_object = refl;
      same_verifier = refl;
      bytes = become;
    }

stayed : (binds : Bindings) (before after : Tree) (handle : List ℕ) (f : FileEntry) (Become : List ℕ → List ℕ → Type 0) → file_of binds before handle ≡ Some f → before ≡ after
    → Become f.file.bytes f.file.bytes → BytesBecome binds handle before after Become
stayed binds before after handle f Become was same become = record {
  old = f;
  new = f;
  was = was;
  is = ap (λ (t : Tree). file_of binds t handle) (sym same) ∙ was;
  same_path = refl;
  same_object = refl;
  same_verifier = refl;
  bytes = become;
}

-- ---- WRITE

are_written : (offset count : ℕ) (sent old : List ℕ) → count ≤ length sent → 0 < count → AreWritten offset count sent old (written old offset (take count sent))
are_written offset count sent old fits some =
    let long : length (take count sent) ≡ count = length-take-le count sent fits in
    record {
      set = λ i within. written_new old offset (take count sent) i (omega arith) ∙ get_or-take count sent i 0 within;
      ahead = written_ahead old offset (take count sent);
      behind = λ i behind. written_behind old offset (take count sent) i (omega arith);
      ends = λ _. written_length old offset (take count sent) ∙ ap (λ n. max (length old) (offset + n)) long;
      nothing = λ none. absurd (omega arith);
    }

none_written : (offset count : ℕ) (sent old : List ℕ) → count ≡ 0 → AreWritten offset count sent old old
none_written offset count sent old none = record {
  set = λ i within. absurd (omega arith);
  ahead = λ i _. refl;
  behind = λ i _. refl;
  ends = λ some. absurd (omega arith);
  nothing = λ _. refl;
}

not_zero : (n : ℕ) → (n == 0) ≡ false → 0 < n
not_zero zero e = absurd (cc)
not_zero (suc n) e = omega arith

write_sets_in : (binds : Bindings) (before after : Tree) (write : WriteArguments) (count : ℕ) (f : FileEntry) (nothing within : Bool) → IsWellFormed after → count ≤ length write.bytes
    → file_of binds before write.file ≡ Some f → (length (take count write.bytes) == 0) ≡ nothing
    → option_map (changed before) (cond nothing (Some Keep) (cond within (Some (Put f.path (file_node f.object (written f.file.bytes write.offset (take count write.bytes)) f.file.verifier))) None)) ≡ Some after
    → BytesBecome binds write.file before after (AreWritten write.offset count write.bytes)
write_sets_in binds before after write count f true within formed fits was is e =
    let none = eqb-true (length (take count write.bytes)) 0 is in
    stayed binds before after write.file f (AreWritten write.offset count write.bytes) was (same_some before after e)
    (none_written write.offset count write.bytes f.file.bytes (sym (length-take-le count write.bytes fits) ∙ none))
write_sets_in binds before after write count f false within formed fits was is e =
    let put = mapped (changed before) _ after e in
    let tests = passed within _ put.0 put.1 in
    let long = length-take-le count write.bytes fits in
    let some = not_zero (length (take count write.bytes)) is in
    became binds before after write.file (written f.file.bytes write.offset (take count write.bytes)) f (AreWritten write.offset count write.bytes) formed was
    (ap (changed before) (same_some _ put.0 tests.1) ∙ put.2) (are_written write.offset count write.bytes f.file.bytes fits (omega arith))

pub write_sets : WriteSets
write_sets binds before after number write outcome count formed counted next =
    let by = wrote binds before after number write outcome count counted next in
    let change = mapped (changed before) (write_change binds before write count by.level) after by.changes in
    let found = chained _ (file_of binds before write.file) change.0 change.1 in
    let tests = passed _ (write_at found.0 write.offset (take count write.bytes)) change.0 found.2 in
    let fits = leb-true count (length write.bytes) (both_pass _ _ (both_pass _ _ tests.0).0).1 in
    let now = steps_keep binds before after number (calls.Write write) outcome next formed in
    (fits, write_sets_in binds before after write count found.0 (length (take count write.bytes) == 0) _ now fits found.1 refl (ap (option_map (changed before)) tests.1 ∙ ap Some change.2))

-- ---- SETATTR

resizes : (binds : Bindings) (before after : Tree) (call : SetAttrArguments) (size : ℕ) (given : Option ℕ) (live : Bool) → IsWellFormed after → given ≡ Some size
    → option_map (changed before)
    (cond (is_some given) (option_and_then (λ entry. set_size entry.path entry.object entry.file given) (file_of binds before call.object)) (cond live (Some Keep) None)) ≡ Some after
    → BytesBecome binds call.object before after (AreResized size)
resizes binds before after call size None live formed is e = absurd (cc)
resizes binds before after call size (Some n) live formed is e =
    let change = mapped (changed before) _ after e in
    let found = chained _ (file_of binds before call.object) change.0 change.1 in
    let f = found.0 in
    let tests = passed (nat_le n file_limit) _ change.0 found.2 in
    let same = same_some n size is in
    became binds before after call.object (resized f.file.bytes n) f (AreResized size) formed found.1 (ap (changed before) (same_some _ change.0 tests.1) ∙ change.2)
    (subst (λ m. AreResized m f.file.bytes (resized f.file.bytes n)) same (record { ends = resized_long f.file.bytes n; ahead = resized_byte f.file.bytes n }))

module _ (binds : Bindings) (before after : Tree) (call : SetAttrArguments) (size : ℕ) (formed : IsWellFormed after) (given : call.attributes.size ≡ Some size) where
  sets : option_map (changed before) (set_attributes binds before call) ≡ Some after → BytesBecome binds call.object before after (AreResized size)
  sets e = resizes binds before after call size call.attributes.size (is_some (live_entry binds before call.object)) formed given e

  set_done : (reply : NfsReply) → option_map (changed before) (change_set binds before call reply) ≡ Some after → BytesBecome binds call.object before after (AreResized size)
  set_done (replies.SetAttr (Done _)) e = sets e
  set_done _ e = absurd (cc)

  set_answered : (number : ℕ) (reply : NfsReply) (o : Option Failure) → o ≡ None → option_map (changed before) (change_answered binds before number (calls.SetAttr call) reply o) ≡ Some after
      → BytesBecome binds call.object before after (AreResized size)
  set_answered number reply None is e = set_done reply e
  set_answered number reply (Some failure) is e = absurd (cc)

pub set_attr_sets : SetAttrSets
set_attr_sets binds before after number call (Received reply) size formed success given next =
    let now = steps_keep binds before after number (calls.SetAttr call) (Received reply) next formed in
    set_answered binds before after call size now given number reply (failure_in reply) success next
set_attr_sets binds before after number call (Taken None) size formed success given next =
    let now = steps_keep binds before after number (calls.SetAttr call) (Taken None) next formed in
    sets binds before after call size now given next
set_attr_sets binds before after number call (Taken (Some count)) size formed success given next = absurd (cc)
