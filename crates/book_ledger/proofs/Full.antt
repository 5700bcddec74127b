-- a READ's success that is as long as it can be is all that the file has there
use Rattle.std.proofs.Common.{◌≡◌, ◌↔◌, ℕ, zero, suc, ◌+◌, ◌-◌, min, Bool, true, false, List, [], ◌∷◌, length, take, drop, Option, Some, None, refl, sym, ap, ◌∙◌, arith}
use Rattle.std.proofs.lemmas.List.{length-take, length-drop}
use Rattle.std.proofs.lemmas.Bool.{eqb-true, eq-eqb}
use Rattle.tree_nodes.specs.declared.node.File.{File}
use Rattle.std.specs.Prelude.{option_map, nat_eq, ◌==◌, ◌&&◌, nat_le, IsTrue}
use Rattle.std.specs.Option.{option_map_or}
use Rattle.nfs3_types.specs.Limits.{transfer_limit}
use Rattle.nfs3_types.specs.declared.calls.NfsCall.TheVariants as calls
use Rattle.nfs3_types.specs.declared.calls.ReadArguments.{ReadArguments}
use Rattle.nfs3_types.specs.declared.replies.Answer.TheVariants.{Done}
use Rattle.nfs3_types.specs.declared.replies.NfsReply.{NfsReply}
use Rattle.nfs3_types.specs.declared.replies.NfsReply.TheVariants as replies
use Rattle.nfs3_types.specs.declared.replies.ReadSuccess.{ReadSuccess}
use Rattle.tree_nodes.specs.Tree.{Tree}
use Rattle.tree_nodes.proofs.Chains.{mapped, both_pass}
use Rattle.tree_handles.specs.Binding.{Bindings, same_bytes}
use Rattle.tree_handles.specs.Live.{FileEntry, file_of}
use Rattle.tree_handles.proofs.Positions.{same_is}
use Rattle.tree_answers.specs.Look.{read_is_legal, read_is_right, same_flag}
use Rattle.file_tree.specs.Change.{Change}
use Rattle.file_tree.specs.Change.Change.{Keep}
use Rattle.file_tree.specs.Made.{only_if}
use Rattle.file_tree.specs.Success.{changed, change_answered}
use Rattle.book_laws.specs.Served.{IsFull}
use Rattle.book_ledger.specs.Serving.{IsAllowed, HasAll, ReadsAll}

-- a front that is as long as a front of a front is that one
taken_again : (limit count : ℕ) (bytes : List ℕ) → take (length (take limit (take count bytes))) bytes ≡ take limit (take count bytes)
taken_again zero count bytes = refl
taken_again (suc limit) zero bytes = refl
taken_again (suc limit) (suc count) [] = refl
taken_again (suc limit) (suc count) (byte ∷ bytes) = ap (λ (xs : List ℕ). byte ∷ xs) (taken_again limit count bytes)

kept_if : (b : Bool) (c : Change) → only_if b Keep ≡ Some c → b ≡ true
kept_if true c e = refl
kept_if false c e = absurd (cc)

right_bytes : (bytes : List ℕ) (call : ReadArguments) (success : ReadSuccess) → read_is_right bytes call success ≡ true → success.bytes ≡ take (length success.bytes) (drop call.offset bytes)
right_bytes bytes call success e =
    let outer = both_pass ((success.count == length success.bytes) && nat_le (length success.bytes) call.count && same_bytes success.bytes (take (length success.bytes) (drop call.offset bytes)))
    (same_flag success.eof (nat_le (length bytes) (call.offset + length success.bytes))) e in
    same_is success.bytes (take (length success.bytes) (drop call.offset bytes))
    (both_pass ((success.count == length success.bytes) && nat_le (length success.bytes) call.count) (same_bytes success.bytes (take (length success.bytes) (drop call.offset bytes))) outer.0).1

module _ (binds : Bindings) (tree : Tree) (call : ReadArguments) where
  right_there : (success : ReadSuccess) → IsAllowed binds tree (calls.Read call) (replies.Read (Done success)) → (entry : FileEntry) → file_of binds tree call.file ≡ Some entry
      → success.bytes ≡ take (length success.bytes) (drop call.offset entry.file.bytes)
  right_there success allowed entry is =
      let change = mapped (changed tree) (change_answered binds tree allowed.0 (calls.Read call) (replies.Read (Done success)) None) allowed.1 allowed.2 in
      let got : read_is_legal binds tree call (replies.Read (Done success)) ≡ true = kept_if (read_is_legal binds tree call (replies.Read (Done success))) change.0 change.1 in
      right_bytes entry.file.bytes call success (sym (ap (λ (o : Option FileEntry). option_map_or (λ (e : FileEntry). read_is_right e.file.bytes call success) o false) is) ∙ got)

  full_there : (success : ReadSuccess) → IsAllowed binds tree (calls.Read call) (replies.Read (Done success)) → HasAll binds tree call success → IsFull binds tree (calls.Read call) (replies.Read (Done success))
  full_there success allowed all = λ entry is.
      let there = drop call.offset entry.file.bytes in
      right_there success allowed entry is ∙ ap (λ (n : ℕ). take n there) (all entry is) ∙ taken_again transfer_limit call.count there

  pub read_full : (reply : NfsReply) → ReadsAll binds tree call reply → IsAllowed binds tree (calls.Read call) reply → IsFull binds tree (calls.Read call) reply
  read_full (replies.Read (Done success)) all allowed = full_there success allowed all
  read_full _ all allowed = tt

  pub read_all : (reply : NfsReply) → IsFull binds tree (calls.Read call) reply → ReadsAll binds tree call reply
  read_all (replies.Read (Done success)) full = λ entry is. ap length (full entry is)
  read_all _ full = tt

-- ---- as many bytes as there are

size_is : (limit count offset : ℕ) (bytes : List ℕ) → length (take limit (take count (drop offset bytes))) ≡ min (min (length bytes - offset) count) limit
size_is limit count offset bytes =
    length-take limit (take count (drop offset bytes)) ∙ ap (min limit) (length-take count (drop offset bytes) ∙ ap (min count) (length-drop offset bytes)) ∙ swapped limit count (length bytes - offset) where
      swapped : (a b c : ℕ) → min a (min b c) ≡ min (min c b) a
      swapped a b c = omega arith

abbrev pair : ℕ → File → ℕ × File
pair object file = (object, file)

abbrev pair_of : FileEntry → ℕ × File
pair_of e = pair e.object e.file

pub whole_so : (binds : Bindings) (tree nodes : Tree) (call : ReadArguments) (success : ReadSuccess) (object : ℕ) (file : File) → nodes ≡ tree
    → Some (pair object file) ≡ option_map pair_of (file_of binds nodes call.file) → (len left from low asked : ℕ) (shown : List ℕ) → len ≡ length file.bytes → left ≡ len - call.offset → from ≡ call.count
    → low ≡ min left from → asked ≡ min low 1048576 → shown ≡ success.bytes → IsTrue (nat_eq (length shown) asked) ↔ HasAll binds tree call success
whole_so binds tree nodes call success object file nodes_is found len left from low asked shown len_is left_is from_is low_is asked_is shown_is =
    (λ is entry at. sym (ap length shown_is) ∙ eqb-true (length shown) asked is ∙ sized entry at, λ all. eq-eqb (length shown) asked (ap length shown_is ∙ all there.0 there.1 ∙ sym (sized there.0 there.1))) where
      here : option_map pair_of (file_of binds tree call.file) ≡ Some (pair object file)
      here = ap (λ (t : Tree). option_map pair_of (file_of binds t call.file)) (sym nodes_is) ∙ sym found

      there : (e : FileEntry) × (file_of binds tree call.file ≡ Some e) × (pair_of e ≡ pair object file)
      there = mapped pair_of (file_of binds tree call.file) (pair object file) here

      total : asked ≡ min (min (length file.bytes - call.offset) call.count) transfer_limit
      total = asked_is ∙ ap (λ (n : ℕ). min n 1048576) (low_is ∙ (λ i. min ((left_is ∙ ap (λ (n : ℕ). n - call.offset) len_is) i) (from_is i)))

      one : {a b : FileEntry} → Some a ≡ Some b → a ≡ b
      one e = cc

      sized : (entry : FileEntry) → file_of binds tree call.file ≡ Some entry → asked ≡ length (take transfer_limit (take call.count (drop call.offset entry.file.bytes)))
      sized entry at =
          let same : file ≡ entry.file = sym (ap (λ (p : ℕ × File). p.1) there.2) ∙ ap (λ (e : FileEntry). e.file) (one (sym there.1 ∙ at)) in
          total ∙ ap (λ (f : File). min (min (length f.bytes - call.offset) call.count) transfer_limit) same ∙ sym (size_is transfer_limit call.count call.offset entry.file.bytes)
