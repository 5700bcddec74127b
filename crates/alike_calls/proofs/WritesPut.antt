-- what a WRITE that is taken changes, and trees of which one has the file that it put
use Rattle.std.proofs.Common.{◌≡◌, ℕ, ◌+◌, ◌≤◌, ◌⊎◌, inl, inr, Bool, true, false, cond, List, length, take, Option, Some, None, refl, sym, ap, ◌∙◌, arith}
use Rattle.std.proofs.lemmas.Bool.{eqb-true, eqb-false, leb-true, le-leb}
use Rattle.std.proofs.lemmas.List.{length-take-le}
use Rattle.std.specs.Prelude.{◌==◌, ◌&&◌, max, nat_le, IfSome, option_and_then, option_map}
use Rattle.std.specs.Ordering.{eq_by_cmp}
use Rattle.std.specs.FinMap as finite
use Rattle.nfs3_types.specs.Limits.{file_limit}
use Rattle.nfs3_types.specs.declared.calls.WriteArguments.{WriteArguments}
use Rattle.tree_nodes.specs.declared.node.Node.{Node}
use Rattle.tree_nodes.specs.declared.node.File.{File}
use Rattle.tree_nodes.specs.declared.node.Content.{Content}
use Rattle.tree_nodes.specs.declared.node.Content.TheVariants as contents
use Rattle.tree_nodes.specs.Files.{file_node}
use Rattle.tree_nodes.specs.Tree.{Names, Tree, path_cmp, entry_of}
use Rattle.tree_nodes.proofs.Chains.{chained, passed, same_some, both_pass, differ}
use Rattle.tree_nodes.proofs.Entries.{path_total}
use Rattle.tree_nodes.proofs.Found.{tied, found_stands, found_passes}
use Rattle.tree_nodes.proofs.Soundness.{same_path}
use Rattle.tree_stores.specs.Files.{written as overwritten}
use Rattle.tree_handles.specs.Binding.{Bindings, object_of}
use Rattle.tree_handles.specs.Live.{FileEntry, live_entry, as_file, file_of}
use Rattle.file_tree.specs.Change.{Change}
use Rattle.file_tree.specs.Change.Change.{Keep, Put}
use Rattle.file_tree.specs.Made.{only_if}
use Rattle.file_tree.specs.Written.{write_at, write_change}
use Rattle.alike_calls.specs.Alike.{Alike}
use Rattle.alike_calls.specs.Writes.{IsCountOf, FileFits, written_so}
use Rattle.alike_calls.proofs.Parts.{if_then}
use Rattle.alike_calls.proofs.Changes.{at_paths, of_paths}
use Rattle.alike_calls.proofs.WritesSame.{same_node}

-- ---- one node more in either tree

module _ (fill more : Node → Node) (tree : Tree) (path : Names) (was now : Node) (stands : finite.get tree path ≡ Some was) (turned : more was ≡ now) (left : fill now ≡ now)
    (rest : (at : Names) (node : Node) → finite.get tree at ≡ Some node → (at ≡ path → ⊥) → fill node ≡ more node) where
  here : (at : Names) → at ≡ path → Some now ≡ option_map more (finite.get tree at)
  here at same = sym (ap (λ (p : Names). option_map more (finite.get tree p)) same ∙ ap (option_map more) stands ∙ ap (λ (n : Node). Some n) turned)

  elsewhere : (at : Names) → eq_by_cmp path_cmp at path ≡ false → option_map fill (finite.get tree at) ≡ option_map more (finite.get tree at)
  elsewhere at apart = same_node fill more (finite.get tree at) (λ node is. rest at node is (λ same. differ (eq_by_cmp path_cmp at path) (tied at path same) apart))

  -- the other tree gets the node: it is one that more was filled of
  pub put_in_other : (other : Tree) → Alike fill tree other → Alike more tree (finite.insert other path now)
  put_in_other other alike = of_paths more tree (finite.insert other path now) (λ at. finite.get-insert path_total other path now at ∙ go at (same_path at path)) where
    go : (at : Names) → (eq_by_cmp path_cmp at path ≡ true) × (at ≡ path) ⊎ (eq_by_cmp path_cmp at path ≡ false)
        → cond (eq_by_cmp path_cmp at path) (Some now) (finite.get other at) ≡ option_map more (finite.get tree at)
    go at (inl tie) = ap (λ b. cond b (Some now) (finite.get other at)) tie.0 ∙ here at tie.1
    go at (inr apart) = ap (λ b. cond b (Some now) (finite.get other at)) apart ∙ at_paths fill tree other alike at ∙ elsewhere at apart

  -- the tree gets it: it is no longer filled
  pub put_in_tree : (other : Tree) → Alike more tree other → Alike fill (finite.insert tree path now) other
  put_in_tree other alike =
      of_paths fill (finite.insert tree path now) other
      (λ at. at_paths more tree other alike at ∙ sym (ap (option_map fill) (finite.get-insert path_total tree path now at) ∙ go at (same_path at path))) where
        go : (at : Names) → (eq_by_cmp path_cmp at path ≡ true) × (at ≡ path) ⊎ (eq_by_cmp path_cmp at path ≡ false)
            → option_map fill (cond (eq_by_cmp path_cmp at path) (Some now) (finite.get tree at)) ≡ option_map more (finite.get tree at)
        go at (inl tie) = ap (λ b. option_map fill (cond b (Some now) (finite.get tree at))) tie.0 ∙ ap (λ (n : Node). Some n) left ∙ here at tie.1
        go at (inr apart) = ap (λ b. option_map fill (cond b (Some now) (finite.get tree at))) apart ∙ elsewhere at apart

-- ---- what a WRITE changes

-- it puts the file with what it wrote
pub record PutsFile (tree : Tree) (object : ℕ) (call : WriteArguments) (count : ℕ) (change : Change) : Type 0 where
  pub path : Names
  pub file : File
  pub stands : finite.get tree path ≡ Some (record { object = object; content = contents.File file })
  pub is : change ≡ Put path (file_node object (written_so call count file.bytes) file.verifier)

pub record IsWrite (tree : Tree) (object : ℕ) (call : WriteArguments) (count : ℕ) (change : Change) : Type 0 where
  pub right : IsCountOf call count
  pub does : ((count ≡ 0) × (change ≡ Keep)) ⊎ PutsFile tree object call count change

as_file_is : (path : Names) (object : ℕ) (content : Content) (entry : FileEntry) → as_file path object content ≡ Some entry
    → (path ≡ entry.path) × (object ≡ entry.object) × (content ≡ contents.File entry.file)
as_file_is path object contents.Directory entry is = absurd (cc)
as_file_is path object (contents.File file) entry is = (cc, cc, cc)
as_file_is path object (contents.Link target) entry is = absurd (cc)

-- a file that is found by its handle stands
pub each_fits : (binds : Bindings) (tree : Tree)
    → ((path : Names) (node : Node) (file : File) → finite.get tree path ≡ Some node → node.content ≡ contents.File file → length file.bytes ≤ file_limit)
    → (handle : List ℕ) → FileFits binds tree handle
each_fits binds tree fit handle =
    if_then (λ (e : Names × Node). finite.get tree e.0 ≡ Some e.1) (λ (entry : FileEntry). length entry.file.bytes ≤ file_limit) (λ e. as_file e.0 e.1.object e.1.content)
    (live_entry binds tree handle) (λ e stands. of_content e.0 e.1 stands e.1.content refl) (go (object_of binds handle)) where
      of_content : (path : Names) (node : Node) → finite.get tree path ≡ Some node → (content : Content) → node.content ≡ content
          → IfSome (as_file path node.object content) (λ entry. length entry.file.bytes ≤ file_limit)
      of_content path node stands contents.Directory is = tt
      of_content path node stands (contents.File file) is = fit path node file stands is
      of_content path node stands (contents.Link target) is = tt

      found : (object : ℕ) (o : Option (Names × Node)) → entry_of tree object ≡ o → IfSome o (λ e. finite.get tree e.0 ≡ Some e.1)
      found object None is = tt
      found object (Some e) is = found_stands tree (λ x. x.1.object == object) e is

      go : (o : Option ℕ) → IfSome (option_and_then (entry_of tree) o) (λ e. finite.get tree e.0 ≡ Some e.1)
      go None = tt
      go (Some object) = found object (entry_of tree object) refl

module _ (binds : Bindings) (tree : Tree) (object : ℕ) (call : WriteArguments) (named : object_of binds call.file ≡ Some object) where
  pub lives : live_entry binds tree call.file ≡ entry_of tree object
  lives = ap (option_and_then (entry_of tree)) named

  pub entry_stands : (e : Names × Node) → entry_of tree object ≡ Some e → (finite.get tree e.0 ≡ Some e.1) × (e.1.object ≡ object)
  entry_stands e is = (found_stands tree (λ x. x.1.object == object) e is, eqb-true e.1.object object (found_passes tree (λ x. x.1.object == object) e is))

  file_stands : (entry : FileEntry) → file_of binds tree call.file ≡ Some entry
      → (entry.object ≡ object) × (finite.get tree entry.path ≡ Some (record { object = object; content = contents.File entry.file }))
  file_stands entry is =
      let found = chained (λ (e : Names × Node). as_file e.0 e.1.object e.1.content) (live_entry binds tree call.file) entry is in
      let parts = as_file_is found.0.0 found.0.1.object found.0.1.content entry found.2 in
      let at = entry_stands found.0 (sym lives ∙ found.1) in (
        sym parts.1 ∙ at.1,
        ap (finite.get tree) (sym parts.0) ∙ at.0 ∙ ap (λ (n : ℕ). Some (record { object = n; content = found.0.1.content })) at.1
            ∙ ap (λ (content : Content). Some (record { object = object; content = content })) parts.2,
      )

  module _ (count : ℕ) (change : Change) where
    wrote_at : (entry : FileEntry) → entry.object ≡ object → finite.get tree entry.path ≡ Some (record { object = object; content = contents.File entry.file })
        → count ≤ call.count → count ≤ length call.bytes → write_at entry call.offset (take count call.bytes) ≡ Some change → IsWrite tree object call count change
    wrote_at entry one stands asked given is = go (count == 0) refl (ap (λ (n : ℕ). cond (n == 0) (Some Keep) put) (sym size) ∙ is) where
      size : length (take count call.bytes) ≡ count
      size = length-take-le count call.bytes given

      fits : Bool
      fits = nat_le (max (length entry.file.bytes) (call.offset + length (take count call.bytes))) file_limit

      after : List ℕ
      after = overwritten entry.file.bytes call.offset (take count call.bytes)

      put : Option Change
      put = only_if fits (Put entry.path (file_node entry.object after entry.file.verifier))

      within : fits ≡ true → call.offset + count ≤ file_limit
      within e = omega (arith, leb-true (max (length entry.file.bytes) (call.offset + length (take count call.bytes))) file_limit e, size)

      go : (none : Bool) → (count == 0) ≡ none → cond none (Some Keep) put ≡ Some change → IsWrite tree object call count change
      go true none done =
          let zero : count ≡ 0 = eqb-true count 0 none in record {
            right = record { asked = asked; given = given; within = λ some. absurd (omega arith) };
            does = inl (zero, sym (same_some Keep change done));
          }
      go false some done =
          let may = passed fits (Some (Put entry.path (file_node entry.object after entry.file.verifier))) change done in
          let now : after ≡ written_so call count entry.file.bytes = ap (λ b. cond b entry.file.bytes after) (sym some) in record {
            right = record { asked = asked; given = given; within = λ more. within may.0 };
            does = inr (record {
              path = entry.path;
              file = entry.file;
              stands = stands;
              is = sym (same_some (Put entry.path (file_node entry.object after entry.file.verifier)) change may.1) ∙ (λ i. Put entry.path (file_node (one i) (now i) entry.file.verifier));
            });
          }

  pub write_is : (count : ℕ) (change : Change) → write_change binds tree call count None ≡ Some change → IsWrite tree object call count change
  write_is count change is =
      let found = chained (λ (entry : FileEntry). cond (nat_le count call.count && nat_le count (length call.bytes) && true) (write_at entry call.offset (take count call.bytes)) None)
      (file_of binds tree call.file) change is in
      let may = passed (nat_le count call.count && nat_le count (length call.bytes) && true) (write_at found.0 call.offset (take count call.bytes)) change found.2 in
      let counts = both_pass (nat_le count call.count) (nat_le count (length call.bytes)) (both_pass (nat_le count call.count && nat_le count (length call.bytes)) true may.0).0 in
      let at = file_stands found.0 found.1 in
      wrote_at count change found.0 at.0 at.1 (leb-true count call.count counts.0) (leb-true count (length call.bytes) counts.1) may.1

  -- where it changes nothing, though its count may be, the handle names no file
  pub isnt_file : (count : ℕ) → IsCountOf call count → FileFits binds tree call.file → write_change binds tree call count None ≡ None → file_of binds tree call.file ≡ None
  isnt_file count right small none = go (file_of binds tree call.file) small none where
    size : length (take count call.bytes) ≡ count
    size = length-take-le count call.bytes right.given

    puts : (entry : FileEntry) → length entry.file.bytes ≤ file_limit → write_at entry call.offset (take count call.bytes) ≡ None → ⊥
    puts entry small none = at (count == 0) refl (ap (λ (n : ℕ). cond (n == 0) (Some Keep) put) (sym size) ∙ none) where
      put : Option Change
      put =
          only_if (nat_le (max (length entry.file.bytes) (call.offset + length (take count call.bytes))) file_limit)
          (Put entry.path (file_node entry.object (overwritten entry.file.bytes call.offset (take count call.bytes)) entry.file.verifier))

      fits : (count == 0) ≡ false → nat_le (max (length entry.file.bytes) (call.offset + length (take count call.bytes))) file_limit ≡ true
      fits some =
          let apart : count ≡ 0 → ⊥ = eqb-false count 0 some in
          let most = right.within (omega arith) in
          le-leb (max (length entry.file.bytes) (call.offset + length (take count call.bytes))) file_limit (omega (arith, size))

      at : (none : Bool) → (count == 0) ≡ none → cond none (Some Keep) put ≡ None → ⊥
      at true none done = cc
      at false some done =
          let now : Some (Put entry.path (file_node entry.object (overwritten entry.file.bytes call.offset (take count call.bytes)) entry.file.verifier)) ≡ None =
          ap (λ b. only_if b (Put entry.path (file_node entry.object (overwritten entry.file.bytes call.offset (take count call.bytes)) entry.file.verifier))) (sym (fits some)) ∙ done in
          cc

    go : (o : Option FileEntry) → IfSome o (λ entry. length entry.file.bytes ≤ file_limit)
        → option_and_then (λ (entry : FileEntry). cond (nat_le count call.count && nat_le count (length call.bytes) && true) (write_at entry call.offset (take count call.bytes)) None) o ≡ None
        → o ≡ None
    go None small none = refl
    go (Some entry) small none =
        absurd (puts entry small
        (ap (λ b. cond (b && true) (write_at entry call.offset (take count call.bytes)) None) (sym (le-leb count (length call.bytes) right.given))
        ∙ ap (λ b. cond (b && nat_le count (length call.bytes) && true) (write_at entry call.offset (take count call.bytes)) None) (sym (le-leb count call.count right.asked)) ∙ none))
