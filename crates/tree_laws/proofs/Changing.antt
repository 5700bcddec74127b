-- what a call's change is, where it has one
use Rattle.std.proofs.Common.{◌≡◌, ℕ, ◌+◌, ◌<◌, ◌≤◌, ◌⊎◌, inl, inr, Bool, true, false, cond, List, [], ◌∷◌, ◌++◌, length, take, Option, Some, None, refl, sym, ap, ◌∙◌, subst, arith}
use Rattle.std.specs.Prelude.{not, is_some, ◌&&◌, IsSome, option_and_then, option_map, ⊤}
use Rattle.std.proofs.lemmas.Bool.{cases_lt}
use Rattle.std.proofs.lemmas.List.{length-take}
use Rattle.std.specs.FinMap as map
use Rattle.nfs3_types.specs.declared.calls.CreateMode.{CreateMode}
use Rattle.nfs3_types.specs.declared.calls.CreateMode.TheVariants.{Unchecked, Guarded, Exclusive}
use Rattle.nfs3_types.specs.declared.calls.StableHow.{StableHow}
use Rattle.nfs3_types.specs.declared.calls.WriteArguments.{WriteArguments}
use Rattle.nfs3_types.specs.declared.calls.CreateArguments.{CreateArguments}
use Rattle.nfs3_types.specs.declared.calls.DirectoryName.{DirectoryName}
use Rattle.nfs3_types.specs.declared.calls.SetAttrArguments.{SetAttrArguments}
use Rattle.nfs3_types.specs.declared.calls.RenameArguments.{RenameArguments}
use Rattle.nfs3_types.specs.declared.calls.NfsCall.{NfsCall}
use Rattle.nfs3_types.specs.declared.calls.NfsCall.TheVariants as calls
use Rattle.nfs3_types.specs.declared.replies.Answer.TheVariants.{Done}
use Rattle.nfs3_types.specs.declared.replies.NfsReply.{NfsReply}
use Rattle.nfs3_types.specs.declared.replies.NfsReply.TheVariants as replies
use Rattle.nfs3_types.specs.declared.replies.Outcome.{Outcome}
use Rattle.nfs3_types.specs.declared.replies.Outcome.TheVariants.{Received, Taken}
use Rattle.nfs3_types.specs.declared.status.Failure.{Failure}
use Rattle.file_tree.specs.Change.{Change}
use Rattle.file_tree.specs.Change.Change.{Keep, Put, Remove, Move}
use Rattle.tree_nodes.specs.declared.node.Node.{Node}
use Rattle.tree_nodes.specs.declared.node.File.{File}
use Rattle.tree_nodes.specs.declared.node.Content.{Content}
use Rattle.tree_nodes.specs.declared.node.Content.TheVariants as contents
use Rattle.tree_nodes.specs.Files.{file_node}
use Rattle.tree_stores.specs.Files.{resized, written}
use Rattle.tree_nodes.specs.Tree.{Names, Tree, same_path, entry_of, is_bare}
use Rattle.tree_nodes.specs.Moved.{is_from}
use Rattle.tree_handles.specs.Binding.{Bindings, gives_object, object_of}
use Rattle.tree_handles.specs.Live.{live_entry, directory_of, file_of}
use Rattle.tree_starts.specs.Names.{is_plain}
use Rattle.tree_handles.specs.Entry.{entry_at, named}
use Rattle.tree_handles.specs.Kind.{is_directory}
use Rattle.tree_answers.specs.Look.{getattr_is_legal, lookup_is_legal, readlink_is_legal, read_is_legal, commit_is_legal}
use Rattle.tree_answers.specs.Listing.{readdir_is_legal, readdirplus_is_legal}
use Rattle.nfs3_types.specs.Procedures.{is_answered, failure_in}
use Rattle.tree_answers.specs.Failure.{is_permitted}
use Rattle.file_tree.specs.Success.{change_written, change_done, change_answered, change_taken, change_of}
use Rattle.file_tree.specs.Made.{made_by, set_size, create_over, create_present, create_at, create_change, make_entry}
use Rattle.file_tree.specs.Removed.{may_replace, rename}
use Rattle.file_tree.specs.Written.{write_at, write_change, set_attributes}
use Rattle.tree_laws.specs.Outcomes.{IsSuccess, count_written}
use Rattle.tree_laws.specs.OnePath.{path_of, file_path, path_asked, is_rename}
use Rattle.tree_laws.specs.LiveHandles.{path_taken}
use Rattle.tree_laws.specs.Types.{MayBecome}
use Rattle.tree_laws.specs.WellFormed.{IsDirectoryAt}
use Rattle.tree_laws.specs.WritingOver.{size_over, WritesOver, ByteStays}
use Rattle.tree_nodes.proofs.Chains.{chained, passed, same_some, both_pass, negated, none_is, absent}
use Rattle.tree_laws.proofs.Handles.{IsFileAt, directory_stands, file_stands, names_object}
use Rattle.tree_laws.proofs.Removing.{named_stands}
use Rattle.tree_laws.proofs.Sizes.{resized_byte, written_length, written_ahead, written_behind}
use Rattle.file_tree.proofs.Planned.{resized_long}

-- a node of the same object in place of one that is no directory
pub record Replaces (tree : Tree) (path : Names) (node : Node) : Type 0 where
  pub old : Node
  pub stood : map.get tree path ≡ Some old
  pub object : old.object ≡ node.object
  pub no_directory : is_directory old.content ≡ false
  pub becomes : MayBecome old.content node.content

-- a name in a directory
pub record IsChild (path : Names) : Type 0 where
  pub directory : Names
  pub name : List ℕ
  pub parts : path ≡ directory ++ name ∷ []

-- a node of a new object at a name that is absent
pub record Grows (tree : Tree) (path : Names) (node : Node) : Type 0 where
  pub child : IsChild path
  pub inside : IsDirectoryAt tree child.directory
  pub free : map.get tree path ≡ None
  pub new : entry_of tree node.object ≡ None

pub record Shrinks (tree : Tree) (path : Names) : Type 0 where
  pub child : IsChild path
  pub bare : is_bare tree path ≡ true

-- what stands at p may go to q
pub record Moves (tree : Tree) (p q : Names) : Type 0 where
  pub source : IsChild p
  pub stood : IsSome (map.get tree p)
  pub target : IsChild q
  pub inside : IsDirectoryAt tree target.directory
  pub outside : is_from q p ≡ false
  pub bare : is_bare tree q ≡ true

-- the bytes of a file, and none of anything else
abbrev pub bytes_of : Content → List ℕ
bytes_of contents.Directory = []
bytes_of (contents.File file) = file.bytes
bytes_of (contents.Link _) = []

-- the bytes that a size leaves, and those that a WRITE does
left_by_size : (bytes : List ℕ) (size byte : ℕ) → (size ≤ byte → ⊥) → ByteStays bytes (resized bytes size) byte
left_by_size bytes size byte spared =
    elim (cases_lt byte size) [
      | inl within ↦ record { same = resized_byte bytes size byte within; stands = λ _. omega (arith, within, resized_long bytes size) }
      | inr past ↦ absurd (spared past)
    ]

left_by_write : (old : List ℕ) (offset : ℕ) (added : List ℕ) (byte : ℕ) → (offset ≤ byte → byte < offset + length added → ⊥) → ByteStays old (written old offset added) byte
left_by_write old offset added byte spared =
    record {
      same =
          elim (cases_lt byte offset) [
            | inl ahead ↦ written_ahead old offset added byte ahead
            | inr from ↦ elim (cases_lt byte (offset + length added)) [ inl within ↦ absurd (spared from within) | inr behind ↦ written_behind old offset added byte behind ]
          ];
      stands = λ stood. omega (arith, stood, written_length old offset added);
    }

-- the number of the call, and which bytes of which objects it writes over
module _ (number : ℕ) (over : ℕ → ℕ → Type 0) where
  -- a node that is put keeps each byte that isn't written over, and at a free path its object has the number
  pub record Sets (tree : Tree) (path : Names) (node : Node) : Type 0 where
    pub keeps : (old : Node) → map.get tree path ≡ Some old → (byte : ℕ) → (over node.object byte → ⊥) → ByteStays (bytes_of old.content) (bytes_of node.content) byte
    pub made : map.get tree path ≡ None → node.object ≡ number

  abbrev pub Fits : Tree → Bool → Option Names → Option Names → Change → Type 0
  Fits tree renames taken asked Keep = ⊤
  Fits tree renames taken asked (Put path node) = (asked ≡ Some path) × (Replaces tree path node ⊎ Grows tree path node) × Sets tree path node
  Fits tree renames taken asked (Remove path) = (asked ≡ Some path) × (taken ≡ Some path) × Shrinks tree path
  Fits tree renames taken asked (Move p q) = (renames ≡ true) × (taken ≡ Some q) × Moves tree p q

  keep_fits : (tree : Tree) (renames : Bool) (taken asked : Option Names) (c : Change) → Some Keep ≡ Some c → Fits tree renames taken asked c
  keep_fits tree renames taken asked c e = subst (Fits tree renames taken asked) (same_some Keep c e) tt

  put_fits : (tree : Tree) (renames : Bool) (taken asked : Option Names) (path : Names) (node : Node) (c : Change) → Some (Put path node) ≡ Some c → asked ≡ Some path
      → Replaces tree path node ⊎ Grows tree path node → Sets tree path node → Fits tree renames taken asked c
  put_fits tree renames taken asked path node c e at what sets = subst (Fits tree renames taken asked) (same_some (Put path node) c e) (at, what, sets)

  kept_fits : (tree : Tree) (renames : Bool) (taken asked : Option Names) (right : Bool) (c : Change) → cond right (Some Keep) None ≡ Some c → Fits tree renames taken asked c
  kept_fits tree renames taken asked right c e = keep_fits tree renames taken asked c (passed right (Some Keep) c e).1

  no_change : (tree : Tree) (renames : Bool) (taken asked : Option Names) (c : Change) → ◌≡◌ {A = Option Change} None (Some c) → Fits tree renames taken asked c
  no_change tree renames taken asked c e = absurd (cc)

  -- ---- the bytes of a file

  file_put : (tree : Tree) (asked : Option Names) (path : Names) (object : ℕ) (file : File) (bytes : List ℕ) (c : Change) → asked ≡ Some path → IsFileAt tree path object file
      → ((byte : ℕ) → (over object byte → ⊥) → ByteStays file.bytes bytes byte) → Some (Put path (file_node object bytes file.verifier)) ≡ Some c
      → Fits tree false None asked c
  file_put tree asked path object file bytes c at there keeps e =
      let old : Node = record { object = object; content = contents.File file } in
      put_fits tree false None asked path (file_node object bytes file.verifier) c e at (inl (record { old = old; stood = there; object = refl; no_directory = refl; becomes = refl }))
      (record {
        keeps = λ other stood byte spared. subst (λ (n : Node). ByteStays (bytes_of n.content) bytes byte) (same_some old other (sym there ∙ stood)) (keeps byte spared);
        made = λ free. absurd (absent _ free (subst IsSome (sym there) refl));
      })

  set_size_fits : (tree : Tree) (asked : Option Names) (path : Names) (object : ℕ) (file : File) (size : Option ℕ) (c : Change) → asked ≡ Some path → IsFileAt tree path object file
      → ((n byte : ℕ) → size ≡ Some n → n ≤ byte → over object byte) → set_size path object file size ≡ Some c → Fits tree false None asked c
  set_size_fits tree asked path object file None c at there sets e = keep_fits tree false None asked c e
  set_size_fits tree asked path object file (Some size) c at there sets e =
      file_put tree asked path object file (resized file.bytes size) c at there (λ byte spared. left_by_size file.bytes size byte (λ past. spared (sets size byte refl past))) (passed _ _ c e).1

  set_either_fits : (binds : Bindings) (tree : Tree) (call : SetAttrArguments) (b : Bool) (c : Change)
      → ((object size byte : ℕ) → object_of binds call.object ≡ Some object → call.attributes.size ≡ Some size → size ≤ byte → over object byte)
      → cond b (option_and_then (λ entry. set_size entry.path entry.object entry.file call.attributes.size) (file_of binds tree call.object))
      (cond (is_some (live_entry binds tree call.object)) (Some Keep) None) ≡ Some c → Fits tree false None (file_path binds tree call.object) c
  set_either_fits binds tree call true c sets e =
      let found = chained (λ entry. set_size entry.path entry.object entry.file call.attributes.size) (file_of binds tree call.object) c e in
      let f = found.0 in
      set_size_fits tree (file_path binds tree call.object) f.path f.object f.file call.attributes.size c (ap (option_map (λ entry. entry.path)) found.1)
      (file_stands binds tree call.object f found.1) (λ size byte. sets f.object size byte (names_object binds tree call.object f found.1)) found.2
  set_either_fits binds tree call false c sets e = kept_fits tree false None (file_path binds tree call.object) (is_some (live_entry binds tree call.object)) c e

  set_fits : (binds : Bindings) (tree : Tree) (call : SetAttrArguments) (c : Change)
      → ((object size byte : ℕ) → object_of binds call.object ≡ Some object → call.attributes.size ≡ Some size → size ≤ byte → over object byte)
      → set_attributes binds tree call ≡ Some c → Fits tree false None (file_path binds tree call.object) c
  set_fits binds tree call c sets e = set_either_fits binds tree call (is_some call.attributes.size) c sets e

  write_at_fits : (tree : Tree) (asked : Option Names) (path : Names) (object : ℕ) (file : File) (bytes : List ℕ) (none within : Bool) (c : Change) → asked ≡ Some path
      → IsFileAt tree path object file → ((byte : ℕ) → (over object byte → ⊥) → ByteStays file.bytes bytes byte)
      → cond none (Some Keep) (cond within (Some (Put path (file_node object bytes file.verifier))) None) ≡ Some c → Fits tree false None asked c
  write_at_fits tree asked path object file bytes true within c at there keeps e = keep_fits tree false None asked c e
  write_at_fits tree asked path object file bytes false within c at there keeps e = file_put tree asked path object file bytes c at there keeps (passed within _ c e).1

  write_fits : (binds : Bindings) (tree : Tree) (call : WriteArguments) (count : ℕ) (level : Option StableHow) (c : Change)
      → ((object byte : ℕ) → object_of binds call.file ≡ Some object → call.offset ≤ byte → byte < call.offset + count → over object byte)
      → write_change binds tree call count level ≡ Some c → Fits tree false None (file_path binds tree call.file) c
  write_fits binds tree call count level c sets e =
      let found = chained _ (file_of binds tree call.file) c e in
      let f = found.0 in
      let added = take count call.bytes in
      let named = names_object binds tree call.file f found.1 in
      write_at_fits tree (file_path binds tree call.file) f.path f.object f.file (written f.file.bytes call.offset added) _ _ c (ap (option_map (λ entry. entry.path)) found.1)
      (file_stands binds tree call.file f found.1)
      (λ byte spared. left_by_write f.file.bytes call.offset added byte (λ from within. spared (sets f.object byte named from (omega (arith, within, length-take count call.bytes)))))
      (passed _ (write_at f call.offset added) c found.2).1

  -- ---- a name that is made

  asked_at : (binds : Bindings) (tree : Tree) (place : DirectoryName) (directory : Names) → directory_of binds tree place.directory ≡ Some directory
      → path_of binds tree place ≡ Some (directory ++ place.name ∷ [])
  asked_at binds tree place directory e = ap (option_map (λ d. d ++ place.name ∷ [])) e

  grows : (tree : Tree) (directory : Names) (name : List ℕ) (node : Node) → IsDirectoryAt tree directory → map.get tree (directory ++ name ∷ []) ≡ None → entry_of tree node.object ≡ None
      → Grows tree (directory ++ name ∷ []) node
  grows tree directory name node inside free new = record { child = record { directory = directory; name = name; parts = refl }; inside = inside; free = free; new = new }

  new_sets : (tree : Tree) (path : Names) (node : Node) → map.get tree path ≡ None → node.object ≡ number → Sets tree path node
  new_sets tree path node free made = record { keeps = λ old stood byte spared. absurd (absent _ free (subst IsSome (sym stood) refl)); made = λ _. made }

  create_over_fits : (tree : Tree) (asked : Option Names) (mode : CreateMode) (path : Names) (object : ℕ) (file : File) (c : Change) → asked ≡ Some path → IsFileAt tree path object file
      → ((size byte : ℕ) → size_over mode ≡ Some size → size ≤ byte → over object byte) → create_over mode path object file ≡ Some c → Fits tree false None asked c
  create_over_fits tree asked (Unchecked attributes) path object file c at there sets e = set_size_fits tree asked path object file attributes.size c at there sets e
  create_over_fits tree asked (Guarded attributes) path object file c at there sets e = absurd (cc)
  create_over_fits tree asked (Exclusive verifier) path object file c at there sets e = kept_fits tree false None asked (made_by file.verifier verifier) c e

  create_present_fits : (binds : Bindings) (tree : Tree) (asked : Option Names) (mode : CreateMode) (handle : Option (List ℕ)) (path : Names) (object : ℕ) (content : Content) (c : Change) → asked ≡ Some path
      → map.get tree path ≡ Some (record { object = object; content = content }) → ((size byte : ℕ) → size_over mode ≡ Some size → size ≤ byte → over object byte)
      → create_present binds mode handle path object content ≡ Some c → Fits tree false None asked c
  create_present_fits binds tree asked mode handle path object contents.Directory c at there sets e = absurd (cc)
  create_present_fits binds tree asked mode handle path object (contents.File file) c at there sets e =
      create_over_fits tree asked mode path object file c at there sets (passed (gives_object binds handle object) (create_over mode path object file) c e).1
  create_present_fits binds tree asked mode handle path object (contents.Link _) c at there sets e = absurd (cc)

  create_at_fits : (binds : Bindings) (tree : Tree) (asked : Option Names) (mode : CreateMode) (handle : Option (List ℕ)) (directory : Names) (name : List ℕ) (o : Option Node) (c : Change)
      → asked ≡ Some (directory ++ name ∷ []) → IsDirectoryAt tree directory → map.get tree (directory ++ name ∷ []) ≡ o
      → ((node : Node) (size byte : ℕ) → o ≡ Some node → size_over mode ≡ Some size → size ≤ byte → over node.object byte)
      → create_at binds tree number mode handle (directory ++ name ∷ []) o ≡ Some c → Fits tree false None asked c
  create_at_fits binds tree asked mode handle directory name None c at inside is sets e =
      let tests = passed _ _ c e in
      let new = none_is (entry_of tree number) (both_pass _ _ (both_pass _ _ (both_pass _ _ tests.0).0).0).0 in
      put_fits tree false None asked (directory ++ name ∷ []) _ c tests.1 at (inr (grows tree directory name _ inside is new)) (new_sets tree (directory ++ name ∷ []) _ is refl)
  create_at_fits binds tree asked mode handle directory name (Some node) c at inside is sets e =
      create_present_fits binds tree asked mode handle (directory ++ name ∷ []) node.object node.content c at is (λ size byte. sets node size byte refl) e

  -- the object at a plain name in a directory
  object_named : (binds : Bindings) (tree : Tree) (place : DirectoryName) (directory : Names) (node : Node) → directory_of binds tree place.directory ≡ Some directory → is_plain place.name ≡ true
      → map.get tree (directory ++ place.name ∷ []) ≡ Some node → option_map (λ e. e.1.object) (named binds tree place) ≡ Some node.object
  object_named binds tree place directory node in_directory plain stands =
      let placed : Names → Node → Names × Node = λ d n. (d ++ place.name ∷ [], n) in
      ap (λ (o : Option Names). option_map (λ (e : Names × Node). e.1.object) (option_and_then (λ d. option_map (placed d) (entry_at tree d place.name)) o)) in_directory
      ∙ ap (λ (o : Option Node). option_map (λ (e : Names × Node). e.1.object) (option_map (placed directory) o))
      (ap (λ b. cond b (map.get tree (directory ++ place.name ∷ [])) None) plain ∙ stands)

  create_fits : (binds : Bindings) (tree : Tree) (call : CreateArguments) (handle : Option (List ℕ)) (c : Change)
      → ((object size byte : ℕ) → option_map (λ e. e.1.object) (named binds tree call.place) ≡ Some object → size_over call.mode ≡ Some size → size ≤ byte → over object byte)
      → create_change binds tree number call handle ≡ Some c → Fits tree false None (path_of binds tree call.place) c
  create_fits binds tree call handle c sets e =
      let found = chained _ (directory_of binds tree call.place.directory) c e in
      let tests = passed (is_plain call.place.name) _ c found.2 in
      create_at_fits binds tree (path_of binds tree call.place) call.mode handle found.0 call.place.name (map.get tree (found.0 ++ call.place.name ∷ [])) c
      (asked_at binds tree call.place found.0 found.1) (directory_stands binds tree call.place.directory found.0 found.1) refl
      (λ node size byte there. sets node.object size byte (object_named binds tree call.place found.0 node found.1 tests.0 there)) tests.1

  make_fits : (binds : Bindings) (tree : Tree) (place : DirectoryName) (handle : Option (List ℕ)) (content : Content) (c : Change)
      → make_entry binds tree number place handle content ≡ Some c → Fits tree false None (path_of binds tree place) c
  make_fits binds tree place handle content c e =
      let found = chained _ (directory_of binds tree place.directory) c e in
      let tests = passed _ _ c found.2 in
      let front = both_pass _ _ (both_pass _ _ (both_pass _ _ tests.0).0).0 in
      let new = none_is (entry_of tree number) front.1 in
      let free = none_is (map.get tree (found.0 ++ place.name ∷ [])) (both_pass _ _ front.0).1 in
      let node : Node = record { object = number; content = content } in
      put_fits tree false None (path_of binds tree place) (found.0 ++ place.name ∷ []) node c tests.1 (asked_at binds tree place found.0 found.1)
      (inr (grows tree found.0 place.name node (directory_stands binds tree place.directory found.0 found.1) free new)) (new_sets tree (found.0 ++ place.name ∷ []) node free refl)

  -- ---- a name that goes

  goes_fits : (binds : Bindings) (tree : Tree) (place : DirectoryName) (kind : Names × Node → Bool) (c : Change)
      → option_and_then (λ e. cond (kind e && is_bare tree e.0) (Some (Remove e.0)) None) (named binds tree place) ≡ Some c → Fits tree false (path_of binds tree place) (path_of binds tree place) c
  goes_fits binds tree place kind c e =
      let found = chained _ (named binds tree place) c e in
      let tests = passed _ _ c found.2 in
      let stands = named_stands binds tree place found.0 found.1 in
      let at = asked_at binds tree place stands.0 stands.1 ∙ ap Some (sym stands.2) in
      let shrinks : Shrinks tree found.0.0 =
      record { child = record { directory = stands.0; name = place.name; parts = stands.2 }; bare = (both_pass (kind found.0) (is_bare tree found.0.0) tests.0).1 } in
      subst (Fits tree false (path_of binds tree place) (path_of binds tree place)) (same_some (Remove found.0.0) c tests.1) (at, at, shrinks)

  rename_at_fits : (tree : Tree) (taken : Option Names) (p : Names) (content : Content) (directory : Names) (name : List ℕ) (b : Bool) (c : Change) → taken ≡ Some (directory ++ name ∷ []) → IsChild p → IsSome (map.get tree p) → IsDirectoryAt tree directory
      → cond b (Some Keep) (cond (not (is_from (directory ++ name ∷ []) p) && may_replace content (map.get tree (directory ++ name ∷ [])) && is_bare tree (directory ++ name ∷ []))
      (Some (Move p (directory ++ name ∷ []))) None) ≡ Some c → Fits tree true taken None c
  rename_at_fits tree taken p content directory name true c at source stood inside e = keep_fits tree true taken None c e
  rename_at_fits tree taken p content directory name false c at source stood inside e =
      let q = directory ++ name ∷ [] in
      let tests = passed (not (is_from q p) && may_replace content (map.get tree q) && is_bare tree q) (Some (Move p q)) c e in
      let first = both_pass (not (is_from q p) && may_replace content (map.get tree q)) (is_bare tree q) tests.0 in
      let second = both_pass (not (is_from q p)) (may_replace content (map.get tree q)) first.0 in
      let moves : Moves tree p q = record {
        source = source;
        stood = stood;
        target = record { directory = directory; name = name; parts = refl };
        inside = inside;
        outside = negated (is_from q p) second.0;
        bare = first.1;
      } in
      subst (Fits tree true taken None) (same_some (Move p q) c tests.1) (refl, at, moves)

  rename_fits : (binds : Bindings) (tree : Tree) (call : RenameArguments) (c : Change) → rename binds tree call ≡ Some c → Fits tree true (path_of binds tree call.to) None c
  rename_fits binds tree call c e =
      let source = chained _ (named binds tree call.from) c e in
      let target = chained _ (directory_of binds tree call.to.directory) c source.2 in
      let stands = named_stands binds tree call.from source.0 source.1 in
      rename_at_fits tree (path_of binds tree call.to) source.0.0 source.0.1.content target.0 call.to.name (same_path source.0.0 (target.0 ++ call.to.name ∷ [])) c
      (asked_at binds tree call.to target.0 target.1) (record { directory = stands.0; name = call.from.name; parts = stands.2 }) (subst IsSome (sym stands.3) refl)
      (directory_stands binds tree call.to.directory target.0 target.1) (passed (is_plain call.to.name) _ c target.2).1

-- ---- every call

abbrev pub Over : Bindings → Tree → NfsCall → Outcome → ℕ → ℕ → Type 0
Over binds tree call outcome object byte = WritesOver binds tree object byte call outcome

-- what its change is
abbrev pub CallFits : Bindings → Tree → ℕ → NfsCall → Outcome → Change → Type 0
CallFits binds tree number call outcome c = Fits number (Over binds tree call outcome) tree (is_rename call) (path_taken binds tree call) (path_asked binds tree call) c

module _ (binds : Bindings) (tree : Tree) (number : ℕ) (c : Change) where
  write_call_fits : (call : WriteArguments) (outcome : Outcome) (count : ℕ) (level : Option StableHow) → count_written outcome ≡ Some count
      → write_change binds tree call count level ≡ Some c → CallFits binds tree number (calls.Write call) outcome c
  write_call_fits call outcome count level counted e =
      write_fits number (Over binds tree (calls.Write call) outcome) binds tree call count level c
      (λ object byte named from within. record { same_object = named; sets = (count, counted, from, within) }) e

  set_call_fits : (call : SetAttrArguments) (outcome : Outcome) → IsSuccess outcome → set_attributes binds tree call ≡ Some c → CallFits binds tree number (calls.SetAttr call) outcome c
  set_call_fits call outcome success e =
      set_fits number (Over binds tree (calls.SetAttr call) outcome) binds tree call c
      (λ object size byte named given past. record { same_object = named; sets = (size, given, past, success) }) e

  create_call_fits : (call : CreateArguments) (outcome : Outcome) (handle : Option (List ℕ)) → IsSuccess outcome → create_change binds tree number call handle ≡ Some c
      → CallFits binds tree number (calls.Create call) outcome c
  create_call_fits call outcome handle success e =
      create_fits number (Over binds tree (calls.Create call) outcome) binds tree call handle c
      (λ object size byte named given past. record { same_object = named; sets = (size, given, past, success) }) e

  -- a call that sets no bytes
  looks_fits : (call : NfsCall) (outcome : Outcome) (right : Bool) → cond right (Some Keep) None ≡ Some c → CallFits binds tree number call outcome c
  looks_fits call outcome right e = kept_fits number (Over binds tree call outcome) tree (is_rename call) (path_taken binds tree call) (path_asked binds tree call) right c e

  none_fits : (call : NfsCall) (outcome : Outcome) → ◌≡◌ {A = Option Change} None (Some c) → CallFits binds tree number call outcome c
  none_fits call outcome e = no_change number (Over binds tree call outcome) tree (is_rename call) (path_taken binds tree call) (path_asked binds tree call) c e

  write_reply_fits : (call : WriteArguments) (reply : NfsReply) → change_written binds tree call reply ≡ Some c → CallFits binds tree number (calls.Write call) (Received reply) c
  write_reply_fits call (replies.Write (Done success)) e = write_call_fits call (Received (replies.Write (Done success))) success.count (Some success.level) refl e
  write_reply_fits call reply e = none_fits (calls.Write call) (Received reply) e

  done_fits : (call : NfsCall) (reply : NfsReply) → change_done binds tree number call reply ≡ Some c → CallFits binds tree number call (Received reply) c
  done_fits (calls.GetAttr object) reply e = looks_fits (calls.GetAttr object) (Received reply) (getattr_is_legal binds tree object reply) e
  done_fits (calls.Lookup place) reply e = looks_fits (calls.Lookup place) (Received reply) (lookup_is_legal binds tree place reply) e
  done_fits (calls.ReadLink link) reply e = looks_fits (calls.ReadLink link) (Received reply) (readlink_is_legal binds tree link reply) e
  done_fits (calls.Read call) reply e = looks_fits (calls.Read call) (Received reply) (read_is_legal binds tree call reply) e
  done_fits (calls.ReadDir call) reply e = looks_fits (calls.ReadDir call) (Received reply) (readdir_is_legal binds tree call reply) e
  done_fits (calls.ReadDirPlus call) reply e = looks_fits (calls.ReadDirPlus call) (Received reply) (readdirplus_is_legal binds tree call reply) e
  done_fits (calls.Commit call) reply e = looks_fits (calls.Commit call) (Received reply) (commit_is_legal binds tree call.file reply) e
  done_fits (calls.Write call) reply e = write_reply_fits call reply e
  done_fits (calls.Create call) (replies.Create (Done success)) e = create_call_fits call (Received (replies.Create (Done success))) success.object refl e
  done_fits (calls.SetAttr call) (replies.SetAttr (Done wcc)) e = set_call_fits call (Received (replies.SetAttr (Done wcc))) refl e
  done_fits (calls.MkDir call) (replies.MkDir (Done success)) e =
      make_fits number (Over binds tree (calls.MkDir call) (Received (replies.MkDir (Done success)))) binds tree call.place success.object contents.Directory c e
  done_fits (calls.SymLink call) (replies.SymLink (Done success)) e =
      make_fits number (Over binds tree (calls.SymLink call) (Received (replies.SymLink (Done success)))) binds tree call.place success.object (contents.Link call.target) c e
  done_fits (calls.Remove place) (replies.Remove (Done wcc)) e =
      goes_fits number (Over binds tree (calls.Remove place) (Received (replies.Remove (Done wcc)))) binds tree place (λ x. not (is_directory x.1.content)) c e
  done_fits (calls.RmDir place) (replies.RmDir (Done wcc)) e =
      goes_fits number (Over binds tree (calls.RmDir place) (Received (replies.RmDir (Done wcc)))) binds tree place (λ x. is_directory x.1.content) c e
  done_fits (calls.Rename call) (replies.Rename (Done wcc)) e = rename_fits number (Over binds tree (calls.Rename call) (Received (replies.Rename (Done wcc)))) binds tree call c e
  done_fits call reply e = none_fits call (Received reply) e

  answered_fits : (call : NfsCall) (reply : NfsReply) (o : Option Failure) → change_answered binds tree number call reply o ≡ Some c → CallFits binds tree number call (Received reply) c
  answered_fits call reply None e = done_fits call reply e
  answered_fits call reply (Some failure) e = looks_fits call (Received reply) (is_answered call reply && is_permitted binds tree call failure) e

  taken_fits : (call : NfsCall) (count : Option ℕ) → change_taken binds tree number call count ≡ Some c → CallFits binds tree number call (Taken count) c
  taken_fits (calls.Write call) (Some count) e = write_call_fits call (Taken (Some count)) count None refl e
  taken_fits (calls.Create call) None e = create_call_fits call (Taken None) None tt e
  taken_fits (calls.SetAttr call) None e = set_call_fits call (Taken None) tt e
  taken_fits (calls.MkDir call) None e = make_fits number (Over binds tree (calls.MkDir call) (Taken None)) binds tree call.place None contents.Directory c e
  taken_fits (calls.SymLink call) None e = make_fits number (Over binds tree (calls.SymLink call) (Taken None)) binds tree call.place None (contents.Link call.target) c e
  taken_fits (calls.Remove place) None e = goes_fits number (Over binds tree (calls.Remove place) (Taken None)) binds tree place (λ x. not (is_directory x.1.content)) c e
  taken_fits (calls.RmDir place) None e = goes_fits number (Over binds tree (calls.RmDir place) (Taken None)) binds tree place (λ x. is_directory x.1.content) c e
  taken_fits (calls.Rename call) None e = rename_fits number (Over binds tree (calls.Rename call) (Taken None)) binds tree call c e
  taken_fits call count e = none_fits call (Taken count) e

pub change_fits : (binds : Bindings) (tree : Tree) (number : ℕ) (call : NfsCall) (outcome : Outcome) (c : Change) → change_of binds tree number call outcome ≡ Some c
    → CallFits binds tree number call outcome c
change_fits binds tree number call (Received reply) c e = answered_fits binds tree number c call reply (failure_in reply) e
change_fits binds tree number call (Taken count) c e = taken_fits binds tree number c call count e
