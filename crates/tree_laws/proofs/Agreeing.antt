-- a call sees handles by what stands alone
use Rattle.std.proofs.Common.{◌≡◌, ℕ, ◌⊎◌, inl, inr, Bool, true, false, List, [], ◌∷◌, ◌++◌, length, Option, Some, None, refl, sym, ap, ◌∙◌, subst, eq-eqb}
use Rattle.std.proofs.lemmas.Bool.{eqb-true}
use Rattle.std.specs.Prelude.{IsSome, ◌==◌, ◌&&◌, ◌||◌, not, nat_lt, nat_le, is_some, is_none, if◌then◌else◌, take, option_and_then, option_map, replicate}
use Rattle.std.specs.Option.{option_map_or}
use Rattle.std.specs.List.{list_any, list_all}
use Rattle.std.specs.FinMap as map
use Rattle.nfs3_types.specs.declared.calls.NfsCall.{NfsCall}
use Rattle.nfs3_types.specs.declared.calls.NfsCall.TheVariants as calls
use Rattle.nfs3_types.specs.declared.calls.CreateMode.{CreateMode}
use Rattle.nfs3_types.specs.declared.calls.CreateArguments.{CreateArguments}
use Rattle.nfs3_types.specs.declared.calls.DirectoryName.{DirectoryName}
use Rattle.nfs3_types.specs.declared.calls.RenameArguments.{RenameArguments}
use Rattle.nfs3_types.specs.declared.calls.ReadArguments.{ReadArguments}
use Rattle.nfs3_types.specs.declared.calls.ReadDirArguments.{ReadDirArguments}
use Rattle.nfs3_types.specs.declared.calls.ReadDirPlusArguments.{ReadDirPlusArguments}
use Rattle.nfs3_types.specs.declared.calls.SetAttrArguments.{SetAttrArguments}
use Rattle.nfs3_types.specs.declared.calls.WriteArguments.{WriteArguments}
use Rattle.nfs3_types.specs.declared.calls.StableHow.{StableHow}
use Rattle.nfs3_types.specs.declared.replies.Answer.TheVariants.{Done}
use Rattle.nfs3_types.specs.declared.replies.NfsReply.{NfsReply}
use Rattle.nfs3_types.specs.declared.replies.NfsReply.TheVariants as replies
use Rattle.nfs3_types.specs.declared.replies.DirectoryEntryPlus.{DirectoryEntryPlus}
use Rattle.nfs3_types.specs.declared.replies.Outcome.{Outcome}
use Rattle.nfs3_types.specs.declared.replies.Outcome.TheVariants.{Received, Taken}
use Rattle.nfs3_types.specs.declared.status.Failure.{Failure}
use Rattle.nfs3_types.specs.Procedures.{is_answered, failure_in}
use Rattle.tree_nodes.specs.declared.node.Node.{Node}
use Rattle.tree_nodes.specs.declared.node.Content.{Content}
use Rattle.tree_nodes.specs.declared.node.Content.TheVariants as contents
use Rattle.tree_nodes.specs.Tree.{Names, Tree, entry_of, parent, is_below, same_path, is_bare}
use Rattle.tree_nodes.specs.Files.{node_limit, file_node}
use Rattle.nfs3_types.specs.Limits.{file_limit}
use Rattle.tree_nodes.proofs.Chains.{chained}
use Rattle.tree_nodes.proofs.Found.{some_found}
use Rattle.tree_handles.specs.Binding.{Bindings, object_of, is_bound, gives_object}
use Rattle.tree_handles.specs.Live.{FileEntry, live_entry, as_directory, directory_of, as_file, file_of}
use Rattle.tree_starts.specs.Names.{is_dot, is_two_dots, is_plain}
use Rattle.tree_handles.specs.Entry.{entry_at, named}
use Rattle.tree_handles.specs.Kind.{is_directory, is_link}
use Rattle.tree_answers.specs.Look as look
use Rattle.tree_answers.specs.Listing as listing
use Rattle.tree_answers.specs.Asked as asked
use Rattle.tree_answers.specs.Causes as when
use Rattle.tree_answers.specs.RenameCauses as when_renamed
use Rattle.tree_answers.specs.Failure.{row, causes, is_caused_by, is_judged_status, is_permitted, same_status}
use Rattle.tree_answers.specs.declared.failure.Cause.{Cause}
use Rattle.tree_answers.specs.declared.failure.Cause.TheVariants as cause
use Rattle.file_tree.specs.Change.{Change}
use Rattle.file_tree.specs.Change.Change.{Keep, Put, Remove}
use Rattle.file_tree.specs.Made as made
use Rattle.file_tree.specs.Written as written
use Rattle.file_tree.specs.Removed as removed
use Rattle.file_tree.specs.Success.{changed, change_done, change_taken, change_of, change_answered}
use Rattle.tree_laws.specs.Agreeing.{AgreeOn, OthersDontMatter}

-- ---- functions that agree where they are asked

same_on : {X : Type 0} (f g : X → Bool) (o : Option X) (b : Bool) → ((x : X) → o ≡ Some x → f x ≡ g x) → option_map_or f o b ≡ option_map_or g o b
same_on f g None b same = refl
same_on f g (Some x) b same = same x refl

pub then_on : {X Y : Type 0} (f g : X → Option Y) (o : Option X) → ((x : X) → o ≡ Some x → f x ≡ g x) → option_and_then f o ≡ option_and_then g o
then_on f g None same = refl
then_on f g (Some x) same = same x refl

any_on : {X : Type 0} (f g : X → Bool) (xs : List X) → ((x : X) → f x ≡ g x) → list_any f xs ≡ list_any g xs
any_on f g [] same = refl
any_on f g (x ∷ xs) same = ap (λ b. b || list_any f xs) (same x) ∙ ap (λ b. g x || b) (any_on f g xs same)

all_on : {X : Type 0} (f g : X → Bool) (xs : List X) → ((x : X) → f x ≡ g x) → list_all f xs ≡ list_all g xs
all_on f g [] same = refl
all_on f g (x ∷ xs) same = ap (λ b. b && list_all f xs) (same x) ∙ ap (λ b. g x && b) (all_on f g xs same)

-- what is named so is this object
named_is : (o : Option ℕ) (object : ℕ) → option_map_or (λ n. n == object) o false ≡ true → o ≡ Some object
named_is None object e = absurd (cc)
named_is (Some n) object e = ap Some (eqb-true n object e)

some_of : {X : Type 0} {o : Option X} {x : X} → o ≡ Some x → IsSome o
some_of {X} {o} {x} e = subst IsSome (sym e) refl

-- ---- two bindings that agree

across : (binds other : Bindings) (tree : Tree) (number : ℕ) → AgreeOn binds other tree number
    → (handle : List ℕ) (e : Names × Node) → live_entry binds tree handle ≡ Some e → live_entry other tree handle ≡ Some e
across binds other tree number agree handle e live =
    let found = chained (entry_of tree) (object_of binds handle) e live in
    let bound : is_bound other handle found.0 ≡ true =
    sym (agree handle found.0 (inl (some_of found.2))) ∙ ap (λ (o : Option ℕ). option_map_or (λ n. n == found.0) o false) found.1 ∙ eq-eqb found.0 found.0 refl in
    ap (option_and_then (entry_of tree)) (named_is (object_of other handle) found.0 bound) ∙ found.2

module _ (binds other : Bindings) (tree : Tree) (number : ℕ) (agree : AgreeOn binds other tree number) where
  back : AgreeOn other binds tree number
  back handle object known = sym (agree handle object known)

  pub live : (handle : List ℕ) → live_entry binds tree handle ≡ live_entry other tree handle
  live handle = go (live_entry binds tree handle) (live_entry other tree handle) refl refl where
    go : (a b : Option (Names × Node)) → live_entry binds tree handle ≡ a → live_entry other tree handle ≡ b → live_entry binds tree handle ≡ live_entry other tree handle
    go (Some e) b is_a is_b = is_a ∙ sym (across binds other tree number agree handle e is_a)
    go None (Some e) is_a is_b = across other binds tree number back handle e is_b ∙ sym is_b
    go None None is_a is_b = is_a ∙ sym is_b

  directory : (handle : List ℕ) → directory_of binds tree handle ≡ directory_of other tree handle
  directory handle = ap (option_and_then (λ e. as_directory e.0 e.1.content)) (live handle)

  file : (handle : List ℕ) → file_of binds tree handle ≡ file_of other tree handle
  file handle = ap (option_and_then (λ e. as_file e.0 e.1.object e.1.content)) (live handle)

  content : (handle : List ℕ) → when.content_of binds tree handle ≡ when.content_of other tree handle
  content handle = ap (option_map (λ (e : Names × Node). e.1.content)) (live handle)

  entry : (place : DirectoryName) → named binds tree place ≡ named other tree place
  entry place = ap (option_and_then (λ directory. option_map (λ (node : Node). (directory ++ place.name ∷ [], node)) (entry_at tree directory place.name))) (directory place.directory)

  -- a node that stands
  held : (path : Names) (node : Node) → map.get tree path ≡ Some node → IsSome (entry_of tree node.object)
  held path node there = some_found tree (λ e. e.1.object == node.object) path node there (eq-eqb node.object node.object refl)

  held_at : (path : Names) (object : ℕ) → look.object_at (map.get tree path) ≡ Some object → IsSome (entry_of tree object)
  held_at path object e = go (map.get tree path) refl e where
    go : (o : Option Node) → map.get tree path ≡ o → look.object_at o ≡ Some object → IsSome (entry_of tree object)
    go None is e = absurd (cc)
    go (Some node) is e = subst (λ (n : ℕ). IsSome (entry_of tree n)) (as_some node.object object e) (held path node is) where
      as_some : (a b : ℕ) → Some a ≡ Some b → a ≡ b
      as_some a b e = cc

  entry_held : (path : Names) (name : List ℕ) (node : Node) → entry_at tree path name ≡ Some node → IsSome (entry_of tree node.object)
  entry_held path name node e = go (is_plain name) e where
    go : (b : Bool) → (if b then map.get tree (path ++ name ∷ []) else None) ≡ Some node → IsSome (entry_of tree node.object)
    go true e = held (path ++ name ∷ []) node e
    go false e = absurd (cc)

  named_held : (path : Names) (name : List ℕ) (object : ℕ) → look.object_named tree path name ≡ Some object → IsSome (entry_of tree object)
  named_held path name object e = go (is_dot name) (is_two_dots name) e where
    at_entry : (o : Option Node) → entry_at tree path name ≡ o → look.object_at o ≡ Some object → IsSome (entry_of tree object)
    at_entry None is e = absurd (cc)
    at_entry (Some node) is e = subst (λ (n : ℕ). IsSome (entry_of tree n)) (as_some node.object object e) (entry_held path name node is) where
      as_some : (a b : ℕ) → Some a ≡ Some b → a ≡ b
      as_some a b e = cc

    go : (dot dots : Bool) → (if dot then look.object_at (map.get tree path) else if dots then look.object_at (map.get tree (parent path)) else look.object_at (entry_at tree path name)) ≡ Some object
        → IsSome (entry_of tree object)
    go true dots e = held_at path object e
    go false true e = held_at (parent path) object e
    go false false e = at_entry (entry_at tree path name) refl e

  gives : (handle : Option (List ℕ)) (object : ℕ) → IsSome (entry_of tree object) ⊎ (object ≡ number) → gives_object binds handle object ≡ gives_object other handle object
  gives None object known = refl
  gives (Some handle) object known = agree handle object known

  -- ---- calls that only look
  getattr_is_legal : (object : List ℕ) (reply : NfsReply) → look.getattr_is_legal binds tree object reply ≡ look.getattr_is_legal other tree object reply
  getattr_is_legal object (replies.GetAttr (Done attributes)) = ap (λ o. option_map_or (λ (e : Names × Node). look.shows e.1.content attributes) o false) (live object)
  getattr_is_legal object _ = refl

  lookup_is_legal : (place : DirectoryName) (reply : NfsReply) → look.lookup_is_legal binds tree place reply ≡ look.lookup_is_legal other tree place reply
  lookup_is_legal place (replies.Lookup (Done success)) =
      ap (λ o. option_map_or (look.is_object_named binds tree place success.object) o false) (directory place.directory)
      ∙ same_on (look.is_object_named binds tree place success.object) (look.is_object_named other tree place success.object) (directory_of other tree place.directory) false (λ path is.
      same_on (is_bound binds success.object) (is_bound other success.object) (look.object_named tree path place.name) false (λ object named. agree success.object object (inl (named_held path place.name object named))))
  lookup_is_legal place _ = refl

  readlink_is_legal : (link : List ℕ) (reply : NfsReply) → look.readlink_is_legal binds tree link reply ≡ look.readlink_is_legal other tree link reply
  readlink_is_legal link (replies.ReadLink (Done success)) = ap (λ o. option_map_or (λ (e : Names × Node). look.has_text e.1.content success.target) o false) (live link)
  readlink_is_legal link _ = refl

  read_is_legal : (call : ReadArguments) (reply : NfsReply) → look.read_is_legal binds tree call reply ≡ look.read_is_legal other tree call reply
  read_is_legal call (replies.Read (Done success)) = ap (λ o. option_map_or (λ (entry : FileEntry). look.read_is_right entry.file.bytes call success) o false) (file call.file)
  read_is_legal call _ = refl

  commit_is_legal : (handle : List ℕ) (reply : NfsReply) → look.commit_is_legal binds tree handle reply ≡ look.commit_is_legal other tree handle reply
  commit_is_legal handle (replies.Commit (Done success)) = ap is_some (file handle)
  commit_is_legal handle _ = refl

  readdir_is_legal : (call : ReadDirArguments) (reply : NfsReply) → listing.readdir_is_legal binds tree call reply ≡ listing.readdir_is_legal other tree call reply
  readdir_is_legal call (replies.ReadDir (Done success)) = ap (λ o. option_map_or (λ path. listing.is_listing tree path call.cookie success.eof (listing.listed_names success)) o false) (directory call.directory)
  readdir_is_legal call _ = refl

  has_its_handle : (path : Names) (entry : DirectoryEntryPlus) → listing.has_its_handle binds tree path entry ≡ listing.has_its_handle other tree path entry
  has_its_handle path entry =
      same_on (λ (node : Node). gives_object binds entry.object node.object) (λ (node : Node). gives_object other entry.object node.object) (entry_at tree path entry.name) true
      (λ node is. gives entry.object node.object (inl (entry_held path entry.name node is)))

  readdirplus_is_legal : (call : ReadDirPlusArguments) (reply : NfsReply) → listing.readdirplus_is_legal binds tree call reply ≡ listing.readdirplus_is_legal other tree call reply
  readdirplus_is_legal call (replies.ReadDirPlus (Done success)) =
      let lists : Names → Bool = λ path. listing.is_listing tree path call.cookie success.eof (listing.listed_names_plus success) in
      ap (λ o. option_map_or (λ path. lists path && list_all (listing.has_its_handle binds tree path) success.entries) o false) (directory call.directory)
      ∙ same_on (λ path. lists path && list_all (listing.has_its_handle binds tree path) success.entries) (λ path. lists path && list_all (listing.has_its_handle other tree path) success.entries)
      (directory_of other tree call.directory) false
      (λ path is. ap (λ b. lists path && b) (all_on (listing.has_its_handle binds tree path) (listing.has_its_handle other tree path) success.entries (has_its_handle path)))
  readdirplus_is_legal call _ = refl

  -- ---- calls that change the tree
  absent : (mode : CreateMode) (handle : Option (List ℕ)) (path : Names) → made.create_absent binds tree number mode handle path ≡ made.create_absent other tree number mode handle path
  absent mode handle path =
      ap (λ b. made.only_if (is_none (entry_of tree number) && nat_lt (map.len tree) node_limit && nat_le (made.first_size mode) file_limit && b)
      (Put path (file_node number (replicate (made.first_size mode) 0) (made.first_verifier mode)))) (gives handle number (inr refl))

  present : (mode : CreateMode) (handle : Option (List ℕ)) (path : Names) (object : ℕ) (content : Content) → IsSome (entry_of tree object)
      → made.create_present binds mode handle path object content ≡ made.create_present other mode handle path object content
  present mode handle path object contents.Directory stands = refl
  present mode handle path object (contents.File f) stands = ap (λ b. if b then made.create_over mode path object f else None) (gives handle object (inl stands))
  present mode handle path object (contents.Link _) stands = refl

  created_at : (mode : CreateMode) (handle : Option (List ℕ)) (path : Names) (node : Option Node) → map.get tree path ≡ node
      → made.create_at binds tree number mode handle path node ≡ made.create_at other tree number mode handle path node
  created_at mode handle path None is = absent mode handle path
  created_at mode handle path (Some node) is = present mode handle path node.object node.content (held path node is)

  created : (call : CreateArguments) (handle : Option (List ℕ)) → made.create_change binds tree number call handle ≡ made.create_change other tree number call handle
  created call handle =
      let at : Bindings → Names → Option Change = λ b path. (let place = path ++ call.place.name ∷ [] in if is_plain call.place.name then made.create_at b tree number call.mode handle place (map.get tree place) else None) in
      ap (option_and_then (at binds)) (directory call.place.directory)
      ∙ then_on (at binds) (at other) (directory_of other tree call.place.directory) (λ path is.
      ap (λ c. if is_plain call.place.name then c else None) (created_at call.mode handle (path ++ call.place.name ∷ []) (map.get tree (path ++ call.place.name ∷ [])) refl))

  entry_made : (place : DirectoryName) (handle : Option (List ℕ)) (content : Content) → made.make_entry binds tree number place handle content ≡ made.make_entry other tree number place handle content
  entry_made place handle content =
      let at : Bool → Names → Option Change = λ b path. made.only_if (is_plain place.name && is_none (map.get tree (path ++ place.name ∷ [])) && is_none (entry_of tree number)
      && nat_lt (map.len tree) node_limit && b) (Put (path ++ place.name ∷ []) (record { object = number; content = content })) in
      ap (option_and_then (at (gives_object binds handle number))) (directory place.directory)
      ∙ ap (λ b. option_and_then (at b) (directory_of other tree place.directory)) (gives handle number (inr refl))

  set : (call : SetAttrArguments) → written.set_attributes binds tree call ≡ written.set_attributes other tree call
  set call =
      ap (λ o. if is_some call.attributes.size then option_and_then (λ (entry : FileEntry). made.set_size entry.path entry.object entry.file call.attributes.size) o
      else made.only_if (is_some (live_entry binds tree call.object)) Keep) (file call.object)
      ∙ ap (λ o. if is_some call.attributes.size then option_and_then (λ (entry : FileEntry). made.set_size entry.path entry.object entry.file call.attributes.size) (file_of other tree call.object)
      else made.only_if (is_some o) Keep) (live call.object)

  wrote : (call : WriteArguments) (count : ℕ) (level : Option StableHow) → written.write_change binds tree call count level ≡ written.write_change other tree call count level
  wrote call count level =
      ap (option_and_then (λ (entry : FileEntry). if nat_le count call.count && nat_le count (length call.bytes) && written.reaches call.level level
      then written.write_at entry call.offset (take count call.bytes) else None)) (file call.file)

  removes : (place : DirectoryName) → removed.remove_entry binds tree place ≡ removed.remove_entry other tree place
  removes place = ap (option_and_then (λ (e : Names × Node). made.only_if (not (is_directory e.1.content) && is_bare tree e.0) (Remove e.0))) (entry place)

  removes_directory : (place : DirectoryName) → removed.remove_directory binds tree place ≡ removed.remove_directory other tree place
  removes_directory place = ap (option_and_then (λ (e : Names × Node). made.only_if (is_directory e.1.content && is_bare tree e.0) (Remove e.0))) (entry place)

  renames : (call : RenameArguments) → removed.rename binds tree call ≡ removed.rename other tree call
  renames call =
      let to : Names × Node → Names → Option Change = λ source path. (if is_plain call.to.name then removed.rename_at tree source.0 source.1.content (path ++ call.to.name ∷ []) else None) in
      ap (option_and_then (λ source. option_and_then (to source) (directory_of binds tree call.to.directory))) (entry call.from)
      ∙ ap (λ o. option_and_then (λ source. option_and_then (to source) o) (named other tree call.from)) (directory call.to.directory)

  -- ---- causes of failures
  isnt_live : (handle : List ℕ) → when.isnt_live binds tree handle ≡ when.isnt_live other tree handle
  isnt_live handle = ap is_none (live handle)

  no_directory : (handle : List ℕ) → when.is_of_no_directory binds tree handle ≡ when.is_of_no_directory other tree handle
  no_directory handle = ap (λ o. option_map_or (λ c. not (is_directory c)) o false) (content handle)

  read_no_link : (call : NfsCall) → when.readlink_of_no_link binds tree call ≡ when.readlink_of_no_link other tree call
  read_no_link (calls.ReadLink link) = ap (λ o. option_map_or (λ c. not (is_link c)) o false) (content link)
  read_no_link _ = refl

  is_present : (call : NfsCall) → when.name_is_present binds tree call ≡ when.name_is_present other tree call
  is_present (calls.Create call) = ap (λ o. option_map_or (λ (e : Names × Node). when.stops call.mode e.1.content) o false) (entry call.place)
  is_present (calls.MkDir call) = ap is_some (entry call.place)
  is_present (calls.SymLink call) = ap is_some (entry call.place)
  is_present _ = refl

  over_directory : (call : NfsCall) → when.create_over_directory binds tree call ≡ when.create_over_directory other tree call
  over_directory (calls.Create call) = ap (λ o. option_map_or (λ (e : Names × Node). when.is_unchecked call.mode && is_directory e.1.content) o false) (entry call.place)
  over_directory _ = refl

  remove_directory : (call : NfsCall) → when.remove_of_directory binds tree call ≡ when.remove_of_directory other tree call
  remove_directory (calls.Remove place) = ap (λ o. option_map_or (λ (e : Names × Node). is_directory e.1.content) o false) (entry place)
  remove_directory _ = refl

  rmdir_no_directory : (call : NfsCall) → when.rmdir_of_no_directory binds tree call ≡ when.rmdir_of_no_directory other tree call
  rmdir_no_directory (calls.RmDir place) = ap (λ o. option_map_or (λ (e : Names × Node). not (is_directory e.1.content)) o false) (entry place)
  rmdir_no_directory _ = refl

  rmdir_filled : (call : NfsCall) → when.rmdir_of_filled_directory binds tree call ≡ when.rmdir_of_filled_directory other tree call
  rmdir_filled (calls.RmDir place) = ap (λ o. option_map_or (when.is_filled_directory tree) o false) (entry place)
  rmdir_filled _ = refl

  is_absent : (place : DirectoryName) → when.is_absent binds tree place ≡ when.is_absent other tree place
  is_absent place =
      ap (λ o. is_some o && is_none (named binds tree place)) (directory place.directory) ∙ ap (λ o. is_some (directory_of other tree place.directory) && is_none o) (entry place)

  source : (call : NfsCall) → when_renamed.source_of binds tree call ≡ when_renamed.source_of other tree call
  source (calls.Rename call) = entry call.from
  source _ = refl

  target : (call : NfsCall) → when_renamed.target_of binds tree call ≡ when_renamed.target_of other tree call
  target (calls.Rename call) = entry call.to
  target _ = refl

  target_path : (call : NfsCall) → when_renamed.target_path binds tree call ≡ when_renamed.target_path other tree call
  target_path call = then_on _ _ (asked.second_place call) (λ place is. ap (option_map (λ (path : Names). path ++ place.name ∷ [])) (directory place.directory))

  holds : (call : NfsCall) (why : Cause) → (row why).holds binds tree call ≡ (row why).holds other tree call
  holds call cause.HandleIsntLive =
      ap (λ b. b || option_map_or (when.isnt_live binds tree) (asked.second_handle call) false) (isnt_live (asked.first_handle call))
      ∙ ap (λ b. when.isnt_live other tree (asked.first_handle call) || b) (same_on (when.isnt_live binds tree) (when.isnt_live other tree) (asked.second_handle call) false (λ h is. isnt_live h))
  holds call cause.HandleOfNoDirectory =
      ap (λ b. (asked.wants_directory call && b) || option_map_or (when.is_of_no_directory binds tree) (asked.second_handle call) false) (no_directory (asked.first_handle call))
      ∙ ap (λ b. (asked.wants_directory call && when.is_of_no_directory other tree (asked.first_handle call)) || b)
      (same_on (when.is_of_no_directory binds tree) (when.is_of_no_directory other tree) (asked.second_handle call) false (λ h is. no_directory h))
  holds call cause.ReadLinkOfNoLink = read_no_link call
  holds call cause.FileIsDirectory =
      same_on (when.is_of_directory binds tree) (when.is_of_directory other tree) (asked.file_wanted call) false (λ h is. ap (λ o. option_map_or is_directory o false) (content h))
  holds call cause.FileIsLink = same_on (when.is_of_link binds tree) (when.is_of_link other tree) (asked.file_wanted call) false (λ h is. ap (λ o. option_map_or is_link o false) (content h))
  holds call cause.NameIsAbsent = same_on (when.is_absent binds tree) (when.is_absent other tree) (asked.entry_wanted call) false (λ place is. is_absent place)
  holds call cause.NameIsPresent = is_present call
  holds call cause.CreateOverDirectory = over_directory call
  holds call cause.RemoveOfDirectory = remove_directory call
  holds call cause.RmDirOfNoDirectory = rmdir_no_directory call
  holds call cause.RmDirOfFilledDirectory = rmdir_filled call
  holds call cause.RenameOntoNoDirectory =
      ap (λ o. option_map_or (λ (s : Names × Node). is_directory s.1.content) o false && option_map_or (λ (t : Names × Node). not (is_directory t.1.content)) (when_renamed.target_of binds tree call) false) (source call)
      ∙ ap (λ o. option_map_or (λ (s : Names × Node). is_directory s.1.content) (when_renamed.source_of other tree call) false && option_map_or (λ (t : Names × Node). not (is_directory t.1.content)) o false) (target call)
  holds call cause.RenameOntoDirectory =
      ap (λ o. option_map_or (λ (s : Names × Node). not (is_directory s.1.content)) o false && option_map_or (λ (t : Names × Node). is_directory t.1.content) (when_renamed.target_of binds tree call) false) (source call)
      ∙ ap (λ o. option_map_or (λ (s : Names × Node). not (is_directory s.1.content)) (when_renamed.source_of other tree call) false && option_map_or (λ (t : Names × Node). is_directory t.1.content) o false) (target call)
  holds call cause.RenameOntoFilledDirectory =
      ap (λ o. option_map_or (λ (s : Names × Node). option_map_or (λ (t : Names × Node). not (same_path s.0 t.0) && when.is_filled_directory tree t) (when_renamed.target_of binds tree call) false) o false) (source call)
      ∙ ap (λ o. option_map_or (λ (s : Names × Node). option_map_or (λ (t : Names × Node). not (same_path s.0 t.0) && when.is_filled_directory tree t) o false) (when_renamed.source_of other tree call) false) (target call)
  holds call cause.RenameBelowItself =
      ap (λ o. option_map_or (λ (s : Names × Node). is_directory s.1.content && option_map_or (λ q. is_below q s.0) (when_renamed.target_path binds tree call) false) o false) (source call)
      ∙ ap (λ o. option_map_or (λ (s : Names × Node). is_directory s.1.content && option_map_or (λ q. is_below q s.0) o false) (when_renamed.source_of other tree call) false) (target_path call)
  holds call cause.NameIsntPlain = refl
  holds call cause.NameHasOddByte = refl
  holds call cause.SetAttrWithGuard = refl
  holds call cause.ListingWithCookie = refl
  holds call cause.AnyListing = refl

  permitted : (call : NfsCall) (failure : Failure) → is_permitted binds tree call failure ≡ is_permitted other tree call failure
  permitted call failure =
      ap (λ b. not (is_judged_status failure) || b) (any_on (is_caused_by binds tree call failure) (is_caused_by other tree call failure) causes
      (λ why. ap (λ b. list_any (same_status failure) (row why).statuses && b) (holds call why)))

  -- ---- all calls
  done : (call : NfsCall) (reply : NfsReply) → change_done binds tree number call reply ≡ change_done other tree number call reply
  done (calls.GetAttr object) reply = ap (λ b. made.only_if b Keep) (getattr_is_legal object reply)
  done (calls.Lookup place) reply = ap (λ b. made.only_if b Keep) (lookup_is_legal place reply)
  done (calls.ReadLink link) reply = ap (λ b. made.only_if b Keep) (readlink_is_legal link reply)
  done (calls.Read call) reply = ap (λ b. made.only_if b Keep) (read_is_legal call reply)
  done (calls.ReadDir call) reply = ap (λ b. made.only_if b Keep) (readdir_is_legal call reply)
  done (calls.ReadDirPlus call) reply = ap (λ b. made.only_if b Keep) (readdirplus_is_legal call reply)
  done (calls.Commit call) reply = ap (λ b. made.only_if b Keep) (commit_is_legal call.file reply)
  done (calls.Write call) (replies.Write (Done success)) = wrote call success.count (Some success.level)
  done (calls.Write call) _ = refl
  done (calls.Create call) (replies.Create (Done success)) = created call success.object
  done (calls.Create call) _ = refl
  done (calls.SetAttr call) (replies.SetAttr (Done _)) = set call
  done (calls.SetAttr call) _ = refl
  done (calls.MkDir call) (replies.MkDir (Done success)) = entry_made call.place success.object contents.Directory
  done (calls.MkDir call) _ = refl
  done (calls.SymLink call) (replies.SymLink (Done success)) = entry_made call.place success.object (contents.Link call.target)
  done (calls.SymLink call) _ = refl
  done (calls.Remove place) (replies.Remove (Done _)) = removes place
  done (calls.Remove place) _ = refl
  done (calls.RmDir place) (replies.RmDir (Done _)) = removes_directory place
  done (calls.RmDir place) _ = refl
  done (calls.Rename call) (replies.Rename (Done _)) = renames call
  done (calls.Rename call) _ = refl

  answered : (call : NfsCall) (reply : NfsReply) (failure : Option Failure) → change_answered binds tree number call reply failure ≡ change_answered other tree number call reply failure
  answered call reply None = done call reply
  answered call reply (Some failure) = ap (λ b. made.only_if (is_answered call reply && b) Keep) (permitted call failure)

  taken : (call : NfsCall) (count : Option ℕ) → change_taken binds tree number call count ≡ change_taken other tree number call count
  taken (calls.Write call) (Some count) = wrote call count None
  taken (calls.Create call) None = created call None
  taken (calls.SetAttr call) None = set call
  taken (calls.MkDir call) None = entry_made call.place None contents.Directory
  taken (calls.SymLink call) None = entry_made call.place None (contents.Link call.target)
  taken (calls.Remove place) None = removes place
  taken (calls.RmDir place) None = removes_directory place
  taken (calls.Rename call) None = renames call
  taken _ _ = refl

  same_change : (call : NfsCall) (outcome : Outcome) → change_of binds tree number call outcome ≡ change_of other tree number call outcome
  same_change call (Received reply) = answered call reply (failure_in reply)
  same_change call (Taken count) = taken call count

pub others_dont_matter : OthersDontMatter
others_dont_matter binds other tree number call outcome agree = ap (option_map (changed tree)) (same_change binds other tree number agree call outcome)
