-- a handle more, of an object that isn't there, is heeded by no call but one that makes the object
use Rattle.std.proofs.Common.{◌≡◌, ℕ, ◌⊎◌, inl, inr, Bool, true, false, cond, List, [], ◌∷◌, ◌++◌, length, take, Option, Some, None, refl, sym, ap, ◌∙◌, subst, replicate}
use Rattle.std.specs.Prelude.{◌==◌, not, ◌&&◌, ◌||◌, nat_le, nat_lt, is_some, is_none, IsSome, option_and_then, option_map}
use Rattle.std.specs.Option.{option_map_or}
use Rattle.std.specs.List.{list_any, list_all}
use Rattle.std.specs.Map.{lookup}
use Rattle.std.proofs.lemmas.Bool.{eqb-true, eq-eqb}
use Rattle.std.specs.FinMap as map
use Rattle.nfs3_types.specs.declared.calls.CreateMode.{CreateMode}
use Rattle.nfs3_types.specs.declared.calls.CreateArguments.{CreateArguments}
use Rattle.nfs3_types.specs.declared.calls.DirectoryName.{DirectoryName}
use Rattle.nfs3_types.specs.declared.calls.MkDirArguments.{MkDirArguments}
use Rattle.nfs3_types.specs.declared.calls.NfsCall.{NfsCall}
use Rattle.nfs3_types.specs.declared.calls.NfsCall.TheVariants as calls
use Rattle.nfs3_types.specs.declared.calls.ReadArguments.{ReadArguments}
use Rattle.nfs3_types.specs.declared.calls.ReadDirArguments.{ReadDirArguments}
use Rattle.nfs3_types.specs.declared.calls.ReadDirPlusArguments.{ReadDirPlusArguments}
use Rattle.nfs3_types.specs.declared.calls.RenameArguments.{RenameArguments}
use Rattle.nfs3_types.specs.declared.calls.SetAttrArguments.{SetAttrArguments}
use Rattle.nfs3_types.specs.declared.calls.StableHow.{StableHow}
use Rattle.nfs3_types.specs.declared.calls.SymLinkArguments.{SymLinkArguments}
use Rattle.nfs3_types.specs.declared.calls.WriteArguments.{WriteArguments}
use Rattle.nfs3_types.specs.declared.replies.Answer.TheVariants.{Done}
use Rattle.nfs3_types.specs.declared.replies.DirectoryEntryPlus.{DirectoryEntryPlus}
use Rattle.nfs3_types.specs.declared.replies.NfsReply.{NfsReply}
use Rattle.nfs3_types.specs.declared.replies.NfsReply.TheVariants as replies
use Rattle.nfs3_types.specs.declared.replies.Outcome.{Outcome}
use Rattle.nfs3_types.specs.declared.replies.Outcome.TheVariants.{Received, Taken}
use Rattle.nfs3_types.specs.declared.status.Failure.{Failure}
use Rattle.nfs3_types.specs.Limits.{file_limit}
use Rattle.nfs3_types.specs.Procedures.{is_answered, failure_in}
use Rattle.tree_nodes.specs.declared.node.Content.{Content}
use Rattle.tree_nodes.specs.declared.node.Content.TheVariants as contents
use Rattle.tree_nodes.specs.declared.node.Node.{Node}
use Rattle.tree_nodes.specs.Files.{node_limit, file_node}
use Rattle.tree_nodes.specs.Tree.{Names, Tree, entry_of, same_path, is_below, is_bare, parent}
use Rattle.tree_nodes.proofs.Chains.{isnt, absent}
use Rattle.tree_nodes.proofs.Found.{some_found}
use Rattle.tree_handles.specs.Binding.{Bindings, same_bytes, object_of, is_bound, gives_object}
use Rattle.tree_starts.specs.Names.{is_dot, is_two_dots, is_plain}
use Rattle.tree_handles.specs.Entry.{entry_at, named}
use Rattle.tree_handles.specs.Kind.{is_directory, is_link}
use Rattle.tree_handles.specs.Live.{live_entry, as_directory, directory_of, as_file, file_of}
use Rattle.tree_answers.specs.declared.failure.Cause.{Cause}
use Rattle.tree_answers.specs.declared.failure.Cause.TheVariants as cause
use Rattle.tree_answers.specs.Asked.{first_handle, second_handle, second_place, wants_directory, file_wanted, entry_wanted}
use Rattle.tree_answers.specs.Causes.{content_of, readlink_of_no_link, stops, name_is_present, is_unchecked, create_over_directory, remove_of_directory, rmdir_of_no_directory, is_filled_directory, rmdir_of_filled_directory}
use Rattle.tree_answers.specs.RenameCauses.{source_of, target_of}
use Rattle.tree_answers.specs.Failure.{row, causes, same_status, is_judged_status, is_caused_by, is_permitted}
use Rattle.tree_answers.specs.Look.{shows, getattr_is_legal, object_at, object_named, is_object_named, lookup_is_legal, has_text, readlink_is_legal, read_is_right, read_is_legal, commit_is_legal}
use Rattle.tree_answers.specs.Listing.{is_listing, listed_names, readdir_is_legal, listed_names_plus, has_its_handle, readdirplus_is_legal}
use Rattle.file_tree.specs.Change.{Change}
use Rattle.file_tree.specs.Change.Change.{Keep, Put, Remove}
use Rattle.file_tree.specs.Made.{only_if, set_size, first_size, first_verifier, create_over, create_present, create_at, create_change, make_entry}
use Rattle.file_tree.specs.Written.{reaches, write_at, write_change, set_attributes}
use Rattle.file_tree.specs.Removed.{rename_at, remove_entry, remove_directory, rename}
use Rattle.file_tree.specs.Success.{changed, change_written, change_created, change_set, change_directory_made, change_link_made, change_removed, change_directory_removed, change_renamed, change_done, change_answered, change_taken, change_of, next_tree}
use Rattle.tree_laws.specs.LaterBinds.{bound_too, HandleWaits}
use Rattle.file_tree.proofs.StartStep.{put_there}

-- what stands ahead of both
ahead : (object : ℕ) (b : Bool) (first : ℕ) (x y : Option ℕ) → (x ≡ y) ⊎ ((y ≡ None) × (x ≡ Some object))
    → (cond b (Some first) x ≡ cond b (Some first) y) ⊎ ((cond b (Some first) y ≡ None) × (cond b (Some first) x ≡ Some object))
ahead object true first x y later = inl refl
ahead object false first x y later = later

-- what a pair behind others gives
behind : (other handle : List ℕ) (object : ℕ) (pairs : List (List ℕ × ℕ))
    → (lookup (same_bytes other) (pairs ++ (handle, object) ∷ []) ≡ lookup (same_bytes other) pairs)
    ⊎ ((lookup (same_bytes other) pairs ≡ None) × (lookup (same_bytes other) (pairs ++ (handle, object) ∷ []) ≡ Some object))
behind other handle object [] = go (same_bytes other handle) where
  go : (b : Bool) → (cond b (Some object) None ≡ None) ⊎ ((◌≡◌ {A = Option ℕ} None None) × (cond b (Some object) None ≡ Some object))
  go true = inr (refl, refl)
  go false = inl refl
behind other handle object (pair ∷ pairs) =
    ahead object (same_bytes other pair.0) pair.1 (lookup (same_bytes other) (pairs ++ (handle, object) ∷ [])) (lookup (same_bytes other) pairs) (behind other handle object pairs)

all_same : {A : Type 0} (f g : A → Bool) (xs : List A) → ((x : A) → f x ≡ g x) → list_all f xs ≡ list_all g xs
all_same f g [] same = refl
all_same f g (x ∷ xs) same = λ i. same x i && all_same f g xs same i

any_same : {A : Type 0} (f g : A → Bool) (xs : List A) → ((x : A) → f x ≡ g x) → list_any f xs ≡ list_any g xs
any_same f g [] same = refl
any_same f g (x ∷ xs) same = λ i. same x i || any_same f g xs same i

-- the same where the values are there
where_there : {A : Type 0} (f g : A → Bool) (o : Option A) (d : Bool) → ((x : A) → o ≡ Some x → f x ≡ g x) → option_map_or f o d ≡ option_map_or g o d
where_there f g None d same = refl
where_there f g (Some x) d same = same x refl

module _ (binds : Bindings) (handle : List ℕ) (object : ℕ) (tree : Tree) (new : entry_of tree object ≡ None) where
  abbrev pub more : Bindings
  more = bound_too binds handle object

  -- ---- what handles name

  names : (other : List ℕ) → (object_of more other ≡ object_of binds other) ⊎ ((object_of binds other ≡ None) × (object_of more other ≡ Some object))
  names other =
      ahead object (same_bytes other binds.root) 0 (lookup (same_bytes other) (binds.pairs ++ (handle, object) ∷ [])) (lookup (same_bytes other) binds.pairs) (behind other handle object binds.pairs)

  live_at : (other : List ℕ) → live_entry more tree other ≡ live_entry binds tree other
  live_at other = go (names other) where
    go : (object_of more other ≡ object_of binds other) ⊎ ((object_of binds other ≡ None) × (object_of more other ≡ Some object)) → live_entry more tree other ≡ live_entry binds tree other
    go (inl same) = ap (option_and_then (entry_of tree)) same
    go (inr gone) = ap (option_and_then (entry_of tree)) gone.1 ∙ new ∙ sym (ap (option_and_then (entry_of tree)) gone.0)

  live : live_entry more tree ≡ live_entry binds tree
  live = λ i other. live_at other i

  directory : directory_of more tree ≡ directory_of binds tree
  directory = λ i other. option_and_then (λ e. as_directory e.0 e.1.content) (live_at other i)

  file : file_of more tree ≡ file_of binds tree
  file = λ i other. option_and_then (λ e. as_file e.0 e.1.object e.1.content) (live_at other i)

  entry : named more tree ≡ named binds tree
  entry = λ i place. option_and_then (λ directory. option_map (λ node. (directory ++ place.name ∷ [], node)) (entry_at tree directory place.name)) (directory i place.directory)

  content : content_of more tree ≡ content_of binds tree
  content = λ i other. option_map (λ e. e.1.content) (live_at other i)

  -- a handle of another object is one as before
  bound_same : (other : List ℕ) (number : ℕ) → (object == number) ≡ false → is_bound more other number ≡ is_bound binds other number
  bound_same other number apart = go (names other) where
    go : (object_of more other ≡ object_of binds other) ⊎ ((object_of binds other ≡ None) × (object_of more other ≡ Some object)) → is_bound more other number ≡ is_bound binds other number
    go (inl same) = ap (λ o. option_map_or (λ named. named == number) o false) same
    go (inr gone) = ap (λ o. option_map_or (λ named. named == number) o false) gone.1 ∙ apart ∙ sym (ap (λ o. option_map_or (λ named. named == number) o false) gone.0)

  gives_same : (given : Option (List ℕ)) (number : ℕ) → (object == number) ≡ false → gives_object more given number ≡ gives_object binds given number
  gives_same None number apart = refl
  gives_same (Some other) number apart = bound_same other number apart

  -- the objects that are there are others
  is_other : (path : Names) (node : Node) → map.get tree path ≡ Some node → (object == node.object) ≡ false
  is_other path node there = isnt (object == node.object) (λ same.
      absent (entry_of tree object) new (some_found tree (λ e. e.1.object == object) path node there (eq-eqb node.object object (sym (eqb-true object node.object same)))))

  -- ---- calls that look

  at_node : (given : List ℕ) (path : Names) → option_map_or (is_bound more given) (object_at (map.get tree path)) false ≡ option_map_or (is_bound binds given) (object_at (map.get tree path)) false
  at_node given path = go (map.get tree path) (is_other path) where
    go : (o : Option Node) → ((node : Node) → o ≡ Some node → (object == node.object) ≡ false)
        → option_map_or (is_bound more given) (object_at o) false ≡ option_map_or (is_bound binds given) (object_at o) false
    go None other = refl
    go (Some node) other = bound_same given node.object (other node refl)

  at_entry : (given : List ℕ) (path : Names) (name : List ℕ) → option_map_or (is_bound more given) (object_at (entry_at tree path name)) false
      ≡ option_map_or (is_bound binds given) (object_at (entry_at tree path name)) false
  at_entry given path name = go (is_plain name) where
    go : (b : Bool) → option_map_or (is_bound more given) (object_at (cond b (map.get tree (path ++ name ∷ [])) None)) false
        ≡ option_map_or (is_bound binds given) (object_at (cond b (map.get tree (path ++ name ∷ [])) None)) false
    go true = at_node given (path ++ name ∷ [])
    go false = refl

  at_name : (given : List ℕ) (path : Names) (name : List ℕ) → option_map_or (is_bound more given) (object_named tree path name) false
      ≡ option_map_or (is_bound binds given) (object_named tree path name) false
  at_name given path name = go (is_dot name) (is_two_dots name) where
    go : (a b : Bool) → option_map_or (is_bound more given)
        (cond a (object_at (map.get tree path)) (cond b (object_at (map.get tree (parent path))) (object_at (entry_at tree path name)))) false
        ≡ option_map_or (is_bound binds given)
        (cond a (object_at (map.get tree path)) (cond b (object_at (map.get tree (parent path))) (object_at (entry_at tree path name)))) false
    go true b = at_node given path
    go false true = at_node given (parent path)
    go false false = at_entry given path name

  looked_same : (place : DirectoryName) (reply : NfsReply) → lookup_is_legal more tree place reply ≡ lookup_is_legal binds tree place reply
  looked_same place (replies.Lookup (Done success)) =
      (λ i. option_map_or (is_object_named more tree place success.object) (directory i place.directory) false)
      ∙ where_there (is_object_named more tree place success.object) (is_object_named binds tree place success.object) (directory_of binds tree place.directory) false
      (λ path _. at_name success.object path place.name)
  looked_same place _ = refl

  attributes_same : (other : List ℕ) (reply : NfsReply) → getattr_is_legal more tree other reply ≡ getattr_is_legal binds tree other reply
  attributes_same other (replies.GetAttr (Done attributes)) = λ i. option_map_or (λ e. shows e.1.content attributes) (live_at other i) false
  attributes_same other _ = refl

  text_same : (link : List ℕ) (reply : NfsReply) → readlink_is_legal more tree link reply ≡ readlink_is_legal binds tree link reply
  text_same link (replies.ReadLink (Done success)) = λ i. option_map_or (λ e. has_text e.1.content success.target) (live_at link i) false
  text_same link _ = refl

  bytes_same : (call : ReadArguments) (reply : NfsReply) → read_is_legal more tree call reply ≡ read_is_legal binds tree call reply
  bytes_same call (replies.Read (Done success)) = λ i. option_map_or (λ entry. read_is_right entry.file.bytes call success) (file i call.file) false
  bytes_same call _ = refl

  committed_same : (other : List ℕ) (reply : NfsReply) → commit_is_legal more tree other reply ≡ commit_is_legal binds tree other reply
  committed_same other (replies.Commit (Done success)) = λ i. is_some (file i other)
  committed_same other _ = refl

  listed_same : (call : ReadDirArguments) (reply : NfsReply) → readdir_is_legal more tree call reply ≡ readdir_is_legal binds tree call reply
  listed_same call (replies.ReadDir (Done success)) =
      λ i. option_map_or (λ path. is_listing tree path call.cookie success.eof (listed_names success)) (directory i call.directory) false
  listed_same call _ = refl

  handle_same : (path : Names) (e : DirectoryEntryPlus) → has_its_handle more tree path e ≡ has_its_handle binds tree path e
  handle_same path e = go (is_plain e.name) where
    node_same : (o : Option Node) → ((node : Node) → o ≡ Some node → (object == node.object) ≡ false)
        → option_map_or (λ node. gives_object more e.object node.object) o true ≡ option_map_or (λ node. gives_object binds e.object node.object) o true
    node_same None other = refl
    node_same (Some node) other = gives_same e.object node.object (other node refl)

    go : (b : Bool) → option_map_or (λ node. gives_object more e.object node.object) (cond b (map.get tree (path ++ e.name ∷ [])) None) true
        ≡ option_map_or (λ node. gives_object binds e.object node.object) (cond b (map.get tree (path ++ e.name ∷ [])) None) true
    go true = node_same (map.get tree (path ++ e.name ∷ [])) (is_other (path ++ e.name ∷ []))
    go false = refl

  listed_plus_same : (call : ReadDirPlusArguments) (reply : NfsReply) → readdirplus_is_legal more tree call reply ≡ readdirplus_is_legal binds tree call reply
  listed_plus_same call (replies.ReadDirPlus (Done success)) =
      (λ i. option_map_or (λ path. is_listing tree path call.cookie success.eof (listed_names_plus success) && all_same (has_its_handle more tree path) (has_its_handle binds tree path) success.entries (handle_same path) i)
      (directory i call.directory) false)
  listed_plus_same call _ = refl

  -- ---- failures

  present_same : (call : NfsCall) → name_is_present more tree call ≡ name_is_present binds tree call
  present_same (calls.Create call) = λ i. option_map_or (λ e. stops call.mode e.1.content) (entry i call.place) false
  present_same (calls.MkDir call) = λ i. is_some (entry i call.place)
  present_same (calls.SymLink call) = λ i. is_some (entry i call.place)
  present_same _ = refl

  over_directory_same : (call : NfsCall) → create_over_directory more tree call ≡ create_over_directory binds tree call
  over_directory_same (calls.Create call) = λ i. option_map_or (λ e. is_unchecked call.mode && is_directory e.1.content) (entry i call.place) false
  over_directory_same _ = refl

  no_link_same : (call : NfsCall) → readlink_of_no_link more tree call ≡ readlink_of_no_link binds tree call
  no_link_same (calls.ReadLink link) = λ i. option_map_or (λ content. not (is_link content)) (content i link) false
  no_link_same _ = refl

  remove_same : (call : NfsCall) → remove_of_directory more tree call ≡ remove_of_directory binds tree call
  remove_same (calls.Remove place) = λ i. option_map_or (λ e. is_directory e.1.content) (entry i place) false
  remove_same _ = refl

  no_directory_same : (call : NfsCall) → rmdir_of_no_directory more tree call ≡ rmdir_of_no_directory binds tree call
  no_directory_same (calls.RmDir place) = λ i. option_map_or (λ e. not (is_directory e.1.content)) (entry i place) false
  no_directory_same _ = refl

  filled_same : (call : NfsCall) → rmdir_of_filled_directory more tree call ≡ rmdir_of_filled_directory binds tree call
  filled_same (calls.RmDir place) = λ i. option_map_or (is_filled_directory tree) (entry i place) false
  filled_same _ = refl

  source_same : (call : NfsCall) → source_of more tree call ≡ source_of binds tree call
  source_same (calls.Rename call) = λ i. entry i call.from
  source_same _ = refl

  target_same : (call : NfsCall) → target_of more tree call ≡ target_of binds tree call
  target_same (calls.Rename call) = λ i. entry i call.to
  target_same _ = refl

  holds_same : (call : NfsCall) (why : Cause) → (row why).holds more tree call ≡ (row why).holds binds tree call
  holds_same call cause.HandleIsntLive = λ i. is_none (live i (first_handle call)) || option_map_or (λ other. is_none (live i other)) (second_handle call) false
  holds_same call cause.HandleOfNoDirectory =
      λ i. (wants_directory call && option_map_or (λ content. not (is_directory content)) (content i (first_handle call)) false)
      || option_map_or (λ other. option_map_or (λ content. not (is_directory content)) (content i other) false) (second_handle call) false
  holds_same call cause.ReadLinkOfNoLink = no_link_same call
  holds_same call cause.FileIsDirectory = λ i. option_map_or (λ other. option_map_or is_directory (content i other) false) (file_wanted call) false
  holds_same call cause.FileIsLink = λ i. option_map_or (λ other. option_map_or is_link (content i other) false) (file_wanted call) false
  holds_same call cause.NameIsAbsent = λ i. option_map_or (λ place. is_some (directory i place.directory) && is_none (entry i place)) (entry_wanted call) false
  holds_same call cause.NameIsPresent = present_same call
  holds_same call cause.CreateOverDirectory = over_directory_same call
  holds_same call cause.RemoveOfDirectory = remove_same call
  holds_same call cause.RmDirOfNoDirectory = no_directory_same call
  holds_same call cause.RmDirOfFilledDirectory = filled_same call
  holds_same call cause.RenameOntoNoDirectory =
      λ i. option_map_or (λ s. is_directory s.1.content) (source_same call i) false && option_map_or (λ t. not (is_directory t.1.content)) (target_same call i) false
  holds_same call cause.RenameOntoDirectory =
      λ i. option_map_or (λ s. not (is_directory s.1.content)) (source_same call i) false && option_map_or (λ t. is_directory t.1.content) (target_same call i) false
  holds_same call cause.RenameOntoFilledDirectory =
      λ i. option_map_or (λ s. option_map_or (λ t. not (same_path s.0 t.0) && is_filled_directory tree t) (target_same call i) false) (source_same call i) false
  holds_same call cause.RenameBelowItself =
      λ i. option_map_or (λ s. is_directory s.1.content && option_map_or (λ q. is_below q s.0)
      (option_and_then (λ place. option_map (λ path. path ++ place.name ∷ []) (directory i place.directory)) (second_place call)) false) (source_same call i) false
  holds_same call cause.NameIsntPlain = refl
  holds_same call cause.NameHasOddByte = refl
  holds_same call cause.SetAttrWithGuard = refl
  holds_same call cause.ListingWithCookie = refl
  holds_same call cause.AnyListing = refl

  permitted_same : (call : NfsCall) (failure : Failure) → is_permitted more tree call failure ≡ is_permitted binds tree call failure
  permitted_same call failure =
      λ i. not (is_judged_status failure) || any_same (is_caused_by more tree call failure) (is_caused_by binds tree call failure) causes
      (λ why j. list_any (same_status failure) (row why).statuses && holds_same call why j) i

  -- ---- calls that change the tree

  write_same : (call : WriteArguments) (count : ℕ) (level : Option StableHow) → write_change more tree call count level ≡ write_change binds tree call count level
  write_same call count level =
      λ i. option_and_then (λ e. cond (nat_le count call.count && nat_le count (length call.bytes) && reaches call.level level) (write_at e call.offset (take count call.bytes)) None)
      (file i call.file)

  set_same : (call : SetAttrArguments) → set_attributes more tree call ≡ set_attributes binds tree call
  set_same call =
      λ i. cond (is_some call.attributes.size) (option_and_then (λ e. set_size e.path e.object e.file call.attributes.size) (file i call.object))
      (only_if (is_some (live i call.object)) Keep)

  remove_entry_same : (place : DirectoryName) → remove_entry more tree place ≡ remove_entry binds tree place
  remove_entry_same place = λ i. option_and_then (λ e. only_if (not (is_directory e.1.content) && is_bare tree e.0) (Remove e.0)) (entry i place)

  remove_directory_same : (place : DirectoryName) → remove_directory more tree place ≡ remove_directory binds tree place
  remove_directory_same place = λ i. option_and_then (λ e. only_if (is_directory e.1.content && is_bare tree e.0) (Remove e.0)) (entry i place)

  rename_same : (call : RenameArguments) → rename more tree call ≡ rename binds tree call
  rename_same call =
      λ i. option_and_then (λ source. option_and_then (λ path. cond (is_plain call.to.name) (rename_at tree source.0 source.1.content (path ++ call.to.name ∷ [])) None)
      (directory i call.to.directory)) (entry i call.from)

  -- a change as before, or one that makes the object
  abbrev pub Waits : Option Change → Option Change → Type 0
  Waits x y = (x ≡ y) ⊎ ((c : Change) × (x ≡ Some c) × IsSome (entry_of (changed tree c) object))

  chained_waits : (f g : Names → Option Change) (o p : Option Names) → o ≡ p → ((path : Names) → Waits (f path) (g path)) → Waits (option_and_then f o) (option_and_then g p)
  chained_waits f g o p same waits = subst (λ (o : Option Names). Waits (option_and_then f o) (option_and_then g p)) (sym same) (go p) where
    go : (p : Option Names) → Waits (option_and_then f p) (option_and_then g p)
    go None = inl refl
    go (Some path) = waits path

  -- the handle that is given with a node that is put
  gives_waits : (given : Option (List ℕ)) (number : ℕ)
      → (gives_object more given number ≡ gives_object binds given number) ⊎ ((gives_object more given number ≡ true) × (gives_object binds given number ≡ false) × (object ≡ number))
  gives_waits given number = go (object == number) refl where
    bound_waits : (other : List ℕ) → (object == number) ≡ true → (is_bound more other number ≡ is_bound binds other number) ⊎ ((is_bound more other number ≡ true) × (is_bound binds other number ≡ false) × (object ≡ number))
    bound_waits other is = by_name (names other) where
      by_name : (object_of more other ≡ object_of binds other) ⊎ ((object_of binds other ≡ None) × (object_of more other ≡ Some object))
          → (is_bound more other number ≡ is_bound binds other number) ⊎ ((is_bound more other number ≡ true) × (is_bound binds other number ≡ false) × (object ≡ number))
      by_name (inl same) = inl (ap (λ o. option_map_or (λ named. named == number) o false) same)
      by_name (inr gone) =
          inr (ap (λ o. option_map_or (λ named. named == number) o false) gone.1 ∙ is, ap (λ o. option_map_or (λ named. named == number) o false) gone.0, eqb-true object number is)

    given_waits : (g : Option (List ℕ)) → (object == number) ≡ true
        → (gives_object more g number ≡ gives_object binds g number) ⊎ ((gives_object more g number ≡ true) × (gives_object binds g number ≡ false) × (object ≡ number))
    given_waits None is = inl refl
    given_waits (Some other) is = bound_waits other is

    go : (b : Bool) → (object == number) ≡ b
        → (gives_object more given number ≡ gives_object binds given number) ⊎ ((gives_object more given number ≡ true) × (gives_object binds given number ≡ false) × (object ≡ number))
    go true is = given_waits given is
    go false apart = inl (gives_same given number apart)

  put_holds : (path : Names) (node : Node) → object ≡ node.object → IsSome (entry_of (changed tree (Put path node)) object)
  put_holds path node is = some_found (map.insert tree path node) (λ e. e.1.object == object) path node (put_there tree path node path refl) (eq-eqb node.object object (sym is))

  put_waits : (front : Bool) (given : Option (List ℕ)) (number : ℕ) (path : Names) (node : Node) → node.object ≡ number
      → Waits (only_if (front && gives_object more given number) (Put path node)) (only_if (front && gives_object binds given number) (Put path node))
  put_waits false given number path node numbered = inl refl
  put_waits true given number path node numbered = go (gives_waits given number) where
    go : (gives_object more given number ≡ gives_object binds given number) ⊎ ((gives_object more given number ≡ true) × (gives_object binds given number ≡ false) × (object ≡ number))
        → Waits (only_if (true && gives_object more given number) (Put path node)) (only_if (true && gives_object binds given number) (Put path node))
    go (inl same) = inl (ap (λ b. only_if (true && b) (Put path node)) same)
    go (inr makes) = inr (Put path node, ap (λ b. only_if (true && b) (Put path node)) makes.0, put_holds path node (makes.2 ∙ sym numbered))

  create_present_waits : (mode : CreateMode) (given : Option (List ℕ)) (path : Names) (node : Node) → (object == node.object) ≡ false
      → Waits (create_present more mode given path node.object node.content) (create_present binds mode given path node.object node.content)
  create_present_waits mode given path node other = go node.content where
    go : (content : Content) → Waits (create_present more mode given path node.object content) (create_present binds mode given path node.object content)
    go contents.Directory = inl refl
    go (contents.File file) = inl (ap (λ b. cond b (create_over mode path node.object file) None) (gives_same given node.object other))
    go (contents.Link target) = inl refl

  create_at_waits : (number : ℕ) (mode : CreateMode) (given : Option (List ℕ)) (path : Names) (o : Option Node)
      → ((node : Node) → o ≡ Some node → (object == node.object) ≡ false) → Waits (create_at more tree number mode given path o) (create_at binds tree number mode given path o)
  create_at_waits number mode given path None other =
      put_waits (is_none (entry_of tree number) && nat_lt (map.len tree) node_limit && nat_le (first_size mode) file_limit) given number path
      (file_node number (replicate (first_size mode) 0) (first_verifier mode)) refl
  create_at_waits number mode given path (Some node) other = create_present_waits mode given path node (other node refl)

  abbrev pub creates : ℕ → CreateArguments → Option (List ℕ) → Bindings → Names → Option Change
  creates number call given b path =
      cond (is_plain call.place.name) (create_at b tree number call.mode given (path ++ call.place.name ∷ []) (map.get tree (path ++ call.place.name ∷ []))) None

  creates_waits : (number : ℕ) (call : CreateArguments) (given : Option (List ℕ)) (path : Names) → Waits (creates number call given more path) (creates number call given binds path)
  creates_waits number call given path = go (is_plain call.place.name) where
    go : (b : Bool) → Waits (cond b (create_at more tree number call.mode given (path ++ call.place.name ∷ []) (map.get tree (path ++ call.place.name ∷ []))) None)
        (cond b (create_at binds tree number call.mode given (path ++ call.place.name ∷ []) (map.get tree (path ++ call.place.name ∷ []))) None)
    go true = create_at_waits number call.mode given (path ++ call.place.name ∷ []) (map.get tree (path ++ call.place.name ∷ [])) (is_other (path ++ call.place.name ∷ []))
    go false = inl refl

  create_waits : (number : ℕ) (call : CreateArguments) (given : Option (List ℕ)) → Waits (create_change more tree number call given) (create_change binds tree number call given)
  create_waits number call given =
      chained_waits (creates number call given more) (creates number call given binds) (directory_of more tree call.place.directory) (directory_of binds tree call.place.directory)
      (λ i. directory i call.place.directory) (creates_waits number call given)

  abbrev pub makes : ℕ → DirectoryName → Option (List ℕ) → Content → Bindings → Names → Option Change
  makes number place given what b path =
      only_if (is_plain place.name && is_none (map.get tree (path ++ place.name ∷ [])) && is_none (entry_of tree number) && nat_lt (map.len tree) node_limit
      && gives_object b given number) (Put (path ++ place.name ∷ []) (record { object = number; content = what }))

  make_waits : (number : ℕ) (place : DirectoryName) (given : Option (List ℕ)) (what : Content) → Waits (make_entry more tree number place given what) (make_entry binds tree number place given what)
  make_waits number place given what =
      chained_waits (makes number place given what more) (makes number place given what binds) (directory_of more tree place.directory) (directory_of binds tree place.directory)
      (λ i. directory i place.directory)
      (λ path. put_waits (is_plain place.name && is_none (map.get tree (path ++ place.name ∷ [])) && is_none (entry_of tree number) && nat_lt (map.len tree) node_limit) given number
      (path ++ place.name ∷ []) (record { object = number; content = what }) refl)

  keeps : (a b : Bool) → a ≡ b → Waits (only_if a Keep) (only_if b Keep)
  keeps a b same = inl (ap (λ x. only_if x Keep) same)

  -- ---- every call

  written_waits : (call : WriteArguments) (reply : NfsReply) → Waits (change_written more tree call reply) (change_written binds tree call reply)
  written_waits call (replies.Write (Done success)) = inl (write_same call success.count (Some success.level))
  written_waits call _ = inl refl

  created_waits : (number : ℕ) (call : CreateArguments) (reply : NfsReply) → Waits (change_created more tree number call reply) (change_created binds tree number call reply)
  created_waits number call (replies.Create (Done success)) = create_waits number call success.object
  created_waits number call _ = inl refl

  set_waits : (call : SetAttrArguments) (reply : NfsReply) → Waits (change_set more tree call reply) (change_set binds tree call reply)
  set_waits call (replies.SetAttr (Done _)) = inl (set_same call)
  set_waits call _ = inl refl

  directory_made_waits : (number : ℕ) (call : MkDirArguments) (reply : NfsReply) → Waits (change_directory_made more tree number call reply) (change_directory_made binds tree number call reply)
  directory_made_waits number call (replies.MkDir (Done success)) = make_waits number call.place success.object contents.Directory
  directory_made_waits number call _ = inl refl

  link_made_waits : (number : ℕ) (call : SymLinkArguments) (reply : NfsReply) → Waits (change_link_made more tree number call reply) (change_link_made binds tree number call reply)
  link_made_waits number call (replies.SymLink (Done success)) = make_waits number call.place success.object (contents.Link call.target)
  link_made_waits number call _ = inl refl

  removed_waits : (place : DirectoryName) (reply : NfsReply) → Waits (change_removed more tree place reply) (change_removed binds tree place reply)
  removed_waits place (replies.Remove (Done _)) = inl (remove_entry_same place)
  removed_waits place _ = inl refl

  directory_removed_waits : (place : DirectoryName) (reply : NfsReply) → Waits (change_directory_removed more tree place reply) (change_directory_removed binds tree place reply)
  directory_removed_waits place (replies.RmDir (Done _)) = inl (remove_directory_same place)
  directory_removed_waits place _ = inl refl

  renamed_waits : (call : RenameArguments) (reply : NfsReply) → Waits (change_renamed more tree call reply) (change_renamed binds tree call reply)
  renamed_waits call (replies.Rename (Done _)) = inl (rename_same call)
  renamed_waits call _ = inl refl

  done_waits : (number : ℕ) (call : NfsCall) (reply : NfsReply) → Waits (change_done more tree number call reply) (change_done binds tree number call reply)
  done_waits number (calls.GetAttr other) reply = keeps _ _ (attributes_same other reply)
  done_waits number (calls.Lookup place) reply = keeps _ _ (looked_same place reply)
  done_waits number (calls.ReadLink link) reply = keeps _ _ (text_same link reply)
  done_waits number (calls.Read call) reply = keeps _ _ (bytes_same call reply)
  done_waits number (calls.ReadDir call) reply = keeps _ _ (listed_same call reply)
  done_waits number (calls.ReadDirPlus call) reply = keeps _ _ (listed_plus_same call reply)
  done_waits number (calls.Commit call) reply = keeps _ _ (committed_same call.file reply)
  done_waits number (calls.Write call) reply = written_waits call reply
  done_waits number (calls.Create call) reply = created_waits number call reply
  done_waits number (calls.SetAttr call) reply = set_waits call reply
  done_waits number (calls.MkDir call) reply = directory_made_waits number call reply
  done_waits number (calls.SymLink call) reply = link_made_waits number call reply
  done_waits number (calls.Remove place) reply = removed_waits place reply
  done_waits number (calls.RmDir place) reply = directory_removed_waits place reply
  done_waits number (calls.Rename call) reply = renamed_waits call reply

  answered_waits : (number : ℕ) (call : NfsCall) (reply : NfsReply) (o : Option Failure) → Waits (change_answered more tree number call reply o) (change_answered binds tree number call reply o)
  answered_waits number call reply None = done_waits number call reply
  answered_waits number call reply (Some failure) = inl (λ i. only_if (is_answered call reply && permitted_same call failure i) Keep)

  taken_waits : (number : ℕ) (call : NfsCall) (count : Option ℕ) → Waits (change_taken more tree number call count) (change_taken binds tree number call count)
  taken_waits number (calls.Write call) (Some count) = inl (write_same call count None)
  taken_waits number (calls.Create call) None = create_waits number call None
  taken_waits number (calls.SetAttr call) None = inl (set_same call)
  taken_waits number (calls.MkDir call) None = make_waits number call.place None contents.Directory
  taken_waits number (calls.SymLink call) None = make_waits number call.place None (contents.Link call.target)
  taken_waits number (calls.Remove place) None = inl (remove_entry_same place)
  taken_waits number (calls.RmDir place) None = inl (remove_directory_same place)
  taken_waits number (calls.Rename call) None = inl (rename_same call)
  taken_waits number _ _ = inl refl

  change_waits : (number : ℕ) (call : NfsCall) (outcome : Outcome) → Waits (change_of more tree number call outcome) (change_of binds tree number call outcome)
  change_waits number call (Received reply) = answered_waits number call reply (failure_in reply)
  change_waits number call (Taken count) = taken_waits number call count

pub handle_waits : HandleWaits
handle_waits binds handle object tree number call outcome new = go (change_waits binds handle object tree new number call outcome) where
  go : Waits binds handle object tree new (change_of (bound_too binds handle object) tree number call outcome) (change_of binds tree number call outcome)
      → (next_tree (bound_too binds handle object) tree number call outcome ≡ next_tree binds tree number call outcome)
      ⊎ ((after : Tree) × (next_tree (bound_too binds handle object) tree number call outcome ≡ Some after) × IsSome (entry_of after object))
  go (inl same) = inl (ap (option_map (changed tree)) same)
  go (inr makes) = inr (changed tree makes.0, ap (option_map (changed tree)) makes.1, makes.2)
