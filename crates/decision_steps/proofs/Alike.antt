-- two bindings by which the handles of a call name the same in a tree see it alike
use Rattle.std.proofs.Common.{◌≡◌, ℕ, Bool, true, false, List, [], ◌∷◌, ◌++◌, length, take, Option, Some, None, refl, ap, ◌∙◌, subst}
use Rattle.std.specs.Prelude.{◌&&◌, ◌||◌, not, nat_le, is_some, is_none, if◌then◌else◌, option_and_then, option_map}
use Rattle.std.specs.Option.{option_map_or}
use Rattle.std.specs.List.{list_any}
use Rattle.nfs3_types.specs.declared.calls.NfsCall.{NfsCall}
use Rattle.nfs3_types.specs.declared.calls.NfsCall.TheVariants as calls
use Rattle.nfs3_types.specs.declared.calls.DirectoryName.{DirectoryName}
use Rattle.nfs3_types.specs.declared.calls.RenameArguments.{RenameArguments}
use Rattle.nfs3_types.specs.declared.calls.ReadArguments.{ReadArguments}
use Rattle.nfs3_types.specs.declared.calls.ReadDirArguments.{ReadDirArguments}
use Rattle.nfs3_types.specs.declared.calls.SetAttrArguments.{SetAttrArguments}
use Rattle.nfs3_types.specs.declared.calls.WriteArguments.{WriteArguments}
use Rattle.nfs3_types.specs.declared.calls.StableHow.{StableHow}
use Rattle.nfs3_types.specs.declared.replies.Answer.TheVariants.{Done}
use Rattle.nfs3_types.specs.declared.replies.NfsReply.{NfsReply}
use Rattle.nfs3_types.specs.declared.replies.NfsReply.TheVariants as replies
use Rattle.nfs3_types.specs.declared.status.Failure.{Failure}
use Rattle.tree_nodes.specs.declared.node.Node.{Node}
use Rattle.tree_nodes.specs.Tree.{Names, Tree, is_below, same_path, is_bare}
use Rattle.tree_handles.specs.Binding.{Bindings}
use Rattle.tree_handles.specs.Live.{FileEntry, live_entry, as_directory, directory_of, as_file, file_of}
use Rattle.tree_starts.specs.Names.{is_plain}
use Rattle.tree_handles.specs.Entry.{entry_at, named}
use Rattle.tree_handles.specs.Kind.{is_directory, is_link}
use Rattle.tree_answers.specs.Look as look
use Rattle.tree_answers.specs.Listing as listing
use Rattle.tree_answers.specs.Asked as asked
use Rattle.tree_answers.specs.Causes as when
use Rattle.tree_answers.specs.RenameCauses as when_renamed
use Rattle.tree_answers.specs.Failure.{row, causes, is_caused_by, is_judged_status, is_permitted, same_status}
use Rattle.tree_answers.specs.declared.failure.Cause.{Cause}
use Rattle.tree_answers.specs.declared.failure.Cause.TheVariants as cause
use Rattle.file_tree.specs.Change.{Change}
use Rattle.file_tree.specs.Change.Change.{Keep, Remove}
use Rattle.file_tree.specs.Made as made
use Rattle.file_tree.specs.Written as written
use Rattle.file_tree.specs.Removed as removed
use Rattle.decision_steps.proofs.Parts.{same_on, any_on}

-- ---- the handles that calls name: where a file, an entry or a second place is asked for

pub of_file : (call : NfsCall) (handle : List ℕ) → asked.file_wanted call ≡ Some handle → asked.first_handle call ≡ handle
of_file (calls.Read call) handle e = cc
of_file (calls.Write call) handle e = cc
of_file (calls.Commit call) handle e = cc
of_file (calls.SetAttr call) handle e = go (is_some call.attributes.size) e where
  go : (b : Bool) → (if b then Some call.object else None) ≡ Some handle → call.object ≡ handle
  go true e = cc
  go false e = absurd (cc)
of_file _ handle e = absurd (cc)

pub of_entry : (call : NfsCall) (place : DirectoryName) → asked.entry_wanted call ≡ Some place → asked.first_handle call ≡ place.directory
of_entry (calls.Lookup other) place e = ap (λ p. p.directory) (same_place other place e) where
  same_place : (a b : DirectoryName) → Some a ≡ Some b → a ≡ b
  same_place a b e = cc
of_entry (calls.Remove other) place e = ap (λ p. p.directory) (same_place other place e) where
  same_place : (a b : DirectoryName) → Some a ≡ Some b → a ≡ b
  same_place a b e = cc
of_entry (calls.RmDir other) place e = ap (λ p. p.directory) (same_place other place e) where
  same_place : (a b : DirectoryName) → Some a ≡ Some b → a ≡ b
  same_place a b e = cc
of_entry (calls.Rename call) place e = ap (λ p. p.directory) (same_place call.from place e) where
  same_place : (a b : DirectoryName) → Some a ≡ Some b → a ≡ b
  same_place a b e = cc
of_entry _ place e = absurd (cc)

module _ (binds other : Bindings) (tree : Tree) where
  -- a handle names the same, or nothing, in the tree
  abbrev pub Same : List ℕ → Type 0
  Same handle = live_entry binds tree handle ≡ live_entry other tree handle

  pub directory : (handle : List ℕ) → Same handle → directory_of binds tree handle ≡ directory_of other tree handle
  directory handle same = ap (option_and_then (λ e. as_directory e.0 e.1.content)) same

  pub file : (handle : List ℕ) → Same handle → file_of binds tree handle ≡ file_of other tree handle
  file handle same = ap (option_and_then (λ e. as_file e.0 e.1.object e.1.content)) same

  pub content : (handle : List ℕ) → Same handle → when.content_of binds tree handle ≡ when.content_of other tree handle
  content handle same = ap (option_map (λ (e : Names × Node). e.1.content)) same

  pub entry : (place : DirectoryName) → Same place.directory → named binds tree place ≡ named other tree place
  entry place same =
      ap (option_and_then (λ directory. option_map (λ (node : Node). (directory ++ place.name ∷ [], node)) (entry_at tree directory place.name))) (directory place.directory same)

  -- ---- calls that look, but for those whose replies give handles

  pub getattr_is_legal : (object : List ℕ) (reply : NfsReply) → Same object → look.getattr_is_legal binds tree object reply ≡ look.getattr_is_legal other tree object reply
  getattr_is_legal object (replies.GetAttr (Done attributes)) same = ap (λ o. option_map_or (λ (e : Names × Node). look.shows e.1.content attributes) o false) same
  getattr_is_legal object _ same = refl

  pub readlink_is_legal : (link : List ℕ) (reply : NfsReply) → Same link → look.readlink_is_legal binds tree link reply ≡ look.readlink_is_legal other tree link reply
  readlink_is_legal link (replies.ReadLink (Done success)) same = ap (λ o. option_map_or (λ (e : Names × Node). look.has_text e.1.content success.target) o false) same
  readlink_is_legal link _ same = refl

  pub read_is_legal : (call : ReadArguments) (reply : NfsReply) → Same call.file → look.read_is_legal binds tree call reply ≡ look.read_is_legal other tree call reply
  read_is_legal call (replies.Read (Done success)) same = ap (λ o. option_map_or (λ (entry : FileEntry). look.read_is_right entry.file.bytes call success) o false) (file call.file same)
  read_is_legal call _ same = refl

  pub commit_is_legal : (handle : List ℕ) (reply : NfsReply) → Same handle → look.commit_is_legal binds tree handle reply ≡ look.commit_is_legal other tree handle reply
  commit_is_legal handle (replies.Commit (Done success)) same = ap is_some (file handle same)
  commit_is_legal handle _ same = refl

  pub readdir_is_legal : (call : ReadDirArguments) (reply : NfsReply) → Same call.directory → listing.readdir_is_legal binds tree call reply ≡ listing.readdir_is_legal other tree call reply
  readdir_is_legal call (replies.ReadDir (Done success)) same =
      ap (λ o. option_map_or (λ path. listing.is_listing tree path call.cookie success.eof (listing.listed_names success)) o false) (directory call.directory same)
  readdir_is_legal call _ same = refl

  -- ---- calls that change the tree, but for those whose replies give handles

  pub set : (call : SetAttrArguments) → Same call.object → written.set_attributes binds tree call ≡ written.set_attributes other tree call
  set call same =
      ap (λ o. if is_some call.attributes.size then option_and_then (λ (entry : FileEntry). made.set_size entry.path entry.object entry.file call.attributes.size) o
      else made.only_if (is_some (live_entry binds tree call.object)) Keep) (file call.object same)
      ∙ ap (λ o. if is_some call.attributes.size then option_and_then (λ (entry : FileEntry). made.set_size entry.path entry.object entry.file call.attributes.size) (file_of other tree call.object)
      else made.only_if (is_some o) Keep) same

  pub wrote : (call : WriteArguments) (count : ℕ) (level : Option StableHow) → Same call.file → written.write_change binds tree call count level ≡ written.write_change other tree call count level
  wrote call count level same =
      ap (option_and_then (λ (entry : FileEntry). if nat_le count call.count && nat_le count (length call.bytes) && written.reaches call.level level
      then written.write_at entry call.offset (take count call.bytes) else None)) (file call.file same)

  pub removes : (place : DirectoryName) → Same place.directory → removed.remove_entry binds tree place ≡ removed.remove_entry other tree place
  removes place same = ap (option_and_then (λ (e : Names × Node). made.only_if (not (is_directory e.1.content) && is_bare tree e.0) (Remove e.0))) (entry place same)

  pub removes_directory : (place : DirectoryName) → Same place.directory → removed.remove_directory binds tree place ≡ removed.remove_directory other tree place
  removes_directory place same = ap (option_and_then (λ (e : Names × Node). made.only_if (is_directory e.1.content && is_bare tree e.0) (Remove e.0))) (entry place same)

  pub renames : (call : RenameArguments) → Same call.from.directory → Same call.to.directory → removed.rename binds tree call ≡ removed.rename other tree call
  renames call from to_same =
      let to : Names × Node → Names → Option Change = λ source path. (if is_plain call.to.name then removed.rename_at tree source.0 source.1.content (path ++ call.to.name ∷ []) else None) in
      ap (option_and_then (λ source. option_and_then (to source) (directory_of binds tree call.to.directory))) (entry call.from from)
      ∙ ap (λ o. option_and_then (λ source. option_and_then (to source) o) (named other tree call.from)) (directory call.to.directory to_same)

  -- ---- causes of failures

  isnt_live : (handle : List ℕ) → Same handle → when.isnt_live binds tree handle ≡ when.isnt_live other tree handle
  isnt_live handle same = ap is_none same

  no_directory : (handle : List ℕ) → Same handle → when.is_of_no_directory binds tree handle ≡ when.is_of_no_directory other tree handle
  no_directory handle same = ap (λ o. option_map_or (λ c. not (is_directory c)) o false) (content handle same)

  read_no_link : (call : NfsCall) → Same (asked.first_handle call) → when.readlink_of_no_link binds tree call ≡ when.readlink_of_no_link other tree call
  read_no_link (calls.ReadLink link) same = ap (λ o. option_map_or (λ c. not (is_link c)) o false) (content link same)
  read_no_link _ same = refl

  is_present : (call : NfsCall) → Same (asked.first_handle call) → when.name_is_present binds tree call ≡ when.name_is_present other tree call
  is_present (calls.Create call) same = ap (λ o. option_map_or (λ (e : Names × Node). when.stops call.mode e.1.content) o false) (entry call.place same)
  is_present (calls.MkDir call) same = ap is_some (entry call.place same)
  is_present (calls.SymLink call) same = ap is_some (entry call.place same)
  is_present _ same = refl

  over_directory : (call : NfsCall) → Same (asked.first_handle call) → when.create_over_directory binds tree call ≡ when.create_over_directory other tree call
  over_directory (calls.Create call) same =
      ap (λ o. option_map_or (λ (e : Names × Node). when.is_unchecked call.mode && is_directory e.1.content) o false) (entry call.place same)
  over_directory _ same = refl

  remove_directory : (call : NfsCall) → Same (asked.first_handle call) → when.remove_of_directory binds tree call ≡ when.remove_of_directory other tree call
  remove_directory (calls.Remove place) same = ap (λ o. option_map_or (λ (e : Names × Node). is_directory e.1.content) o false) (entry place same)
  remove_directory _ same = refl

  rmdir_no_directory : (call : NfsCall) → Same (asked.first_handle call) → when.rmdir_of_no_directory binds tree call ≡ when.rmdir_of_no_directory other tree call
  rmdir_no_directory (calls.RmDir place) same = ap (λ o. option_map_or (λ (e : Names × Node). not (is_directory e.1.content)) o false) (entry place same)
  rmdir_no_directory _ same = refl

  rmdir_filled : (call : NfsCall) → Same (asked.first_handle call) → when.rmdir_of_filled_directory binds tree call ≡ when.rmdir_of_filled_directory other tree call
  rmdir_filled (calls.RmDir place) same = ap (λ o. option_map_or (when.is_filled_directory tree) o false) (entry place same)
  rmdir_filled _ same = refl

  is_absent : (place : DirectoryName) → Same place.directory → when.is_absent binds tree place ≡ when.is_absent other tree place
  is_absent place same =
      ap (λ o. is_some o && is_none (named binds tree place)) (directory place.directory same)
      ∙ ap (λ o. is_some (directory_of other tree place.directory) && is_none o) (entry place same)

  module _ (call : NfsCall) (first : Same (asked.first_handle call)) (second : (handle : List ℕ) → asked.second_handle call ≡ Some handle → Same handle) where
    second_place : (place : DirectoryName) → asked.second_place call ≡ Some place → Same place.directory
    second_place place is = second place.directory (ap (option_map (λ (p : DirectoryName). p.directory)) is)

    source : when_renamed.source_of binds tree call ≡ when_renamed.source_of other tree call
    source = go call first where
      go : (call : NfsCall) → Same (asked.first_handle call) → when_renamed.source_of binds tree call ≡ when_renamed.source_of other tree call
      go (calls.Rename call) same = entry call.from same
      go _ same = refl

    target : when_renamed.target_of binds tree call ≡ when_renamed.target_of other tree call
    target = go call second_place where
      go : (call : NfsCall) → ((place : DirectoryName) → asked.second_place call ≡ Some place → Same place.directory)
          → when_renamed.target_of binds tree call ≡ when_renamed.target_of other tree call
      go (calls.Rename call) second = entry call.to (second call.to refl)
      go _ second = refl

    target_path : when_renamed.target_path binds tree call ≡ when_renamed.target_path other tree call
    target_path = go (asked.second_place call) second_place where
      go : (o : Option DirectoryName) → ((place : DirectoryName) → o ≡ Some place → Same place.directory)
          → option_and_then (λ place. option_map (λ path. path ++ place.name ∷ []) (directory_of binds tree place.directory)) o
          ≡ option_and_then (λ place. option_map (λ path. path ++ place.name ∷ []) (directory_of other tree place.directory)) o
      go None second = refl
      go (Some place) second = ap (option_map (λ (path : Names). path ++ place.name ∷ [])) (directory place.directory (second place refl))

    holds : (why : Cause) → (row why).holds binds tree call ≡ (row why).holds other tree call
    holds cause.HandleIsntLive =
        ap (λ b. b || option_map_or (when.isnt_live binds tree) (asked.second_handle call) false) (isnt_live (asked.first_handle call) first)
        ∙ ap (λ b. when.isnt_live other tree (asked.first_handle call) || b)
        (same_on (when.isnt_live binds tree) (when.isnt_live other tree) (asked.second_handle call) false (λ h is. isnt_live h (second h is)))
    holds cause.HandleOfNoDirectory =
        ap (λ b. (asked.wants_directory call && b) || option_map_or (when.is_of_no_directory binds tree) (asked.second_handle call) false) (no_directory (asked.first_handle call) first)
        ∙ ap (λ b. (asked.wants_directory call && when.is_of_no_directory other tree (asked.first_handle call)) || b)
        (same_on (when.is_of_no_directory binds tree) (when.is_of_no_directory other tree) (asked.second_handle call) false (λ h is. no_directory h (second h is)))
    holds cause.ReadLinkOfNoLink = read_no_link call first
    holds cause.FileIsDirectory =
        same_on (when.is_of_directory binds tree) (when.is_of_directory other tree) (asked.file_wanted call) false
        (λ h is. ap (λ o. option_map_or is_directory o false) (content h (subst Same (of_file call h is) first)))
    holds cause.FileIsLink =
        same_on (when.is_of_link binds tree) (when.is_of_link other tree) (asked.file_wanted call) false
        (λ h is. ap (λ o. option_map_or is_link o false) (content h (subst Same (of_file call h is) first)))
    holds cause.NameIsAbsent =
        same_on (when.is_absent binds tree) (when.is_absent other tree) (asked.entry_wanted call) false (λ place is. is_absent place (subst Same (of_entry call place is) first))
    holds cause.NameIsPresent = is_present call first
    holds cause.CreateOverDirectory = over_directory call first
    holds cause.RemoveOfDirectory = remove_directory call first
    holds cause.RmDirOfNoDirectory = rmdir_no_directory call first
    holds cause.RmDirOfFilledDirectory = rmdir_filled call first
    holds cause.RenameOntoNoDirectory =
        ap (λ o. option_map_or (λ (s : Names × Node). is_directory s.1.content) o false && option_map_or (λ (t : Names × Node). not (is_directory t.1.content)) (when_renamed.target_of binds tree call) false) source
        ∙ ap (λ o. option_map_or (λ (s : Names × Node). is_directory s.1.content) (when_renamed.source_of other tree call) false && option_map_or (λ (t : Names × Node). not (is_directory t.1.content)) o false) target
    holds cause.RenameOntoDirectory =
        ap (λ o. option_map_or (λ (s : Names × Node). not (is_directory s.1.content)) o false && option_map_or (λ (t : Names × Node). is_directory t.1.content) (when_renamed.target_of binds tree call) false) source
        ∙ ap (λ o. option_map_or (λ (s : Names × Node). not (is_directory s.1.content)) (when_renamed.source_of other tree call) false && option_map_or (λ (t : Names × Node). is_directory t.1.content) o false) target
    holds cause.RenameOntoFilledDirectory =
        ap (λ o. option_map_or (λ (s : Names × Node). option_map_or (λ (t : Names × Node). not (same_path s.0 t.0) && when.is_filled_directory tree t) (when_renamed.target_of binds tree call) false) o false) source
        ∙ ap (λ o. option_map_or (λ (s : Names × Node). option_map_or (λ (t : Names × Node). not (same_path s.0 t.0) && when.is_filled_directory tree t) o false) (when_renamed.source_of other tree call) false) target
    holds cause.RenameBelowItself =
        ap (λ o. option_map_or (λ (s : Names × Node). is_directory s.1.content && option_map_or (λ q. is_below q s.0) (when_renamed.target_path binds tree call) false) o false) source
        ∙ ap (λ o. option_map_or (λ (s : Names × Node). is_directory s.1.content && option_map_or (λ q. is_below q s.0) o false) (when_renamed.source_of other tree call) false) target_path
    holds cause.NameIsntPlain = refl
    holds cause.NameHasOddByte = refl
    holds cause.SetAttrWithGuard = refl
    holds cause.ListingWithCookie = refl
    holds cause.AnyListing = refl

    pub permitted : (failure : Failure) → is_permitted binds tree call failure ≡ is_permitted other tree call failure
    permitted failure =
        ap (λ b. not (is_judged_status failure) || b) (any_on (is_caused_by binds tree call failure) (is_caused_by other tree call failure) causes
        (λ why. ap (λ b. list_any (same_status failure) (row why).statuses && b) (holds why)))
