-- the failures that are permitted in a tree with its files filled are those of the tree
use Rattle.std.proofs.Common.{◌≡◌, ℕ, Bool, false, List, [], ◌∷◌, ◌++◌, Option, Some, None, refl, ap, ◌∙◌}
use Rattle.std.specs.Prelude.{◌&&◌, ◌||◌, not, is_some, is_none, option_and_then, option_map}
use Rattle.std.specs.Option.{option_map_or}
use Rattle.std.specs.List.{list_any}
use Rattle.nfs3_types.specs.declared.calls.CreateMode.{CreateMode}
use Rattle.nfs3_types.specs.declared.calls.CreateMode.TheVariants.{Unchecked, Guarded, Exclusive}
use Rattle.nfs3_types.specs.declared.calls.DirectoryName.{DirectoryName}
use Rattle.nfs3_types.specs.declared.calls.NfsCall.{NfsCall}
use Rattle.nfs3_types.specs.declared.calls.NfsCall.TheVariants as calls
use Rattle.nfs3_types.specs.declared.status.Failure.{Failure}
use Rattle.tree_nodes.specs.declared.node.Node.{Node}
use Rattle.tree_nodes.specs.declared.node.File.{File}
use Rattle.tree_nodes.specs.declared.node.Content.{Content}
use Rattle.tree_nodes.specs.declared.node.Content.TheVariants as contents
use Rattle.tree_nodes.specs.Tree.{Names, Tree, is_below, same_path, is_bare}
use Rattle.tree_handles.specs.Binding.{Bindings}
use Rattle.tree_handles.specs.Live.{live_entry, directory_of}
use Rattle.tree_handles.specs.Entry.{named}
use Rattle.tree_handles.specs.Kind.{is_directory, is_link}
use Rattle.tree_answers.specs.Asked as asked
use Rattle.tree_answers.specs.Causes as when
use Rattle.tree_answers.specs.RenameCauses as when_renamed
use Rattle.tree_answers.specs.Failure.{row, causes, is_caused_by, is_judged_status, is_permitted, same_status}
use Rattle.tree_answers.specs.declared.failure.Cause.{Cause}
use Rattle.tree_answers.specs.declared.failure.Cause.TheVariants as cause
use Rattle.alike_calls.specs.Alike.{FillsFiles, Alike}
use Rattle.alike_calls.proofs.Parts.{same_on, any_on, none_mapped, test_mapped, same_kind}
use Rattle.alike_calls.proofs.Changes.{filled}
use Rattle.alike_calls.proofs.Seen as seen

-- a file stops a CREATE, whatever it holds
stops_same : (mode : CreateMode) (bytes : List ℕ) (file : File) → when.stops mode (contents.File (record { bytes = bytes; verifier = file.verifier })) ≡ when.stops mode (contents.File file)
stops_same (Unchecked attributes) bytes file = refl
stops_same (Guarded attributes) bytes file = refl
stops_same (Exclusive verifier) bytes file = refl

module _ (fill : Node → Node) (fills : FillsFiles fill) (tree other : Tree) (alike : Alike fill tree other) (binds : Bindings) where
  isnt_live : (handle : List ℕ) → when.isnt_live binds other handle ≡ when.isnt_live binds tree handle
  isnt_live handle = ap is_none (seen.live fill fills tree other alike binds handle) ∙ none_mapped (filled fill) (live_entry binds tree handle)

  -- a test of the kind of an entry
  kind_test : (test : Content → Bool) → ((bytes : List ℕ) (file : File) → test (contents.File (record { bytes = bytes; verifier = file.verifier })) ≡ test (contents.File file))
      → (place : DirectoryName) → option_map_or (λ (e : Names × Node). test e.1.content) (named binds other place) false ≡ option_map_or (λ (e : Names × Node). test e.1.content) (named binds tree place) false
  kind_test test same place = seen.named_test fill fills tree other alike binds (λ e. test e.1.content) place (λ e. same_kind fill fills test same e.1)

  no_directory : (handle : List ℕ) → when.is_of_no_directory binds other handle ≡ when.is_of_no_directory binds tree handle
  no_directory handle = seen.content_test fill fills tree other alike binds (λ content. not (is_directory content)) handle (λ bytes file. refl)

  of_directory : (handle : List ℕ) → when.is_of_directory binds other handle ≡ when.is_of_directory binds tree handle
  of_directory handle = seen.content_test fill fills tree other alike binds is_directory handle (λ bytes file. refl)

  of_link : (handle : List ℕ) → when.is_of_link binds other handle ≡ when.is_of_link binds tree handle
  of_link handle = seen.content_test fill fills tree other alike binds is_link handle (λ bytes file. refl)

  is_absent : (place : DirectoryName) → when.is_absent binds other place ≡ when.is_absent binds tree place
  is_absent place =
      ap (λ o. is_some o && is_none (named binds other place)) (seen.directories fill fills tree other alike binds place.directory)
      ∙ ap (λ b. is_some (directory_of binds tree place.directory) && b) (seen.isnt_named fill fills tree other alike binds place)

  filled_kind : (e : Names × Node) → when.is_filled_directory other (filled fill e) ≡ when.is_filled_directory tree e
  filled_kind e =
      ap (λ b. b && not (is_bare other e.0)) (same_kind fill fills is_directory (λ bytes file. refl) e.1)
      ∙ ap (λ b. is_directory e.1.content && not b) (seen.bare fill fills tree other alike e.0)

  -- ---- causes, by the call

  read_no_link : (call : NfsCall) → when.readlink_of_no_link binds other call ≡ when.readlink_of_no_link binds tree call
  read_no_link (calls.ReadLink link) = seen.content_test fill fills tree other alike binds (λ content. not (is_link content)) link (λ bytes file. refl)
  read_no_link _ = refl

  is_present : (call : NfsCall) → when.name_is_present binds other call ≡ when.name_is_present binds tree call
  is_present (calls.Create call) = kind_test (when.stops call.mode) (stops_same call.mode) call.place
  is_present (calls.MkDir call) = seen.is_named fill fills tree other alike binds call.place
  is_present (calls.SymLink call) = seen.is_named fill fills tree other alike binds call.place
  is_present _ = refl

  over_directory : (call : NfsCall) → when.create_over_directory binds other call ≡ when.create_over_directory binds tree call
  over_directory (calls.Create call) = kind_test (λ content. when.is_unchecked call.mode && is_directory content) (λ bytes file. refl) call.place
  over_directory _ = refl

  remove_directory : (call : NfsCall) → when.remove_of_directory binds other call ≡ when.remove_of_directory binds tree call
  remove_directory (calls.Remove place) = kind_test is_directory (λ bytes file. refl) place
  remove_directory _ = refl

  rmdir_no_directory : (call : NfsCall) → when.rmdir_of_no_directory binds other call ≡ when.rmdir_of_no_directory binds tree call
  rmdir_no_directory (calls.RmDir place) = kind_test (λ content. not (is_directory content)) (λ bytes file. refl) place
  rmdir_no_directory _ = refl

  rmdir_filled : (call : NfsCall) → when.rmdir_of_filled_directory binds other call ≡ when.rmdir_of_filled_directory binds tree call
  rmdir_filled (calls.RmDir place) =
      ap (λ o. option_map_or (when.is_filled_directory other) o false) (seen.names fill fills tree other alike binds place) ∙ go (named binds tree place) where
        go : (o : Option (Names × Node)) → option_map_or (when.is_filled_directory other) (option_map (filled fill) o) false ≡ option_map_or (when.is_filled_directory tree) o false
        go None = refl
        go (Some e) = filled_kind e
  rmdir_filled _ = refl

  -- ---- causes of a RENAME

  module _ (call : NfsCall) where
    source : when_renamed.source_of binds other call ≡ option_map (filled fill) (when_renamed.source_of binds tree call)
    source = go call where
      go : (call : NfsCall) → when_renamed.source_of binds other call ≡ option_map (filled fill) (when_renamed.source_of binds tree call)
      go (calls.Rename call) = seen.names fill fills tree other alike binds call.from
      go _ = refl

    target : when_renamed.target_of binds other call ≡ option_map (filled fill) (when_renamed.target_of binds tree call)
    target = go call where
      go : (call : NfsCall) → when_renamed.target_of binds other call ≡ option_map (filled fill) (when_renamed.target_of binds tree call)
      go (calls.Rename call) = seen.names fill fills tree other alike binds call.to
      go _ = refl

    target_path : when_renamed.target_path binds other call ≡ when_renamed.target_path binds tree call
    target_path = go (asked.second_place call) where
      go : (o : Option DirectoryName) → option_and_then (λ place. option_map (λ (path : Names). path ++ place.name ∷ []) (directory_of binds other place.directory)) o
          ≡ option_and_then (λ place. option_map (λ (path : Names). path ++ place.name ∷ []) (directory_of binds tree place.directory)) o
      go None = refl
      go (Some place) = ap (option_map (λ (path : Names). path ++ place.name ∷ [])) (seen.directories fill fills tree other alike binds place.directory)

    source_test : (test : Content → Bool) → ((bytes : List ℕ) (file : File) → test (contents.File (record { bytes = bytes; verifier = file.verifier })) ≡ test (contents.File file))
        → option_map_or (λ (e : Names × Node). test e.1.content) (when_renamed.source_of binds other call) false
        ≡ option_map_or (λ (e : Names × Node). test e.1.content) (when_renamed.source_of binds tree call) false
    source_test test same =
        ap (λ o. option_map_or (λ (e : Names × Node). test e.1.content) o false) source
        ∙ test_mapped (λ (e : Names × Node). test e.1.content) (filled fill) (when_renamed.source_of binds tree call) false (λ e. same_kind fill fills test same e.1)

    target_test : (test : Content → Bool) → ((bytes : List ℕ) (file : File) → test (contents.File (record { bytes = bytes; verifier = file.verifier })) ≡ test (contents.File file))
        → option_map_or (λ (e : Names × Node). test e.1.content) (when_renamed.target_of binds other call) false
        ≡ option_map_or (λ (e : Names × Node). test e.1.content) (when_renamed.target_of binds tree call) false
    target_test test same =
        ap (λ o. option_map_or (λ (e : Names × Node). test e.1.content) o false) target
        ∙ test_mapped (λ (e : Names × Node). test e.1.content) (filled fill) (when_renamed.target_of binds tree call) false (λ e. same_kind fill fills test same e.1)

    onto_filled : when_renamed.rename_onto_filled_directory binds other call ≡ when_renamed.rename_onto_filled_directory binds tree call
    onto_filled =
        ap (λ o. option_map_or (λ (s : Names × Node). option_map_or (λ (t : Names × Node). not (same_path s.0 t.0) && when.is_filled_directory other t) (when_renamed.target_of binds other call) false) o false) source
        ∙ ap (λ o. option_map_or (λ (s : Names × Node). option_map_or (λ (t : Names × Node). not (same_path s.0 t.0) && when.is_filled_directory other t) o false) (option_map (filled fill) (when_renamed.source_of binds tree call)) false) target
        ∙ go (when_renamed.source_of binds tree call) (when_renamed.target_of binds tree call) where
          go : (s t : Option (Names × Node))
              → option_map_or (λ (s : Names × Node). option_map_or (λ (t : Names × Node). not (same_path s.0 t.0) && when.is_filled_directory other t) (option_map (filled fill) t) false) (option_map (filled fill) s) false
              ≡ option_map_or (λ (s : Names × Node). option_map_or (λ (t : Names × Node). not (same_path s.0 t.0) && when.is_filled_directory tree t) t false) s false
          go None t = refl
          go (Some s) None = refl
          go (Some s) (Some t) = ap (λ b. not (same_path s.0 t.0) && b) (filled_kind t)

    below_itself : when_renamed.rename_below_itself binds other call ≡ when_renamed.rename_below_itself binds tree call
    below_itself =
        ap (λ o. option_map_or (λ (s : Names × Node). is_directory s.1.content && option_map_or (λ q. is_below q s.0) o false) (when_renamed.source_of binds other call) false) target_path
        ∙ ap (λ o. option_map_or (λ (s : Names × Node). is_directory s.1.content && option_map_or (λ q. is_below q s.0) (when_renamed.target_path binds tree call) false) o false) source
        ∙ test_mapped (λ (s : Names × Node). is_directory s.1.content && option_map_or (λ q. is_below q s.0) (when_renamed.target_path binds tree call) false) (filled fill) (when_renamed.source_of binds tree call) false
        (λ s. ap (λ b. b && option_map_or (λ q. is_below q s.0) (when_renamed.target_path binds tree call) false) (same_kind fill fills is_directory (λ bytes file. refl) s.1))

    -- ---- the table

    holds : (why : Cause) → (row why).holds binds other call ≡ (row why).holds binds tree call
    holds cause.HandleIsntLive =
        ap (λ b. b || option_map_or (when.isnt_live binds other) (asked.second_handle call) false) (isnt_live (asked.first_handle call))
        ∙ ap (λ b. when.isnt_live binds tree (asked.first_handle call) || b) (same_on (when.isnt_live binds other) (when.isnt_live binds tree) (asked.second_handle call) false isnt_live)
    holds cause.HandleOfNoDirectory =
        ap (λ b. (asked.wants_directory call && b) || option_map_or (when.is_of_no_directory binds other) (asked.second_handle call) false) (no_directory (asked.first_handle call))
        ∙ ap (λ b. (asked.wants_directory call && when.is_of_no_directory binds tree (asked.first_handle call)) || b)
        (same_on (when.is_of_no_directory binds other) (when.is_of_no_directory binds tree) (asked.second_handle call) false no_directory)
    holds cause.ReadLinkOfNoLink = read_no_link call
    holds cause.FileIsDirectory = same_on (when.is_of_directory binds other) (when.is_of_directory binds tree) (asked.file_wanted call) false of_directory
    holds cause.FileIsLink = same_on (when.is_of_link binds other) (when.is_of_link binds tree) (asked.file_wanted call) false of_link
    holds cause.NameIsAbsent = same_on (when.is_absent binds other) (when.is_absent binds tree) (asked.entry_wanted call) false is_absent
    holds cause.NameIsPresent = is_present call
    holds cause.CreateOverDirectory = over_directory call
    holds cause.RemoveOfDirectory = remove_directory call
    holds cause.RmDirOfNoDirectory = rmdir_no_directory call
    holds cause.RmDirOfFilledDirectory = rmdir_filled call
    holds cause.RenameOntoNoDirectory =
        ap (λ b. b && option_map_or (λ (t : Names × Node). not (is_directory t.1.content)) (when_renamed.target_of binds other call) false) (source_test is_directory (λ bytes file. refl))
        ∙ ap (λ b. option_map_or (λ (s : Names × Node). is_directory s.1.content) (when_renamed.source_of binds tree call) false && b) (target_test (λ content. not (is_directory content)) (λ bytes file. refl))
    holds cause.RenameOntoDirectory =
        ap (λ b. b && option_map_or (λ (t : Names × Node). is_directory t.1.content) (when_renamed.target_of binds other call) false) (source_test (λ content. not (is_directory content)) (λ bytes file. refl))
        ∙ ap (λ b. option_map_or (λ (s : Names × Node). not (is_directory s.1.content)) (when_renamed.source_of binds tree call) false && b) (target_test is_directory (λ bytes file. refl))
    holds cause.RenameOntoFilledDirectory = onto_filled
    holds cause.RenameBelowItself = below_itself
    holds cause.NameIsntPlain = refl
    holds cause.NameHasOddByte = refl
    holds cause.SetAttrWithGuard = refl
    holds cause.ListingWithCookie = refl
    holds cause.AnyListing = refl

    pub permitted : (failure : Failure) → is_permitted binds other call failure ≡ is_permitted binds tree call failure
    permitted failure =
        ap (λ b. not (is_judged_status failure) || b) (any_on (is_caused_by binds other call failure) (is_caused_by binds tree call failure) causes
        (λ why. ap (λ b. list_any (same_status failure) (row why).statuses && b) (holds why)))
