-- what a call sees of a tree with its files filled: names, kinds and objects are those of the tree
use Rattle.std.proofs.Common.{◌≡◌, ℕ, Bool, true, false, cond, List, [], ◌∷◌, ◌++◌, length, map, Option, Some, None, refl, sym, ap, ◌∙◌}
use Rattle.std.specs.Prelude.{◌==◌, ◌&&◌, ◌||◌, not, find, is_some, is_none, IfSome, option_and_then, option_map}
use Rattle.std.specs.Option.{option_map_or}
use Rattle.std.specs.List.{list_any, list_all}
use Rattle.std.specs.FinMap as finite
use Rattle.nfs3_types.specs.declared.calls.DirectoryName.{DirectoryName}
use Rattle.nfs3_types.specs.declared.calls.ReadDirArguments.{ReadDirArguments}
use Rattle.nfs3_types.specs.declared.calls.ReadDirPlusArguments.{ReadDirPlusArguments}
use Rattle.nfs3_types.specs.declared.replies.Answer.TheVariants.{Done}
use Rattle.nfs3_types.specs.declared.replies.DirectoryEntryPlus.{DirectoryEntryPlus}
use Rattle.nfs3_types.specs.declared.replies.NfsReply.{NfsReply}
use Rattle.nfs3_types.specs.declared.replies.NfsReply.TheVariants as replies
use Rattle.tree_nodes.specs.declared.node.Node.{Node}
use Rattle.tree_nodes.specs.declared.node.File.{File}
use Rattle.tree_nodes.specs.declared.node.Content.{Content}
use Rattle.tree_nodes.specs.declared.node.Content.TheVariants as contents
use Rattle.tree_nodes.specs.Tree.{Names, Tree, parent, is_below, is_bare, entry_of}
use Rattle.tree_handles.specs.Binding.{Bindings, object_of, is_bound, gives_object}
use Rattle.tree_handles.specs.Live.{live_entry, as_directory, directory_of, as_file, file_of}
use Rattle.tree_handles.specs.Entry.{entry_at, named}
use Rattle.tree_starts.specs.Names.{is_plain, is_dot, is_two_dots}
use Rattle.tree_answers.specs.Look as look
use Rattle.tree_answers.specs.Listing as listing
use Rattle.tree_answers.specs.Causes.{content_of}
use Rattle.alike_calls.specs.Alike.{FillsFiles, Alike}
use Rattle.alike_calls.proofs.Parts.{all_on, some_mapped, none_mapped, test_mapped, then_mapped, map_mapped, same_kind}
use Rattle.alike_calls.proofs.Changes.{filled, lengths, at_paths}

module _ (fill : Node → Node) (fills : FillsFiles fill) where
  -- ---- lists of entries

  finds_object : (es : List (Names × Node)) (object : ℕ) → find (λ e. e.1.object == object) (map (filled fill) es) ≡ option_map (filled fill) (find (λ e. e.1.object == object) es)
  finds_object [] object = refl
  finds_object (e ∷ es) object =
      ap (λ n. cond (n == object) (Some (filled fill e)) (find (λ e. e.1.object == object) (map (filled fill) es))) (fills.object e.1) ∙ go (e.1.object == object) (finds_object es object) where
        go : (b : Bool) → find (λ e. e.1.object == object) (map (filled fill) es) ≡ option_map (filled fill) (find (λ e. e.1.object == object) es)
            → cond b (Some (filled fill e)) (find (λ e. e.1.object == object) (map (filled fill) es)) ≡ option_map (filled fill) (cond b (Some e) (find (λ e. e.1.object == object) es))
        go true rest = refl
        go false rest = rest

  any_below : (es : List (Names × Node)) (path : Names) → list_any (λ e. is_below e.0 path) (map (filled fill) es) ≡ list_any (λ e. is_below e.0 path) es
  any_below [] path = refl
  any_below (e ∷ es) path = ap (λ b. is_below e.0 path || b) (any_below es path)

  all_paths : (test : Names → Bool) (es : List (Names × Node)) → list_all (λ e. test e.0) (map (filled fill) es) ≡ list_all (λ e. test e.0) es
  all_paths test [] = refl
  all_paths test (e ∷ es) = ap (λ b. test e.0 && b) (all_paths test es)

  module _ (tree other : Tree) (alike : Alike fill tree other) where
    -- ---- what stands where

    pub gets : (path : Names) → finite.get other path ≡ option_map fill (finite.get tree path)
    gets path = at_paths fill tree other alike path

    pub lens : finite.len other ≡ finite.len tree
    lens = finite.len-entries other ∙ ap length alike ∙ lengths fill (finite.entries tree) ∙ sym (finite.len-entries tree)

    pub stands : (object : ℕ) → entry_of other object ≡ option_map (filled fill) (entry_of tree object)
    stands object = ap (find (λ e. e.1.object == object)) alike ∙ finds_object (finite.entries tree) object

    pub unused : (object : ℕ) → is_none (entry_of other object) ≡ is_none (entry_of tree object)
    unused object = ap is_none (stands object) ∙ none_mapped (filled fill) (entry_of tree object)

    pub bare : (path : Names) → is_bare other path ≡ is_bare tree path
    bare path = ap not (ap (list_any (λ e. is_below e.0 path)) alike ∙ any_below (finite.entries tree) path)

    pub absent : (path : Names) → is_none (finite.get other path) ≡ is_none (finite.get tree path)
    absent path = ap is_none (gets path) ∙ none_mapped fill (finite.get tree path)

    pub entries_at : (directory : Names) (name : List ℕ) → entry_at other directory name ≡ option_map fill (entry_at tree directory name)
    entries_at directory name = go (is_plain name) where
      go : (b : Bool) → cond b (finite.get other (directory ++ name ∷ [])) None ≡ option_map fill (cond b (finite.get tree (directory ++ name ∷ [])) None)
      go true = gets (directory ++ name ∷ [])
      go false = refl

    objects_at : (node : Option Node) → look.object_at (option_map fill node) ≡ look.object_at node
    objects_at node = map_mapped (λ (n : Node). n.object) fill node fills.object

    pub objects_named : (directory : Names) (name : List ℕ) → look.object_named other directory name ≡ look.object_named tree directory name
    objects_named directory name = go (is_dot name) (is_two_dots name) where
      go : (one two : Bool) → cond one (look.object_at (finite.get other directory)) (cond two (look.object_at (finite.get other (parent directory))) (look.object_at (entry_at other directory name)))
          ≡ cond one (look.object_at (finite.get tree directory)) (cond two (look.object_at (finite.get tree (parent directory))) (look.object_at (entry_at tree directory name)))
      go true two = ap look.object_at (gets directory) ∙ objects_at (finite.get tree directory)
      go false true = ap look.object_at (gets (parent directory)) ∙ objects_at (finite.get tree (parent directory))
      go false false = ap look.object_at (entries_at directory name) ∙ objects_at (entry_at tree directory name)

    -- ---- what handles and places name

    module _ (binds : Bindings) where
      pub live : (handle : List ℕ) → live_entry binds other handle ≡ option_map (filled fill) (live_entry binds tree handle)
      live handle = go (object_of binds handle) where
        go : (object : Option ℕ) → option_and_then (entry_of other) object ≡ option_map (filled fill) (option_and_then (entry_of tree) object)
        go None = refl
        go (Some object) = stands object

      pub directories : (handle : List ℕ) → directory_of binds other handle ≡ directory_of binds tree handle
      directories handle =
          ap (option_and_then (λ (e : Names × Node). as_directory e.0 e.1.content)) (live handle)
          ∙ then_mapped (λ (e : Names × Node). as_directory e.0 e.1.content) (filled fill) (live_entry binds tree handle) (λ e. same_kind fill fills (as_directory e.0) (λ bytes file. refl) e.1)

      pub names : (place : DirectoryName) → named binds other place ≡ option_map (filled fill) (named binds tree place)
      names place =
          ap (option_and_then (λ directory. option_map (λ (node : Node). (directory ++ place.name ∷ [], node)) (entry_at other directory place.name))) (directories place.directory)
          ∙ go (directory_of binds tree place.directory) where
            with_path : (path : Names) (node : Option Node) → option_map (λ (n : Node). (path, n)) (option_map fill node) ≡ option_map (filled fill) (option_map (λ (n : Node). (path, n)) node)
            with_path path None = refl
            with_path path (Some node) = refl

            go : (o : Option Names) → option_and_then (λ directory. option_map (λ (node : Node). (directory ++ place.name ∷ [], node)) (entry_at other directory place.name)) o
                ≡ option_map (filled fill) (option_and_then (λ directory. option_map (λ (node : Node). (directory ++ place.name ∷ [], node)) (entry_at tree directory place.name)) o)
            go None = refl
            go (Some directory) =
                ap (option_map (λ (node : Node). (directory ++ place.name ∷ [], node))) (entries_at directory place.name) ∙ with_path (directory ++ place.name ∷ []) (entry_at tree directory place.name)

      -- a test of what a handle names, and of what a place names
      pub live_test : (test : Names × Node → Bool) (handle : List ℕ) → ((e : Names × Node) → test (filled fill e) ≡ test e)
          → option_map_or test (live_entry binds other handle) false ≡ option_map_or test (live_entry binds tree handle) false
      live_test test handle same = ap (λ o. option_map_or test o false) (live handle) ∙ test_mapped test (filled fill) (live_entry binds tree handle) false same

      pub named_test : (test : Names × Node → Bool) (place : DirectoryName) → ((e : Names × Node) → test (filled fill e) ≡ test e)
          → option_map_or test (named binds other place) false ≡ option_map_or test (named binds tree place) false
      named_test test place same = ap (λ o. option_map_or test o false) (names place) ∙ test_mapped test (filled fill) (named binds tree place) false same

      pub content_test : (test : Content → Bool) (handle : List ℕ)
          → ((bytes : List ℕ) (file : File) → test (contents.File (record { bytes = bytes; verifier = file.verifier })) ≡ test (contents.File file))
          → option_map_or test (content_of binds other handle) false ≡ option_map_or test (content_of binds tree handle) false
      content_test test handle same = ap (λ o. option_map_or test (option_map (λ (e : Names × Node). e.1.content) o) false) (live handle) ∙ go (live_entry binds tree handle) where
        go : (o : Option (Names × Node)) → option_map_or test (option_map (λ (e : Names × Node). e.1.content) (option_map (filled fill) o)) false
            ≡ option_map_or test (option_map (λ (e : Names × Node). e.1.content) o) false
        go None = refl
        go (Some e) = same_kind fill fills test same e.1

      pub is_live : (handle : List ℕ) → is_some (live_entry binds other handle) ≡ is_some (live_entry binds tree handle)
      is_live handle = ap is_some (live handle) ∙ some_mapped (filled fill) (live_entry binds tree handle)

      pub isnt_named : (place : DirectoryName) → is_none (named binds other place) ≡ is_none (named binds tree place)
      isnt_named place = ap is_none (names place) ∙ none_mapped (filled fill) (named binds tree place)

      pub is_named : (place : DirectoryName) → is_some (named binds other place) ≡ is_some (named binds tree place)
      is_named place = ap is_some (names place) ∙ some_mapped (filled fill) (named binds tree place)

      -- whether a handle names a file
      pub is_of_file : (handle : List ℕ) → is_some (file_of binds other handle) ≡ is_some (file_of binds tree handle)
      is_of_file handle = ap (λ o. is_some (option_and_then (λ (e : Names × Node). as_file e.0 e.1.object e.1.content) o)) (live handle) ∙ go (live_entry binds tree handle) where
        go : (o : Option (Names × Node)) → is_some (option_and_then (λ (e : Names × Node). as_file e.0 e.1.object e.1.content) (option_map (filled fill) o))
            ≡ is_some (option_and_then (λ (e : Names × Node). as_file e.0 e.1.object e.1.content) o)
        go None = refl
        go (Some e) =
            ap (λ object. is_some (as_file e.0 object (fill e.1).content)) (fills.object e.1) ∙ same_kind fill fills (λ content. is_some (as_file e.0 e.1.object content)) (λ bytes file. refl) e.1

      -- what is left is what it is in the tree
      stays : (o : Option (Names × Node)) → IfSome o (λ e. fill e.1 ≡ e.1) → option_map (filled fill) o ≡ o
      stays None left = refl
      stays (Some e) left = ap (λ (n : Node). Some (e.0, n)) left

      pub live_left : (handle : List ℕ) → IfSome (live_entry binds tree handle) (λ e. fill e.1 ≡ e.1) → live_entry binds other handle ≡ live_entry binds tree handle
      live_left handle left = live handle ∙ stays (live_entry binds tree handle) left

      -- ---- calls that look, but for GETATTR and READ

      pub lookup_is_legal : (place : DirectoryName) (reply : NfsReply) → look.lookup_is_legal binds other place reply ≡ look.lookup_is_legal binds tree place reply
      lookup_is_legal place (replies.Lookup (Done success)) =
          ap (λ o. option_map_or (look.is_object_named binds other place success.object) o false) (directories place.directory) ∙ go (directory_of binds tree place.directory) where
            go : (o : Option Names) → option_map_or (look.is_object_named binds other place success.object) o false ≡ option_map_or (look.is_object_named binds tree place success.object) o false
            go None = refl
            go (Some directory) = ap (λ (o : Option ℕ). option_map_or (is_bound binds success.object) o false) (objects_named directory place.name)
      lookup_is_legal place _ = refl

      pub readlink_is_legal : (link : List ℕ) (reply : NfsReply) → look.readlink_is_legal binds other link reply ≡ look.readlink_is_legal binds tree link reply
      readlink_is_legal link (replies.ReadLink (Done success)) =
          live_test (λ e. look.has_text e.1.content success.target) link (λ e. same_kind fill fills (λ content. look.has_text content success.target) (λ bytes file. refl) e.1)
      readlink_is_legal link _ = refl

      pub commit_is_legal : (file : List ℕ) (reply : NfsReply) → look.commit_is_legal binds other file reply ≡ look.commit_is_legal binds tree file reply
      commit_is_legal file (replies.Commit (Done success)) = is_of_file file
      commit_is_legal file _ = refl

      may_be : (directory : Names) (name : List ℕ) → listing.may_be_listed other directory name ≡ listing.may_be_listed tree directory name
      may_be directory name = ap (λ b. is_dot name || is_two_dots name || b) (ap is_some (entries_at directory name) ∙ some_mapped fill (entry_at tree directory name))

      all_listed : (directory : Names) (listed : List (List ℕ)) → listing.are_all_listed other directory listed ≡ listing.are_all_listed tree directory listed
      all_listed directory listed = ap (list_all (λ e. listing.is_listed listed directory e.0)) alike ∙ all_paths (listing.is_listed listed directory) (finite.entries tree)

      lists : (directory : Names) (cookie : ℕ) (eof : Bool) (listed : List (List ℕ)) → listing.is_listing other directory cookie eof listed ≡ listing.is_listing tree directory cookie eof listed
      lists directory cookie eof listed =
          ap (λ b. listing.are_distinct listed && b && (not ((cookie == 0) && eof) || listing.are_all_listed other directory listed))
          (all_on (listing.may_be_listed other directory) (listing.may_be_listed tree directory) listed (may_be directory))
          ∙ ap (λ b. listing.are_distinct listed && list_all (listing.may_be_listed tree directory) listed && (not ((cookie == 0) && eof) || b)) (all_listed directory listed)

      has_handle : (directory : Names) (entry : DirectoryEntryPlus) → listing.has_its_handle binds other directory entry ≡ listing.has_its_handle binds tree directory entry
      has_handle directory entry =
          ap (λ o. option_map_or (λ (node : Node). gives_object binds entry.object node.object) o true) (entries_at directory entry.name)
          ∙ test_mapped (λ (node : Node). gives_object binds entry.object node.object) fill (entry_at tree directory entry.name) true (λ node. ap (gives_object binds entry.object) (fills.object node))

      pub readdir_is_legal : (call : ReadDirArguments) (reply : NfsReply) → listing.readdir_is_legal binds other call reply ≡ listing.readdir_is_legal binds tree call reply
      readdir_is_legal call (replies.ReadDir (Done success)) =
          ap (λ o. option_map_or (λ directory. listing.is_listing other directory call.cookie success.eof (listing.listed_names success)) o false) (directories call.directory)
          ∙ go (directory_of binds tree call.directory) where
            go : (o : Option Names) → option_map_or (λ directory. listing.is_listing other directory call.cookie success.eof (listing.listed_names success)) o false
                ≡ option_map_or (λ directory. listing.is_listing tree directory call.cookie success.eof (listing.listed_names success)) o false
            go None = refl
            go (Some directory) = lists directory call.cookie success.eof (listing.listed_names success)
      readdir_is_legal call _ = refl

      pub readdirplus_is_legal : (call : ReadDirPlusArguments) (reply : NfsReply) → listing.readdirplus_is_legal binds other call reply ≡ listing.readdirplus_is_legal binds tree call reply
      readdirplus_is_legal call (replies.ReadDirPlus (Done success)) =
          ap (λ o. option_map_or (λ directory. listing.is_listing other directory call.cookie success.eof (listing.listed_names_plus success)
          && list_all (listing.has_its_handle binds other directory) success.entries) o false) (directories call.directory)
          ∙ go (directory_of binds tree call.directory) where
            go : (o : Option Names)
                → option_map_or (λ directory. listing.is_listing other directory call.cookie success.eof (listing.listed_names_plus success)
                && list_all (listing.has_its_handle binds other directory) success.entries) o false
                ≡ option_map_or (λ directory. listing.is_listing tree directory call.cookie success.eof (listing.listed_names_plus success)
                && list_all (listing.has_its_handle binds tree directory) success.entries) o false
            go None = refl
            go (Some directory) =
                ap (λ b. b && list_all (listing.has_its_handle binds other directory) success.entries) (lists directory call.cookie success.eof (listing.listed_names_plus success))
                ∙ ap (λ b. listing.is_listing tree directory call.cookie success.eof (listing.listed_names_plus success) && b)
                (all_on (listing.has_its_handle binds other directory) (listing.has_its_handle binds tree directory) success.entries (has_handle directory))
      readdirplus_is_legal call _ = refl
