-- calls that touch no filled file lead to trees that are alike
use Rattle.std.proofs.Common.{◌≡◌, ℕ, Bool, true, false, cond, List, [], ◌∷◌, ◌++◌, length, take, Option, Some, None, refl, sym, ap, ◌∙◌, subst}
use Rattle.std.specs.Prelude.{◌&&◌, ◌==◌, ◌+◌, max, not, nat_le, nat_lt, is_some, is_none, replicate, IfSome, option_and_then, option_map}
use Rattle.std.specs.FinMap as finite
use Rattle.nfs3_types.specs.Limits.{file_limit}
use Rattle.nfs3_types.specs.Procedures.{is_answered, failure_in}
use Rattle.nfs3_types.specs.declared.calls.CreateArguments.{CreateArguments}
use Rattle.nfs3_types.specs.declared.calls.CreateMode.{CreateMode}
use Rattle.nfs3_types.specs.declared.calls.CreateMode.TheVariants.{Unchecked, Guarded, Exclusive}
use Rattle.nfs3_types.specs.declared.calls.DirectoryName.{DirectoryName}
use Rattle.nfs3_types.specs.declared.calls.NfsCall.{NfsCall}
use Rattle.nfs3_types.specs.declared.calls.NfsCall.TheVariants as calls
use Rattle.nfs3_types.specs.declared.calls.RenameArguments.{RenameArguments}
use Rattle.nfs3_types.specs.declared.calls.SetAttrArguments.{SetAttrArguments}
use Rattle.nfs3_types.specs.declared.calls.StableHow.{StableHow}
use Rattle.nfs3_types.specs.declared.calls.WriteArguments.{WriteArguments}
use Rattle.nfs3_types.specs.declared.replies.Answer.TheVariants.{Done}
use Rattle.nfs3_types.specs.declared.replies.NfsReply.{NfsReply}
use Rattle.nfs3_types.specs.declared.replies.NfsReply.TheVariants as replies
use Rattle.nfs3_types.specs.declared.replies.Outcome.{Outcome}
use Rattle.nfs3_types.specs.declared.replies.Outcome.TheVariants.{Received, Taken}
use Rattle.nfs3_types.specs.declared.status.Failure.{Failure}
use Rattle.tree_nodes.specs.declared.node.Node.{Node}
use Rattle.tree_nodes.specs.declared.node.File.{File}
use Rattle.tree_nodes.specs.declared.node.Content.{Content}
use Rattle.tree_nodes.specs.declared.node.Content.TheVariants as contents
use Rattle.tree_nodes.specs.Files.{node_limit, file_node}
use Rattle.tree_stores.specs.Files.{resized, written as overwritten}
use Rattle.tree_nodes.specs.Tree.{Names, Tree, same_path, entry_of, is_bare}
use Rattle.tree_nodes.specs.Moved.{is_from}
use Rattle.tree_nodes.proofs.Chains.{mapped}
use Rattle.tree_handles.specs.Binding.{Bindings, gives_object}
use Rattle.tree_handles.specs.Live.{FileEntry, live_entry, directory_of, as_file, file_of}
use Rattle.tree_handles.specs.Entry.{named}
use Rattle.tree_handles.specs.Kind.{is_directory}
use Rattle.tree_starts.specs.Names.{is_plain}
use Rattle.tree_answers.specs.Look as look
use Rattle.tree_answers.specs.Listing as listing
use Rattle.tree_answers.specs.Failure.{is_permitted}
use Rattle.file_tree.specs.Change.{Change}
use Rattle.file_tree.specs.Change.Change.{Keep, Put, Remove, Move}
use Rattle.file_tree.specs.Made as made
use Rattle.file_tree.specs.Written as written
use Rattle.file_tree.specs.Removed as removed
use Rattle.file_tree.specs.Success.{changed, change_done, change_answered, change_taken, change_of, next_tree}
use Rattle.alike_calls.specs.Alike.{IsFilling, FillsFiles, Alike, LeavesObject, LeavesPut, IsUntouched, GoesAlike, sets_size, entry_read_or_set, entry_touched, object_touched, content_with, with_bytes}
use Rattle.alike_calls.proofs.Parts.{map_mapped, when_set, of_mapped, if_turned, if_then}
use Rattle.alike_calls.proofs.Changes.{filled, changed_alike}
use Rattle.alike_calls.proofs.Seen as seen
use Rattle.alike_calls.proofs.Made.{same_change}

module _ (fill : Node → Node) where
  -- what is put, if anything is, is left
  abbrev pub PutIsLeft : Option Change → Type 0
  PutIsLeft change = IfSome change (LeavesPut fill)

  -- the object of an entry is left
  abbrev pub ObjectIsLeft : Option (Names × Node) → Type 0
  ObjectIsLeft entry = IfSome entry (λ e. LeavesObject fill e.1.object)

  kept : (b : Bool) → PutIsLeft (made.only_if b Keep)
  kept true = tt
  kept false = tt

  put_if : (b : Bool) (change : Change) → LeavesPut fill change → PutIsLeft (made.only_if b change)
  put_if true change left = left
  put_if false change left = tt

  all_then : {X : Type 0} (f : X → Option Change) (o : Option X) → ((x : X) → PutIsLeft (f x)) → PutIsLeft (option_and_then f o)
  all_then f None each = tt
  all_then f (Some x) each = each x

  -- ---- sizes and bytes

  sized : (path : Names) (object : ℕ) (file : File) (size : Option ℕ) → LeavesObject fill object → PutIsLeft (made.set_size path object file size)
  sized path object file None left = tt
  sized path object file (Some size) left =
      put_if (nat_le size file_limit) (Put path (file_node object (resized file.bytes size) file.verifier)) (left (file_node object (resized file.bytes size) file.verifier) refl)

  at_file : (path : Names) (object : ℕ) (content : Content) → LeavesObject fill object → IfSome (as_file path object content) (λ (f : FileEntry). LeavesObject fill f.object)
  at_file path object contents.Directory left = tt
  at_file path object (contents.File file) left = left
  at_file path object (contents.Link target) left = tt

  module _ (binds : Bindings) (tree : Tree) where
    of_file : (handle : List ℕ) → ObjectIsLeft (live_entry binds tree handle) → IfSome (file_of binds tree handle) (λ (f : FileEntry). LeavesObject fill f.object)
    of_file handle left =
        if_then (λ (e : Names × Node). LeavesObject fill e.1.object) (λ (f : FileEntry). LeavesObject fill f.object) (λ e. as_file e.0 e.1.object e.1.content) (live_entry binds tree handle)
        (λ e left. at_file e.0 e.1.object e.1.content left) left

    wrote : (call : WriteArguments) (count : ℕ) (level : Option StableHow) → ObjectIsLeft (live_entry binds tree call.file) → PutIsLeft (written.write_change binds tree call count level)
    wrote call count level left =
        if_then (λ (f : FileEntry). LeavesObject fill f.object) (LeavesPut fill) to (file_of binds tree call.file)
        (λ f left. allowed f (nat_le count call.count && nat_le count (length call.bytes) && written.reaches call.level level) left) (of_file call.file left) where
          to : FileEntry → Option Change
          to f = cond (nat_le count call.count && nat_le count (length call.bytes) && written.reaches call.level level) (written.write_at f call.offset (take count call.bytes)) None

          at_offset : (f : FileEntry) (added : List ℕ) (empty : Bool) → LeavesObject fill f.object
              → PutIsLeft (cond empty (Some Keep) (made.only_if (nat_le (max (length f.file.bytes) (call.offset + length added)) file_limit) (Put f.path (file_node f.object (overwritten f.file.bytes call.offset added) f.file.verifier))))
          at_offset f added true left = tt
          at_offset f added false left =
              put_if (nat_le (max (length f.file.bytes) (call.offset + length added)) file_limit) (Put f.path (file_node f.object (overwritten f.file.bytes call.offset added) f.file.verifier))
              (left (file_node f.object (overwritten f.file.bytes call.offset added) f.file.verifier) refl)

          allowed : (f : FileEntry) (b : Bool) → LeavesObject fill f.object → PutIsLeft (cond b (written.write_at f call.offset (take count call.bytes)) None)
          allowed f true left = at_offset f (take count call.bytes) (length (take count call.bytes) == 0) left
          allowed f false left = tt

    set : (call : SetAttrArguments) → ObjectIsLeft (cond (is_some call.attributes.size) (live_entry binds tree call.object) None) → PutIsLeft (written.set_attributes binds tree call)
    set call left = go (is_some call.attributes.size) left where
      go : (b : Bool) → ObjectIsLeft (cond b (live_entry binds tree call.object) None)
          → PutIsLeft (cond b (option_and_then (λ (f : FileEntry). made.set_size f.path f.object f.file call.attributes.size) (file_of binds tree call.object)) (made.only_if (is_some (live_entry binds tree call.object)) Keep))
      go true left =
          if_then (λ (f : FileEntry). LeavesObject fill f.object) (LeavesPut fill) (λ f. made.set_size f.path f.object f.file call.attributes.size) (file_of binds tree call.object)
          (λ f left. sized f.path f.object f.file call.attributes.size left) (of_file call.object left)
      go false left = kept (is_some (live_entry binds tree call.object))

    -- ---- entries that are made

    module _ (number : ℕ) (fresh : LeavesObject fill number) where
      over_file : (mode : CreateMode) (path : Names) (object : ℕ) (file : File) → (sets_size mode ≡ true → LeavesObject fill object) → PutIsLeft (made.create_over mode path object file)
      over_file (Unchecked attributes) path object file left = go attributes.size left where
        go : (size : Option ℕ) → (is_some size ≡ true → LeavesObject fill object) → PutIsLeft (made.set_size path object file size)
        go None left = tt
        go (Some size) left = sized path object file (Some size) (left refl)
      over_file (Guarded attributes) path object file left = tt
      over_file (Exclusive verifier) path object file left = kept (made.made_by file.verifier verifier)

      present : (mode : CreateMode) (handle : Option (List ℕ)) (path : Names) (object : ℕ) (content : Content) → (sets_size mode ≡ true → LeavesObject fill object)
          → PutIsLeft (made.create_present binds mode handle path object content)
      present mode handle path object contents.Directory left = tt
      present mode handle path object (contents.File file) left = go (gives_object binds handle object) where
        go : (b : Bool) → PutIsLeft (cond b (made.create_over mode path object file) None)
        go true = over_file mode path object file left
        go false = tt
      present mode handle path object (contents.Link target) left = tt

      at_node : (mode : CreateMode) (handle : Option (List ℕ)) (path : Names) (node : Option Node) → (sets_size mode ≡ true → ObjectIsLeft (option_map (λ (n : Node). (path, n)) node))
          → PutIsLeft (made.create_at binds tree number mode handle path node)
      at_node mode handle path None left =
          put_if (is_none (entry_of tree number) && nat_lt (finite.len tree) node_limit && nat_le (made.first_size mode) file_limit && gives_object binds handle number)
          (Put path (file_node number (replicate (made.first_size mode) 0) (made.first_verifier mode))) (fresh (file_node number (replicate (made.first_size mode) 0) (made.first_verifier mode)) refl)
      at_node mode handle path (Some node) left = present mode handle path node.object node.content left

      created : (call : CreateArguments) (handle : Option (List ℕ)) → ObjectIsLeft (cond (sets_size call.mode) (named binds tree call.place) None)
          → PutIsLeft (made.create_change binds tree number call handle)
      created call handle left = go (directory_of binds tree call.place.directory) (when_set (λ e. LeavesObject fill e.1.object) (sets_size call.mode) (named binds tree call.place) left) where
        at_name : (plain : Bool) (path : Names) → (sets_size call.mode ≡ true → ObjectIsLeft (option_map (λ (n : Node). (path, n)) (cond plain (finite.get tree path) None)))
            → PutIsLeft (cond plain (made.create_at binds tree number call.mode handle path (finite.get tree path)) None)
        at_name true path left = at_node call.mode handle path (finite.get tree path) left
        at_name false path left = tt

        go : (o : Option Names)
            → (sets_size call.mode ≡ true → ObjectIsLeft (option_and_then (λ directory. option_map (λ (n : Node). (directory ++ call.place.name ∷ [], n))
            (cond (is_plain call.place.name) (finite.get tree (directory ++ call.place.name ∷ [])) None)) o))
            → PutIsLeft (option_and_then (λ directory. cond (is_plain call.place.name)
            (made.create_at binds tree number call.mode handle (directory ++ call.place.name ∷ []) (finite.get tree (directory ++ call.place.name ∷ []))) None) o)
        go None left = tt
        go (Some directory) left = at_name (is_plain call.place.name) (directory ++ call.place.name ∷ []) left

      makes : (place : DirectoryName) (handle : Option (List ℕ)) (content : Content) → PutIsLeft (made.make_entry binds tree number place handle content)
      makes place handle content =
          all_then (λ directory. made.only_if (may directory) (Put (directory ++ place.name ∷ []) (record { object = number; content = content }))) (directory_of binds tree place.directory)
          (λ directory. put_if (may directory) (Put (directory ++ place.name ∷ []) (record { object = number; content = content })) (fresh (record { object = number; content = content }) refl)) where
            may : Names → Bool
            may directory =
                is_plain place.name && is_none (finite.get tree (directory ++ place.name ∷ [])) && is_none (entry_of tree number) && nat_lt (finite.len tree) node_limit && gives_object binds handle number

      -- ---- entries that go, or move: nothing is put

      removes_where : (flag : Bool → Bool) (place : DirectoryName)
          → PutIsLeft (option_and_then (λ (e : Names × Node). made.only_if (flag (is_directory e.1.content) && is_bare tree e.0) (Remove e.0)) (named binds tree place))
      removes_where flag place =
          all_then (λ (e : Names × Node). made.only_if (flag (is_directory e.1.content) && is_bare tree e.0) (Remove e.0)) (named binds tree place)
          (λ e. put_if (flag (is_directory e.1.content) && is_bare tree e.0) (Remove e.0) tt)

      renames : (call : RenameArguments) → PutIsLeft (removed.rename binds tree call)
      renames call =
          all_then (λ source. option_and_then (to source) (directory_of binds tree call.to.directory)) (named binds tree call.from)
          (λ source. all_then (to source) (directory_of binds tree call.to.directory) (λ directory. at_name (is_plain call.to.name) source.0 source.1.content (directory ++ call.to.name ∷ []))) where
            to : Names × Node → Names → Option Change
            to source directory = cond (is_plain call.to.name) (removed.rename_at tree source.0 source.1.content (directory ++ call.to.name ∷ [])) None

            at_path : (same : Bool) (p q : Names) (content : Content)
                → PutIsLeft (cond same (Some Keep) (made.only_if (not (is_from q p) && removed.may_replace content (finite.get tree q) && is_bare tree q) (Move p q)))
            at_path true p q content = tt
            at_path false p q content = put_if (not (is_from q p) && removed.may_replace content (finite.get tree q) && is_bare tree q) (Move p q) tt

            at_name : (plain : Bool) (p : Names) (content : Content) (q : Names) → PutIsLeft (cond plain (removed.rename_at tree p content q) None)
            at_name true p content q = at_path (same_path p q) p q content
            at_name false p content q = tt

      -- ---- every call

      done : (call : NfsCall) (reply : NfsReply) → ObjectIsLeft (entry_read_or_set binds tree call) → PutIsLeft (change_done binds tree number call reply)
      done (calls.GetAttr object) reply left = kept (look.getattr_is_legal binds tree object reply)
      done (calls.Lookup place) reply left = kept (look.lookup_is_legal binds tree place reply)
      done (calls.ReadLink link) reply left = kept (look.readlink_is_legal binds tree link reply)
      done (calls.Read call) reply left = kept (look.read_is_legal binds tree call reply)
      done (calls.ReadDir call) reply left = kept (listing.readdir_is_legal binds tree call reply)
      done (calls.ReadDirPlus call) reply left = kept (listing.readdirplus_is_legal binds tree call reply)
      done (calls.Commit call) reply left = kept (look.commit_is_legal binds tree call.file reply)
      done (calls.Write call) (replies.Write (Done success)) left = wrote call success.count (Some success.level) left
      done (calls.Write call) _ left = tt
      done (calls.Create call) (replies.Create (Done success)) left = created call success.object left
      done (calls.Create call) _ left = tt
      done (calls.SetAttr call) (replies.SetAttr (Done _)) left = set call left
      done (calls.SetAttr call) _ left = tt
      done (calls.MkDir call) (replies.MkDir (Done success)) left = makes call.place success.object contents.Directory
      done (calls.MkDir call) _ left = tt
      done (calls.SymLink call) (replies.SymLink (Done success)) left = makes call.place success.object (contents.Link call.target)
      done (calls.SymLink call) _ left = tt
      done (calls.Remove place) (replies.Remove (Done _)) left = removes_where not place
      done (calls.Remove place) _ left = tt
      done (calls.RmDir place) (replies.RmDir (Done _)) left = removes_where (λ b. b) place
      done (calls.RmDir place) _ left = tt
      done (calls.Rename call) (replies.Rename (Done _)) left = renames call
      done (calls.Rename call) _ left = tt

      taken : (call : NfsCall) (count : Option ℕ) → ObjectIsLeft (entry_read_or_set binds tree call) → PutIsLeft (change_taken binds tree number call count)
      taken (calls.Write call) (Some count) left = wrote call count None left
      taken (calls.Create call) None left = created call None left
      taken (calls.SetAttr call) None left = set call left
      taken (calls.MkDir call) None left = makes call.place None contents.Directory
      taken (calls.SymLink call) None left = makes call.place None (contents.Link call.target)
      taken (calls.Remove place) None left = removes_where not place
      taken (calls.RmDir place) None left = removes_where (λ b. b) place
      taken (calls.Rename call) None left = renames call
      taken _ _ left = tt

      pub put_left : (call : NfsCall) (outcome : Outcome) → ObjectIsLeft (entry_touched binds tree call outcome) → PutIsLeft (change_of binds tree number call outcome)
      put_left call (Taken count) left = taken call count left
      put_left call (Received reply) left = go (failure_in reply) left where
        go : (failure : Option Failure) → ObjectIsLeft (cond (is_some failure) None (entry_read_or_set binds tree call)) → PutIsLeft (change_answered binds tree number call reply failure)
        go None left = done call reply left
        go (Some failure) left = kept (is_answered call reply && is_permitted binds tree call failure)

-- ---- the laws

module _ (fill : Node → Node) (fills : FillsFiles fill) (tree other : Tree) (alike : Alike fill tree other) (binds : Bindings) where
  -- the entry that is touched, in both trees
  read_or_set : (call : NfsCall) → entry_read_or_set binds other call ≡ option_map (filled fill) (entry_read_or_set binds tree call)
  read_or_set (calls.GetAttr object) = seen.live fill fills tree other alike binds object
  read_or_set (calls.SetAttr call) = go (is_some call.attributes.size) where
    go : (b : Bool) → cond b (live_entry binds other call.object) None ≡ option_map (filled fill) (cond b (live_entry binds tree call.object) None)
    go true = seen.live fill fills tree other alike binds call.object
    go false = refl
  read_or_set (calls.Read call) = seen.live fill fills tree other alike binds call.file
  read_or_set (calls.Write call) = seen.live fill fills tree other alike binds call.file
  read_or_set (calls.Create call) = go (sets_size call.mode) where
    go : (b : Bool) → cond b (named binds other call.place) None ≡ option_map (filled fill) (cond b (named binds tree call.place) None)
    go true = seen.names fill fills tree other alike binds call.place
    go false = refl
  read_or_set _ = refl

  touched : (call : NfsCall) (outcome : Outcome) → entry_touched binds other call outcome ≡ option_map (filled fill) (entry_touched binds tree call outcome)
  touched call (Taken count) = read_or_set call
  touched call (Received reply) = go (is_some (failure_in reply)) where
    go : (b : Bool) → cond b None (entry_read_or_set binds other call) ≡ option_map (filled fill) (cond b None (entry_read_or_set binds tree call))
    go true = refl
    go false = read_or_set call

  pub same_touched : (call : NfsCall) (outcome : Outcome) → object_touched binds other call outcome ≡ object_touched binds tree call outcome
  same_touched call outcome =
      ap (option_map (λ (e : Names × Node). e.1.object)) (touched call outcome)
      ∙ map_mapped (λ (e : Names × Node). e.1.object) (filled fill) (entry_touched binds tree call outcome) (λ e. fills.object e.1)

  module _ (number : ℕ) (call : NfsCall) (outcome : Outcome) where
    -- the change is of both
    module _ (left : IfSome (entry_touched binds tree call outcome) (λ e. fill e.1 ≡ e.1)) (puts : PutIsLeft fill (change_of binds tree number call outcome)) where
      same : change_of binds other number call outcome ≡ change_of binds tree number call outcome
      same = same_change fill fills tree other alike binds number call outcome left

      after_change : (change : Change) → change_of binds tree number call outcome ≡ Some change → Alike fill (changed tree change) (changed other change)
      after_change change is = changed_alike fill tree other alike change (subst (PutIsLeft fill) is puts)

      in_tree : (other_after : Tree) → next_tree binds other number call outcome ≡ Some other_after
          → (after : Tree) × (next_tree binds tree number call outcome ≡ Some after) × Alike fill after other_after
      in_tree other_after leads =
          let found = mapped (changed other) (change_of binds other number call outcome) other_after leads in
          let is = sym same ∙ found.1 in
          (changed tree found.0, ap (option_map (changed tree)) is, subst (Alike fill (changed tree found.0)) found.2 (after_change found.0 is))

      in_other : (after : Tree) → next_tree binds tree number call outcome ≡ Some after
          → (other_after : Tree) × (next_tree binds other number call outcome ≡ Some other_after) × Alike fill after other_after
      in_other after leads =
          let found = mapped (changed tree) (change_of binds tree number call outcome) after leads in
          (changed other found.0, ap (option_map (changed other)) (same ∙ found.1), subst (λ (t : Tree). Alike fill t (changed other found.0)) found.2 (after_change found.0 found.1))

      pub left_goes : GoesAlike fill binds tree other number call outcome
      left_goes = record { in_tree = in_tree; in_other = in_other }

    pub goes : IsUntouched fill binds tree call outcome → LeavesObject fill number → GoesAlike fill binds tree other number call outcome
    goes left fresh =
        let object = of_mapped (LeavesObject fill) (λ (e : Names × Node). e.1.object) (entry_touched binds tree call outcome) left in
        left_goes (if_turned (λ (e : Names × Node). LeavesObject fill e.1.object) (λ (e : Names × Node). fill e.1 ≡ e.1) (entry_touched binds tree call outcome) (λ e left. left e.1 refl) object)
        (put_left fill binds tree number fresh call outcome object)

-- ---- a filling by objects

module _ (bytes : ℕ → List ℕ → List ℕ) where
  fills_content : (bytes : List ℕ → List ℕ) (content : Content) → IsFilling content (content_with bytes content)
  fills_content bytes contents.Directory = refl
  fills_content bytes (contents.File file) = (bytes file.bytes, refl)
  fills_content bytes (contents.Link target) = refl

  leaves_content : (bytes : List ℕ → List ℕ) (content : Content) → ((held : List ℕ) → bytes held ≡ held) → content_with bytes content ≡ content
  leaves_content bytes contents.Directory stays = refl
  leaves_content bytes (contents.File file) stays = ap (λ held. contents.File (record { bytes = held; verifier = file.verifier })) (stays file.bytes)
  leaves_content bytes (contents.Link target) stays = refl

  pub bytes_filled : FillsFiles (with_bytes bytes) × ((object : ℕ) → ((held : List ℕ) → bytes object held ≡ held) → LeavesObject (with_bytes bytes) object)
  bytes_filled = (
    record { object = λ node. refl; content = λ node. fills_content (bytes node.object) node.content },
    λ object stays node is. ap (λ content. record { object = node.object; content = content }) (leaves_content (bytes node.object) node.content (λ held. ap (λ object. bytes object held) is ∙ stays held)),
  )
