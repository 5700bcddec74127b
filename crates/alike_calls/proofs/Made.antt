-- a call that touches no filled file makes the same change of a tree and of the tree with its files filled
use Rattle.std.proofs.Common.{◌≡◌, ℕ, Bool, true, false, cond, List, [], ◌∷◌, ◌++◌, length, take, replicate, Option, Some, None, refl, sym, ap, ◌∙◌}
use Rattle.std.specs.Prelude.{◌&&◌, not, nat_le, nat_lt, is_some, is_none, IfSome, option_and_then, option_map}
use Rattle.std.specs.Option.{option_map_or}
use Rattle.std.specs.FinMap as finite
use Rattle.nfs3_types.specs.Limits.{file_limit}
use Rattle.nfs3_types.specs.Procedures.{is_answered, failure_in}
use Rattle.nfs3_types.specs.declared.calls.CreateArguments.{CreateArguments}
use Rattle.nfs3_types.specs.declared.calls.CreateMode.{CreateMode}
use Rattle.nfs3_types.specs.declared.calls.CreateMode.TheVariants.{Unchecked, Guarded, Exclusive}
use Rattle.nfs3_types.specs.declared.calls.DirectoryName.{DirectoryName}
use Rattle.nfs3_types.specs.declared.calls.NfsCall.{NfsCall}
use Rattle.nfs3_types.specs.declared.calls.NfsCall.TheVariants as calls
use Rattle.nfs3_types.specs.declared.calls.ReadArguments.{ReadArguments}
use Rattle.nfs3_types.specs.declared.calls.RenameArguments.{RenameArguments}
use Rattle.nfs3_types.specs.declared.calls.SetAttrArguments.{SetAttrArguments}
use Rattle.nfs3_types.specs.declared.calls.StableHow.{StableHow}
use Rattle.nfs3_types.specs.declared.calls.WriteArguments.{WriteArguments}
use Rattle.nfs3_types.specs.declared.replies.Answer.TheVariants.{Done}
use Rattle.nfs3_types.specs.declared.replies.NfsReply.{NfsReply}
use Rattle.nfs3_types.specs.declared.replies.NfsReply.TheVariants as replies
use Rattle.nfs3_types.specs.declared.replies.Outcome.{Outcome}
use Rattle.nfs3_types.specs.declared.replies.Outcome.TheVariants.{Received, Taken}
use Rattle.nfs3_types.specs.declared.status.Failure.{Failure}
use Rattle.tree_nodes.specs.declared.node.Node.{Node}
use Rattle.tree_nodes.specs.declared.node.File.{File}
use Rattle.tree_nodes.specs.declared.node.Content.{Content}
use Rattle.tree_nodes.specs.declared.node.Content.TheVariants as contents
use Rattle.tree_nodes.specs.Files.{node_limit, file_node}
use Rattle.tree_nodes.specs.Tree.{Names, Tree, same_path, entry_of, is_bare}
use Rattle.tree_nodes.specs.Moved.{is_from}
use Rattle.tree_handles.specs.Binding.{Bindings, gives_object}
use Rattle.tree_handles.specs.Live.{FileEntry, live_entry, directory_of, as_file, file_of}
use Rattle.tree_handles.specs.Entry.{named}
use Rattle.tree_handles.specs.Kind.{is_directory}
use Rattle.tree_starts.specs.Names.{is_plain}
use Rattle.tree_answers.specs.Look as look
use Rattle.file_tree.specs.Change.{Change}
use Rattle.file_tree.specs.Change.Change.{Keep, Put, Remove, Move}
use Rattle.file_tree.specs.Made as made
use Rattle.file_tree.specs.Written as written
use Rattle.file_tree.specs.Removed as removed
use Rattle.file_tree.specs.Success.{change_done, change_answered, change_taken, change_of}
use Rattle.alike_calls.specs.Alike.{IsFilling, FillsFiles, Alike, sets_size, entry_read_or_set, entry_touched}
use Rattle.alike_calls.proofs.Parts.{then_on, when_set, same_kind}
use Rattle.alike_calls.proofs.Changes.{filled}
use Rattle.alike_calls.proofs.Seen as seen
use Rattle.alike_calls.proofs.Causes.{permitted}

-- ---- a CREATE over a file

same_file : (a b : File) → contents.File a ≡ contents.File b → a ≡ b
same_file a b e = cc

-- one that sets no size looks at the verifier alone
over_file : (mode : CreateMode) (path : Names) (object : ℕ) (was now : File) → now.verifier ≡ was.verifier → (sets_size mode ≡ true → now ≡ was)
    → made.create_over mode path object now ≡ made.create_over mode path object was
over_file (Unchecked attributes) path object was now verifier left = go attributes.size left where
  go : (size : Option ℕ) → (is_some size ≡ true → now ≡ was) → made.set_size path object now size ≡ made.set_size path object was size
  go None left = refl
  go (Some size) left = ap (λ (file : File). made.set_size path object file (Some size)) (left refl)
over_file (Guarded attributes) path object was now verifier left = refl
over_file (Exclusive asked) path object was now verifier left = ap (λ first. made.only_if (made.made_by first asked) Keep) verifier

present : (binds : Bindings) (mode : CreateMode) (handle : Option (List ℕ)) (path : Names) (object : ℕ) (was now : Content) → IsFilling was now → (sets_size mode ≡ true → now ≡ was)
    → made.create_present binds mode handle path object now ≡ made.create_present binds mode handle path object was
present binds mode handle path object contents.Directory now is left = ap (made.create_present binds mode handle path object) is
present binds mode handle path object (contents.File file) now is left =
    ap (made.create_present binds mode handle path object) is.1
    ∙ ap (λ change. cond (gives_object binds handle object) change None)
    (over_file mode path object file (record { bytes = is.0; verifier = file.verifier }) refl (λ e. same_file (record { bytes = is.0; verifier = file.verifier }) file (sym is.1 ∙ left e)))
present binds mode handle path object (contents.Link target) now is left = ap (made.create_present binds mode handle path object) is

module _ (fill : Node → Node) (fills : FillsFiles fill) (tree other : Tree) (alike : Alike fill tree other) (binds : Bindings) where
  -- ---- calls that look at bytes, or set them, where the entry is left

  abbrev pub IsLeft : Option (Names × Node) → Type 0
  IsLeft entry = IfSome entry (λ e. fill e.1 ≡ e.1)

  file_left : (handle : List ℕ) → IsLeft (live_entry binds tree handle) → file_of binds other handle ≡ file_of binds tree handle
  file_left handle left = ap (option_and_then (λ (e : Names × Node). as_file e.0 e.1.object e.1.content)) (seen.live_left fill fills tree other alike binds handle left)

  getattr_is_legal : (object : List ℕ) (reply : NfsReply) → IsLeft (live_entry binds tree object) → look.getattr_is_legal binds other object reply ≡ look.getattr_is_legal binds tree object reply
  getattr_is_legal object (replies.GetAttr (Done attributes)) left =
      ap (λ o. option_map_or (λ (e : Names × Node). look.shows e.1.content attributes) o false) (seen.live_left fill fills tree other alike binds object left)
  getattr_is_legal object _ left = refl

  read_is_legal : (call : ReadArguments) (reply : NfsReply) → IsLeft (live_entry binds tree call.file) → look.read_is_legal binds other call reply ≡ look.read_is_legal binds tree call reply
  read_is_legal call (replies.Read (Done success)) left = ap (λ o. option_map_or (λ (entry : FileEntry). look.read_is_right entry.file.bytes call success) o false) (file_left call.file left)
  read_is_legal call _ left = refl

  wrote : (call : WriteArguments) (count : ℕ) (level : Option StableHow) → IsLeft (live_entry binds tree call.file)
      → written.write_change binds other call count level ≡ written.write_change binds tree call count level
  wrote call count level left =
      ap (option_and_then (λ (entry : FileEntry). cond (nat_le count call.count && nat_le count (length call.bytes) && written.reaches call.level level)
      (written.write_at entry call.offset (take count call.bytes)) None)) (file_left call.file left)

  set : (call : SetAttrArguments) → IsLeft (cond (is_some call.attributes.size) (live_entry binds tree call.object) None)
      → written.set_attributes binds other call ≡ written.set_attributes binds tree call
  set call left = go (is_some call.attributes.size) left where
    go : (b : Bool) → IsLeft (cond b (live_entry binds tree call.object) None)
        → cond b (option_and_then (λ (entry : FileEntry). made.set_size entry.path entry.object entry.file call.attributes.size) (file_of binds other call.object)) (made.only_if (is_some (live_entry binds other call.object)) Keep)
        ≡ cond b (option_and_then (λ (entry : FileEntry). made.set_size entry.path entry.object entry.file call.attributes.size) (file_of binds tree call.object)) (made.only_if (is_some (live_entry binds tree call.object)) Keep)
    go true left = ap (option_and_then (λ (entry : FileEntry). made.set_size entry.path entry.object entry.file call.attributes.size)) (file_left call.object left)
    go false left = ap (λ b. made.only_if b Keep) (seen.is_live fill fills tree other alike binds call.object)

  -- ---- calls that make an entry

  module _ (number : ℕ) where
    create_absent : (mode : CreateMode) (handle : Option (List ℕ)) (path : Names) → made.create_absent binds other number mode handle path ≡ made.create_absent binds tree number mode handle path
    create_absent mode handle path =
        ap (λ b. made.only_if (b && nat_lt (finite.len other) node_limit && nat_le (made.first_size mode) file_limit && gives_object binds handle number)
        (Put path (file_node number (replicate (made.first_size mode) 0) (made.first_verifier mode)))) (seen.unused fill fills tree other alike number)
        ∙ ap (λ n. made.only_if (is_none (entry_of tree number) && nat_lt n node_limit && nat_le (made.first_size mode) file_limit && gives_object binds handle number)
        (Put path (file_node number (replicate (made.first_size mode) 0) (made.first_verifier mode)))) (seen.lens fill fills tree other alike)

    create_at : (mode : CreateMode) (handle : Option (List ℕ)) (path : Names) (node : Option Node) → (sets_size mode ≡ true → IfSome node (λ n. fill n ≡ n))
        → made.create_at binds other number mode handle path (option_map fill node) ≡ made.create_at binds tree number mode handle path node
    create_at mode handle path None left = create_absent mode handle path
    create_at mode handle path (Some node) left =
        ap (λ object. made.create_present binds mode handle path object (fill node).content) (fills.object node)
        ∙ present binds mode handle path node.object node.content (fill node).content (fills.content node) (λ e. ap (λ (n : Node). n.content) (left e))

    pub created : (call : CreateArguments) (handle : Option (List ℕ)) → IsLeft (cond (sets_size call.mode) (named binds tree call.place) None)
        → made.create_change binds other number call handle ≡ made.create_change binds tree number call handle
    created call handle left =
        ap (option_and_then (λ directory. create_in other directory)) (seen.directories fill fills tree other alike binds call.place.directory)
        ∙ go (directory_of binds tree call.place.directory) (when_set (λ e. fill e.1 ≡ e.1) (sets_size call.mode) (named binds tree call.place) left) where
          create_in : Tree → Names → Option Change
          create_in of directory = cond (is_plain call.place.name) (made.create_at binds of number call.mode handle (directory ++ call.place.name ∷ []) (finite.get of (directory ++ call.place.name ∷ []))) None

          at_node : (path : Names) (node : Option Node) → IsLeft (option_map (λ (n : Node). (path, n)) node) → IfSome node (λ n. fill n ≡ n)
          at_node path None left = tt
          at_node path (Some node) left = left

          at_name : (plain : Bool) (path : Names) → (sets_size call.mode ≡ true → IsLeft (option_map (λ (n : Node). (path, n)) (cond plain (finite.get tree path) None)))
              → cond plain (made.create_at binds other number call.mode handle path (finite.get other path)) None ≡ cond plain (made.create_at binds tree number call.mode handle path (finite.get tree path)) None
          at_name true path left =
              ap (made.create_at binds other number call.mode handle path) (seen.gets fill fills tree other alike path)
              ∙ create_at call.mode handle path (finite.get tree path) (λ e. at_node path (finite.get tree path) (left e))
          at_name false path left = refl

          go : (o : Option Names)
              → (sets_size call.mode ≡ true → IsLeft (option_and_then (λ directory. option_map (λ (n : Node). (directory ++ call.place.name ∷ [], n))
              (cond (is_plain call.place.name) (finite.get tree (directory ++ call.place.name ∷ [])) None)) o))
              → option_and_then (create_in other) o ≡ option_and_then (create_in tree) o
          go None left = refl
          go (Some directory) left = at_name (is_plain call.place.name) (directory ++ call.place.name ∷ []) left

    pub makes : (place : DirectoryName) (handle : Option (List ℕ)) (content : Content) → made.make_entry binds other number place handle content ≡ made.make_entry binds tree number place handle content
    makes place handle content =
        ap (option_and_then (λ directory. make_in (is_none (finite.get other (directory ++ place.name ∷ []))) (is_none (entry_of other number)) (finite.len other) directory))
        (seen.directories fill fills tree other alike binds place.directory)
        ∙ then_on (λ directory. make_in (is_none (finite.get other (directory ++ place.name ∷ []))) (is_none (entry_of other number)) (finite.len other) directory)
        (λ directory. make_in (is_none (finite.get tree (directory ++ place.name ∷ []))) (is_none (entry_of tree number)) (finite.len tree) directory) (directory_of binds tree place.directory)
        (λ directory. ap (λ b. make_in b (is_none (entry_of other number)) (finite.len other) directory) (seen.absent fill fills tree other alike (directory ++ place.name ∷ []))
        ∙ ap (λ b. make_in (is_none (finite.get tree (directory ++ place.name ∷ []))) b (finite.len other) directory) (seen.unused fill fills tree other alike number)
        ∙ ap (λ n. make_in (is_none (finite.get tree (directory ++ place.name ∷ []))) (is_none (entry_of tree number)) n directory) (seen.lens fill fills tree other alike)) where
          make_in : (absent unused : Bool) (n : ℕ) → Names → Option Change
          make_in absent unused n directory =
              made.only_if (is_plain place.name && absent && unused && nat_lt n node_limit && gives_object binds handle number) (Put (directory ++ place.name ∷ []) (record { object = number; content = content }))

  -- ---- calls that take an entry away, or move it: that of a filled file too

  removes_where : (flag : Bool → Bool) (place : DirectoryName)
      → option_and_then (λ (e : Names × Node). made.only_if (flag (is_directory e.1.content) && is_bare other e.0) (Remove e.0)) (named binds other place)
      ≡ option_and_then (λ (e : Names × Node). made.only_if (flag (is_directory e.1.content) && is_bare tree e.0) (Remove e.0)) (named binds tree place)
  removes_where flag place =
      ap (option_and_then (λ (e : Names × Node). made.only_if (flag (is_directory e.1.content) && is_bare other e.0) (Remove e.0))) (seen.names fill fills tree other alike binds place)
      ∙ go (named binds tree place) where
        go : (o : Option (Names × Node)) → option_and_then (λ (e : Names × Node). made.only_if (flag (is_directory e.1.content) && is_bare other e.0) (Remove e.0)) (option_map (filled fill) o)
            ≡ option_and_then (λ (e : Names × Node). made.only_if (flag (is_directory e.1.content) && is_bare tree e.0) (Remove e.0)) o
        go None = refl
        go (Some e) =
            ap (λ kind. made.only_if (flag kind && is_bare other e.0) (Remove e.0)) (same_kind fill fills is_directory (λ bytes file. refl) e.1)
            ∙ ap (λ b. made.only_if (flag (is_directory e.1.content) && b) (Remove e.0)) (seen.bare fill fills tree other alike e.0)

  -- what stands at the target may be a filled file
  replaces : (was now : Content) (node : Option Node) → is_directory now ≡ is_directory was → removed.may_replace now (option_map fill node) ≡ removed.may_replace was node
  replaces was now None same = refl
  replaces was now (Some node) same =
      ap (look.same_flag (is_directory now)) (same_kind fill fills is_directory (λ bytes file. refl) node) ∙ ap (λ kind. look.same_flag kind (is_directory node.content)) same

  renames_at : (p q : Names) (node : Node) → removed.rename_at other p (fill node).content q ≡ removed.rename_at tree p node.content q
  renames_at p q node =
      ap (λ may. cond (same_path p q) (Some Keep) (made.only_if (not (is_from q p) && may && is_bare other q) (Move p q)))
      (ap (removed.may_replace (fill node).content) (seen.gets fill fills tree other alike q)
      ∙ replaces node.content (fill node).content (finite.get tree q) (same_kind fill fills is_directory (λ bytes file. refl) node))
      ∙ ap (λ b. cond (same_path p q) (Some Keep) (made.only_if (not (is_from q p) && removed.may_replace node.content (finite.get tree q) && b) (Move p q))) (seen.bare fill fills tree other alike q)

  renames : (call : RenameArguments) → removed.rename binds other call ≡ removed.rename binds tree call
  renames call =
      ap (option_and_then (λ source. option_and_then (to other source) (directory_of binds other call.to.directory))) (seen.names fill fills tree other alike binds call.from)
      ∙ ap (λ o. option_and_then (λ source. option_and_then (to other source) o) (option_map (filled fill) (named binds tree call.from))) (seen.directories fill fills tree other alike binds call.to.directory)
      ∙ go (named binds tree call.from) (directory_of binds tree call.to.directory) where
        to : Tree → Names × Node → Names → Option Change
        to of source directory = cond (is_plain call.to.name) (removed.rename_at of source.0 source.1.content (directory ++ call.to.name ∷ [])) None

        go : (source : Option (Names × Node)) (directory : Option Names)
            → option_and_then (λ source. option_and_then (to other source) directory) (option_map (filled fill) source) ≡ option_and_then (λ source. option_and_then (to tree source) directory) source
        go None directory = refl
        go (Some source) None = refl
        go (Some source) (Some directory) = ap (λ change. cond (is_plain call.to.name) change None) (renames_at source.0 (directory ++ call.to.name ∷ []) source.1)

  -- ---- every call

  module _ (number : ℕ) where
    done : (call : NfsCall) (reply : NfsReply) → IsLeft (entry_read_or_set binds tree call) → change_done binds other number call reply ≡ change_done binds tree number call reply
    done (calls.GetAttr object) reply left = ap (λ b. made.only_if b Keep) (getattr_is_legal object reply left)
    done (calls.Lookup place) reply left = ap (λ b. made.only_if b Keep) (seen.lookup_is_legal fill fills tree other alike binds place reply)
    done (calls.ReadLink link) reply left = ap (λ b. made.only_if b Keep) (seen.readlink_is_legal fill fills tree other alike binds link reply)
    done (calls.Read call) reply left = ap (λ b. made.only_if b Keep) (read_is_legal call reply left)
    done (calls.ReadDir call) reply left = ap (λ b. made.only_if b Keep) (seen.readdir_is_legal fill fills tree other alike binds call reply)
    done (calls.ReadDirPlus call) reply left = ap (λ b. made.only_if b Keep) (seen.readdirplus_is_legal fill fills tree other alike binds call reply)
    done (calls.Commit call) reply left = ap (λ b. made.only_if b Keep) (seen.commit_is_legal fill fills tree other alike binds call.file reply)
    done (calls.Write call) (replies.Write (Done success)) left = wrote call success.count (Some success.level) left
    done (calls.Write call) _ left = refl
    done (calls.Create call) (replies.Create (Done success)) left = created number call success.object left
    done (calls.Create call) _ left = refl
    done (calls.SetAttr call) (replies.SetAttr (Done _)) left = set call left
    done (calls.SetAttr call) _ left = refl
    done (calls.MkDir call) (replies.MkDir (Done success)) left = makes number call.place success.object contents.Directory
    done (calls.MkDir call) _ left = refl
    done (calls.SymLink call) (replies.SymLink (Done success)) left = makes number call.place success.object (contents.Link call.target)
    done (calls.SymLink call) _ left = refl
    done (calls.Remove place) (replies.Remove (Done _)) left = removes_where not place
    done (calls.Remove place) _ left = refl
    done (calls.RmDir place) (replies.RmDir (Done _)) left = removes_where (λ b. b) place
    done (calls.RmDir place) _ left = refl
    done (calls.Rename call) (replies.Rename (Done _)) left = renames call
    done (calls.Rename call) _ left = refl

    taken : (call : NfsCall) (count : Option ℕ) → IsLeft (entry_read_or_set binds tree call) → change_taken binds other number call count ≡ change_taken binds tree number call count
    taken (calls.Write call) (Some count) left = wrote call count None left
    taken (calls.Create call) None left = created number call None left
    taken (calls.SetAttr call) None left = set call left
    taken (calls.MkDir call) None left = makes number call.place None contents.Directory
    taken (calls.SymLink call) None left = makes number call.place None (contents.Link call.target)
    taken (calls.Remove place) None left = removes_where not place
    taken (calls.RmDir place) None left = removes_where (λ b. b) place
    taken (calls.Rename call) None left = renames call
    taken _ _ left = refl

    pub same_change : (call : NfsCall) (outcome : Outcome) → IsLeft (entry_touched binds tree call outcome) → change_of binds other number call outcome ≡ change_of binds tree number call outcome
    same_change call (Taken count) left = taken call count left
    same_change call (Received reply) left = go (failure_in reply) left where
      go : (failure : Option Failure) → IsLeft (cond (is_some failure) None (entry_read_or_set binds tree call))
          → change_answered binds other number call reply failure ≡ change_answered binds tree number call reply failure
      go None left = done call reply left
      go (Some failure) left = ap (λ b. made.only_if (is_answered call reply && b) Keep) (permitted fill fills tree other alike binds call failure)
