-- a call that comes out has its handles bound to the objects that they have to name
use Rattle.std.proofs.Common.{◌≡◌, ℕ, Bool, true, false, cond, List, [], ◌∷◌, ◌++◌, Option, Some, None, refl, ap, ◌∙◌, replicate}
use Rattle.std.specs.Prelude.{◌&&◌, nat_le, nat_lt, is_none, option_and_then, option_map}
use Rattle.std.specs.Option.{option_map_or}
use Rattle.std.specs.List.{list_all, flat_map}
use Rattle.std.proofs.lemmas.List.Folds.{list_all-append}
use Rattle.std.specs.FinMap as map
use Rattle.nfs3_types.specs.declared.calls.CreateMode.{CreateMode}
use Rattle.nfs3_types.specs.declared.calls.CreateArguments.{CreateArguments}
use Rattle.nfs3_types.specs.declared.calls.DirectoryName.{DirectoryName}
use Rattle.nfs3_types.specs.declared.replies.DirectoryEntryPlus.{DirectoryEntryPlus}
use Rattle.nfs3_types.specs.Limits.{file_limit}
use Rattle.tree_nodes.specs.declared.node.Node.{Node}
use Rattle.tree_nodes.specs.declared.node.Content.{Content}
use Rattle.tree_nodes.specs.declared.node.Content.TheVariants as contents
use Rattle.tree_nodes.specs.Tree.{Names, Tree, entry_of}
use Rattle.tree_nodes.specs.Files.{node_limit, file_node}
use Rattle.tree_handles.specs.Binding.{Bindings, is_bound, gives_object}
use Rattle.tree_handles.specs.Live.{directory_of}
use Rattle.tree_handles.specs.Entry.{entry_at}
use Rattle.tree_starts.specs.Names.{is_plain}
use Rattle.tree_answers.specs.Look.{object_named, is_object_named}
use Rattle.tree_answers.specs.Listing.{has_its_handle}
use Rattle.file_tree.specs.Change.{Change}
use Rattle.file_tree.specs.Change.Change.{Put}
use Rattle.file_tree.specs.Made.{only_if, first_size, first_verifier, create_absent, create_present, create_at, create_change, make_entry}
use Rattle.decision_steps.specs.Given.{given_as, object_found, object_created, given_beside}
use Rattle.decision_steps.specs.Bound.{are_bound}
use Rattle.decision_steps.proofs.Parts.{and_true, and_false}

-- the handle of a reply, if any, is one of an object exactly where all that is given as this object is bound to it
pub gives_all : (binds : Bindings) (handle : Option (List ℕ)) (object : ℕ) → are_bound binds (given_as handle object) ≡ gives_object binds handle object
gives_all binds None object = refl
gives_all binds (Some handle) object = and_true (is_bound binds handle object)

gated : (x g : Bool) (change : Change) → only_if (x && g) change ≡ cond g (only_if (x && true) change) None
gated x true change = refl
gated x false change = ap (λ b. only_if b change) (and_false x)

no_change : (b : Bool) → None ≡ cond {A = Option Change} b None None
no_change true = refl
no_change false = refl

-- ---- CREATE

absent_gated : (binds : Bindings) (tree : Tree) (number : ℕ) (mode : CreateMode) (handle : Option (List ℕ)) (path : Names)
    → create_absent binds tree number mode handle path ≡ cond (gives_object binds handle number) (create_absent binds tree number mode None path) None
absent_gated binds tree number mode handle path =
    gated (is_none (entry_of tree number) && nat_lt (map.len tree) node_limit && nat_le (first_size mode) file_limit) (gives_object binds handle number)
    (Put path (file_node number (replicate (first_size mode) 0) (first_verifier mode)))

present_gated : (binds : Bindings) (mode : CreateMode) (handle : Option (List ℕ)) (path : Names) (object : ℕ) (content : Content)
    → create_present binds mode handle path object content ≡ cond (gives_object binds handle object) (create_present binds mode None path object content) None
present_gated binds mode handle path object contents.Directory = no_change (gives_object binds handle object)
present_gated binds mode handle path object (contents.File file) = refl
present_gated binds mode handle path object (contents.Link _) = no_change (gives_object binds handle object)

-- the object at a place
abbrev pub object_there : ℕ → Option Node → ℕ
object_there number node = option_map_or (λ (n : Node). n.object) node number

at_gated : (binds : Bindings) (tree : Tree) (number : ℕ) (mode : CreateMode) (handle : Option (List ℕ)) (path : Names) (node : Option Node)
    → create_at binds tree number mode handle path node ≡ cond (gives_object binds handle (object_there number node)) (create_at binds tree number mode None path node) None
at_gated binds tree number mode handle path None = absent_gated binds tree number mode handle path
at_gated binds tree number mode handle path (Some node) = present_gated binds mode handle path node.object node.content

abbrev pub creates : Bindings → Tree → ℕ → CreateArguments → Names → Bool → Option (List ℕ) → Option Node → Option Change
creates binds tree number call path plain handle node = cond plain (create_at binds tree number call.mode handle (path ++ call.place.name ∷ []) node) None

abbrev pub stands_as : DirectoryName → ℕ → Names → Bool → Option Node → ℕ
stands_as place number path plain node =
    option_map_or (λ (e : Names × Node). e.1.object) (option_map {U = Names × Node} (λ n. (path ++ place.name ∷ [], n)) (cond plain node None)) number

created_there : (binds : Bindings) (tree : Tree) (number : ℕ) (call : CreateArguments) (handle : Option (List ℕ)) (path : Names) (plain : Bool) (node : Option Node)
    → creates binds tree number call path plain handle node ≡ cond (gives_object binds handle (stands_as call.place number path plain node)) (creates binds tree number call path plain None node) None
created_there binds tree number call handle path false _ = no_change (gives_object binds handle number)
created_there binds tree number call handle path true None = at_gated binds tree number call.mode handle (path ++ call.place.name ∷ []) None
created_there binds tree number call handle path true (Some node) = at_gated binds tree number call.mode handle (path ++ call.place.name ∷ []) (Some node)

-- a CREATE comes out as it would without its handle, where this is one of the object that stands at the place, or of the new one
pub create_gated : (binds : Bindings) (tree : Tree) (number : ℕ) (call : CreateArguments) (handle : Option (List ℕ))
    → create_change binds tree number call handle ≡ cond (gives_object binds handle (object_created binds tree number call.place)) (create_change binds tree number call None) None
create_gated binds tree number call handle = go (directory_of binds tree call.place.directory) where
  go : (directory : Option Names)
      → option_and_then (λ path. creates binds tree number call path (is_plain call.place.name) handle (map.get tree (path ++ call.place.name ∷ []))) directory
      ≡ cond (gives_object binds handle (option_map_or (λ (e : Names × Node). e.1.object)
      (option_and_then (λ path. option_map {U = Names × Node} (λ n. (path ++ call.place.name ∷ [], n)) (entry_at tree path call.place.name)) directory) number))
      (option_and_then (λ path. creates binds tree number call path (is_plain call.place.name) None (map.get tree (path ++ call.place.name ∷ []))) directory) None
  go None = no_change (gives_object binds handle number)
  go (Some path) = created_there binds tree number call handle path (is_plain call.place.name) (map.get tree (path ++ call.place.name ∷ []))

-- ---- MKDIR and SYMLINK

abbrev pub makes : Tree → ℕ → DirectoryName → Content → Bool → Names → Option Change
makes tree number place content given path =
    only_if (is_plain place.name && is_none (map.get tree (path ++ place.name ∷ [])) && is_none (entry_of tree number) && nat_lt (map.len tree) node_limit && given)
    (Put (path ++ place.name ∷ []) (record { object = number; content = content }))

pub make_gated : (binds : Bindings) (tree : Tree) (number : ℕ) (place : DirectoryName) (handle : Option (List ℕ)) (content : Content)
    → make_entry binds tree number place handle content ≡ cond (gives_object binds handle number) (make_entry binds tree number place None content) None
make_gated binds tree number place handle content = go (directory_of binds tree place.directory) where
  go : (directory : Option Names) → option_and_then (makes tree number place content (gives_object binds handle number)) directory
      ≡ cond (gives_object binds handle number) (option_and_then (makes tree number place content true) directory) None
  go None = no_change (gives_object binds handle number)
  go (Some path) =
      gated (is_plain place.name && is_none (map.get tree (path ++ place.name ∷ [])) && is_none (entry_of tree number) && nat_lt (map.len tree) node_limit) (gives_object binds handle number)
      (Put (path ++ place.name ∷ []) (record { object = number; content = content }))

-- ---- LOOKUP: the handle has to be one of the object that is found

pub lookup_gated : (binds : Bindings) (tree : Tree) (place : DirectoryName) (handle : List ℕ)
    → option_map_or (is_object_named binds tree place handle) (directory_of binds tree place.directory) false ≡ option_map_or (is_bound binds handle) (object_found binds tree place) false
lookup_gated binds tree place handle = go (directory_of binds tree place.directory) where
  go : (directory : Option Names)
      → option_map_or (is_object_named binds tree place handle) directory false ≡ option_map_or (is_bound binds handle) (option_and_then (λ path. object_named tree path place.name) directory) false
  go None = refl
  go (Some path) = refl

-- ---- READDIRPLUS: each handle beside an entry has to be one of its object

beside_gated : (binds : Bindings) (tree : Tree) (path : Names) (entry : DirectoryEntryPlus)
    → are_bound binds (given_beside tree path entry) ≡ has_its_handle binds tree path entry
beside_gated binds tree path entry = go (entry_at tree path entry.name) where
  go : (node : Option Node) → are_bound binds (option_map_or (λ (n : Node). given_as entry.object n.object) node []) ≡ option_map_or (λ (n : Node). gives_object binds entry.object n.object) node true
  go None = refl
  go (Some node) = gives_all binds entry.object node.object

pub listed_gated : (binds : Bindings) (tree : Tree) (path : Names) (entries : List DirectoryEntryPlus)
    → are_bound binds (flat_map (given_beside tree path) entries) ≡ list_all (has_its_handle binds tree path) entries
listed_gated binds tree path [] = refl
listed_gated binds tree path (entry ∷ entries) =
    list_all-append (λ pair. is_bound binds pair.0 pair.1) (given_beside tree path entry) (flat_map (given_beside tree path) entries)
    ∙ ap (λ b. b && are_bound binds (flat_map (given_beside tree path) entries)) (beside_gated binds tree path entry)
    ∙ ap (λ b. has_its_handle binds tree path entry && b) (listed_gated binds tree path entries)
