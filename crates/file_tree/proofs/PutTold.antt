-- what is told of the object at a place, once a node is put there
use Rattle.std.proofs.Common.{◌≡◌, ℕ, inl, inr, Bool, true, false, cond, List, [], ◌∷◌, ◌++◌, Some, None, refl, sym, ap, ◌∙◌}
use Rattle.std.specs.Prelude.{not, ◌||◌, ◌==◌, length, option_and_then}
use Rattle.std.specs.FinMap as map
use Rattle.nfs3_types.specs.declared.calls.DirectoryName.{DirectoryName}
use Rattle.tree_nodes.specs.declared.node.Node.{Node}
use Rattle.tree_nodes.specs.declared.node.Content.{Content}
use Rattle.tree_nodes.specs.declared.node.Content.TheVariants as contents
use Rattle.tree_nodes.specs.Files.{file_node}
use Rattle.tree_nodes.specs.Numbered.{IsNumbered}
use Rattle.tree_nodes.specs.Tree.{Names, Tree, entry_of, parent}
use Rattle.tree_nodes.proofs.Beside.{no_longer}
use Rattle.tree_nodes.proofs.Chains.{chained}
use Rattle.tree_answers.specs.tree_handles_specs.Binding.{Bindings, object_of}
use Rattle.tree_starts.specs.Names.{is_dot, is_two_dots, is_plain}
use Rattle.tree_answers.specs.tree_handles_specs.Entry.{entry_at}
use Rattle.tree_answers.specs.tree_handles_specs.Live.{live_entry, as_directory, directory_of}
use Rattle.tree_answers.specs.Look.{object_at, object_named}
use Rattle.file_tree.specs.AtPlace.{IsAtPlace}
use Rattle.file_tree.specs.Change.{Change}
use Rattle.file_tree.specs.Change.Change.{Put}
use Rattle.file_tree.specs.Planning.{Makes, Fills}
use Rattle.file_tree.specs.Strict.{told_of, told_at}
use Rattle.file_tree.specs.Success.{changed}
use Rattle.file_tree.proofs.AfterPut.{stands, numbered, put_others}
use Rattle.file_tree.proofs.ToldAfter.{made_unused, made_free, file_only, file_over}
use Rattle.file_tree.proofs.StartStep.{put_there}

-- a plain name is neither `.` nor `..`, and leads to what stands there
plain_parts : (a b c : Bool) → not (a || b || c) ≡ true → (b ≡ false) × (c ≡ false)
plain_parts true b c e = absurd (cc)
plain_parts false true c e = absurd (cc)
plain_parts false false true e = absurd (cc)
plain_parts false false false e = (refl, refl)

pub plain_leads : (tree : Tree) (directory : Names) (name : List ℕ) → is_plain name ≡ true → object_named tree directory name ≡ object_at (map.get tree (directory ++ name ∷ []))
plain_leads tree directory name plain =
    let parts = plain_parts (length name == 0) (is_dot name) (is_two_dots name) plain in
    ap (λ b. cond b (object_at (map.get tree directory)) (cond (is_two_dots name) (object_at (map.get tree (parent directory))) (object_at (entry_at tree directory name)))) parts.0
    ∙ ap (λ b. cond b (object_at (map.get tree (parent directory))) (object_at (entry_at tree directory name))) parts.1
    ∙ ap (λ b. object_at (cond b (map.get tree (directory ++ name ∷ [])) None)) plain

is_directory_path : (p d : Names) (content : Content) → as_directory p content ≡ Some d → p ≡ d
is_directory_path p d contents.Directory e = cc
is_directory_path p d (contents.File file) e = absurd (cc)
is_directory_path p d (contents.Link text) e = absurd (cc)

module _ (binds : Bindings) (tree : Tree) (numbers : IsNumbered tree) (place : DirectoryName) (directory : Names) (leads : directory_of binds tree place.directory ≡ Some directory)
    (plain : is_plain place.name ≡ true) (path : Names) (node : Node) (parts : path ≡ directory ++ place.name ∷ [])
    (own : (p : Names) (x : Node) → map.get tree p ≡ Some x → x.object ≡ node.object → p ≡ path) (over : (x : Node) → map.get tree path ≡ Some x → x.object ≡ node.object) where
  abbrev after : Tree
  after = map.insert tree path node

  -- the directory stands where it stood
  leads_still : directory_of binds after place.directory ≡ Some directory
  leads_still =
      let live = chained (λ e. as_directory e.0 e.1.content) (live_entry binds tree place.directory) directory leads in
      let named = chained (entry_of tree) (object_of binds place.directory) live.0 live.1 in
      let at : live.0.0 ≡ directory = is_directory_path live.0.0 directory live.0.1.content live.2 in
      let other : node.object ≡ named.0 → ⊥ =
      λ same. no_longer directory place.name []
      (sym parts ∙ sym (own live.0.0 live.0.1 (stands tree named.0 live.0 named.2) (numbered tree named.0 live.0 named.2 ∙ sym same)) ∙ at) in
      let still : live_entry binds after place.directory ≡ live_entry binds tree place.directory =
      ap (option_and_then (entry_of after)) named.1 ∙ put_others tree numbers.once path node own over named.0 other ∙ sym (ap (option_and_then (entry_of tree)) named.1) in
      ap (option_and_then (λ e. as_directory e.0 e.1.content)) still ∙ leads

  pub put_told : told_at binds after place ≡ told_of after node.object
  put_told =
      ap (option_and_then (λ d. option_and_then (told_of after) (object_named after d place.name))) leads_still
      ∙ ap (option_and_then (told_of after)) (plain_leads after directory place.name plain ∙ ap object_at (put_there tree path node (directory ++ place.name ∷ []) (sym parts)))

-- ---- what is done with objects puts a node at the place, or nothing

same_put : (p q : Names) (x y : Node) → Put p x ≡ Put q y → p ≡ q
same_put p q x y e = cc

module _ (binds : Bindings) (tree : Tree) (numbers : IsNumbered tree) (place : DirectoryName) (change : Change) (at : IsAtPlace binds tree place change) where
  told_where : (path : Names) (node : Node) → change ≡ Put path node → ((p : Names) (x : Node) → map.get tree p ≡ Some x → x.object ≡ node.object → p ≡ path)
      → ((x : Node) → map.get tree path ≡ Some x → x.object ≡ node.object) → told_at binds (changed tree change) place ≡ told_of (changed tree change) node.object
  told_where path node is own over = go at where
    go : IsAtPlace binds tree place change → told_at binds (changed tree change) place ≡ told_of (changed tree change) node.object
    go (inl keeps) = absurd (cc)
    go (inr puts) =
        ap (λ (c : Change). told_at binds (changed tree c) place) is
        ∙ put_told binds tree numbers place puts.directory puts.leads puts.plain path node (same_put path (puts.directory ++ place.name ∷ []) node puts.node (sym is ∙ puts.is)) own over
        ∙ sym (ap (λ (c : Change). told_of (changed tree c) node.object) is)

  pub told_made : (directory : ℕ) (name : List ℕ) (node : Node) → Makes tree directory name node change → told_at binds (changed tree change) place ≡ told_of (changed tree change) node.object
  told_made directory name node makes =
      told_where (makes.entry.0 ++ name ∷ []) node makes.is (made_unused tree numbers node.object change directory name node makes) (made_free tree numbers node.object change directory name node makes)

  pub told_filled : (object : ℕ) (bytes : List ℕ → List ℕ) → Fills tree object bytes change → told_at binds (changed tree change) place ≡ told_of (changed tree change) object
  told_filled object bytes fills =
      told_where fills.path (file_node object (bytes fills.file.bytes) fills.file.verifier) fills.is (file_only tree numbers object change object bytes fills)
      (file_over tree numbers object change object bytes fills)
