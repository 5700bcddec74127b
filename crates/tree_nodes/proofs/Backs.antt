-- a change taken back, by the table
use Rattle.std.proofs.Common.{◌≡◌, ℕ, ◌+◌, List, [], ◌∷◌, ◌++◌, Option, Some, None, refl, sym, ap, ◌∙◌, subst, arith, append-nil}
use Rattle.std.specs.Prelude.{IsSome}
use Rattle.std.specs.FinMap as map
use Rattle.tree_nodes.specs.declared.node.Node.{Node}
use Rattle.tree_nodes.specs.declared.node.File.{File}
use Rattle.tree_nodes.specs.declared.node.Content.TheVariants as contents
use Rattle.tree_stores.specs.declared.file_bytes.changes.FileUndo.{FileUndo}
use Rattle.tree_nodes.specs.declared.table.Entry.{Entry}
use Rattle.tree_nodes.specs.declared.table.Place.{Place}
use Rattle.tree_nodes.specs.declared.undo.Move.{Move}
use Rattle.tree_nodes.specs.Tree.{Names, Tree}
use Rattle.tree_nodes.specs.Files.{file_node}
use Rattle.tree_stores.specs.Undo.{Restores}
use Rattle.tree_nodes.specs.Walk.{Held, walk}
use Rattle.tree_nodes.specs.Changes.{Adds, Cuts, Sets, Shifts}
use Rattle.tree_nodes.specs.Table.{Table, child, held, placed}
use Rattle.tree_nodes.specs.Shown.{IsTableOf}
use Rattle.tree_nodes.specs.Undo.{IsUnmade, IsPutBack, IsEditedBack, GivesBack, IsMovedBack}
use Rattle.tree_nodes.proofs.Looking.{reached, held_of, childless}
use Rattle.tree_nodes.proofs.Walks.{once, one_path, lies_at, parent_held}
use Rattle.tree_nodes.proofs.Renaming.{Lay}
use Rattle.tree_nodes.proofs.Ops.{free_step, shift_shows}
use Rattle.tree_nodes.proofs.Methods.{shows, held_where, new_where, cut_stands, cut_good, put_good, set_good}

there : {A : Type 0} (s : Option A) (x : A) → s ≡ Some x → IsSome s
there s x e = subst IsSome (sym e) refl

module _ (m : Table) (t : Tree) (good : IsTableOf m t) (before : Tree) where
  -- ---- an object that was put

  module _ (o : ℕ) (back : IsUnmade o t before) where
    pub unmake_stands : (h : Held) × (held m o ≡ Some h) × (h.0 ≡ o → ⊥) × IsSome (held m h.0)
    unmake_stands = cut_stands m t good o (there _ back.entry back.stands) back.isnt_root

    pub unmake_bare : (x : List ℕ) → child m o x ≡ None
    unmake_bare = childless t (child m) (held m) good.table.tree good.agrees o back.entry back.stands back.bare

    pub unmake_good : (n : Table) (entry : Entry) → held m o ≡ Some (placed entry) → Cuts entry.parent entry.body.name o (child m) (child n) (held m) (held n) → map.len n + 1 ≡ map.len m → IsTableOf n before
    unmake_good n entry is cuts len = subst (IsTableOf n) (sym back.gives) (cut_good m t good n o entry back.entry back.stands back.isnt_root back.bare is cuts len)

  -- ---- an object that was taken away

  module _ (entry : Entry) (back : IsPutBack entry t before) where
    pub put_back_stands : IsSome (held m entry.parent)
    put_back_stands = held_where m t good entry.parent (there _ back.directory back.stands)

    pub put_back_new : held m entry.body.node.object ≡ None
    put_back_new = new_where m t good entry.body.node.object back.new

    pub put_back_good : (n : Table) → Adds entry.parent entry.body.name entry.body.node.object entry.body.node (child m) (child n) (held m) (held n) → map.len n ≡ map.len m + 1 → IsTableOf n before
    put_back_good n adds len = subst (IsTableOf n) (sym back.gives)
        (put_good m t good n entry.parent entry.body.name entry.body.node back.directory back.stands back.free back.new back.room adds len)

  -- ---- a file's bytes

  module _ (o : ℕ) (undo : FileUndo) (back : IsEditedBack o undo t before) where
    lay : (h : Held) × (held m o ≡ Some h) × (h.2 ≡ back.entry.1)
    lay = held_of t (child m) (held m) good.table.tree good.agrees o back.entry back.stands

    pub restore_file : (h : Held) × (file : File) × (bytes : List ℕ) × (held m o ≡ Some h) × (h.2.content ≡ contents.File file) × Restores undo file.bytes bytes
    restore_file = (lay.0, back.file, back.bytes, lay.1, ap (λ (x : Node). x.content) lay.2 ∙ back.holds, back.restores)

    pub restore_good : (n : Table)
        → ((h : Held) (file : File) (bytes : List ℕ) → held m o ≡ Some h → h.2.content ≡ contents.File file → Restores undo file.bytes bytes
        → Sets o (file_node h.2.object bytes file.verifier) (child m) (child n) (held m) (held n)) → map.len n ≡ map.len m → IsTableOf n before
    restore_good n sets len =
        let number = good.table.tree.numbered o lay.0 lay.1 in
        let here = subst (λ (z : ℕ). Sets o (file_node z back.bytes back.file.verifier) (child m) (child n) (held m) (held n)) number
        (sets lay.0 back.file back.bytes lay.1 (ap (λ (x : Node). x.content) lay.2 ∙ back.holds) back.restores) in
        subst (IsTableOf n) (sym back.gives) (set_good m t good n o back.entry (file_node o back.bytes back.file.verifier) back.stands refl here len)

  -- ---- where an object lay

  module _ (move : Move) (back : IsMovedBack move t before) where
    lies_now : (h : Held) × (held m move.object ≡ Some h) × (h.2 ≡ back.entry.1)
    lies_now = held_of t (child m) (held m) good.table.tree good.agrees move.object back.entry back.stands

    leads : walk (child m) 0 back.entry.0 ≡ Some move.object
    leads = (reached t (child m) (held m) good.table.tree good.agrees move.object back.entry back.stands).0

    isnt_root : move.object ≡ 0 → ⊥
    isnt_root zero =
        let root = one_path (child m) (once (child m) (held m) good.table.tree) back.entry.0 [] 0 (leads ∙ ap Some zero) refl in
        back.outside back.directory.0 (ap (λ (z : Names). z ++ back.directory.0) (sym root))

    free : child m move.place.parent move.place.name ≡ None
    free = free_step t (child m) (held m) (shows m t good) move.place.parent back.directory move.place.name back.stood_in
        (ap (map.get t) (sym (append-nil (back.directory.0 ++ move.place.name ∷ []))) ∙ back.moves.gone [])

    pub move_back_stands : (h : Held) × (held m move.object ≡ Some h) × IsSome (held m h.0) × (move.place.parent ≡ h.0 → move.place.name ≡ h.1 → ⊥)
    move_back_stands =
        let lies = lies_at (child m) (held m) good.table.tree back.entry.0 move.object lies_now.0 leads lies_now.1 isnt_root in
        let directory = parent_held (child m) (held m) good.table.tree lies_now.0.0 lies_now.0.1 move.object lies.ends in
        (lies_now.0, lies_now.1, there _ directory.0 directory.1, λ s r. absurd (cc (sym lies.ends ∙ (λ i. child m (sym s i) (sym r i)) ∙ free)))

    pub move_back_directory : IsSome (held m move.place.parent)
    move_back_directory = held_where m t good move.place.parent (there _ back.directory back.stood_in)

    pub move_back_good : (k : Table) (place : Place) → Lay m move.object place
        → Shifts move.object place.parent place.name move.place.parent move.place.name (child m) (child k) (held m) (held k) → map.len k ≡ map.len m → IsTableOf k back.between
    move_back_good k place lay shifts len =
        let is = lay lies_now.0 lies_now.1 in
        let here = subst (λ (z : ℕ × List ℕ). Shifts move.object z.0 z.1 move.place.parent move.place.name (child m) (child k) (held m) (held k)) (λ i. (is.0 i, is.1 i)) shifts in
        let shown = shift_shows t (child m) (held m) (shows m t good) (child k) (held k) move.object move.place.parent back.entry back.directory move.place.name lies_now.0 back.between back.stands back.stood_in
        lies_now.1 isnt_root back.outside back.moves back.free here in
        record { table = record { tree = shown.tree; few = omega (arith, len, good.table.few) }; agrees = shown.agrees }

pub nothing_displaced : (n : Table) (d : Option Entry) (between before : Tree) → d ≡ None → GivesBack d between before → IsTableOf n between → IsTableOf n before
nothing_displaced n d between before none gives good = subst (IsTableOf n) (subst (λ (z : Option Entry). GivesBack z between before) none gives) good

pub displaced_back : (d : Option Entry) (entry : Entry) (between before : Tree) → d ≡ Some entry → GivesBack d between before → IsPutBack entry between before
displaced_back d entry between before is gives = subst (λ (z : Option Entry). GivesBack z between before) is gives
