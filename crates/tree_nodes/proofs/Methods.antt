-- the methods of a tree by its table
use Rattle.std.proofs.Common.{◌≡◌, ℕ, ◌+◌, ◌<◌, ◌≤◌, true, false, List, [], ◌∷◌, ◌++◌, Some, None, Result, Ok, Err, refl, sym, ap, ◌∙◌, subst, arith, append-nil}
use Rattle.std.specs.Prelude.{IsSome, IfOk, OnOk, OnErr, option_and_then, option_map}
use Rattle.std.specs.FinMap as map
use Rattle.tree_nodes.specs.declared.node.Node.{Node}
use Rattle.tree_nodes.specs.declared.node.File.{File}
use Rattle.tree_nodes.specs.declared.node.Content.TheVariants as contents
use Rattle.tree_nodes.specs.declared.table.Entry.{Entry}
use Rattle.tree_nodes.specs.declared.table.Edit.{Edit}
use Rattle.tree_nodes.specs.declared.undo.Undo.{Undo}
use Rattle.tree_nodes.specs.declared.undo.Step.{Step}
use Rattle.tree_nodes.specs.declared.undo.Step.TheVariants.{Removed}
use Rattle.tree_nodes.specs.Tree.{Names, Tree, entry_of, is_bare}
use Rattle.tree_nodes.specs.Files.{node_limit, file_node}
use Rattle.tree_nodes.specs.Sound.{IsSound}
use Rattle.tree_nodes.specs.Moved.{is_from, moved}
use Rattle.tree_nodes.specs.Walk.{Steps, Held, Holds, walk, seen, IsTree}
use Rattle.tree_nodes.specs.Changes.{Adds, Cuts, Sets}
use Rattle.tree_nodes.specs.Table.{Table, child, held, placed}
use Rattle.tree_nodes.specs.TableChanges.{IsSame}
use Rattle.tree_nodes.specs.Shown.{Agrees, Shown, IsTable, IsTableOf}
use Rattle.tree_nodes.specs.Edits.{edited}
use Rattle.tree_nodes.specs.Place.{node_in}
use Rattle.tree_nodes.specs.Undo.{TakesBack, StepsBack}
use Rattle.tree_nodes.specs.Results.{IsMade, IsRemoved, IsEdited, IsMoved}
use Rattle.tree_nodes.proofs.Entries.{path_total, path_ties}
use Rattle.tree_nodes.proofs.Chains.{differ, value_of}
use Rattle.tree_nodes.proofs.Found.{from_front}
use Rattle.tree_nodes.proofs.Beside.{directory_outside}
use Rattle.tree_nodes.proofs.Counting.{tree_within, table_within}
use Rattle.tree_nodes.proofs.Looking.{reached, held_of, entry_is, childless, fronts_stand}
use Rattle.tree_nodes.proofs.Ops.{Shows, put_shows, put_back, take_shows, take_back, set_shows, set_back, not_held}
use Rattle.tree_nodes.proofs.RenameOps.{rename_shows, rename_back}
use Rattle.tree_nodes.proofs.Walks.{lies_at, once, one_path, parent_held, walk_last}

-- ---- outcomes

pub by_outcome : {T E G : Type 0} (r : Result T E) (P : T → Type 0) (Q : Type 0) → IfOk r P → OnErr r Q → ((x : T) → P x → G) → (Q → G) → G
by_outcome (Ok x) P Q ok err f g = f x ok
by_outcome (Err e) P Q ok err f g = g err

pub on_ok : {T E : Type 0} (r : Result T E) (P : T → Type 0) (X : Type 0) → IfOk r P → ((x : T) → P x → X) → OnOk r X
on_ok (Ok x) P X ok f = f x ok
on_ok (Err e) P X ok f = ok

-- ---- a table that shows a tree

pub good_at : (m : Table) (s : Shown m) (t : Tree) → s.0 ≡ t → IsTable m → IsTableOf m t
good_at m s t e is = record { table = is; agrees = λ path. ap (λ (z : Tree). map.get z path) (sym e) ∙ s.1 path }

-- a table shows one tree
pub one_tree : (m : Table) (t u : Tree) → Agrees m t → Agrees m u → t ≡ u
one_tree m t u a b = map.same_map path_total path_ties t u (λ path. a path ∙ sym (b path))

same_steps : (G : Steps → Holds → Type 0) (m n : Table) → IsSame m n → G (child m) (held m) → G (child n) (held n)
same_steps G m n h g = subst (λ (s : Steps × Holds). G s.0 s.1) (λ i. ((λ a x. sym (h.steps a x) i), (λ a. sym (h.places a) i))) g

module _ (m : Table) (t : Tree) (good : IsTableOf m t) where
  pub shows : Shows (child m) (held m) t
  shows = record { tree = good.table.tree; agrees = good.agrees }

  pub few : map.len t ≤ node_limit
  few = omega (arith, tree_within m t good.table.tree good.agrees, good.table.few)

  pub count : map.len m ≡ map.len t
  count = omega (arith, tree_within m t good.table.tree good.agrees, table_within m t good.table.tree good.agrees)

  pub sound : IsSound t
  sound = record { small = few; fronts = fronts_stand t (child m) (held m) good.table.tree good.agrees }

  pub unchanged : (n : Table) → IsSame m n → IsTableOf n t
  unchanged n h = record {
    table = record { tree = same_steps IsTree m n h good.table.tree; few = omega (arith, h.len, good.table.few) };
    agrees = same_steps (λ c v. (path : Names) → map.get t path ≡ seen c v path) m n h good.agrees;
  }

  pub held_where : (o : ℕ) → IsSome (entry_of t o) → IsSome (held m o)
  held_where o there =
      let e = value_of _ there in
      let h = held_of t (child m) (held m) good.table.tree good.agrees o e.0 e.1 in
      subst IsSome (sym h.1) refl

  pub new_where : (o : ℕ) → entry_of t o ≡ None → held m o ≡ None
  new_where = not_held t (child m) (held m) shows

  free_where : (o : ℕ) (e : Names × Node) (name : List ℕ) → entry_of t o ≡ Some e → node_in t o name ≡ None → map.get t (e.0 ++ name ∷ []) ≡ None
  free_where o e name at free = sym (ap (option_and_then {T = Names × Node} (λ x. map.get t (x.0 ++ name ∷ []))) at) ∙ free

  -- ---- make

  pub put_good : (n : Table) (o : ℕ) (name : List ℕ) (node : Node) (e : Names × Node) → entry_of t o ≡ Some e → map.get t (e.0 ++ name ∷ []) ≡ None → entry_of t node.object ≡ None → map.len t < node_limit
      → Adds o name node.object node (child m) (child n) (held m) (held n) → map.len n ≡ map.len m + 1 → IsTableOf n (map.insert t (e.0 ++ name ∷ []) node)
  put_good n o name node e at free new room adds len =
      let shown = put_shows t (child m) (held m) shows (child n) (held n) o e name node at free (new_where node.object new) adds in
      record { table = record { tree = shown.tree; few = omega (arith, len, count, room) }; agrees = shown.agrees }

  module _ (n : Table) (o : ℕ) (name : List ℕ) (node : Node) (undo : Undo) (e : Names × Node) (at : entry_of t o ≡ Some e) (free : node_in t o name ≡ None) (new : entry_of t node.object ≡ None)
      (room : map.len t < node_limit) (made : IsMade o name node undo m n) where
    pub made_good : IsTableOf n (map.insert t (e.0 ++ name ∷ []) node)
    made_good = put_good n o name node e at (free_where o e name at free) new room made.adds made.len

    pub made_back : TakesBack undo (map.insert t (e.0 ++ name ∷ []) node) t
    unfolding TakesBack
    made_back = subst (λ (s : Step). StepsBack s (map.insert t (e.0 ++ name ∷ []) node) t) (sym made.step)
        (put_back t (child m) (held m) shows (child n) (held n) o e name node at (free_where o e name at free) (new_where node.object new) made.adds)

  -- ---- remove

  pub cut_stands : (o : ℕ) → IsSome (entry_of t o) → (o ≡ 0 → ⊥) → (h : Held) × (held m o ≡ Some h) × (h.0 ≡ o → ⊥) × IsSome (held m h.0)
  cut_stands o there apart =
      let e = value_of _ there in
      let h = held_of t (child m) (held m) good.table.tree good.agrees o e.0 e.1 in
      let leads = (reached t (child m) (held m) good.table.tree good.agrees o e.0 e.1).0 in
      let lies = lies_at (child m) (held m) good.table.tree e.0.0 o h.0 leads h.1 apart in
      let directory = parent_held (child m) (held m) good.table.tree h.0.0 h.0.1 o lies.ends in
      let other : h.0.0 ≡ o → ⊥ = λ same.
      directory_outside lies.front h.0.1 [] (one_path (child m) (once (child m) (held m) good.table.tree) lies.front ((lies.front ++ h.0.1 ∷ []) ++ []) o (lies.leads ∙ ap Some same)
      (ap (walk (child m) 0) (append-nil (lies.front ++ h.0.1 ∷ [])) ∙ walk_last (child m) 0 lies.front h.0.1 h.0.0 lies.leads ∙ lies.ends)) in
      (h.0, h.1, other, subst IsSome (sym directory.1) refl)

  pub bare_where : (o : ℕ) → IsSome (entry_of t o) → ((e : Names × Node) → entry_of t o ≡ Some e → is_bare t e.0 ≡ true) → (x : List ℕ) → child m o x ≡ None
  bare_where o there bare x = let e = value_of _ there in childless t (child m) (held m) good.table.tree good.agrees o e.0 e.1 (bare e.0 e.1) x

  module _ (n : Table) (o : ℕ) (entry : Entry) (e : Names × Node) (at : entry_of t o ≡ Some e) (apart : o ≡ 0 → ⊥) (bare : is_bare t e.0 ≡ true) (is : held m o ≡ Some (placed entry))
      (cuts : Cuts entry.parent entry.body.name o (child m) (child n) (held m) (held n)) (len : map.len n + 1 ≡ map.len m) where
    cut_shows : Shows (child n) (held n) (map.remove t e.0)
    cut_shows = take_shows t (child m) (held m) shows (child n) (held n) o e (placed entry) at is apart bare cuts

    pub cut_good : IsTableOf n (map.remove t e.0)
    cut_good = record { table = record { tree = cut_shows.tree; few = omega (arith, len, good.table.few) }; agrees = cut_shows.agrees }

    pub cut_back : TakesBack (record { step = Removed entry }) (map.remove t e.0) t
    unfolding TakesBack
    cut_back = take_back t (child m) (held m) shows (child n) (held n) o e (placed entry) at is apart bare cuts entry refl few

  module _ (n : Table) (o : ℕ) (undo : Undo) (e : Names × Node) (at : entry_of t o ≡ Some e) (apart : o ≡ 0 → ⊥) (bare : is_bare t e.0 ≡ true) (change : IsRemoved o undo m n) where
    pub removed_good : IsTableOf n (map.remove t e.0)
    removed_good = cut_good n o change.entry e at apart bare change.stood change.cuts change.len

    pub removed_back : TakesBack undo (map.remove t e.0) t
    removed_back = subst (λ (z : Undo). TakesBack z (map.remove t e.0) t) (sym change.step) (cut_back n o change.entry e at apart bare change.stood change.cuts change.len)

  -- ---- write and resize

  pub set_good : (n : Table) (o : ℕ) (e : Names × Node) (node : Node) → entry_of t o ≡ Some e → node.object ≡ o → Sets o node (child m) (child n) (held m) (held n) → map.len n ≡ map.len m
      → IsTableOf n (map.insert t e.0 node)
  set_good n o e node at number sets len =
      let shown = set_shows t (child m) (held m) shows (child n) (held n) o e node at number sets in
      record { table = record { tree = shown.tree; few = omega (arith, len, good.table.few) }; agrees = shown.agrees }

  pub file_where : (o : ℕ) → ((e : Names × Node) × (file : File) × (entry_of t o ≡ Some e) × (e.1.content ≡ contents.File file)) → (h : Held) × (file : File) × (held m o ≡ Some h) × (h.2.content ≡ contents.File file)
  file_where o f =
      let h = held_of t (child m) (held m) good.table.tree good.agrees o f.0 f.2 in
      (h.0, f.1, h.1, ap (λ (x : Node). x.content) h.2 ∙ f.3)

  module _ (n : Table) (o : ℕ) (edit : Edit) (undo : Undo) (e : Names × Node) (file : File) (at : entry_of t o ≡ Some e) (holds : e.1.content ≡ contents.File file) (change : IsEdited o edit undo m n) where
    lay : (h : Held) × (held m o ≡ Some h) × (h.2 ≡ e.1)
    lay = held_of t (child m) (held m) good.table.tree good.agrees o e at

    number : lay.0.2.object ≡ o
    number = good.table.tree.numbered o lay.0 lay.1

    sets : Sets o (file_node o (edited edit file.bytes) file.verifier) (child m) (child n) (held m) (held n)
    sets = subst (λ (z : ℕ). Sets o (file_node z (edited edit file.bytes) file.verifier) (child m) (child n) (held m) (held n)) number
        (change.sets lay.0 file lay.1 (ap (λ (x : Node). x.content) lay.2 ∙ holds))

    pub edited_good : IsTableOf n (map.insert t e.0 (file_node o (edited edit file.bytes) file.verifier))
    edited_good = set_good n o e (file_node o (edited edit file.bytes) file.verifier) at refl sets change.len

    pub edited_back : TakesBack undo (map.insert t e.0 (file_node o (edited edit file.bytes) file.verifier)) t
    unfolding TakesBack
    edited_back = subst (λ (s : Step). StepsBack s (map.insert t e.0 (file_node o (edited edit file.bytes) file.verifier)) t) (sym change.step)
        (set_back t (child m) (held m) shows (child n) (held n) o e file (edited edit file.bytes) change.file at holds sets
        (change.restores lay.0 file lay.1 (ap (λ (x : Node). x.content) lay.2 ∙ holds)))

  -- ---- rename

  module _ (n : Table) (o a : ℕ) (name : List ℕ) (undo : Undo) (e f : Names × Node) (at : entry_of t o ≡ Some e) (there : entry_of t a ≡ Some f) (outside : is_from (f.0 ++ name ∷ []) e.0 ≡ false)
      (bare : is_bare t (f.0 ++ name ∷ []) ≡ true) (move : IsMoved o a name undo m n) where
    moved_shows : Shows (child n) (held n) (moved t e.0 (f.0 ++ name ∷ []))
    moved_shows = rename_shows m n t shows o a e f name move.move at there outside bare few move.renamed

    pub moved_good : IsTableOf n (moved t e.0 (f.0 ++ name ∷ []))
    moved_good = record { table = record { tree = moved_shows.tree; few = omega (arith, move.renamed.len, good.table.few) }; agrees = moved_shows.agrees }

    pub moved_back : TakesBack undo (moved t e.0 (f.0 ++ name ∷ [])) t
    unfolding TakesBack
    moved_back = subst (λ (s : Step). StepsBack s (moved t e.0 (f.0 ++ name ∷ [])) t) (sym move.step)
        (rename_back m n t shows o a e f name move.move at there outside bare few move.renamed)

  -- what a rename requires of the table
  module _ (o a : ℕ) (name : List ℕ) (e f : Names × Node) (at : entry_of t o ≡ Some e) (there : entry_of t a ≡ Some f) (outside : is_from (f.0 ++ name ∷ []) e.0 ≡ false)
      (bare : is_bare t (f.0 ++ name ∷ []) ≡ true) where
    leads : walk (child m) 0 e.0 ≡ Some o
    leads = (reached t (child m) (held m) good.table.tree good.agrees o e at).0

    to : walk (child m) 0 f.0 ≡ Some a
    to = (reached t (child m) (held m) good.table.tree good.agrees a f there).0

    isnt_root : o ≡ 0 → ⊥
    isnt_root zero =
        let root = one_path (child m) (once (child m) (held m) good.table.tree) e.0 [] 0 (leads ∙ ap Some zero) refl in
        differ (is_from (f.0 ++ name ∷ []) e.0) (ap (is_from (f.0 ++ name ∷ [])) root ∙ from_front [] (f.0 ++ name ∷ [])) outside

    isnt_there : child m a name ≡ Some o → ⊥
    isnt_there is =
        let path = one_path (child m) (once (child m) (held m) good.table.tree) (f.0 ++ name ∷ []) e.0 o (walk_last (child m) 0 f.0 name a to ∙ is) leads in
        differ (is_from (f.0 ++ name ∷ []) e.0)
        (ap (λ (z : Names). is_from z e.0) (path ∙ sym (append-nil e.0)) ∙ from_front e.0 []) outside

    pub rename_stands : (h : Held) × (held m o ≡ Some h) × IsSome (held m h.0) × (a ≡ h.0 → name ≡ h.1 → ⊥)
    rename_stands =
        let h = held_of t (child m) (held m) good.table.tree good.agrees o e at in
        let lies = lies_at (child m) (held m) good.table.tree e.0 o h.0 leads h.1 isnt_root in
        let directory = parent_held (child m) (held m) good.table.tree h.0.0 h.0.1 o lies.ends in
        (h.0, h.1, subst IsSome (sym directory.1) refl, λ s r. isnt_there ((λ i. child m (s i) (r i)) ∙ lies.ends))

    at_name : (k : ℕ) → child m a name ≡ Some k → (h : Held) × (held m k ≡ Some h) × (entry_of t k ≡ Some (f.0 ++ name ∷ [], h.2))
    at_name k is =
        let h = good.table.tree.down a name k is in
        (h.0, h.1, entry_is t (child m) (held m) good.table.tree good.agrees (f.0 ++ name ∷ []) k h.0.2 (walk_last (child m) 0 f.0 name a to ∙ is) (ap (option_map {T = Held} (λ z. z.2)) h.1))

    pub rename_bare : (k : ℕ) (x : List ℕ) → child m a name ≡ Some k → child m k x ≡ None
    rename_bare k x is = let h = at_name k is in childless t (child m) (held m) good.table.tree good.agrees k (f.0 ++ name ∷ [], h.0.2) h.2 bare x

    pub rename_displaced : (k : ℕ) → child m a name ≡ Some k → IsSome (held m k) × (k ≡ o → ⊥) × (k ≡ a → ⊥)
    rename_displaced k is =
        let h = at_name k is in
        (subst IsSome (sym h.1) refl, λ s. isnt_there (is ∙ ap Some s), λ s. absurd (cc (rename_bare k name is, ap (λ z. child m z name) s ∙ is)))

-- what is shown is taken back
pub undo_clause : {E : Type 0} (r : Result Undo E) (P : Undo → Type 0) (n : Table) (u t : Tree) → Agrees n u → IfOk r P → ((undo : Undo) → P undo → (after : Tree) × Agrees n after × TakesBack undo after t)
    → IfOk r (λ undo. TakesBack undo u t)
undo_clause (Ok x) P n u t agrees ok f = let back = f x ok in subst (λ (z : Tree). TakesBack x z t) (one_tree n back.0 u back.1 agrees) back.2
undo_clause (Err e) P n u t agrees ok f = ok

pub on_ok_both : {T E : Type 0} (r : Result T E) (A B X : Type 0) → OnOk r A → OnOk r B → (A → B → X) → OnOk r X
on_ok_both (Ok x) A B X a b f = f a b
on_ok_both (Err e) A B X a b f = a

pub on_err_always : {T E : Type 0} (r : Result T E) (X : Type 0) → X → OnErr r X
on_err_always (Ok y) X x = tt
on_err_always (Err e) X x = x

pub by_both : {T E G : Type 0} (r : Result T E) (P Q : Type 0) → OnOk r P → OnErr r Q → (P → G) → (Q → G) → G
by_both (Ok x) P Q ok err f g = f ok
by_both (Err e) P Q ok err f g = g err
