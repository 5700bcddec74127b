-- each change of the steps as a change of the tree, with what takes it back
use Rattle.std.proofs.Common.{◌≡◌, ℕ, ◌-◌, ◌<◌, ◌≤◌, ◌==◌, zero, suc, true, cond, List, [], ◌∷◌, ◌++◌, Option, Some, None, refl, sym, ap, ◌∙◌, subst, arith, append-nil}
use Rattle.std.specs.Prelude.{is_some, option_map}
use Rattle.std.specs.Ordering.{eq_by_cmp}
use Rattle.std.specs.FinMap as map
use Rattle.tree_nodes.specs.declared.node.Node.{Node}
use Rattle.tree_nodes.specs.declared.node.File.{File}
use Rattle.tree_nodes.specs.declared.node.Content.TheVariants as contents
use Rattle.tree_stores.specs.declared.file_bytes.changes.FileUndo.{FileUndo}
use Rattle.tree_nodes.specs.declared.table.Entry.{Entry}
use Rattle.tree_nodes.specs.Tree.{Names, Tree, path_cmp, entry_of, is_bare}
use Rattle.tree_nodes.specs.Files.{node_limit, file_node}
use Rattle.tree_nodes.specs.Walk.{Steps, Held, Holds, walk, seen, IsTree}
use Rattle.tree_nodes.specs.Moves.{IsOutside, Moves}
use Rattle.tree_nodes.specs.Changes.{Adds, Cuts, Sets, Shifts}
use Rattle.tree_stores.specs.Undo.{Restores}
use Rattle.tree_nodes.specs.Table.{placed}
use Rattle.tree_nodes.specs.Undo.{IsUnmade, IsPutBack, IsEditedBack}
use Rattle.tree_nodes.proofs.Entries.{path_total}
use Rattle.tree_nodes.proofs.Chains.{same_some, differ}
use Rattle.tree_nodes.proofs.Found.{tied, found_stands}
use Rattle.tree_nodes.proofs.Walks.{Lies, lies_at, reached_held}
use Rattle.tree_nodes.proofs.Putting.{put_seen, put_tree, nothing_in, directory_same}
use Rattle.tree_nodes.proofs.Taking.{take_seen, take_tree}
use Rattle.tree_nodes.proofs.Setting.{set_seen, set_tree}
use Rattle.tree_nodes.proofs.Shifting.{shift_seen, shift_tree}
use Rattle.tree_nodes.proofs.Looking.{reached, entry_is, entry_at, entry_held, no_entry, number_of, bare_if, childless, child_stands}
use Rattle.tree_nodes.proofs.Undoing.{undo_put, undo_remove, undo_set, undo_move}

-- the node at each path is the one that the steps lead to
abbrev pub IsSeen : Steps → Holds → Tree → Type 0
IsSeen c v t = (path : Names) → map.get t path ≡ seen c v path

-- steps that show a tree
pub record Shows (c : Steps) (v : Holds) (t : Tree) : Type 0 where
  pub tree : IsTree c v
  pub agrees : IsSeen c v t

get_put : (t : Tree) (p : Names) (n : Node) → map.get (map.insert t p n) p ≡ Some n
get_put t p n = map.get-insert path_total t p n p ∙ ap (λ b. cond b (Some n) (map.get t p)) (tied p p refl)

get_taken : (t : Tree) (p : Names) → map.get (map.remove t p) p ≡ None
get_taken t p = map.get-remove path_total t p p ∙ ap (λ b. cond b None (map.get t p)) (tied p p refl)

module _ (t : Tree) (c : Steps) (v : Holds) (shows : Shows c v t) where
  pub free_step : (o : ℕ) (e : Names × Node) (x : List ℕ) → entry_of t o ≡ Some e → map.get t (e.0 ++ x ∷ []) ≡ None → c o x ≡ None
  free_step o e x at free = go (c o x) refl where
    go : (s : Option ℕ) → c o x ≡ s → s ≡ None
    go None is = refl
    go (Some k) is = let there = child_stands t c v shows.tree shows.agrees o e x k at is in absurd (cc (there.2, free))

  pub not_held : (o : ℕ) → entry_of t o ≡ None → v o ≡ None
  not_held o none = go (v o) refl where
    go : (s : Option Held) → v o ≡ s → s ≡ None
    go None is = refl
    go (Some h) is = let at = entry_held t c v shows.tree shows.agrees o h is in absurd (cc (at.2, none))

  -- ---- an object more

  module _ (d : Steps) (w : Holds) (o : ℕ) (e : Names × Node) (x : List ℕ) (node : Node) (at : entry_of t o ≡ Some e) (free : map.get t (e.0 ++ x ∷ []) ≡ None)
      (new : v node.object ≡ None) (adds : Adds o x node.object node c d v w) where
    leads : walk c 0 e.0 ≡ Some o
    leads = (reached t c v shows.tree shows.agrees o e at).0

    free_name : c o x ≡ None
    free_name = free_step o e x at free

    pub put_shows : Shows d w (map.insert t (e.0 ++ x ∷ []) node)
    put_shows = record {
      tree = put_tree c d v w shows.tree e.0 o x node.object node leads free_name new refl adds;
      agrees = λ path. map.get-insert path_total t (e.0 ++ x ∷ []) node path ∙ ap (cond (eq_by_cmp path_cmp path (e.0 ++ x ∷ [])) (Some node)) (shows.agrees path)
          ∙ sym (put_seen c d v w shows.tree e.0 o x node.object node leads free_name new refl adds path);
    }

    pub put_back : IsUnmade node.object (map.insert t (e.0 ++ x ∷ []) node) t
    put_back =
        let after = map.insert t (e.0 ++ x ∷ []) node in
        let is = entry_at after d w put_shows.tree put_shows.agrees (e.0 ++ x ∷ []) node (get_put t (e.0 ++ x ∷ []) node) in
        record {
          entry = (e.0 ++ x ∷ [], node);
          stands = is;
          isnt_root = λ zero. absurd (cc (shows.tree.root.1, sym (ap v zero) ∙ new));
          bare = bare_if after d w put_shows.tree put_shows.agrees node.object (e.0 ++ x ∷ [], node) is
              (nothing_in c d v w shows.tree e.0 o x node.object node leads free_name new refl adds);
          gives = sym (undo_put t (e.0 ++ x ∷ []) node free);
        }

  -- ---- an object less

  module _ (d : Steps) (w : Holds) (o : ℕ) (e : Names × Node) (h : Held) (at : entry_of t o ≡ Some e) (held : v o ≡ Some h) (apart : o ≡ 0 → ⊥) (bare : is_bare t e.0 ≡ true) (cuts : Cuts h.0 h.1 o c d v w) where
    lies : Lies c e.0 o h
    lies = lies_at c v shows.tree e.0 o h (reached t c v shows.tree shows.agrees o e at).0 held apart

    nothing : (y : List ℕ) → c o y ≡ None
    nothing = childless t c v shows.tree shows.agrees o e at bare

    pub take_shows : Shows d w (map.remove t e.0)
    take_shows = record {
      tree = take_tree c d v w shows.tree lies.front h.0 h.1 o lies.leads lies.ends nothing cuts;
      agrees = λ path. map.get-remove path_total t e.0 path ∙ (λ i. cond (eq_by_cmp path_cmp path (lies.parts i)) None (shows.agrees path i))
          ∙ sym (take_seen c d v w shows.tree lies.front h.0 h.1 o lies.leads lies.ends nothing cuts path);
    }

    fewer : map.len t ≤ node_limit → map.len (map.remove t e.0) < node_limit
    fewer few =
        let there : is_some (map.get t e.0) ≡ true = ap is_some (found_stands t (λ x. x.1.object == o) e at) in
        let less = map.len-remove path_total t e.0 ∙ ap (λ b. cond b (map.len t - 1) (map.len t)) there in
        let one = enough (map.len t) refl there in
        omega (arith, less, one, few) where
          enough : (n : ℕ) → map.len t ≡ n → is_some (map.get t e.0) ≡ true → 1 ≤ n
          enough zero none there = absurd (differ (is_some (map.get t e.0)) there (ap (λ (z : Tree). is_some (map.get z e.0)) (map.empty_of_len t none) ∙ ap is_some (map.get-empty path_cmp e.0)))
          enough (suc n) is there = omega arith

    pub take_back : (entry : Entry) → placed entry ≡ h → map.len t ≤ node_limit → IsPutBack entry (map.remove t e.0) t
    take_back entry is few =
        let after = map.remove t e.0 in
        let path : e.0 ≡ lies.front ++ entry.body.name ∷ [] = lies.parts ∙ ap (λ (z : Held). lies.front ++ z.1 ∷ []) (sym is) in
        let parent : entry.parent ≡ h.0 = ap (λ (z : Held). z.0) is in
        let node : entry.body.node ≡ e.1 = ap (λ (z : Held). z.2) is ∙ same_some h.2 e.1 (sym (ap (option_map {T = Held} (λ z. z.2)) held) ∙ (reached t c v shows.tree shows.agrees o e at).1) in
        let leads = directory_same c d v shows.tree lies.front h.0 h.1 lies.leads cuts.others in
        let directory = reached_held d w take_shows.tree lies.front h.0 leads in
        let number : entry.body.node.object ≡ o = ap (λ (z : Held). z.2.object) is ∙ shows.tree.numbered o h held in
        record {
          directory = (lies.front, directory.0.2);
          stands = ap (entry_of after) parent ∙ entry_is after d w take_shows.tree take_shows.agrees lies.front h.0 directory.0.2 leads (ap (option_map {T = Held} (λ z. z.2)) directory.1);
          new = ap (entry_of after) number ∙ no_entry after d w take_shows.tree take_shows.agrees o cuts.gone;
          free = ap (map.get after) (sym path) ∙ get_taken t e.0;
          room = fewer few;
          gives = sym (undo_remove t e.0 e.1 (found_stands t (λ x. x.1.object == o) e at)) ∙ (λ i. map.insert after (path i) (sym node i));
        }

  -- ---- another node

  module _ (d : Steps) (w : Holds) (o : ℕ) (e : Names × Node) (node : Node) (at : entry_of t o ≡ Some e) (number : node.object ≡ o) (sets : Sets o node c d v w) where
    pub set_shows : Shows d w (map.insert t e.0 node)
    set_shows =
        let leads = (reached t c v shows.tree shows.agrees o e at).0 in
        record {
          tree = set_tree c d v w shows.tree e.0 o node leads number sets;
          agrees = λ path. map.get-insert path_total t e.0 node path ∙ ap (cond (eq_by_cmp path_cmp path e.0) (Some node)) (shows.agrees path)
              ∙ sym (set_seen c d v w shows.tree e.0 o node leads number sets path);
        }

  pub set_back : (d : Steps) (w : Holds) (o : ℕ) (e : Names × Node) (file : File) (bytes : List ℕ) (undo : FileUndo) → entry_of t o ≡ Some e → e.1.content ≡ contents.File file
      → Sets o (file_node o bytes file.verifier) c d v w → Restores undo bytes file.bytes → IsEditedBack o undo (map.insert t e.0 (file_node o bytes file.verifier)) t
  set_back d w o e file bytes undo at holds sets restores =
      let node = file_node o bytes file.verifier in
      let shown = set_shows d w o e node at refl sets in
      let number : e.1.object ≡ o = number_of t c v shows.tree shows.agrees o e.1 (reached t c v shows.tree shows.agrees o e at).1 in
      let old : e.1 ≡ file_node o file.bytes file.verifier = λ i. record { object = number i; content = holds i } in
      record {
        entry = (e.0, node);
        file = record { bytes = bytes; verifier = file.verifier };
        bytes = file.bytes;
        stands = entry_at (map.insert t e.0 node) d w shown.tree shown.agrees e.0 node (get_put t e.0 node);
        holds = refl;
        restores = restores;
        gives = sym (undo_set t e.0 node (file_node o file.bytes file.verifier) (found_stands t (λ x. x.1.object == o) e at ∙ ap Some old));
      }

  -- ---- back to where an object lay

  pub shift_shows : (d : Steps) (w : Holds) (o b : ℕ) (e f : Names × Node) (x : List ℕ) (h : Held) (between : Tree) → entry_of t o ≡ Some e → entry_of t b ≡ Some f → v o ≡ Some h
      → (o ≡ 0 → ⊥) → IsOutside e.0 f.0 → Moves (f.0 ++ x ∷ []) e.0 (map.get between) (map.get t) → ((below : Names) → map.get between (e.0 ++ below) ≡ None) → Shifts o h.0 h.1 b x c d v w
      → Shows d w between
  shift_shows d w o b e f x h between at there held apart outside moves free shifts =
      let lies = lies_at c v shows.tree e.0 o h (reached t c v shows.tree shows.agrees o e at).0 held apart in
      let to = (reached t c v shows.tree shows.agrees b f there).0 in
      let empty = free_step b f x there (ap (map.get t) (sym (append-nil (f.0 ++ x ∷ []))) ∙ moves.gone []) in
      let off = subst (λ (z : Names). IsOutside z f.0) lies.parts outside in
      let seen_moves = subst (λ (z : Names). Moves z (f.0 ++ x ∷ []) (seen c v) (seen d w)) (sym lies.parts)
      (shift_seen c d v w shows.tree lies.front h.0 h.1 o f.0 b x lies.leads lies.ends to empty off shifts) in
      let back : Moves e.0 (f.0 ++ x ∷ []) (map.get t) (seen d w) = record {
        along = λ r. seen_moves.along r ∙ sym (shows.agrees (e.0 ++ r));
        gone = seen_moves.gone;
        others = λ path from_e from_f. seen_moves.others path from_e from_f ∙ sym (shows.agrees path);
      } in
      record {
        tree = shift_tree c d v w shows.tree lies.front h.0 h.1 o f.0 b x lies.leads lies.ends to empty off shifts;
        agrees = λ path. sym (undo_move (f.0 ++ x ∷ []) e.0 (map.get between) (map.get t) (seen d w) moves back free path);
      }
