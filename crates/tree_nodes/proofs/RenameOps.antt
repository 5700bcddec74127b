-- a rename of the table as a rename of the tree, with what takes it back
use Rattle.std.proofs.Common.{◌≡◌, ℕ, ◌≤◌, ◌==◌, ◌⊎◌, inl, inr, true, false, List, [], ◌∷◌, ◌++◌, Option, Some, None, refl, sym, ap, ◌∙◌, subst, append-nil, append_assoc}
use Rattle.std.specs.Prelude.{IsSome, option_and_then, option_map}
use Rattle.std.specs.FinMap as map
use Rattle.tree_nodes.specs.declared.node.Node.{Node}
use Rattle.tree_nodes.specs.declared.table.Entry.{Entry}
use Rattle.tree_nodes.specs.declared.undo.Move.{Move}
use Rattle.tree_nodes.specs.Tree.{Names, Tree, entry_of, is_bare}
use Rattle.tree_nodes.specs.Files.{node_limit}
use Rattle.tree_nodes.specs.Moved.{is_from, moved}
use Rattle.tree_nodes.specs.Walk.{Steps, Held, Holds, walk, node_of, seen, IsTree}
use Rattle.tree_nodes.specs.Moves.{IsOutside, Moves}
use Rattle.tree_nodes.specs.Changes.{Cuts, Shifts}
use Rattle.tree_nodes.specs.Table.{Table, child, held, placed}
use Rattle.tree_nodes.specs.Renames.{IsRenamed}
use Rattle.tree_nodes.specs.Undo.{GivesBack, IsMovedBack}
use Rattle.tree_nodes.proofs.Chains.{mapped, same_some, differ}
use Rattle.tree_nodes.proofs.Found.{found_stands, from_front}
use Rattle.tree_nodes.proofs.Walks.{Lies, lies_at, once, one_path, reached_held, walk_last}
use Rattle.tree_nodes.proofs.Putting.{none_from}
use Rattle.tree_nodes.proofs.Shifting.{shift_seen, shift_tree, from_still, directory_apart}
use Rattle.tree_nodes.proofs.Displacing.{without_name, without_object, name_gone, name_stays, object_gone, object_stays, cuts_it, between_same, leads_still, to_still, lies_still, objects_apart, still_outside}
use Rattle.tree_nodes.proofs.Beside.{same_number}
use Rattle.tree_nodes.proofs.Looking.{reached, entry_is, entry_at, held_of, number_of, childless}
use Rattle.tree_nodes.proofs.MovedLaw.{has_moved, one_move}
use Rattle.tree_nodes.proofs.Ops.{Shows, IsSeen, take_shows, take_back}

none_of : (d : Option Entry) → option_map placed d ≡ None → d ≡ None
none_of None e = refl
none_of (Some x) e = absurd (cc)

module _ (m n : Table) (t : Tree) (shows : Shows (child m) (held m) t) (o a : ℕ) (e f : Names × Node) (y : List ℕ) (move : Move) (at : entry_of t o ≡ Some e) (there : entry_of t a ≡ Some f)
    (outside : is_from (f.0 ++ y ∷ []) e.0 ≡ false) (bare : is_bare t (f.0 ++ y ∷ []) ≡ true) (few : map.len t ≤ node_limit) (renamed : IsRenamed o a y move m n) where
  leads : walk (child m) 0 e.0 ≡ Some o
  leads = (reached t (child m) (held m) shows.tree shows.agrees o e at).0

  to : walk (child m) 0 f.0 ≡ Some a
  to = (reached t (child m) (held m) shows.tree shows.agrees a f there).0

  -- the object isn't the root
  apart : o ≡ 0 → ⊥
  apart zero =
      let root = one_path (child m) (once (child m) (held m) shows.tree) e.0 [] 0 (leads ∙ ap Some zero) refl in
      differ (is_from (f.0 ++ y ∷ []) e.0) (ap (is_from (f.0 ++ y ∷ [])) root ∙ from_front [] (f.0 ++ y ∷ [])) outside

  lay : (h : Held) × (held m o ≡ Some h) × (h.2 ≡ e.1)
  lay = held_of t (child m) (held m) shows.tree shows.agrees o e at

  lies : Lies (child m) e.0 o lay.0
  lies = lies_at (child m) (held m) shows.tree e.0 o lay.0 leads lay.1 apart

  off : IsOutside (lies.front ++ lay.0.1 ∷ []) (f.0 ++ y ∷ [])
  off below is = differ (is_from (f.0 ++ y ∷ []) e.0) (ap (λ (z : Names). is_from z e.0) (is ∙ ap (λ (z : Names). z ++ below) (sym lies.parts)) ∙ from_front e.0 below) outside

  stood : IsSome (map.get t e.0)
  stood = subst IsSome (sym (found_stands t (λ x. x.1.object == o) e at)) refl

  left : child n lay.0.0 lay.0.1 ≡ None
  left = let was = renamed.lay lay.0 lay.1 in (λ i. child n (sym was.0 i) (sym was.1 i)) ∙ renamed.left

  others : (b : ℕ) (z : List ℕ) → (b ≡ lay.0.0 → z ≡ lay.0.1 → ⊥) → (b ≡ a → z ≡ y → ⊥) → child n b z ≡ child m b z
  others b z from on = let was = renamed.lay lay.0 lay.1 in renamed.others b z (λ s r. from (s ∙ was.0) (r ∙ was.1)) on

  -- from steps that lead to nothing at the target
  module _ (c : Steps) (v : Holds) (between : Tree) (tree : IsTree c v) (agrees : IsSeen c v between) (leads_on : walk c 0 lies.front ≡ Some lay.0.0) (ends : c lay.0.0 lay.0.1 ≡ Some o)
      (to_on : walk c 0 f.0 ≡ Some a) (free : c a y ≡ None) (far : IsOutside (lies.front ++ lay.0.1 ∷ []) f.0) (shifts : Shifts o lay.0.0 lay.0.1 a y c (child n) v (held n))
      (same : (path : Names) → IsOutside (f.0 ++ y ∷ []) path → seen c v path ≡ map.get t path) where
    moves : Moves e.0 (f.0 ++ y ∷ []) (seen c v) (seen (child n) (held n))
    moves = subst (λ (z : Names). Moves z (f.0 ++ y ∷ []) (seen c v) (seen (child n) (held n))) (sym lies.parts)
        (shift_seen c (child n) v (held n) tree lies.front lay.0.0 lay.0.1 o f.0 a y leads_on ends to_on free far shifts)

    on_shows : Shows (child n) (held n) (moved t e.0 (f.0 ++ y ∷ []))
    on_shows = record {
      tree = shift_tree c (child n) v (held n) tree lies.front lay.0.0 lay.0.1 o f.0 a y leads_on ends to_on free far shifts;
      agrees = λ path. sym (one_move t e.0 (f.0 ++ y ∷ []) stood outside bare (seen (child n) (held n)) (seen c v) same moves path);
    }

    on_back : GivesBack move.displaced between t → IsMovedBack move (moved t e.0 (f.0 ++ y ∷ [])) t
    on_back gives =
        let after = moved t e.0 (f.0 ++ y ∷ []) in
        let was = renamed.lay lay.0 lay.1 in
        let number : e.1.object ≡ o = number_of t (child m) (held m) shows.tree shows.agrees o e.1 (reached t (child m) (held m) shows.tree shows.agrees o e at).1 in
        let here : map.get after (f.0 ++ y ∷ []) ≡ Some e.1 =
        ap (map.get after) (sym (append-nil (f.0 ++ y ∷ []))) ∙ (has_moved t e.0 (f.0 ++ y ∷ []) stood outside bare).along []
        ∙ ap (map.get t) (append-nil e.0) ∙ found_stands t (λ x. x.1.object == o) e at in
        let front_leads = from_still c (child n) v (held n) tree lies.front lay.0.0 lay.0.1 o f.0 a y leads_on ends to_on free far shifts in
        let front_held = reached_held (child n) (held n) on_shows.tree lies.front lay.0.0 front_leads in
        record {
          entry = (f.0 ++ y ∷ [], e.1);
          directory = (lies.front, front_held.0.2);
          between = between;
          stands = ap (entry_of after) (renamed.object_is ∙ sym number) ∙ entry_at after (child n) (held n) on_shows.tree on_shows.agrees (f.0 ++ y ∷ []) e.1 here;
          stood_in = ap (entry_of after) was.0 ∙ entry_is after (child n) (held n) on_shows.tree on_shows.agrees lies.front lay.0.0 front_held.0.2 front_leads
              (ap (option_map {T = Held} (λ z. z.2)) front_held.1);
          outside = directory_apart c (child n) v (held n) tree lies.front lay.0.0 lay.0.1 o f.0 a y leads_on ends to_on free far shifts;
          moves = subst (λ (z : Names). Moves z (f.0 ++ y ∷ []) (map.get between) (map.get after)) (lies.parts ∙ ap (λ (x : List ℕ). lies.front ++ x ∷ []) (sym was.1)) (record {
            along = λ r. on_shows.agrees ((f.0 ++ y ∷ []) ++ r) ∙ moves.along r ∙ sym (agrees (e.0 ++ r));
            gone = λ r. on_shows.agrees (e.0 ++ r) ∙ moves.gone r;
            others = λ path from_e from_f. on_shows.agrees path ∙ moves.others path from_e from_f ∙ sym (agrees path);
          });
          free = λ r. agrees ((f.0 ++ y ∷ []) ++ r) ∙ ap (option_and_then (node_of v)) (none_from c 0 (f.0 ++ y ∷ []) r (walk_last c 0 f.0 y a to_on ∙ free));
          displaced = gives;
        }

  record Renames : Type 0 where
    shown : Shows (child n) (held n) (moved t e.0 (f.0 ++ y ∷ []))
    back : IsMovedBack move (moved t e.0 (f.0 ++ y ∷ [])) t

  -- to a free name
  to_free : child m a y ≡ None → Renames
  to_free free =
      let shifts : Shifts o lay.0.0 lay.0.1 a y (child m) (child n) (held m) (held n) = record {
        left = left;
        here = renamed.here;
        others = others;
        place = renamed.place;
        kept = λ b ne. renamed.kept b ne (λ s. absurd (cc (s, free)));
      } in
      let far : IsOutside (lies.front ++ lay.0.1 ∷ []) f.0 = λ below is. off (below ++ y ∷ []) (ap (λ (z : Names). z ++ y ∷ []) is ∙ append_assoc (lies.front ++ lay.0.1 ∷ []) below (y ∷ [])) in
      let same : (path : Names) → IsOutside (f.0 ++ y ∷ []) path → seen (child m) (held m) path ≡ map.get t path = λ path _. sym (shows.agrees path) in
      let nothing : move.displaced ≡ None = none_of move.displaced (renamed.displaced ∙ ap (option_and_then (held m)) free) in
      record {
        shown = on_shows (child m) (held m) t shows.tree shows.agrees lies.leads lies.ends to free far shifts same;
        back = on_back (child m) (held m) t shows.tree shows.agrees lies.leads lies.ends to free far shifts same (subst (λ (z : Option Entry). GivesBack z t t) (sym nothing) refl);
      }

  -- over another object
  module _ (k : ℕ) (is : child m a y ≡ Some k) where
    over : (h : Held) × (held m k ≡ Some h) × (h.0 ≡ a) × (h.1 ≡ y)
    over = shows.tree.down a y k is

    at_target : entry_of t k ≡ Some (f.0 ++ y ∷ [], over.0.2)
    at_target = entry_is t (child m) (held m) shows.tree shows.agrees (f.0 ++ y ∷ []) k over.0.2 (walk_last (child m) 0 f.0 y a to ∙ is) (ap (option_map {T = Held} (λ z. z.2)) over.1)

    nothing_in : (z : List ℕ) → child m k z ≡ None
    nothing_in = childless t (child m) (held m) shows.tree shows.agrees k (f.0 ++ y ∷ [], over.0.2) at_target bare

    cuts : Cuts over.0.0 over.0.1 k (child m) (without_name a y (child m)) (held m) (without_object k (held m))
    cuts = subst (λ (z : ℕ × List ℕ). Cuts z.0 z.1 k (child m) (without_name a y (child m)) (held m) (without_object k (held m))) (λ i. (sym over.2 i, sym over.3 i)) (cuts_it a y k (child m) (held m))

    isnt_root : k ≡ 0 → ⊥
    isnt_root zero = shows.tree.above a y (is ∙ ap Some zero)

    between_shows : Shows (without_name a y (child m)) (without_object k (held m)) (map.remove t (f.0 ++ y ∷ []))
    between_shows = take_shows t (child m) (held m) shows (without_name a y (child m)) (without_object k (held m)) k (f.0 ++ y ∷ [], over.0.2) over.0 at_target over.1 isnt_root bare cuts

    objects : o ≡ k → ⊥
    objects = objects_apart (child m) (child n) (held m) (held n) shows.tree lies.front lay.0.0 lay.0.1 o f.0 a y k lies.leads lies.ends to is nothing_in off

    shifts_on : Shifts o lay.0.0 lay.0.1 a y (without_name a y (child m)) (child n) (without_object k (held m)) (held n)
    shifts_on = record {
      left = left;
      here = renamed.here;
      others = λ b z from on. others b z from on ∙ sym (name_stays a y (child m) b z on);
      place = λ h was. renamed.place h (sym (object_stays k (held m) o objects) ∙ was);
      kept = λ b ne. kept b ne (same_number b k);
    } where
      kept : (b : ℕ) → (b ≡ o → ⊥) → (b ≡ k) ⊎ (b ≡ k → ⊥) → held n b ≡ without_object k (held m) b
      kept b ne (inl same) = ap (held n) same ∙ renamed.gone k is ∙ sym (ap (without_object k (held m)) same ∙ object_gone k (held m))
      kept b ne (inr other) = renamed.kept b ne (λ s. other (same_some b k (sym s ∙ is))) ∙ sym (object_stays k (held m) b other)

    to_object : Renames
    to_object =
        let c = without_name a y (child m) in
        let v = without_object k (held m) in
        let on = leads_still (child m) (child n) (held m) (held n) shows.tree lies.front lay.0.0 lay.0.1 o f.0 a y k lies.leads lies.ends to is nothing_in off in
        let lies_on = lies_still (child m) (child n) (held m) (held n) shows.tree lies.front lay.0.0 lay.0.1 o f.0 a y k lies.leads lies.ends to is nothing_in off in
        let to_on = to_still (child m) (child n) (held m) (held n) shows.tree lies.front lay.0.0 lay.0.1 o f.0 a y k lies.leads lies.ends to is nothing_in off in
        let far = still_outside (child m) (child n) (held m) (held n) shows.tree lies.front lay.0.0 lay.0.1 o f.0 a y k lies.leads lies.ends to is nothing_in off in
        let same : (path : Names) → IsOutside (f.0 ++ y ∷ []) path → seen c v path ≡ map.get t path = λ path out. between_same (child m) (child n) (held m) (held n) shows.tree lies.front lay.0.0 lay.0.1 o f.0 a y k lies.leads lies.ends to is nothing_in off path out ∙ sym (shows.agrees path) in
        let entry = mapped placed move.displaced over.0 (renamed.displaced ∙ ap (option_and_then (held m)) is ∙ over.1) in
        let gives = take_back t (child m) (held m) shows c v k (f.0 ++ y ∷ [], over.0.2) over.0 at_target over.1 isnt_root bare cuts entry.0 entry.2 few in
        record {
          shown = on_shows c v (map.remove t (f.0 ++ y ∷ [])) between_shows.tree between_shows.agrees on lies_on to_on (name_gone a y (child m)) far shifts_on same;
          back = on_back c v (map.remove t (f.0 ++ y ∷ [])) between_shows.tree between_shows.agrees on lies_on to_on (name_gone a y (child m)) far shifts_on same
              (subst (λ (z : Option Entry). GivesBack z (map.remove t (f.0 ++ y ∷ [])) t) (sym entry.1) gives);
        }

  renames : Renames
  renames = go (child m a y) refl where
    go : (s : Option ℕ) → child m a y ≡ s → Renames
    go None is = to_free is
    go (Some k) is = to_object k is

  pub rename_shows : Shows (child n) (held n) (moved t e.0 (f.0 ++ y ∷ []))
  rename_shows = renames.shown

  pub rename_back : IsMovedBack move (moved t e.0 (f.0 ++ y ∷ [])) t
  rename_back = renames.back
