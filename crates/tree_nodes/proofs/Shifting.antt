-- a tree with an object under another name
use Rattle.std.proofs.Common.{◌≡◌, ℕ, ◌⊎◌, inl, inr, List, [], ◌∷◌, ◌++◌, Option, Some, None, refl, sym, ap, ◌∙◌, subst, append_assoc}
use Rattle.std.specs.Prelude.{IsSome, option_and_then, option_map}
use Rattle.tree_nodes.specs.Tree.{Names}
use Rattle.tree_nodes.specs.Walk.{Steps, Held, Holds, walk, node_of, seen, IsTree}
use Rattle.tree_nodes.specs.Moves.{IsOutside, Moves}
use Rattle.tree_nodes.specs.Changes.{Shifts}
use Rattle.tree_nodes.proofs.Chains.{same_some}
use Rattle.tree_nodes.proofs.Walks.{walk_on, walk_last, once, one_path, same_walk, reached_held}
use Rattle.tree_nodes.proofs.Beside.{same_number, same_place, directory_outside, from_or_outside}
use Rattle.tree_nodes.proofs.Putting.{none_from}

-- the path p, x of the object m, and the free one q, y that it goes to, which isn't from p, x on
module _ (c d : Steps) (v w : Holds) (tree : IsTree c v) (p : Names) (o : ℕ) (x : List ℕ) (m : ℕ) (q : Names) (a : ℕ) (y : List ℕ) (leads : walk c 0 p ≡ Some o) (lies : c o x ≡ Some m)
    (to : walk c 0 q ≡ Some a) (free : c a y ≡ None) (outside : IsOutside (p ++ x ∷ []) q) (shifts : Shifts m o x a y c d v w) where
  stood : walk c 0 (p ++ x ∷ []) ≡ Some m
  stood = walk_last c 0 p x o leads ∙ lies

  none_there : (r : Names) → walk c 0 ((q ++ y ∷ []) ++ r) ≡ None
  none_there r = none_from c 0 (q ++ y ∷ []) r (walk_last c 0 q y a to ∙ free)

  -- where neither name is on the way
  shift_walk : (path : Names) → IsOutside (p ++ x ∷ []) path → IsOutside (q ++ y ∷ []) path → walk d 0 path ≡ walk c 0 path
  shift_walk path from_p from_q = same_walk c d 0 path (λ front z rest k is comes. go front z rest k is comes (same_place k o z x) (same_place k a z y)) where
    go : (front : Names) (z : List ℕ) (rest : Names) (k : ℕ) → path ≡ front ++ z ∷ rest → walk c 0 front ≡ Some k
        → ((k ≡ o) × (z ≡ x)) ⊎ (k ≡ o → z ≡ x → ⊥) → ((k ≡ a) × (z ≡ y)) ⊎ (k ≡ a → z ≡ y → ⊥) → d k z ≡ c k z
    go front z rest k is comes (inr apart) (inr off) = shifts.others k z apart off
    go front z rest k is comes (inl same) t =
        let fronts : front ≡ p = one_path c (once c v tree) front p o (comes ∙ ap Some same.0) leads in
        absurd (from_p rest (is ∙ (λ i. fronts i ++ same.1 i ∷ rest) ∙ sym (append_assoc p (x ∷ []) rest)))
    go front z rest k is comes s (inl same) =
        let fronts : front ≡ q = one_path c (once c v tree) front q a (comes ∙ ap Some same.0) to in
        absurd (from_q rest (is ∙ (λ i. fronts i ++ same.1 i ∷ rest) ∙ sym (append_assoc q (y ∷ []) rest)))

  to_still : walk d 0 q ≡ Some a
  to_still = shift_walk q outside (directory_outside q y) ∙ to

  -- the target's path doesn't lead to the directory that the object lay in
  pub directory_apart : IsOutside (q ++ y ∷ []) p
  directory_apart r e = absurd (cc (sym leads ∙ ap (walk c 0) e ∙ none_there r))

  pub from_still : walk d 0 p ≡ Some o
  from_still = shift_walk p (directory_outside p x) directory_apart ∙ leads

  shift_here : walk d 0 (q ++ y ∷ []) ≡ Some m
  shift_here = walk_last d 0 q y a to_still ∙ shifts.here

  shift_gone : (r : Names) → walk d 0 ((p ++ x ∷ []) ++ r) ≡ None
  shift_gone r = none_from d 0 (p ++ x ∷ []) r (walk_last d 0 p x o from_still ∙ shifts.left)

  -- what lies below goes along
  below_same : (r : Names) → walk d m r ≡ walk c m r
  below_same r = same_walk c d m r (λ front z rest k is comes. go front z rest k is comes (same_place k o z x) (same_place k a z y)) where
    go : (front : Names) (z : List ℕ) (rest : Names) (k : ℕ) → r ≡ front ++ z ∷ rest → walk c m front ≡ Some k
        → ((k ≡ o) × (z ≡ x)) ⊎ (k ≡ o → z ≡ x → ⊥) → ((k ≡ a) × (z ≡ y)) ⊎ (k ≡ a → z ≡ y → ⊥) → d k z ≡ c k z
    go front z rest k is comes (inr apart) (inr off) = shifts.others k z apart off
    go front z rest k is comes (inl same) t =
        absurd (directory_outside p x front
        (sym (one_path c (once c v tree) ((p ++ x ∷ []) ++ front) p o (walk_on c 0 (p ++ x ∷ []) front m stood ∙ comes ∙ ap Some same.0) leads)))
    go front z rest k is comes s (inl same) =
        absurd (outside front (sym (one_path c (once c v tree) ((p ++ x ∷ []) ++ front) q a (walk_on c 0 (p ++ x ∷ []) front m stood ∙ comes ∙ ap Some same.0) to)))

  was : (h : Held) × (v m ≡ Some h)
  was = reached_held c v tree (p ++ x ∷ []) m stood

  now_is : w m ≡ Some (a, y, was.0.2)
  now_is = shifts.place was.0 was.1

  same_node : (n : ℕ) → node_of w n ≡ node_of v n
  same_node n = go (same_number n m) where
    go : (n ≡ m) ⊎ (n ≡ m → ⊥) → node_of w n ≡ node_of v n
    go (inl same) = ap (node_of w) same ∙ ap (option_map {T = Held} (λ x. x.2)) now_is ∙ sym (ap (node_of v) same ∙ ap (option_map {T = Held} (λ x. x.2)) was.1)
    go (inr apart) = ap (option_map {T = Held} (λ x. x.2)) (shifts.kept n apart)

  same_nodes : (s : Option ℕ) → option_and_then (node_of w) s ≡ option_and_then (node_of v) s
  same_nodes None = refl
  same_nodes (Some n) = same_node n

  pub shift_seen : Moves (p ++ x ∷ []) (q ++ y ∷ []) (seen c v) (seen d w)
  shift_seen = record {
    along = λ r. ap (option_and_then (node_of w)) (walk_on d 0 (q ++ y ∷ []) r m shift_here ∙ below_same r ∙ sym (walk_on c 0 (p ++ x ∷ []) r m stood)) ∙ same_nodes (walk c 0 ((p ++ x ∷ []) ++ r));
    gone = λ r. ap (option_and_then (node_of w)) (shift_gone r);
    others = λ path from_p from_q. ap (option_and_then (node_of w)) (shift_walk path from_p from_q) ∙ same_nodes (walk c 0 path);
  }

  isnt_root : 0 ≡ m → ⊥
  isnt_root same = tree.above o x (lies ∙ ap Some (sym same))

  pub shift_tree : IsTree d w
  shift_tree = record {
    root = (tree.root.0, shifts.kept 0 isnt_root ∙ tree.root.1, tree.root.2);
    numbered = numbered;
    down = down;
    above = above;
    hangs = hangs;
  } where
    numbered : (n : ℕ) (h : Held) → w n ≡ Some h → h.2.object ≡ n
    numbered n h e = go (same_number n m) where
      go : (n ≡ m) ⊎ (n ≡ m → ⊥) → h.2.object ≡ n
      go (inl same) =
          ap (λ (t : Held). t.2.object) (same_some h (a, y, was.0.2) (sym e ∙ ap w same ∙ now_is)) ∙ tree.numbered m was.0 was.1 ∙ sym same
      go (inr apart) = tree.numbered n h (sym (shifts.kept n apart) ∙ e)

    down : (b : ℕ) (z : List ℕ) (n : ℕ) → d b z ≡ Some n → (h : Held) × (w n ≡ Some h) × (h.0 ≡ b) × (h.1 ≡ z)
    down b z n e = go (same_place b a z y) (same_place b o z x) where
      go : ((b ≡ a) × (z ≡ y)) ⊎ (b ≡ a → z ≡ y → ⊥) → ((b ≡ o) × (z ≡ x)) ⊎ (b ≡ o → z ≡ x → ⊥) → (h : Held) × (w n ≡ Some h) × (h.0 ≡ b) × (h.1 ≡ z)
      go (inl same) s =
          let is : n ≡ m = same_some n m (sym e ∙ (λ i. d (same.0 i) (same.1 i)) ∙ shifts.here) in
          ((a, y, was.0.2), ap w is ∙ now_is, sym same.0, sym same.1)
      go (inr off) (inl same) = absurd (cc (sym e ∙ (λ i. d (same.0 i) (same.1 i)) ∙ shifts.left))
      go (inr off) (inr apart) =
          let stays : c b z ≡ Some n = sym (shifts.others b z apart off) ∙ e in
          let h = tree.down b z n stays in
          (h.0, shifts.kept n (λ s. let twice = (once c v tree).one b o z x m (stays ∙ ap Some s) lies in apart twice.0 twice.1) ∙ h.1, h.2, h.3)

    above : (b : ℕ) (z : List ℕ) → d b z ≡ Some 0 → ⊥
    above b z e = go (same_place b a z y) (same_place b o z x) where
      go : ((b ≡ a) × (z ≡ y)) ⊎ (b ≡ a → z ≡ y → ⊥) → ((b ≡ o) × (z ≡ x)) ⊎ (b ≡ o → z ≡ x → ⊥) → ⊥
      go (inl same) s = isnt_root (same_some 0 m (sym e ∙ (λ i. d (same.0 i) (same.1 i)) ∙ shifts.here))
      go (inr off) (inl same) = absurd (cc (sym e ∙ (λ i. d (same.0 i) (same.1 i)) ∙ shifts.left))
      go (inr off) (inr apart) = tree.above b z (sym (shifts.others b z apart off) ∙ e)

    hangs : (n : ℕ) → IsSome (w n) → (path : Names) × (walk d 0 path ≡ Some n)
    hangs n there = go (same_number n m) where
      on : (path : Names) → walk c 0 path ≡ Some n → ((r : Names) × (path ≡ (p ++ x ∷ []) ++ r)) ⊎ IsOutside (p ++ x ∷ []) path
          → ((r : Names) × (path ≡ (q ++ y ∷ []) ++ r)) ⊎ IsOutside (q ++ y ∷ []) path → (e : Names) × (walk d 0 e ≡ Some n)
      on path is (inl from) t =
          ((q ++ y ∷ []) ++ from.0, walk_on d 0 (q ++ y ∷ []) from.0 m shift_here ∙ below_same from.0 ∙ sym (walk_on c 0 (p ++ x ∷ []) from.0 m stood) ∙ ap (walk c 0) (sym from.1) ∙ is)
      on path is (inr from_p) (inl from) = absurd (cc (sym is ∙ ap (walk c 0) from.1 ∙ none_there from.0))
      on path is (inr from_p) (inr from_q) = (path, shift_walk path from_p from_q ∙ is)

      go : (n ≡ m) ⊎ (n ≡ m → ⊥) → (path : Names) × (walk d 0 path ≡ Some n)
      go (inl same) = (q ++ y ∷ [], shift_here ∙ ap Some (sym same))
      go (inr apart) =
          let path = tree.hangs n (subst IsSome (shifts.kept n apart) there) in
          on path.0 path.1 (from_or_outside path.0 (p ++ x ∷ [])) (from_or_outside path.0 (q ++ y ∷ []))
