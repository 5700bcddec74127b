-- ranks of objects, and of the directories that they lie in
use Rattle.std.proofs.Common.{◌≡◌, ℕ, ◌+◌, ◌-◌, ◌^◌, ◌<◌, ◌≤◌, ◌⊎◌, inl, inr, true, false, List, [], ◌∷◌, ◌++◌, drop, length, Option, Some, None, refl, sym, ap, ◌∙◌, subst, arith, min, zero, suc, if◌then◌else◌}
use Rattle.std.specs.Prelude.{IsSome, nat_lt, option_map, slice_index_or}
use Rattle.std.proofs.lemmas.Bool.{ltb-true, ltb-false}
use Rattle.tree_nodes.specs.declared.node.Node.{Node}
use Rattle.tree_nodes.specs.declared.ranks.TheConstants.{TOP}
use Rattle.tree_nodes.specs.Tree.{Names, Tree, entry_of}
use Rattle.tree_nodes.specs.Moved.{is_from}
use Rattle.tree_nodes.specs.Walk.{Steps, Held, Holds, walk, IsTree}
use Rattle.tree_nodes.specs.Changes.{Adds, Sets, HeldBut}
use Rattle.tree_nodes.specs.Table.{Table, child, held}
use Rattle.tree_nodes.specs.Renames.{IsRenamed}
use Rattle.tree_nodes.specs.declared.undo.Move.{Move}
use Rattle.tree_nodes.specs.Ranks.{rank_of, IsUnder, IsRanked, IsRankedBut}
use Rattle.tree_nodes.specs.declared.ranks.Ranks.{Ranks}
use Rattle.tree_nodes.specs.Shown.{IsTableOf}
use Rattle.tree_nodes.proofs.Chains.{chained, decide, isnt, same_some}
use Rattle.tree_nodes.proofs.Beside.{same_number, no_longer}
use Rattle.tree_nodes.proofs.Found.{parts_of}
use Rattle.tree_nodes.proofs.Looking.{reached}
use Rattle.tree_nodes.proofs.Walks.{walk_on, walk_last, lies_at, once, one_path, parent_held}

-- ---- ranks

-- what is under a rank is under a higher one
under_more : (a b c : ℕ) → IsUnder a b → b ≤ c → IsUnder a c
under_more a b c (inl less) more = inl (omega (arith, less, more))
under_more a b c (inr top) more = inr (omega (arith, top, more))

-- the rank that comes next
under_next : (k : ℕ) → IsUnder k (min (k + 1) (2 ^ 32 - 1))
under_next k = go (decide (nat_lt k TOP)) where
  go : (nat_lt k TOP ≡ true) ⊎ (nat_lt k TOP ≡ false) → IsUnder k (min (k + 1) (2 ^ 32 - 1))
  go (inl below) = inl (omega (arith, ltb-true k TOP below))
  go (inr top) = inr (omega (arith, ltb-false k TOP top))

-- two steps up
under_both : (a b c : ℕ) → IsUnder a b → IsUnder b c → IsUnder a c
under_both a b c (inl less) (inl more) = inl (omega (arith, less, more))
under_both a b c (inr top) (inl more) = inr (omega (arith, top, more))
under_both a b c below (inr top) = inr top

-- a place more, which has the top rank as a number without a place has
index_pushed : (ranks : List ℕ) (index : ℕ) → slice_index_or (ranks ++ TOP ∷ []) index TOP ≡ slice_index_or ranks index TOP
index_pushed [] zero = refl
index_pushed [] (suc k) = refl
index_pushed (x ∷ ranks) zero = refl
index_pushed (x ∷ ranks) (suc k) = index_pushed ranks k

pub rank_pushed : (r s : Ranks) → s.first ≡ r.first → s.ranks.items ≡ r.ranks.items ++ TOP ∷ [] → (object : ℕ) → rank_of s object ≡ rank_of r object
rank_pushed r s first items object =
    ap (λ (f : ℕ). if nat_lt object f then TOP else slice_index_or s.ranks.items (object - f) TOP) first
    ∙ ap (λ (l : List ℕ). if nat_lt object r.first then TOP else slice_index_or l (object - r.first) TOP) items
    ∙ ap (λ (k : ℕ). if nat_lt object r.first then TOP else k) (index_pushed r.ranks.items (object - r.first))

-- ---- raising

pub all_ranked : (v : Holds) (r : ℕ → ℕ) (at least : ℕ) → IsRanked v r → IsRankedBut v r at least
all_ranked v r at least ranked o h is other = inl (ranked o h is other)

-- where all have the top rank, each is under it
pub all_top : (v : Holds) (r : ℕ → ℕ) → ((o : ℕ) → r o ≡ TOP) → IsRanked v r
all_top v r top o h is other = inr (omega (arith, top h.0))

-- a directory that has the rank that it needs
pub high_enough : (v : Holds) (r : ℕ → ℕ) (at least : ℕ) → IsRankedBut v r at least → least ≤ r at → IsRanked v r
high_enough v r at least but enough o h is other = go (but o h is other) where
  go : IsUnder (r o) (r h.0) ⊎ ((h.0 ≡ at) × IsUnder (r o) least) → IsUnder (r o) (r h.0)
  go (inl under) = under
  go (inr needs) = subst (λ (a : ℕ). IsUnder (r o) (r a)) (sym needs.0) (under_more (r o) least (r at) needs.1 enough)

module _ (v : Holds) (r s : ℕ → ℕ) (at least : ℕ) (but : IsRankedBut v r at least) (low : r at < least) (high : least ≤ s at) (kept : (o : ℕ) → (o ≡ at → ⊥) → s o ≡ r o) where
  -- but for the directory itself all are under those that they lie in
  raised : (o : ℕ) (h : Held) → v o ≡ Some h → (h.0 ≡ o → ⊥) → (o ≡ at → ⊥) → IsUnder (s o) (s h.0)
  raised o h is other apart = subst (λ (a : ℕ). IsUnder a (s h.0)) (sym (kept o apart)) (go (but o h is other) (same_number h.0 at)) where
    go : IsUnder (r o) (r h.0) ⊎ ((h.0 ≡ at) × IsUnder (r o) least) → (h.0 ≡ at) ⊎ (h.0 ≡ at → ⊥) → IsUnder (r o) (s h.0)
    go (inl under) (inl here) = under_more (r o) (r h.0) (s h.0) under (omega (arith, ap r here, ap s here, low, high))
    go (inl under) (inr elsewhere) = under_more (r o) (r h.0) (s h.0) under (omega (arith, kept h.0 elsewhere))
    go (inr needs) _ = under_more (r o) least (s h.0) needs.1 (omega (arith, ap s needs.0, high))

  pub raised_last : v at ≡ None → IsRanked v s
  raised_last none o h is other = raised o h is other (λ same. absurd (cc (sym is ∙ ap v same ∙ none)))

  pub raised_root : (above : ℕ) → Some above ≡ option_map {T = Held} (λ h. h.0) (v at) → above ≡ at → IsRanked v s
  raised_root above is root o h at_o other = raised o h at_o other (λ same. other (sym (same_some above h.0 (is ∙ ap (option_map {T = Held} (λ z. z.0)) (ap v (sym same) ∙ at_o))) ∙ root ∙ sym same))

  pub raised_on : (above : ℕ) → Some above ≡ option_map {T = Held} (λ h. h.0) (v at) → IsRankedBut v s above (min (s at + 1) (2 ^ 32 - 1))
  raised_on above is o h at_o other = go (same_number o at) where
    go : (o ≡ at) ⊎ (o ≡ at → ⊥) → IsUnder (s o) (s h.0) ⊎ ((h.0 ≡ above) × IsUnder (s o) (min (s at + 1) (2 ^ 32 - 1)))
    go (inl same) =
        inr (
          sym (same_some above h.0 (is ∙ ap (option_map {T = Held} (λ z. z.0)) (ap v (sym same) ∙ at_o))),
          subst (λ (a : ℕ). IsUnder (s a) (min (s at + 1) (2 ^ 32 - 1))) (sym same) (under_next (s at)),
        )
    go (inr apart) = inl (raised o h at_o other apart)

-- ---- changes

pub same_ranked : (v w : Holds) (r : ℕ → ℕ) → ((o : ℕ) → w o ≡ v o) → IsRanked v r → IsRanked w r
same_ranked v w r same ranked o h is other = ranked o h (sym (same o) ∙ is) other

pub set_ranked : (c d : Steps) (v w : Holds) (r : ℕ → ℕ) (o : ℕ) (node : Node) (g : Held) → v o ≡ Some g → Sets o node c d v w → IsRanked v r → IsRanked w r
set_ranked c d v w r o node g was sets ranked a h is other = go (same_number a o) where
  go : (a ≡ o) ⊎ (a ≡ o → ⊥) → IsUnder (r a) (r h.0)
  go (inl same) =
      let parent : h.0 ≡ g.0 = ap (λ (z : Held). z.0) (same_some h (g.0, g.1, node) (sym is ∙ ap w same ∙ sets.place g was)) in
      subst (λ (p : ℕ). IsUnder (r a) (r p)) (sym parent) (ranked a g (ap v same ∙ was) (λ e. other (parent ∙ e)))
  go (inr apart) = ranked a h (sym (sets.kept a apart) ∙ is) other

pub cut_ranked : (v w : Holds) (r : ℕ → ℕ) (o : ℕ) → w o ≡ None → HeldBut o v w → IsRanked v r → IsRanked w r
cut_ranked v w r o gone kept ranked a h is other = go (same_number a o) where
  go : (a ≡ o) ⊎ (a ≡ o → ⊥) → IsUnder (r a) (r h.0)
  go (inl same) = absurd (cc (sym is ∙ ap w same ∙ gone))
  go (inr apart) = ranked a h (sym (kept a apart) ∙ is) other

-- an object more, of whatever rank
pub add_ranked : (c d : Steps) (v w : Holds) (r s : ℕ → ℕ) (tree : IsTree c v) (o : ℕ) (name : List ℕ) (x : ℕ) (node : Node) → v x ≡ None → Adds o name x node c d v w
    → ((a : ℕ) → (a ≡ x → ⊥) → s a ≡ r a) → IsRanked v r → IsRankedBut w s o (min (s x + 1) (2 ^ 32 - 1))
add_ranked c d v w r s tree o name x node new adds kept ranked a h is other = go (same_number a x) where
  -- nothing lies in it yet
  elsewhere : v a ≡ Some h → h.0 ≡ x → ⊥
  elsewhere was same = at (same_number a 0) where
    at : (a ≡ 0) ⊎ (a ≡ 0 → ⊥) → ⊥
    at (inl root) = other (ap (λ (z : Held). z.0) (same_some h tree.root.0 (sym was ∙ ap v root ∙ tree.root.1)) ∙ tree.root.2 ∙ sym root)
    at (inr apart) =
        let path = tree.hangs a (subst IsSome (sym was) refl) in
        let lies = lies_at c v tree path.0 a h path.1 was apart in
        let there = parent_held c v tree h.0 h.1 a lies.ends in
        absurd (cc (sym there.1 ∙ ap v same ∙ new))

  go : (a ≡ x) ⊎ (a ≡ x → ⊥) → IsUnder (s a) (s h.0) ⊎ ((h.0 ≡ o) × IsUnder (s a) (min (s x + 1) (2 ^ 32 - 1)))
  go (inl same) =
      inr (
        ap (λ (z : Held). z.0) (same_some h (o, name, node) (sym is ∙ ap w same ∙ adds.place)),
        subst (λ (z : ℕ). IsUnder (s z) (min (s x + 1) (2 ^ 32 - 1))) (sym same) (under_next (s x)),
      )
  go (inr apart) =
      let was = sym (adds.kept a apart) ∙ is in
      inl (subst (λ (z : ℕ). IsUnder z (s h.0)) (sym (kept a apart)) (subst (λ (z : ℕ). IsUnder (r a) z) (sym (kept h.0 (elsewhere was))) (ranked a h was other)))

-- the object itself may have another rank, where it doesn't stand
pub new_rank : (c : Steps) (v : Holds) (r s : ℕ → ℕ) (tree : IsTree c v) (x : ℕ) → v x ≡ None → ((a : ℕ) → (a ≡ x → ⊥) → s a ≡ r a) → IsRanked v r → IsRanked v s
new_rank c v r s tree x new kept ranked a h is other =
    subst (λ (z : ℕ). IsUnder z (s h.0)) (sym (kept a (λ same. absurd (cc (sym is ∙ ap v same ∙ new)))))
    (subst (λ (z : ℕ). IsUnder (r a) z) (sym (kept h.0 elsewhere)) (ranked a h is other)) where
      elsewhere : h.0 ≡ x → ⊥
      elsewhere same = at (same_number a 0) where
        at : (a ≡ 0) ⊎ (a ≡ 0 → ⊥) → ⊥
        at (inl root) = other (ap (λ (z : Held). z.0) (same_some h tree.root.0 (sym is ∙ ap v root ∙ tree.root.1)) ∙ tree.root.2 ∙ sym root)
        at (inr apart) =
            let path = tree.hangs a (subst IsSome (sym is) refl) in
            let lies = lies_at c v tree path.0 a h path.1 is apart in
            let there = parent_held c v tree h.0 h.1 a lies.ends in
            absurd (cc (sym there.1 ∙ ap v same ∙ new))

-- an object that lies elsewhere
pub moved_ranked : (m n : Table) (r : ℕ → ℕ) (o a : ℕ) (name : List ℕ) (move : Move) (g : Held) → held m o ≡ Some g → IsRenamed o a name move m n
    → IsRanked (held m) r → IsRankedBut (held n) r a (min (r o + 1) (2 ^ 32 - 1))
moved_ranked m n r o a name move g was renamed ranked z h is other = go (same_number z o) where
  stays : (z ≡ o → ⊥) → (k : Option ℕ) → child m a name ≡ k → IsUnder (r z) (r h.0)
  stays apart None at = ranked z h (sym (renamed.kept z apart (λ e. absurd (cc (sym at ∙ e)))) ∙ is) other
  stays apart (Some k) at = there (same_number z k) where
    there : (z ≡ k) ⊎ (z ≡ k → ⊥) → IsUnder (r z) (r h.0)
    there (inl same) = absurd (cc (sym is ∙ ap (held n) same ∙ renamed.gone k at))
    there (inr off) = ranked z h (sym (renamed.kept z apart (λ e. off (same_some z k (sym e ∙ at)))) ∙ is) other

  go : (z ≡ o) ⊎ (z ≡ o → ⊥) → IsUnder (r z) (r h.0) ⊎ ((h.0 ≡ a) × IsUnder (r z) (min (r o + 1) (2 ^ 32 - 1)))
  go (inl same) =
      inr (
        ap (λ (y : Held). y.0) (same_some h (a, name, g.2) (sym is ∙ ap (held n) same ∙ renamed.place g was)),
        subst (λ (y : ℕ). IsUnder (r y) (min (r o + 1) (2 ^ 32 - 1))) (sym same) (under_next (r o)),
      )
  go (inr apart) = inl (stays apart (child m a name) refl)

-- ---- what lies below

module _ (c : Steps) (v : Holds) (tree : IsTree c v) (r : ℕ → ℕ) (ranked : IsRanked v r) where
  -- what a name leads to is another object
  other_object : (p : Names) (o : ℕ) (x : List ℕ) (k : ℕ) → walk c 0 p ≡ Some o → c o x ≡ Some k → o ≡ k → ⊥
  other_object p o x k leads step same =
      no_longer p x [] (sym (one_path c (once c v tree) p (p ++ x ∷ []) o leads (walk_last c 0 p x o leads ∙ step ∙ ap Some (sym same))))

  -- an object that names lead to has a rank under that of the one they lead from
  pub below_is_under : (p : Names) (front : ℕ) (rest : Names) (at : ℕ) → walk c 0 p ≡ Some front → walk c front rest ≡ Some at → (front ≡ at) ⊎ IsUnder (r at) (r front)
  below_is_under p front [] at leads on = inl (same_some front at on)
  below_is_under p front (x ∷ rest) at leads on =
      let first = chained {A = ℕ} (λ next. walk c next rest) (c front x) at on in
      let lies = tree.down front x first.0 first.1 in
      let apart = other_object p front x first.0 leads first.1 in
      let one : IsUnder (r first.0) (r front) = subst (λ (z : ℕ). IsUnder (r first.0) (r z)) lies.2 (ranked first.0 lies.0 lies.1 (λ e. apart (sym lies.2 ∙ e))) in
      inr (go one (below_is_under (p ++ x ∷ []) first.0 rest at (walk_last c 0 p x front leads ∙ first.1) first.2)) where
        go : {k : ℕ} → IsUnder (r k) (r front) → (k ≡ at) ⊎ IsUnder (r at) (r k) → IsUnder (r at) (r front)
        go {k} one (inl same) = subst (λ (z : ℕ). IsUnder (r z) (r front)) same one
        go {k} one (inr under) = under_both (r at) (r k) (r front) under one

-- so an object of a rank that isn't lower doesn't lie below one that has one of its own
pub outranked : (m : Table) (t : Tree) (good : IsTableOf m t) (r : ℕ → ℕ) → IsRanked (held m) r → (object front : ℕ) → r front < TOP → r front ≤ r object → (object ≡ front → ⊥)
    → (e f : Names × Node) → entry_of t object ≡ Some e → entry_of t front ≡ Some f → is_from e.0 f.0 ≡ false
outranked m t good r ranked object front own high apart e f is there = isnt (is_from e.0 f.0) (λ from.
    let rest = drop (length f.0) e.0 in
    let front_at = (reached t (child m) (held m) good.table.tree good.agrees front f there).0 in
    let leads = sym (walk_on (child m) 0 f.0 rest front front_at) ∙ ap (walk (child m) 0) (sym (parts_of e.0 f.0 from)) ∙ (reached t (child m) (held m) good.table.tree good.agrees object e is).0 in
    go (below_is_under (child m) (held m) good.table.tree r ranked f.0 front rest object front_at leads)) where
      go : (front ≡ object) ⊎ IsUnder (r object) (r front) → ⊥
      go (inl same) = apart (sym same)
      go (inr (inl less)) = absurd (omega (arith, less, high))
      go (inr (inr top)) = absurd (omega (arith, top, own))
