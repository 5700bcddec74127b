-- tables that hold the same
use Rattle.std.proofs.Common.{◌≡◌, ℕ, Bool, true, false, cond, List, [], ◌∷◌, Option, Some, None, refl, sym, ap, ◌∙◌, subst}
use Rattle.std.specs.Prelude.{IsSome, option_map}
use Rattle.std.specs.Ordering.{nat_cmp, eq_by_cmp}
use Rattle.std.specs.FinMap as map
use Rattle.std.specs.FinMap.Entries as es
use Rattle.tree_nodes.specs.declared.table.Entry.{Entry}
use Rattle.tree_nodes.specs.Tree.{Names, Tree}
use Rattle.tree_nodes.specs.Table.{Table, child, held, placed}
use Rattle.tree_nodes.specs.Walk.{Steps, Held, Holds, IsTree, seen}
use Rattle.tree_nodes.specs.Shown.{IsTableOf}
use Rattle.tree_nodes.proofs.Walks.{lies_at}
use Rattle.tree_nodes.proofs.Methods.{one_tree}

-- ---- lists of entries

-- what each entry says of its object
abbrev pub said : List (ℕ × Entry) → List (ℕ × Held)
said [] = []
said (e ∷ rest) = (e.0, placed e.1) ∷ said rest

find_said : (o : ℕ) (xs : List (ℕ × Entry)) → option_map placed (es.find nat_cmp o xs) ≡ es.find nat_cmp o (said xs)
find_said o [] = refl
find_said o (e ∷ rest) = go (find_said o rest) (eq_by_cmp nat_cmp o e.0) where
  go : option_map placed (es.find nat_cmp o rest) ≡ es.find nat_cmp o (said rest) → (b : Bool) → option_map placed (cond b (Some e.1) (es.find nat_cmp o rest)) ≡ cond b (Some (placed e.1)) (es.find nat_cmp o (said rest))
  go later true = refl
  go later false = later

pub same_said : (m n : Table) → said (map.entries m) ≡ said (map.entries n) → (o : ℕ) → held m o ≡ held n o
same_said m n e o =
    ap (option_map placed) (map.get-entries m o) ∙ find_said o (map.entries m) ∙ ap (λ (z : List (ℕ × Held)). es.find nat_cmp o z) e
    ∙ sym (ap (option_map placed) (map.get-entries n o) ∙ find_said o (map.entries n))

-- where what is left of two lists says the same, the lists do
abbrev pub Compared : List (ℕ × Entry) → List (ℕ × Entry) → List (ℕ × Entry) → List (ℕ × Entry) → Type 0
Compared ours theirs left right = said left ≡ said right → said ours ≡ said theirs

-- ---- trees

-- an object that one tree holds as another does is led to by the same step
leads : (c d : Steps) (v w : Holds) → IsTree c v → IsTree d w → ((o : ℕ) → v o ≡ w o) → (a : ℕ) (x : List ℕ) (o : ℕ) → c a x ≡ Some o → d a x ≡ Some o
leads c d v w one other same a x o is =
    let h = one.down a x o is in
    let held_there : w o ≡ Some h.0 = sym (same o) ∙ h.1 in
    let path = other.hangs o (subst IsSome (sym held_there) refl) in
    let lies = lies_at d w other path.0 o h.0 path.1 held_there (λ z. one.above a x (is ∙ ap Some z)) in
    (λ i. d (sym h.2 i) (sym h.3 i)) ∙ lies.ends

same_steps : (c d : Steps) (v w : Holds) → IsTree c v → IsTree d w → ((o : ℕ) → v o ≡ w o) → (a : ℕ) (x : List ℕ) → c a x ≡ d a x
same_steps c d v w one other same a x = go (c a x) refl where
  none : (s : Option ℕ) → d a x ≡ s → c a x ≡ None → None ≡ s
  none None is nothing = refl
  none (Some o) is nothing = absurd (cc (sym nothing ∙ leads d c w v other one (λ z. sym (same z)) a x o is))

  go : (s : Option ℕ) → c a x ≡ s → c a x ≡ d a x
  go None is = is ∙ none (d a x) refl is
  go (Some o) is = is ∙ sym (leads c d v w one other same a x o is)

pub alike_trees : (m n : Table) (t u : Tree) → IsTableOf m t → IsTableOf n u → ((o : ℕ) → held m o ≡ held n o) → t ≡ u
alike_trees m n t u one other same =
    one_tree n t u (subst (λ (z : Steps × Holds). (path : Names) → map.get t path ≡ seen z.0 z.1 path)
    (λ i. ((λ a x. same_steps (child m) (child n) (held m) (held n) one.table.tree other.table.tree same a x i), (λ o. same o i))) one.agrees) other.agrees
