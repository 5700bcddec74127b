-- walks by names, from object to object
use Rattle.std.proofs.Common.{◌≡◌, ℕ, ◌⊎◌, inl, inr, List, [], ◌∷◌, ◌++◌, Option, Some, None, refl, sym, ap, ◌∙◌, subst, append_assoc, append-nil}
use Rattle.std.specs.Prelude.{IsSome, option_and_then}
use Rattle.tree_nodes.specs.Tree.{Names}
use Rattle.tree_nodes.specs.Walk.{Steps, Held, Holds, walk, IsTree}
use Rattle.tree_nodes.proofs.Chains.{chained, same_some}
use Rattle.tree_nodes.proofs.Found.{ended}

-- ---- one behind another

pub walk_front : (c : Steps) (o : ℕ) (p r : Names) → walk c o (p ++ r) ≡ option_and_then (λ n. walk c n r) (walk c o p)
walk_front c o [] r = refl
walk_front c o (x ∷ p) r = go (c o x) (λ n. walk_front c n p r) where
  go : (s : Option ℕ) → ((n : ℕ) → walk c n (p ++ r) ≡ option_and_then (λ m. walk c m r) (walk c n p))
      → option_and_then (λ n. walk c n (p ++ r)) s ≡ option_and_then (λ n. walk c n r) (option_and_then (λ n. walk c n p) s)
  go None later = refl
  go (Some n) later = later n

pub walk_on : (c : Steps) (o : ℕ) (p r : Names) (n : ℕ) → walk c o p ≡ Some n → walk c o (p ++ r) ≡ walk c n r
walk_on c o p r n e = walk_front c o p r ∙ ap (option_and_then (λ m. walk c m r)) e

one_more : (s : Option ℕ) → option_and_then (λ n. Some n) s ≡ s
one_more None = refl
one_more (Some n) = refl

pub walk_last : (c : Steps) (o : ℕ) (p : Names) (x : List ℕ) (n : ℕ) → walk c o p ≡ Some n → walk c o (p ++ x ∷ []) ≡ c n x
walk_last c o p x n e = walk_on c o p (x ∷ []) n e ∙ one_more (c n x)

-- the directory in which a walk ends
pub record Last (c : Steps) (o : ℕ) (p : Names) (x : List ℕ) (n : ℕ) : Type 0 where
  pub directory : ℕ
  pub leads : walk c o p ≡ Some directory
  pub ends : c directory x ≡ Some n

pub last_step : (c : Steps) (o : ℕ) (p : Names) (x : List ℕ) (n : ℕ) → walk c o (p ++ x ∷ []) ≡ Some n → Last c o p x n
last_step c o p x n e =
    let parts = chained (λ m. walk c m (x ∷ [])) (walk c o p) n (sym (walk_front c o p (x ∷ [])) ∙ e) in
    record { directory = parts.0; leads = parts.1; ends = sym (one_more (c parts.0 x)) ∙ parts.2 }

-- a walk goes through a path's front
pub through : (c : Steps) (o : ℕ) (p r : Names) (n : ℕ) → walk c o (p ++ r) ≡ Some n → (m : ℕ) × (walk c o p ≡ Some m) × (walk c m r ≡ Some n)
through c o p r n e = chained (λ m. walk c m r) (walk c o p) n (sym (walk_front c o p r) ∙ e)

-- ---- from a path's end

onto : (P : Names → Type 0) → ((p : Names) (x : List ℕ) → P p → P (p ++ x ∷ [])) → (q r : Names) → P q → P (q ++ r)
onto P more q [] h = subst P (sym (append-nil q)) h
onto P more q (x ∷ r) h = subst P (append_assoc q (x ∷ []) r) (onto P more (q ++ x ∷ []) r (more q x h))

pub from_end : (P : Names → Type 0) → P [] → ((p : Names) (x : List ℕ) → P p → P (p ++ x ∷ [])) → (p : Names) → P p
from_end P none more p = onto P more [] p none

-- ---- one path

-- each object lies in one directory under one name, and the root in none
pub record IsOnce (c : Steps) : Type 0 where
  pub one : (a b : ℕ) (x y : List ℕ) (n : ℕ) → c a x ≡ Some n → c b y ≡ Some n → (a ≡ b) × (x ≡ y)
  pub above : (a : ℕ) (x : List ℕ) → c a x ≡ Some 0 → ⊥

one_held : (s : Option Held) (g h : Held) → s ≡ Some g → s ≡ Some h → g ≡ h
one_held s g h a b = same_some g h (sym a ∙ b)

pub once : (c : Steps) (v : Holds) → IsTree c v → IsOnce c
once c v tree = record {
  one = λ a b x y n e f.
      let g = tree.down a x n e in
      let h = tree.down b y n f in
      let same = one_held (v n) g.0 h.0 g.1 h.1 in
      (sym g.2 ∙ ap (λ (t : Held). t.0) same ∙ h.2, sym g.3 ∙ ap (λ (t : Held). t.1) same ∙ h.3);
  above = tree.above;
}

abbrev OnePath : Steps → Names → Type 0
OnePath c p = (q : Names) (n : ℕ) → walk c 0 p ≡ Some n → walk c 0 q ≡ Some n → p ≡ q

pub one_path : (c : Steps) → IsOnce c → (p : Names) → OnePath c p
one_path c is = from_end (OnePath c) at_root further where
  at_root : OnePath c []
  at_root q n e f = go (ended q) where
    go : (q ≡ []) ⊎ ((front : Names) × (last : List ℕ) × (q ≡ front ++ last ∷ [])) → [] ≡ q
    go (inl none) = sym none
    go (inr some) =
        let last = last_step c 0 some.0 some.1 n (ap (walk c 0) (sym some.2) ∙ f) in
        absurd (is.above last.directory some.1 (last.ends ∙ sym e))

  further : (p : Names) (x : List ℕ) → OnePath c p → OnePath c (p ++ x ∷ [])
  further p x before q n e f = go (ended q) where
    here : Last c 0 p x n
    here = last_step c 0 p x n e

    go : (q ≡ []) ⊎ ((front : Names) × (last : List ℕ) × (q ≡ front ++ last ∷ [])) → p ++ x ∷ [] ≡ q
    go (inl none) = absurd (is.above here.directory x (here.ends ∙ sym f ∙ ap (walk c 0) none))
    go (inr some) =
        let last = last_step c 0 some.0 some.1 n (ap (walk c 0) (sym some.2) ∙ f) in
        let same = is.one here.directory last.directory x some.1 n here.ends last.ends in
        let fronts = before some.0 here.directory here.leads (last.leads ∙ ap Some (sym same.0)) in
        (λ i. fronts i ++ same.1 i ∷ []) ∙ sym some.2

-- ---- two ways of stepping

-- steps that agree wherever a path comes by lead it to the same object
pub same_walk : (c d : Steps) (o : ℕ) (path : Names)
    → ((front : Names) (x : List ℕ) (rest : Names) (k : ℕ) → path ≡ front ++ x ∷ rest → walk c o front ≡ Some k → d k x ≡ c k x) → walk d o path ≡ walk c o path
same_walk c d o [] agree = refl
same_walk c d o (x ∷ path) agree =
    ap (option_and_then (λ n. walk d n path)) (agree [] x path o refl refl)
    ∙ go (c o x) (λ n e. same_walk c d n path (λ front y rest k is leads.
    agree (x ∷ front) y rest k (ap (λ (t : Names). x ∷ t) is) (ap (option_and_then (λ m. walk c m front)) e ∙ leads))) where
      go : (s : Option ℕ) → ((n : ℕ) → s ≡ Some n → walk d n path ≡ walk c n path) → option_and_then (λ n. walk d n path) s ≡ option_and_then (λ n. walk c n path) s
      go None later = refl
      go (Some n) later = later n refl

-- ---- in a tree

-- what a path leads to is held
pub reached_held : (c : Steps) (v : Holds) → IsTree c v → (p : Names) (n : ℕ) → walk c 0 p ≡ Some n → (h : Held) × (v n ≡ Some h)
reached_held c v tree p n e = go (ended p) where
  go : (p ≡ []) ⊎ ((front : Names) × (last : List ℕ) × (p ≡ front ++ last ∷ [])) → (h : Held) × (v n ≡ Some h)
  go (inl none) =
      let zero : 0 ≡ n = same_some 0 n (ap (walk c 0) (sym none) ∙ e) in
      (tree.root.0, ap v (sym zero) ∙ tree.root.1)
  go (inr some) =
      let last = last_step c 0 some.0 some.1 n (ap (walk c 0) (sym some.2) ∙ e) in
      let h = tree.down last.directory some.1 n last.ends in
      (h.0, h.1)

-- what has a name in it is held
pub parent_held : (c : Steps) (v : Holds) → IsTree c v → (a : ℕ) (x : List ℕ) (n : ℕ) → c a x ≡ Some n → (h : Held) × (v a ≡ Some h)
parent_held c v tree a x n e =
    let h = tree.down a x n e in
    let path = tree.hangs n (subst IsSome (sym h.1) refl) in
    go path.0 path.1 (ended path.0) where
      go : (path : Names) → walk c 0 path ≡ Some n → (path ≡ []) ⊎ ((front : Names) × (last : List ℕ) × (path ≡ front ++ last ∷ [])) → (h : Held) × (v a ≡ Some h)
      go path leads (inl none) = absurd (tree.above a x (e ∙ ap Some (same_some n 0 (sym leads ∙ ap (walk c 0) none))))
      go path leads (inr some) =
          let last = last_step c 0 some.0 some.1 n (ap (walk c 0) (sym some.2) ∙ leads) in
          let same = (once c v tree).one last.directory a some.1 x n last.ends e in
          reached_held c v tree some.0 a (last.leads ∙ ap Some same.0)

-- nothing lies in what isn't held
pub no_child : (c : Steps) (v : Holds) → IsTree c v → (a : ℕ) (x : List ℕ) → v a ≡ None → c a x ≡ None
no_child c v tree a x e = go (c a x) refl where
  go : (s : Option ℕ) → c a x ≡ s → s ≡ None
  go None is = refl
  go (Some n) is = let h = parent_held c v tree a x n is in absurd (cc (h.1, e))

-- the path of what isn't the root ends in its name, behind its directory's
pub record Lies (c : Steps) (path : Names) (o : ℕ) (h : Held) : Type 0 where
  pub front : Names
  pub parts : path ≡ front ++ h.1 ∷ []
  pub leads : walk c 0 front ≡ Some h.0
  pub ends : c h.0 h.1 ≡ Some o

pub lies_at : (c : Steps) (v : Holds) → IsTree c v → (path : Names) (o : ℕ) (h : Held) → walk c 0 path ≡ Some o → v o ≡ Some h → (o ≡ 0 → ⊥) → Lies c path o h
lies_at c v tree path o h leads is apart = go (ended path) where
  go : (path ≡ []) ⊎ ((front : Names) × (last : List ℕ) × (path ≡ front ++ last ∷ [])) → Lies c path o h
  go (inl none) = absurd (apart (same_some o 0 (sym leads ∙ ap (walk c 0) none)))
  go (inr some) =
      let last = last_step c 0 some.0 some.1 o (ap (walk c 0) (sym some.2) ∙ leads) in
      let down = tree.down last.directory some.1 o last.ends in
      let same : down.0 ≡ h = one_held (v o) down.0 h down.1 is in
      let object : last.directory ≡ h.0 = sym down.2 ∙ ap (λ (t : Held). t.0) same in
      let name : some.1 ≡ h.1 = sym down.3 ∙ ap (λ (t : Held). t.1) same in
      record {
        front = some.0;
        parts = some.2 ∙ ap (λ (x : List ℕ). some.0 ++ x ∷ []) name;
        leads = last.leads ∙ ap Some object;
        ends = (λ i. c (sym object i) (sym name i)) ∙ last.ends;
      }
