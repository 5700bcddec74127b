-- paths of entries, and objects at them
use Rattle.std.proofs.Common.{◌≡◌, ℕ, ◌⊎◌, inl, inr, Bool, true, false, List, [], ◌∷◌, ◌++◌, length, suc, Option, Some, None, refl, sym, ap, ◌∙◌, eq-eqb, arith}
use Rattle.std.specs.Prelude.{◌==◌, ◌&&◌, nat_lt, nat_eq, option_map}
use Rattle.std.specs.Cmp.Lexicographic.{pointwise}
use Rattle.std.specs.FinMap as map
use Rattle.std.proofs.lemmas.Bool.{eqb-true, le-ltb, lt-ltb}
use Prim.Native.Nat.compare
use lib.Dec.{is_le}
use Rattle.std.proofs.lemmas.Cmp.{nat_list_eq_equiv}
use Rattle.tree_nodes.specs.declared.node.Node.{Node}
use Rattle.tree_nodes.specs.Tree.{Names, Tree, entry_of, same_path, is_below}
use Rattle.tree_nodes.specs.Moved.{is_from}
use Rattle.tree_nodes.proofs.Found.{found_stands, same_lists}
use Rattle.tree_nodes.proofs.Chains.{decide, differ, isnt, same_some}
use Rattle.tree_nodes.specs.declared.node.File.{File}
use Rattle.tree_nodes.specs.declared.node.Content.TheVariants as contents
use Rattle.tree_handles.specs.Live.{FileEntry}
use Rattle.tree_handles.proofs.Standing.{own_number}

abbrev is_name : List ℕ → List ℕ → Bool
is_name = pointwise nat_eq

swapped : (a e s : Bool) → (a && (e && s)) ≡ (e && (a && s))
swapped true e s = refl
swapped false true s = refl
swapped false false s = refl

none_fewer : (m : ℕ) → nat_lt (suc m) 1 ≡ false
none_fewer m = le-ltb (suc m) 1 (omega arith)

fewer_suc : (m k : ℕ) → nat_lt (suc m) (suc k) ≡ nat_lt m k
fewer_suc m k = ap is_le (compare.suc-suc (suc m) k)

-- an entry of a directory lies below what the directory is, or lies below
pub below_child : (d p : Names) (n : List ℕ) → is_below (d ++ n ∷ []) p ≡ is_from d p
below_child [] [] n = refl
below_child [] (y ∷ p) n = ap (λ b. b && is_from (n ∷ []) (y ∷ p)) (none_fewer (length p))
below_child (x ∷ d) [] n = ap (λ b. b && true) (lt-ltb 0 (length ((x ∷ d) ++ n ∷ [])) (omega arith))
below_child (x ∷ d) (y ∷ p) n =
    ap (λ b. b && (is_name y x && is_from (d ++ n ∷ []) p)) (fewer_suc (length p) (length (d ++ n ∷ [])))
    ∙ swapped (nat_lt (length p) (length (d ++ n ∷ []))) (is_name y x) (is_from (d ++ n ∷ []) p) ∙ ap (λ b. is_name y x && b) (below_child d p n)

false_both : (a : Bool) → (a && false) ≡ false
false_both true = refl
false_both false = refl

within : (a b c f : Bool) → (a && f) ≡ false → (f ≡ false → b ≡ c) → (a && b) ≡ (a && c)
within true b c f other same = same other
within false b c f other same = refl

-- it comes from there too, unless it is the one that is asked for
pub from_child : (d p : Names) (n : List ℕ) → same_path p (d ++ n ∷ []) ≡ false → is_from (d ++ n ∷ []) p ≡ is_from d p
from_child [] [] n other = refl
from_child [] (y ∷ []) n other = other
from_child [] (y ∷ z ∷ p) n other = false_both (is_name y n)
from_child (x ∷ d) [] n other = refl
from_child (x ∷ d) (y ∷ p) n other = within (is_name y x) (is_from (d ++ n ∷ []) p) (is_from d p) (same_path p (d ++ n ∷ [])) other (from_child d p n)

-- one path is one object
pub same_object : (tree : Tree) (a b : ℕ) (e f : Names × Node) → entry_of tree a ≡ Some e → entry_of tree b ≡ Some f → same_path e.0 f.0 ≡ (a == b)
same_object tree a b e f at_a at_b = go (decide (a == b)) where
  stands_a : map.get tree e.0 ≡ Some e.1
  stands_a = found_stands tree (λ x. x.1.object == a) e at_a

  stands_b : map.get tree f.0 ≡ Some f.1
  stands_b = found_stands tree (λ x. x.1.object == b) f at_b

  go : ((a == b) ≡ true) ⊎ ((a == b) ≡ false) → same_path e.0 f.0 ≡ (a == b)
  go (inl same) =
      let one : e ≡ f = same_some e f (sym at_a ∙ ap (entry_of tree) (eqb-true a b same) ∙ at_b) in
      ap (same_path e.0) (ap (λ x. x.0) (sym one)) ∙ itself e.0 ∙ sym same where
        itself : (p : Names) → same_path p p ≡ true
        itself [] = refl
        itself (x ∷ p) = ap (λ b. b && same_path p p) (nat_list_eq_equiv.refl x) ∙ itself p
  go (inr apart) = isnt (same_path e.0 f.0) (λ same. differ (a == b) (eq-eqb a b (number same)) apart) ∙ sym apart where
    number : same_path e.0 f.0 ≡ true → a ≡ b
    number same =
        let one : e.1 ≡ f.1 = same_some e.1 f.1 (sym stands_a ∙ ap (map.get tree) (same_lists e.0 f.0 same) ∙ stands_b) in
        sym (own_number tree a e at_a) ∙ ap (λ n. n.object) one ∙ own_number tree b f at_b

-- a node with its entry
pub placed : (tree : Tree) (n : Node) (o : Option (Names × Node)) → Some n ≡ option_map (λ e. e.1) o → entry_of tree n.object ≡ o
    → (p : Names) × (o ≡ Some (p, n)) × (entry_of tree n.object ≡ Some (p, n))
placed tree n None is at = absurd (cc)
placed tree n (Some e) is at =
    let same : Some e ≡ Some (e.0, n) = ap (λ x. Some (e.0, x)) (sym (same_some n e.1 is)) in
    (e.0, same, at ∙ same)

-- a file with its entry
abbrev pub file_of_entry : FileEntry → Names × Node
file_of_entry f = (f.path, record { object = f.object; content = contents.File f.file })

same_entry : (f g : FileEntry) → f.path ≡ g.path → f.object ≡ g.object → f.file ≡ g.file → f ≡ g
same_entry f g p o b = λ i. record { path = p i; object = o i; file = b i }

pub placed_file : (tree : Tree) (object : ℕ) (file : File) (o : Option FileEntry) → ◌≡◌ {A = Option (ℕ × File)} (Some (object, file)) (option_map (λ e. (e.object, e.file)) o)
    → entry_of tree object ≡ option_map file_of_entry o
    → (path : Names) × (o ≡ Some (record { path = path; object = object; file = file })) × (entry_of tree object ≡ Some (path, record { object = object; content = contents.File file }))
placed_file tree object file None is at = absurd (cc)
placed_file tree object file (Some f) is at =
    let both : ◌≡◌ {A = ℕ × File} (object, file) (f.object, f.file) = same_some (object, file) (f.object, f.file) is in
    let one : f ≡ record { path = f.path; object = object; file = file } = same_entry f (record { path = f.path; object = object; file = file }) refl (ap (λ x. x.0) (sym both)) (ap (λ x. x.1) (sym both)) in
    (f.path, ap Some one, at ∙ ap (λ x. Some (file_of_entry x)) one)
