-- the paths that a call leaves as they were
use Rattle.std.proofs.Common.{◌≡◌, ◌≢◌, ℕ, Bool, true, false, cond, Option, Some, None, refl, sym, ap, ◌∙◌}
use Rattle.std.specs.FinMap as map
use Rattle.file_tree.specs.Change.{Change}
use Rattle.file_tree.specs.Change.Change.{Keep, Put, Remove, Move}
use Rattle.tree_nodes.specs.Tree.{Names, Tree}
use Rattle.tree_nodes.proofs.Entries.{path_total}
use Rattle.file_tree.specs.Success.{changed, change_of}
use Rattle.tree_laws.specs.LiveHandles.{path_taken}
use Rattle.tree_laws.specs.OnePath.{OthersStay, path_asked, is_rename}
use Rattle.tree_nodes.proofs.Chains.{mapped}
use Rattle.tree_nodes.proofs.Found.{untied}
use Rattle.tree_laws.proofs.Changing.{Fits, Over, change_fits}
use Rattle.file_tree.proofs.StartStep.{get_put}

pub get_left : (tree : Tree) (path other : Names) → (other ≡ path → ⊥) → map.get (map.remove tree path) other ≡ map.get tree other
get_left tree path other apart = map.get-remove path_total tree path other ∙ ap (λ b. cond b None (map.get tree other)) (untied other path apart)

elsewhere : (number : ℕ) (over : ℕ → ℕ → Type 0) (tree : Tree) (renames : Bool) (taken asked : Option Names) (c : Change) (other : Names) → renames ≡ false
    → Fits number over tree renames taken asked c → asked ≢ Some other
    → map.get (changed tree c) other ≡ map.get tree other
elsewhere number over tree renames taken asked Keep other stays fits apart = refl
elsewhere number over tree renames taken asked (Put path node) other stays fits apart = get_put tree path other node (λ same. apart (fits.0 ∙ ap Some (sym same)))
elsewhere number over tree renames taken asked (Remove path) other stays fits apart = get_left tree path other (λ same. apart (fits.0 ∙ ap Some (sym same)))
elsewhere number over tree renames taken asked (Move p q) other stays fits apart = absurd (clash renames fits.0 stays) where
  clash : (b : Bool) → b ≡ true → b ≡ false → ⊥
  clash true e f = absurd (cc)
  clash false e f = absurd (cc)

pub others_stay : OthersStay
others_stay binds before after number call outcome other stays e apart =
    let change = mapped (changed before) (change_of binds before number call outcome) after e in
    ap (λ (t : Tree). map.get t other) (sym change.2)
    ∙ elsewhere number (Over binds before call outcome) before (is_rename call) (path_taken binds before call) (path_asked binds before call) change.0 other stays (change_fits binds before number call outcome change.0 change.1) apart
