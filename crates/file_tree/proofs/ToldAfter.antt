-- what is told of an object after what is done with objects
use Rattle.std.proofs.Common.{◌≡◌, ◌≤◌, ℕ, ◌+◌, Bool, true, false, List, [], ◌∷◌, ◌++◌, length, Option, Some, None, refl, sym, ap, ◌∙◌, subst, eq-eqb, eqb-true, arith}
use Rattle.std.specs.Prelude.{IsSome, ◌==◌, option_map, option_and_then}
use Rattle.std.specs.Option.{option_map_or}
use Rattle.std.specs.FinMap as map
use Rattle.tree_nodes.specs.declared.node.Node.{Node}
use Rattle.tree_nodes.specs.declared.node.Content.TheVariants as contents
use Rattle.nfs3_types.specs.Limits.{file_limit}
use Rattle.tree_stores.specs.Files.{written}
use Rattle.tree_nodes.specs.Files.{file_node}
use Rattle.tree_nodes.specs.Moved.{is_from, moved}
use Rattle.tree_nodes.specs.Moves.{IsOutside}
use Rattle.tree_nodes.specs.Numbered.{IsNumbered}
use Rattle.tree_nodes.specs.Tree.{Names, Tree}
use Rattle.tree_nodes.proofs.Chains.{same_some, differ}
use Rattle.tree_nodes.proofs.Found.{from_front, bare_below}
use Rattle.tree_nodes.proofs.MovedLaw.{has_moved}
use Rattle.file_tree.specs.Change.{Change}
use Rattle.file_tree.specs.Planning.{Makes, Fills, Takes, Moves}
use Rattle.file_tree.specs.Strict.{told, told_of}
use Rattle.file_tree.specs.Success.{changed}
use Rattle.file_tree.proofs.Planned.{written_long}
use Rattle.file_tree.proofs.AfterPut.{clash, stands, isnt_found, put_own, put_others, gone_own, gone_others}
use Rattle.file_tree.proofs.AfterMove.{told_displaced, told_still}

abbrev of_entry : Option (Names × Node) → Option (ℕ × Option ℕ)
of_entry o = option_map (λ (e : Names × Node). told e.1.content) o

module _ (tree : Tree) (numbers : IsNumbered tree) (k : ℕ) (change : Change) where
  -- ---- an entry more

  module _ (directory : ℕ) (name : List ℕ) (node : Node) (makes : Makes tree directory name node change) where
    abbrev made_path : Names
    made_path = makes.entry.0 ++ name ∷ []

    pub made_unused : (p : Names) (x : Node) → map.get tree p ≡ Some x → x.object ≡ node.object → p ≡ made_path
    made_unused p x there is = absurd (isnt_found tree node.object makes.unused p x there is)

    pub made_free : (x : Node) → map.get tree made_path ≡ Some x → x.object ≡ node.object
    made_free x there = absurd (clash (sym (ap (option_and_then (λ (e : Names × Node). map.get tree (e.0 ++ name ∷ []))) makes.stands) ∙ makes.free) there)

    pub made_own : node.object ≡ k → told_of (changed tree change) k ≡ Some (told node.content)
    made_own is = ap (λ (c : Change). told_of (changed tree c) k) makes.is ∙ ap of_entry (put_own tree numbers.once made_path node made_unused made_free k is)

    pub made_others : (node.object ≡ k → ⊥) → told_of (changed tree change) k ≡ told_of tree k
    made_others other = ap (λ (c : Change). told_of (changed tree c) k) makes.is ∙ ap of_entry (put_others tree numbers.once made_path node made_unused made_free k other)

  -- ---- a file's bytes are others

  module _ (object : ℕ) (bytes : List ℕ → List ℕ) (fills : Fills tree object bytes change) where
    abbrev old : Node
    old = record { object = object; content = contents.File fills.file }

    abbrev new : Node
    new = file_node object (bytes fills.file.bytes) fills.file.verifier

    pub file_only : (p : Names) (x : Node) → map.get tree p ≡ Some x → x.object ≡ new.object → p ≡ fills.path
    file_only p x there is = numbers.once p fills.path x old there (stands tree object (fills.path, old) fills.stands) is

    pub file_over : (x : Node) → map.get tree fills.path ≡ Some x → x.object ≡ new.object
    file_over x there = ap (λ (m : Node). m.object) (same_some x old (sym there ∙ stands tree object (fills.path, old) fills.stands))

    pub file_stood : object ≡ k → told_of tree k ≡ Some (told (contents.File fills.file))
    file_stood is = ap (told_of tree) (sym is) ∙ ap of_entry fills.stands

    pub filled_own : object ≡ k → told_of (changed tree change) k ≡ Some (told new.content)
    filled_own is = ap (λ (c : Change). told_of (changed tree c) k) fills.is ∙ ap of_entry (put_own tree numbers.once fills.path new file_only file_over k is)

    pub filled_others : (object ≡ k → ⊥) → told_of (changed tree change) k ≡ told_of tree k
    filled_others other = ap (λ (c : Change). told_of (changed tree c) k) fills.is ∙ ap of_entry (put_others tree numbers.once fills.path new file_only file_over k other)

  -- ---- an entry less

  module _ (object : ℕ) (takes : Takes tree object change) where
    pub taken_own : object ≡ k → told_of (changed tree change) k ≡ None
    taken_own is = ap (λ (c : Change). told_of (changed tree c) k) takes.is ∙ ap of_entry (gone_own tree numbers.once object takes.entry takes.stands k is)

    pub taken_others : (object ≡ k → ⊥) → told_of (changed tree change) k ≡ told_of tree k
    taken_others other = ap (λ (c : Change). told_of (changed tree c) k) takes.is ∙ ap of_entry (gone_others tree numbers.once object takes.entry takes.stands k other)

  -- ---- an entry at another name

  module _ (object directory : ℕ) (name : List ℕ) (moves : Moves tree object directory name change) where
    abbrev source : Names
    source = moves.entry.0

    abbrev target : Names
    target = moves.target.0 ++ name ∷ []

    apart : IsOutside source target
    apart below e = differ (is_from target source) (ap (λ (z : Names). is_from z source) e ∙ from_front source below) moves.outside

    stood : IsSome (map.get tree source)
    stood = subst IsSome (sym (stands tree object moves.entry moves.stands)) refl

    abbrev AtTarget : Bool
    AtTarget = option_map_or (λ (n : Node). n.object == k) (map.get tree target) false

    pub moved_over : AtTarget ≡ true → told_of (changed tree change) k ≡ None
    moved_over at = ap (λ (c : Change). told_of (changed tree c) k) moves.is ∙ go (map.get tree target) refl at where
      go : (o : Option Node) → map.get tree target ≡ o → option_map_or (λ (n : Node). n.object == k) o false ≡ true → told_of (moved tree source target) k ≡ None
      go None none e = absurd (cc)
      go (Some x) there e =
          told_displaced tree (moved tree source target) numbers.once source target apart (bare_below tree target moves.bare) (has_moved tree source target stood moves.outside moves.bare) k x there
          (eqb-true x.object k e)

    pub moved_others : AtTarget ≡ false → told_of (changed tree change) k ≡ told_of tree k
    moved_others isnt =
        ap (λ (c : Change). told_of (changed tree c) k) moves.is
        ∙ told_still tree (moved tree source target) numbers.once source target apart (bare_below tree target moves.bare) (has_moved tree source target stood moves.outside moves.bare) k
        (λ x there is. differ (x.object == k) (eq-eqb x.object k is) (sym (ap (λ (o : Option Node). option_map_or (λ (n : Node). n.object == k) o false) there) ∙ isnt))

-- a file that bytes are written to is within the limit to their end
pub written_fits : (old : List ℕ) (offset : ℕ) (bytes : List ℕ) → length (written old offset bytes) ≤ file_limit → offset + length bytes ≤ file_limit
written_fits old offset bytes fits = omega (arith, fits, written_long old offset bytes)
