-- nothing stands below what is no directory
use Rattle.std.proofs.Common.{◌≡◌, ℕ, Bool, true, false, cond, List, [], ◌∷◌, ◌++◌, Option, Some, None, refl, sym, ap, ◌∙◌, subst, append_assoc}
use Rattle.std.specs.Prelude.{IsSome, not, ◌&&◌, option_and_then}
use Rattle.std.specs.FinMap as map
use Rattle.file_tree.specs.Change.Change.{Keep, Remove, Move}
use Rattle.tree_nodes.specs.declared.node.Node.{Node}
use Rattle.tree_nodes.specs.Tree.{Names, Tree, same_path, is_bare}
use Rattle.tree_nodes.specs.Moved.{is_from}
use Rattle.tree_handles.specs.Entry.{named}
use Rattle.tree_handles.specs.Kind.{is_directory}
use Rattle.tree_answers.specs.Look.{same_flag}
use Rattle.file_tree.specs.Made.{only_if}
use Rattle.file_tree.specs.Removed.{may_replace}
use Rattle.tree_laws.specs.OneGone.{is_no_directory}
use Rattle.tree_laws.specs.WellFormed.{IsDirectoryAt, IsWellFormed, NothingBelow, NoDirectoryIsBare, RemoveAsksOnly, may_take_place, RenameAsksOnly}
use Rattle.tree_nodes.proofs.Chains.{empty_or, negated, absent}
use Rattle.tree_nodes.proofs.Found.{bare_of_nothing}
use Rattle.tree_laws.proofs.Keeping.{stands_there, no_directory_at}
use Rattle.tree_laws.proofs.Removing.{named_stands}

-- every front of a path that stands is a directory's
front_directory : (tree : Tree) → IsWellFormed tree → (path : Names) (name : List ℕ) (below : Names) → IsSome (map.get tree (path ++ name ∷ below)) → IsDirectoryAt tree path
front_directory tree formed path name [] there = formed.parents path name there
front_directory tree formed path name (next ∷ below) there =
    let deeper = subst (λ (z : Names). IsSome (map.get tree z)) (sym (append_assoc path (name ∷ []) (next ∷ below))) there in
    formed.parents path name (stands_there tree (path ++ name ∷ []) (front_directory tree formed (path ++ name ∷ []) next below deeper))

pub nothing_below : NothingBelow
nothing_below tree path formed isnt name below = empty_or _ (λ there. isnt (front_directory tree formed path name below there))

pub no_directory_is_bare : NoDirectoryIsBare
no_directory_is_bare tree path formed isnt = bare_of_nothing tree path (nothing_below tree path formed isnt)

-- an entry that is no directory is bare, and so is a path with no entry
entry_is_bare : (tree : Tree) (path : Names) (node : Node) → IsWellFormed tree → map.get tree path ≡ Some node → is_directory node.content ≡ false → is_bare tree path ≡ true
entry_is_bare tree path node formed stood other = no_directory_is_bare tree path formed (λ d. no_directory_at tree path node d stood other)

absence_is_bare : (tree : Tree) (path : Names) → IsWellFormed tree → map.get tree path ≡ None → is_bare tree path ≡ true
absence_is_bare tree path formed none = no_directory_is_bare tree path formed (λ d. absent _ none (stands_there tree path d))

pub remove_asks_only : RemoveAsksOnly
remove_asks_only binds tree place formed = go (named binds tree place) refl where
  test : (e : Names × Node) → map.get tree e.0 ≡ Some e.1 → (b : Bool) → is_no_directory e.1.content ≡ b → (b && is_bare tree e.0) ≡ b
  test e stood true is = entry_is_bare tree e.0 e.1 formed stood (negated (is_directory e.1.content) is)
  test e stood false is = refl

  go : (o : Option (Names × Node)) → named binds tree place ≡ o
      → option_and_then (λ e. only_if (not (is_directory e.1.content) && is_bare tree e.0) (Remove e.0)) o ≡ option_and_then (λ e. only_if (is_no_directory e.1.content) (Remove e.0)) o
  go None is = refl
  go (Some e) is = ap (λ b. only_if b (Remove e.0)) (test e (named_stands binds tree place e is).3 (is_no_directory e.1.content) refl)

flag_true : (b : Bool) → same_flag b true ≡ b
flag_true true = refl
flag_true false = refl

flag_false : (b : Bool) → same_flag b false ≡ not b
flag_false true = refl
flag_false false = refl

and_true : (b c : Bool) → c ≡ true → (b && c) ≡ b
and_true true c e = e
and_true false c e = refl

and_assoc : (a b c : Bool) → (a && b && c) ≡ (a && (b && c))
and_assoc true b c = refl
and_assoc false b c = refl

pub rename_asks_only : RenameAsksOnly
rename_asks_only tree source target content formed =
    ap (λ b. cond (same_path source target) (Some Keep) (only_if b (Move source target)))
    (and_assoc (not (is_from target source)) (may_replace content (map.get tree target)) (is_bare tree target) ∙ ap (λ b. not (is_from target source) && b) (rule (map.get tree target) refl)) where
      taken : (node : Node) → map.get tree target ≡ Some node → (b : Bool) → is_directory node.content ≡ b
          → (same_flag (is_directory content) b && is_bare tree target) ≡ cond b (is_directory content && is_bare tree target) (is_no_directory content)
      taken node stood true is = ap (λ b. b && is_bare tree target) (flag_true (is_directory content))
      taken node stood false is = and_true _ (is_bare tree target) (entry_is_bare tree target node formed stood is) ∙ flag_false (is_directory content)

      rule : (o : Option Node) → map.get tree target ≡ o → (may_replace content o && is_bare tree target) ≡ may_take_place tree target content o
      rule None is = absence_is_bare tree target formed is
      rule (Some node) is = taken node is (is_directory node.content) refl
