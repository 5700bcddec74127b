-- For the prover, and for callers.
-- what of an object lasts: RFC 1813, section 2.6 (`ftype3`, `fileid`)
use Rattle.std.specs.Prelude.{◌≡◌, ℕ, Some, ⊤}
use Rattle.std.specs.FinMap as map
use Rattle.nfs3_types.specs.declared.calls.NfsCall.{NfsCall}
use Rattle.nfs3_types.specs.declared.replies.Outcome.{Outcome}
use Rattle.tree_nodes.specs.declared.node.Node.{Node}
use Rattle.tree_nodes.specs.declared.node.Content.{Content}
use Rattle.tree_nodes.specs.declared.node.Content.TheVariants as contents
use Rattle.tree_nodes.specs.Tree.{Names, Tree}
use Rattle.tree_handles.specs.Binding.{Bindings}
use Rattle.file_tree.specs.Success.{next_tree}
use Rattle.tree_laws.specs.WellFormed.{IsWellFormed}

-- the type stays, and so does the text of a link, and the verifier with which a file was made; its bytes may change
abbrev pub MayBecome : Content → Content → Type 0
MayBecome contents.Directory contents.Directory = ⊤
MayBecome (contents.File old) (contents.File new) = new.verifier ≡ old.verifier
MayBecome (contents.Link old) (contents.Link new) = new ≡ old
MayBecome _ _ = ⊥

-- an object that stands in the tree before a call and in the one after it is what it was, wherever it stands
abbrev pub ObjectsLast : Type 0
ObjectsLast =
    (binds : Bindings) (before after : Tree) (number : ℕ) (call : NfsCall) (outcome : Outcome) (p q : Names) (x y : Node) → IsWellFormed before
    → next_tree binds before number call outcome ≡ Some after → map.get before p ≡ Some x → map.get after q ≡ Some y → x.object ≡ y.object → MayBecome x.content y.content
