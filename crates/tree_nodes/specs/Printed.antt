-- For the prover, and for callers.
-- a tree as bytes: the number of nodes, then the nodes by path, in the items of RFC 4506
use Rattle.std.specs.Prelude.{ℕ, ◌-◌, ◌%◌, ◌^◌, ◌<◌, List, ◌++◌, length, replicate, Option, Some, None, ⊤, All}
use Rattle.std.specs.List.{flat_map}
use Rattle.std.specs.Int.{w32, w64, to_be_bytes}
use Rattle.std.specs.FinMap as map
use Rattle.tree_stores.specs.nfs3_types_specs.declared.attributes.FileType.TheVariants as types
use Rattle.tree_stores.specs.nfs3_types_specs.declared.attributes.Verifier.{Verifier}
use Rattle.tree_stores.specs.nfs3_types_specs.Numbers.{type_number}
use Rattle.tree_nodes.specs.declared.node.Node.{Node}
use Rattle.tree_nodes.specs.declared.node.Content.{Content}
use Rattle.tree_nodes.specs.declared.node.Content.TheVariants as contents
use Rattle.tree_nodes.specs.Tree.{Names, Tree}

-- four bytes, and eight, the highest first: RFC 4506, sections 4.2 and 4.5
unfoldable pub word_text : ℕ → List ℕ
word_text n = to_be_bytes w32 n

unfoldable pub long_text : ℕ → List ℕ
long_text n = to_be_bytes w64 n

-- a length, the bytes and zeros up to a multiple of four: RFC 4506, section 4.10
unfoldable pub opaque_text : List ℕ → List ℕ
opaque_text bytes = word_text (length bytes) ++ (bytes ++ replicate ((4 - length bytes % 4) % 4) 0)

-- a flag, and what is there: RFC 4506, section 4.19
unfoldable pub verifier_text : Option Verifier → List ℕ
verifier_text None = word_text 0
verifier_text (Some verifier) = word_text 1 ++ long_text verifier.value

-- the type by its number in `ftype3`, with what a file or a link holds
unfoldable pub content_text : Content → List ℕ
content_text contents.Directory = word_text (type_number types.Directory)
content_text (contents.File file) = word_text (type_number types.Regular) ++ (opaque_text file.bytes ++ verifier_text file.verifier)
content_text (contents.Link text) = word_text (type_number types.SymbolicLink) ++ opaque_text text

-- the names, each with its length, behind their number
unfoldable pub path_text : Names → List ℕ
path_text path = word_text (length path) ++ flat_map opaque_text path

unfoldable pub entry_text : Names × Node → List ℕ
entry_text e = path_text e.0 ++ (long_text e.1.object ++ content_text e.1.content)

unfoldable pub tree_text : Tree → List ℕ
tree_text tree = word_text (map.len tree) ++ flat_map entry_text (map.entries tree)

-- ---- for the prover, and for callers

-- the numbers fit their words
abbrev pub IsShort : List ℕ → Type 0
IsShort bytes = length bytes < 2 ^ 32

abbrev pub IsShallow : Names × Node → Type 0
IsShallow e = length e.0 < 2 ^ 32

abbrev pub VerifierFits : Option Verifier → Type 0
VerifierFits None = ⊤
VerifierFits (Some verifier) = verifier.value < 2 ^ 64

abbrev pub ContentFits : Content → Type 0
ContentFits contents.Directory = ⊤
ContentFits (contents.File file) = IsShort file.bytes × VerifierFits file.verifier
ContentFits (contents.Link text) = IsShort text

pub record EntryFits (e : Names × Node) : Type 0 where
  pub depth : length e.0 < 2 ^ 32
  pub names : All IsShort e.0
  pub object : e.1.object < 2 ^ 64
  pub content : ContentFits e.1.content

pub record IsPrintable (tree : Tree) : Type 0 where
  pub count : map.len tree < 2 ^ 32
  pub entries : All EntryFits (map.entries tree)
