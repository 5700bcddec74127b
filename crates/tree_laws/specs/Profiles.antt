-- For the prover, and for callers.
-- what the strict profile asks beyond the plain one: RFC 1813, section 2.6 (`fattr3`, `wcc_attr`)
use Rattle.std.specs.Prelude.{◌≡◌, ◌↔◌, ℕ, List, length, Option, Some}
use Rattle.nfs3_types.specs.declared.attributes.FileAttributes.{FileAttributes}
use Rattle.nfs3_types.specs.declared.attributes.FileType.{FileType}
use Rattle.nfs3_types.specs.declared.attributes.FileType.TheVariants as types
use Rattle.nfs3_types.specs.declared.attributes.WccAttributes.{WccAttributes}
use Rattle.nfs3_types.specs.declared.calls.ReadArguments.{ReadArguments}
use Rattle.nfs3_types.specs.declared.calls.NfsCall.{NfsCall}
use Rattle.nfs3_types.specs.declared.calls.NfsCall.TheVariants as calls
use Rattle.nfs3_types.specs.declared.replies.Answer.TheVariants.{Done}
use Rattle.nfs3_types.specs.declared.replies.ReadSuccess.{ReadSuccess}
use Rattle.nfs3_types.specs.declared.replies.NfsReply.{NfsReply}
use Rattle.nfs3_types.specs.declared.replies.NfsReply.TheVariants as replies
use Rattle.nfs3_types.specs.declared.replies.Outcome.{Outcome}
use Rattle.nfs3_types.specs.declared.replies.Outcome.TheVariants.{Received, Taken}
use Rattle.reply_attributes.specs.Attributes.{of_first}
use Rattle.tree_starts.specs.declared.profile.Profile.{Profile}
use Rattle.tree_starts.specs.declared.profile.Profile.TheVariants.{Strict}
use Rattle.tree_nodes.specs.declared.node.Node.{Node}
use Rattle.tree_nodes.specs.declared.node.File.{File}
use Rattle.tree_nodes.specs.declared.node.Content.{Content}
use Rattle.tree_nodes.specs.declared.node.Content.TheVariants as contents
use Rattle.tree_nodes.specs.Tree.{Names, Tree}
use Rattle.tree_handles.specs.Binding.{Bindings}
use Rattle.tree_handles.specs.Live.{live_entry}
use Rattle.tree_answers.specs.Asked.{first_handle}
use Rattle.file_tree.specs.Allows.{AllowsSuccess}
use Rattle.file_tree.specs.Setting.{under, AllowsUnder}
use Rattle.file_tree.specs.Success.{next_tree}
use Rattle.tree_laws.specs.Agreeing.{AgreeOn}

-- what a profile allows the plain rules allow, with the same tree
abbrev pub ComesOutPlain : Type 0
ComesOutPlain =
    (profile : Profile) (binds : Bindings) (before after : Tree) (number : ℕ) (call : NfsCall) (outcome : Outcome) → under profile binds before number call outcome ≡ Some after
    → next_tree binds before number call outcome ≡ Some after

-- what other objects handles name makes no difference under any profile either
abbrev pub OthersDontMatterUnder : Type 0
OthersDontMatterUnder =
    (profile : Profile) (binds other : Bindings) (tree : Tree) (number : ℕ) (call : NfsCall) (outcome : Outcome) → AgreeOn binds other tree number
    → under profile binds tree number call outcome ≡ under profile other tree number call outcome

-- a call that was taken comes out alike
abbrev pub TakenAlike : Type 0
TakenAlike =
    (profile : Profile) (binds : Bindings) (before : Tree) (number : ℕ) (call : NfsCall) (count : Option ℕ)
    → under profile binds before number call (Taken count) ≡ next_tree binds before number call (Taken count)

-- and a call that can succeed under the plain profile can under each, if only without attributes
abbrev pub SucceedsUnderEach : Type 0
SucceedsUnderEach =
    (profile : Profile) (binds : Bindings) (tree : Tree) (number : ℕ) (call : NfsCall) → AllowsSuccess binds tree number call ↔ AllowsUnder profile binds tree number call

-- the type of what stands
abbrev pub type_of : Content → FileType
type_of contents.Directory = types.Directory
type_of (contents.File _) = types.Regular
type_of (contents.Link _) = types.SymbolicLink

-- attributes tell its type, and of a file its length
pub record AreTrue (content : Content) (attributes : FileAttributes) : Type 0 where
  pub type : attributes.file_type ≡ type_of content
  pub size : (file : File) → content ≡ contents.File file → attributes.size ≡ length file.bytes

-- under the strict profile the attributes that a GETATTR or a READ gives are those of the object in the tree after it
abbrev pub GetAttrIsTrue : Type 0
GetAttrIsTrue =
    (binds : Bindings) (before after : Tree) (number : ℕ) (object : List ℕ) (attributes : FileAttributes) (e : Names × Node)
    → under Strict binds before number (calls.GetAttr object) (Received (replies.GetAttr (Done attributes))) ≡ Some after → live_entry binds after object ≡ Some e
    → AreTrue e.1.content attributes

abbrev pub ReadIsTrue : Type 0
ReadIsTrue =
    (binds : Bindings) (before after : Tree) (number : ℕ) (read : ReadArguments) (answer : ReadSuccess) (attributes : FileAttributes) (e : Names × Node)
    → under Strict binds before number (calls.Read read) (Received (replies.Read (Done answer))) ≡ Some after → answer.attributes ≡ Some attributes
    → live_entry binds after read.file ≡ Some e → AreTrue e.1.content attributes

-- and whatever the call is, and whether it succeeded or failed, so are those after it of the object that its first handle names, and its
-- size before it was that in the tree before
abbrev pub AttributesAreTrue : Type 0
AttributesAreTrue =
    (binds : Bindings) (before after : Tree) (number : ℕ) (call : NfsCall) (reply : NfsReply) (attributes : FileAttributes) (e : Names × Node)
    → under Strict binds before number call (Received reply) ≡ Some after → (of_first reply).after ≡ Some attributes → live_entry binds after (first_handle call) ≡ Some e
    → AreTrue e.1.content attributes

abbrev pub SizeBeforeIsTrue : Type 0
SizeBeforeIsTrue =
    (binds : Bindings) (before after : Tree) (number : ℕ) (call : NfsCall) (reply : NfsReply) (was : WccAttributes) (e : Names × Node) (file : File)
    → under Strict binds before number call (Received reply) ≡ Some after → (of_first reply).before ≡ Some was → live_entry binds before (first_handle call) ≡ Some e
    → e.1.content ≡ contents.File file → was.size ≡ length file.bytes
