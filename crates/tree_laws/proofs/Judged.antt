-- what the strict profile asks beyond the plain one
use Rattle.std.proofs.Common.{◌≡◌, inl, inr, ℕ, true, length, Some, refl, sym, ap, ◌∙◌, arith}
use Rattle.std.specs.Prelude.{◌==◌, option_map, option_and_then}
use Rattle.std.proofs.lemmas.Bool.{eqb-true}
use Rattle.nfs3_types.specs.Numbers.{type_number}
use Rattle.nfs3_types.specs.declared.attributes.FileAttributes.{FileAttributes}
use Rattle.nfs3_types.specs.declared.attributes.FileType.{FileType}
use Rattle.nfs3_types.specs.declared.attributes.FileType.TheVariants as types
use Rattle.nfs3_types.specs.declared.attributes.WccAttributes.{WccAttributes}
use Rattle.nfs3_types.specs.declared.calls.NfsCall.{NfsCall}
use Rattle.nfs3_types.specs.declared.calls.NfsCall.TheVariants as calls
use Rattle.nfs3_types.specs.declared.replies.Answer.TheVariants.{Done}
use Rattle.nfs3_types.specs.declared.replies.NfsReply.{NfsReply}
use Rattle.nfs3_types.specs.declared.replies.NfsReply.TheVariants as replies
use Rattle.nfs3_types.specs.declared.replies.Outcome.{Outcome}
use Rattle.nfs3_types.specs.declared.replies.Outcome.TheVariants.{Received}
use Rattle.reply_attributes.specs.Attributes.{post_attr, pre_size, type_and_size}
use Rattle.reply_attributes.specs.declared.role.Role.TheVariants.{First}
use Rattle.tree_starts.specs.declared.profile.Profile.TheVariants.{Plain, Strict}
use Rattle.tree_nodes.specs.declared.node.Node.{Node}
use Rattle.tree_nodes.specs.declared.node.File.{File}
use Rattle.tree_nodes.specs.declared.node.Content.{Content}
use Rattle.tree_nodes.specs.declared.node.Content.TheVariants as contents
use Rattle.tree_nodes.specs.Tree.{Names, Tree}
use Rattle.tree_nodes.proofs.Chains.{both_pass}
use Rattle.tree_handles.specs.Binding.{Bindings}
use Rattle.tree_answers.specs.Asked.{first_handle}
use Rattle.file_tree.specs.Setting.{under}
use Rattle.file_tree.specs.Strict as strict
use Rattle.file_tree.specs.Success.{next_tree}
use Rattle.file_tree.proofs.Profiles.{comes_out_plain, agrees_strictly, taken_alike, same_judgement}
use Rattle.file_tree.proofs.SomeSuccess.{allowed_under, allowed_plain}
use Rattle.tree_laws.specs.Agreeing.{AgreeOn}
use Rattle.tree_laws.specs.Profiles.{ComesOutPlain, OthersDontMatterUnder, TakenAlike, SucceedsUnderEach, AreTrue, GetAttrIsTrue, ReadIsTrue, AttributesAreTrue, SizeBeforeIsTrue}
use Rattle.tree_laws.proofs.Agreeing.{then_on, live, others_dont_matter}
use Rattle.tree_laws.proofs.Newcomers.{only_its_own_is_new}

pub out_plain : ComesOutPlain
out_plain profile binds before after number call outcome e = comes_out_plain profile binds before after number call outcome e

pub comes_out_alike : TakenAlike
comes_out_alike profile binds before number call count = taken_alike profile binds before number call count

pub succeeds_under_each : SucceedsUnderEach
succeeds_under_each profile binds tree number call = (allowed_under profile binds tree number call, allowed_plain profile binds tree number call)

-- ---- other handles

-- the same handles name what stands in the tree after the call
pub agree_after : (binds other : Bindings) (tree after : Tree) (number : ℕ) (call : NfsCall) (outcome : Outcome) → AgreeOn binds other tree number
    → next_tree other tree number call outcome ≡ Some after → AgreeOn binds other after number
agree_after binds other tree after number call outcome agree next handle object (inl stands) =
    agree handle object (only_its_own_is_new other tree after number call outcome object next stands)
agree_after binds other tree after number call outcome agree next handle object (inr own) = agree handle object (inr own)

pub others_dont_matter_under : OthersDontMatterUnder
others_dont_matter_under Plain binds other tree number call outcome agree = others_dont_matter binds other tree number call outcome agree
others_dont_matter_under Strict binds other tree number call outcome agree =
    ap (option_and_then (strict.judged binds tree call outcome)) (others_dont_matter binds other tree number call outcome agree)
    ∙ then_on (strict.judged binds tree call outcome) (strict.judged other tree call outcome) (next_tree other tree number call outcome)
    (λ after next. same_judgement binds other tree after (live binds other tree number agree) (live binds other after number (agree_after binds other tree after number call outcome agree next)) call outcome)

-- ---- attributes

regular : (t : FileType) → type_number t ≡ 1 → t ≡ types.Regular
regular types.Regular e = refl
regular types.Directory e = absurd (omega (arith, e))
regular types.BlockDevice e = absurd (omega (arith, e))
regular types.CharacterDevice e = absurd (omega (arith, e))
regular types.SymbolicLink e = absurd (omega (arith, e))
regular types.Socket e = absurd (omega (arith, e))
regular types.Fifo e = absurd (omega (arith, e))

directory : (t : FileType) → type_number t ≡ 2 → t ≡ types.Directory
directory types.Regular e = absurd (omega (arith, e))
directory types.Directory e = refl
directory types.BlockDevice e = absurd (omega (arith, e))
directory types.CharacterDevice e = absurd (omega (arith, e))
directory types.SymbolicLink e = absurd (omega (arith, e))
directory types.Socket e = absurd (omega (arith, e))
directory types.Fifo e = absurd (omega (arith, e))

link : (t : FileType) → type_number t ≡ 5 → t ≡ types.SymbolicLink
link types.Regular e = absurd (omega (arith, e))
link types.Directory e = absurd (omega (arith, e))
link types.BlockDevice e = absurd (omega (arith, e))
link types.CharacterDevice e = absurd (omega (arith, e))
link types.SymbolicLink e = refl
link types.Socket e = absurd (omega (arith, e))
link types.Fifo e = absurd (omega (arith, e))

abbrev Tells : Content → FileAttributes → Type 0
Tells content attributes = strict.fits (Some (strict.told content)) (Some (type_and_size attributes)) ≡ true

-- what fits tells the truth
true_of : (content : Content) (attributes : FileAttributes) → Tells content attributes → AreTrue content attributes
true_of contents.Directory attributes e =
    let both = both_pass (type_number attributes.file_type == 2) true e in
    record { type = directory attributes.file_type (eqb-true (type_number attributes.file_type) 2 both.0); size = λ file is. absurd (cc) }
true_of (contents.File old) attributes e =
    let both = both_pass (type_number attributes.file_type == 1) (attributes.size == length old.bytes) e in
    record { type = regular attributes.file_type (eqb-true (type_number attributes.file_type) 1 both.0); size = λ file is. eqb-true attributes.size (length old.bytes) both.1 ∙ same file is }
  where
    same : (file : File) → contents.File old ≡ contents.File file → length old.bytes ≡ length file.bytes
    same file is = cc
true_of (contents.Link text) attributes e =
    let both = both_pass (type_number attributes.file_type == 5) true e in
    record { type = link attributes.file_type (eqb-true (type_number attributes.file_type) 5 both.0); size = λ file is. absurd (cc) }

-- the part of the first handle
first_agrees : (binds : Bindings) (before after : Tree) (number : ℕ) (call : NfsCall) (reply : NfsReply) → under Strict binds before number call (Received reply) ≡ Some after
    → (strict.had_size (strict.told_by binds before (first_handle call)) (pre_size reply First) ≡ true) × (strict.fits (strict.told_by binds after (first_handle call)) (post_attr reply First) ≡ true)
first_agrees binds before after number call reply e =
    let all = agrees_strictly binds before after number call reply e in
    both_pass _ _ (both_pass _ _ (both_pass _ _ (both_pass _ _ all).0).0).0

pub attributes_are_true : AttributesAreTrue
attributes_are_true binds before after number call reply attributes e next given there =
    let fit = (first_agrees binds before after number call reply next).1 in
    true_of e.1.content attributes
    (sym (λ i. strict.fits (option_map (λ (x : Names × Node). strict.told x.1.content) (there i)) (option_map type_and_size (given i))) ∙ fit)

pub getattr_is_true : GetAttrIsTrue
getattr_is_true binds before after number object attributes e next there =
    attributes_are_true binds before after number (calls.GetAttr object) (replies.GetAttr (Done attributes)) attributes e next refl there

pub read_is_true : ReadIsTrue
read_is_true binds before after number read answer attributes e next given there =
    attributes_are_true binds before after number (calls.Read read) (replies.Read (Done answer)) attributes e next given there

pub size_before_is_true : SizeBeforeIsTrue
size_before_is_true binds before after number call reply was e file next given there as_file =
    let fit = (first_agrees binds before after number call reply next).0 in
    let told : strict.had_size (Some (strict.told e.1.content)) (Some was.size) ≡ true =
    sym (λ i. strict.had_size (option_map (λ (x : Names × Node). strict.told x.1.content) (there i)) (option_map (λ (w : WccAttributes). w.size) (given i))) ∙ fit in
    eqb-true was.size (length file.bytes) (sym (ap (λ (c : Content). strict.had_size (Some (strict.told c)) (Some was.size)) as_file) ∙ told)
